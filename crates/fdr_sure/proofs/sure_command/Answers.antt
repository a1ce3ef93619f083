use Rattle.std.proofs.Common.{refl, arith}
use Rattle.fdr_words.specs.Forms.{check_table, decode_levels, drill_image, encode_bytes, exceed_image, format_image}
use Rattle.fdr_words.specs.Forms.{list_bits, list_image, record_line, recover_image, salvage_image, stream_line, upgrade_image}
use Rattle.fdr_sure.proofs.Makings.{faultless, making_sure}
use Rattle.fdr_sure.proofs.sure_command.Goals as goal

pub returns-clause-listing : goal.returns-clause-listing
returns-clause-listing c = λ path is accepted few.
    (rw is at c.run.ensures.runs).complete ((c.args.table.now, refl, accepted), (refl, few))
    (faultless (list_bits path) _ (λ rose. omega (arith, rose)) (λ rose. omega (arith, rose))
    (λ rose. omega (arith, rose)) (λ rose. omega (arith, rose)))

pub returns-clause-encoding : goal.returns-clause-encoding
returns-clause-encoding c = λ is few.
    (rw is at c.run.ensures.runs).complete (λ t. (refl, few))
    (faultless encode_bytes _ (λ rose. omega (arith, rose)) (λ rose. omega (arith, rose))
    (λ rose. omega (arith, rose)) (λ rose. omega (arith, rose)))

pub returns-clause-decoding : goal.returns-clause-decoding
returns-clause-decoding c = λ is few none.
    (rw is at c.run.ensures.runs).complete (λ t. (refl, few, none))
    (faultless decode_levels _ (λ rose. omega (arith, rose)) (λ rose. omega (arith, rose))
    (λ rose. omega (arith, rose)) (λ rose. omega (arith, rose)))

pub returns-clause-stream : goal.returns-clause-stream
returns-clause-stream c = λ path is accepted ended.
    (rw is at c.run.ensures.runs).complete ((c.args.table.now, refl, accepted), (refl, ended))
    (faultless (stream_line path) _ (λ rose. omega (arith, rose)) (λ rose. omega (arith, rose))
    (λ rose. omega (arith, rose)) (λ rose. omega (arith, rose)))

pub returns-clause-report : goal.returns-clause-report
returns-clause-report c = λ path is accepted.
    (rw is at c.run.ensures.runs).complete ((c.args.table.now, refl, accepted), tt)
    (faultless (check_table path) _ (λ rose. omega (arith, rose)) (λ rose. omega (arith, rose))
    (λ rose. omega (arith, rose)) (λ rose. omega (arith, rose)))

pub returns-clause-recovery : goal.returns-clause-recovery
returns-clause-recovery c = λ path is good.
    (rw is at c.run.ensures.runs).complete (λ t. (refl, good))
    (faultless (recover_image path) _ (λ rose. omega (arith, rose)) (λ rose. omega (arith, rose))
    (λ rose. omega (arith, rose)) (λ rose. omega (arith, rose)))

pub returns-clause-upgrade : goal.returns-clause-upgrade
returns-clause-upgrade c = λ path is good.
    (rw is at c.run.ensures.runs).complete (λ t. (refl, good))
    (faultless (upgrade_image path) _ (λ rose. omega (arith, rose)) (λ rose. omega (arith, rose))
    (λ rose. omega (arith, rose)) (λ rose. omega (arith, rose)))

pub returns-clause-recording : goal.returns-clause-recording
returns-clause-recording c = λ path image is accepted ended room.
    (rw is at c.run.ensures.runs).complete ((c.args.table.now, refl, accepted), (refl, ended, refl, room))
    (faultless (record_line path image) _ (λ rose. omega (arith, rose)) (λ rose. omega (arith, rose))
    (λ rose. omega (arith, rose)) (λ rose. omega (arith, rose)))

pub returns-clause-image_listing : goal.returns-clause-image_listing
returns-clause-image_listing c = λ path image is accepted for.
    (rw is at c.run.ensures.runs).complete ((c.args.table.now, refl, accepted), (refl, for))
    (faultless (list_image path image) _ (λ rose. omega (arith, rose)) (λ rose. omega (arith, rose))
    (λ rose. omega (arith, rose)) (λ rose. omega (arith, rose)))

pub returns-clause-salvage : goal.returns-clause-salvage
returns-clause-salvage c = λ path image ring is accepted can.
    (rw is at c.run.ensures.runs).complete ((c.args.table.now, refl, accepted), (refl, can))
    (faultless (salvage_image path image ring) _ (λ rose. omega (arith, rose)) (λ rose. omega (arith, rose))
    (λ rose. omega (arith, rose)) (λ rose. omega (arith, rose)))

pub returns-clause-exceedances : goal.returns-clause-exceedances
returns-clause-exceedances c = λ path image is accepted good for.
    (rw is at c.run.ensures.runs).complete ((c.args.table.now, refl, accepted), (refl, good, refl, for))
    (faultless (exceed_image path image) _ (λ rose. omega (arith, rose)) (λ rose. omega (arith, rose))
    (λ rose. omega (arith, rose)) (λ rose. omega (arith, rose)))

pub returns-clause-drill : goal.returns-clause-drill
returns-clause-drill c = λ path image seed frames is accepted room.
    (rw is at c.run.ensures.runs).complete ((c.args.table.now, refl, accepted), (refl, room))
    (faultless (drill_image path image seed frames) _ (λ rose. omega (arith, rose)) (λ rose. omega (arith, rose))
    (λ rose. omega (arith, rose)) (λ rose. omega (arith, rose)))

pub returns-clause-making : goal.returns-clause-making
returns-clause-making c = λ path image slots payload is accepted empty.
    (rw is at c.run.ensures.runs).complete ((c.args.table.now, refl, accepted), (refl, empty))
    (faultless (format_image path image slots payload) _ (λ rose. omega (arith, rose)) (λ rose. omega (arith, rose))
    (λ rose. omega (arith, rose)) (λ rose. omega (arith, rose)))

pub returns-clause-made_already : goal.returns-clause-made_already
returns-clause-made_already c = λ path image slots payload is accepted some.
    let e = rw is at c.run.ensures.runs in
    making_sure path image slots payload c.args.table.now c.run.result e.answers
    (λ row f x. (e.table refl).refused row f c.args.table.now x refl) accepted
    (λ x. let rose = e.table_cause x in omega (arith, rose)) (λ x. let rose = e.causes.disk x in omega (arith, rose))
    (λ past. e.carries_out.3.not_empty_always past some)
