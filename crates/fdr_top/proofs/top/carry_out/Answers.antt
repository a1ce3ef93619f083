use Rattle.std.proofs.Common.{refl, [], None, ap, inr, Err, rules}
use Rattle.fdr_words.specs.Forms.{decode_levels, encode_bytes, recover_image, upgrade_image}
use Rattle.fdr_words.specs.Request.{form_of_request}
use Rattle.fdr_top.proofs.Carrying.{TakesAtMost-none, carried, carried_alone, table_refused}
use Rattle.fdr_top.proofs.Commands.{own_uses, request_reads}
use Rattle.fdr_top.proofs.ItsTable.{read_refused}
use Rattle.fdr_top.proofs.Making.{table_or}
use Rattle.fdr_top.proofs.top.carry_out.Goals as goal

pub returns-in-RecoverImage-clause-runs : goal.returns-in-RecoverImage-clause-runs
returns-in-RecoverImage-clause-runs g c = rw c.in-RecoverImage.is (carried_alone (recover_image c.in-RecoverImage.image) _ refl refl
    (TakesAtMost-none 1052672 _) (λ t. c.recover.ensures.works _ t))

pub returns-in-RecoverImage-clause-deck_untouched : goal.returns-in-RecoverImage-clause-deck_untouched
returns-in-RecoverImage-clause-deck_untouched g c = λ early.
    absurd (own_uses (recover_image []) _ (c.recover.ensures.works [] (table_or None)).answer early)

pub returns-in-Upgrade-clause-runs : goal.returns-in-Upgrade-clause-runs
returns-in-Upgrade-clause-runs g c = rw c.in-Upgrade.is (carried_alone (upgrade_image c.in-Upgrade.image) _ refl refl
    (TakesAtMost-none 1052672 _) (λ t. c.upgrade.ensures.works _ t _ _))

pub returns-in-Upgrade-clause-deck_untouched : goal.returns-in-Upgrade-clause-deck_untouched
returns-in-Upgrade-clause-deck_untouched g c = λ early.
    absurd (own_uses (upgrade_image []) _ (c.upgrade.ensures.works [] (table_or None) None 0).answer early)

pub returns-in-Ok-clause-runs : goal.returns-in-Ok-clause-runs
returns-in-Ok-clause-runs g c = carried (form_of_request c.args.request.now) _ c.in-Ok.sound
    (request_reads c.args.request.now c.in_default.not-Encode c.in_default.not-Decode c.in_default.not-RecoverImage
    c.in_default.not-Upgrade) c.in-Ok.ensures.table c.in-Ok.ensures.end
    c.in-Ok.ensures.sound c.load_table.ensures.bounded (c.in-Ok.ensures.no_fault (λ e. absurd (cc))) c.work.ensures.works

pub returns-in-Ok-clause-deck_untouched : goal.returns-in-Ok-clause-deck_untouched
returns-in-Ok-clause-deck_untouched g c = λ early. absurd (own_uses (form_of_request c.args.request.now) _ c.work.ensures.works.answer early)

pub returns-in-Err-clause-runs : goal.returns-in-Err-clause-runs
returns-in-Err-clause-runs g c = table_refused (form_of_request c.args.request.now) _ _ _ _ _ _ refl (g.met.D.Deck.sound c.args.deck.now)
    (request_reads c.args.request.now c.in_default.not-Encode c.in_default.not-Decode c.in_default.not-RecoverImage
    c.in_default.not-Upgrade)
    c.in-Err.ensures.answers (read_refused _ _ _ c.in-Err.ensures.answers c.in-Err.ensures.refused c.in-Err.ensures.fault_within_limit)
    c.load_table.ensures.bounded (λ e. c.in-Err.ensures.fault (ap Err e)) (λ other. c.in-Err.ensures.no_fault (λ e. other (let same : _ = e in cc)))

pub returns-in-Encode-clause-runs : goal.returns-in-Encode-clause-runs
returns-in-Encode-clause-runs g c = rw c.in-Encode.is (carried_alone encode_bytes _ refl refl (TakesAtMost-none 1052672 _) (λ t. c.encode.ensures.works t))

pub returns-in-Encode-clause-deck_untouched : goal.returns-in-Encode-clause-deck_untouched
returns-in-Encode-clause-deck_untouched g c = λ early.
    absurd (own_uses encode_bytes _ (c.encode.ensures.works (table_or None)).answer early)

pub returns-in-Decode-clause-runs : goal.returns-in-Decode-clause-runs
returns-in-Decode-clause-runs g c = rw c.in-Decode.is (carried_alone decode_levels _ refl refl (TakesAtMost-none 1052672 _) (λ t. c.decode.ensures.works t))

pub returns-in-Decode-clause-deck_untouched : goal.returns-in-Decode-clause-deck_untouched
returns-in-Decode-clause-deck_untouched g c = λ early.
    absurd (own_uses decode_levels _ (c.decode.ensures.works (table_or None)).answer early)

pub returns-in-RecoverImage-clause-memory : goal.returns-in-RecoverImage-clause-memory
returns-in-RecoverImage-clause-memory g c = rw c.in-RecoverImage.is (λ reads memory. inr (c.recover.ensures.memory memory))

pub returns-in-Err-clause-deck_untouched : goal.returns-in-Err-clause-deck_untouched
returns-in-Err-clause-deck_untouched c = search rules

pub returns-in-Err-clause-deck_unused : goal.returns-in-Err-clause-deck_unused
returns-in-Err-clause-deck_unused c = search rules

pub returns-in-Err-clause-memory : goal.returns-in-Err-clause-memory
returns-in-Err-clause-memory c = search rules
