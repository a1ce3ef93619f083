use Rattle.std.proofs.Common.{◌≤◌, ◌<◌, ◌++◌, ◌∷◌, [], refl, sym, ap, subst, arith}
use Rattle.fdr_bus.specs.Records.{IsGoodPrefix, good_prefix, last_time, record_of}
use Rattle.fdr_bus.proofs.NextRecord.{with_record, without_record, fault_of_record}
use Rattle.fdr_bus.proofs.ParseLemmas.{is_good_yes, is_good_unnamed, is_good_early, is_good_late, record_fault_unnamed, record_fault_early, record_fault_late}
use Rattle.fdr_bus.proofs.ParseLemmas.{record_tests}
use Rattle.fdr_bus.proofs.parse.Goals as goal

pub returns-in_default-clause-next : goal.returns-in_default-clause-next
returns-in_default-clause-next c = λ earlier awaits.
    let unnamed = c.in_default.ensures.none.0 refl in
    without_record earlier c.args.bytes.now c.args.before awaits c.told-bytes (is_good_unnamed c.args.before c.args.bytes.now unnamed)

pub returns-in_default-clause-trace : goal.returns-in_default-clause-trace
returns-in_default-clause-trace c = λ earlier awaits.
    let unnamed = c.in_default.ensures.none.0 refl in
    fault_of_record earlier c.args.bytes.now c.args.before _ awaits c.told-bytes (is_good_unnamed c.args.before c.args.bytes.now unnamed)
    (record_fault_unnamed c.args.before c.args.bytes.now unnamed)

pub returns-then-record-before-clause-next : goal.returns-then-record-before-clause-next
returns-then-record-before-clause-next c = λ earlier awaits.
    let read = c.in-Some.ensures.read in
    let early : (record_of c.args.bytes.now).time < c.args.before = omega (arith, ap (λ r. r.time) read.0, c.if-record-before.true) in
    without_record earlier c.args.bytes.now c.args.before awaits c.told-bytes (is_good_early c.args.before c.args.bytes.now early)

pub returns-then-record-before-clause-trace : goal.returns-then-record-before-clause-trace
returns-then-record-before-clause-trace c = λ earlier awaits.
    let read = c.in-Some.ensures.read in
    let early : (record_of c.args.bytes.now).time < c.args.before = omega (arith, ap (λ r. r.time) read.0, c.if-record-before.true) in
    fault_of_record earlier c.args.bytes.now c.args.before _ awaits c.told-bytes (is_good_early c.args.before c.args.bytes.now early)
    (record_fault_early c.args.before c.args.bytes.now read.1 early)

pub returns-then-record-gt-MAX_TIME-clause-next : goal.returns-then-record-gt-MAX_TIME-clause-next
returns-then-record-gt-MAX_TIME-clause-next c = λ earlier awaits.
    let read = c.in-Some.ensures.read in
    let late : last_time < (record_of c.args.bytes.now).time = omega (arith, ap (λ r. r.time) read.0, c.if-record-gt-MAX_TIME.true) in
    without_record earlier c.args.bytes.now c.args.before awaits c.told-bytes (is_good_late c.args.before c.args.bytes.now late)

pub returns-then-record-gt-MAX_TIME-clause-trace : goal.returns-then-record-gt-MAX_TIME-clause-trace
returns-then-record-gt-MAX_TIME-clause-trace c = λ earlier awaits.
    let read = c.in-Some.ensures.read in
    let order : c.args.before ≤ (record_of c.args.bytes.now).time = omega (arith, ap (λ r. r.time) read.0, c.if-record-before.false) in
    let late : last_time < (record_of c.args.bytes.now).time = omega (arith, ap (λ r. r.time) read.0, c.if-record-gt-MAX_TIME.true) in
    fault_of_record earlier c.args.bytes.now c.args.before _ awaits c.told-bytes (is_good_late c.args.before c.args.bytes.now late)
    (record_fault_late c.args.before c.args.bytes.now read.1 order late)

pub returns-clause-next : goal.returns-clause-next
returns-clause-next c = λ earlier awaits.
    let read = c.in-Some.ensures.read in
    let order : c.args.before ≤ (record_of c.args.bytes.now).time = omega (arith, ap (λ r. r.time) read.0, c.if-record-before.false) in
    let in_time : (record_of c.args.bytes.now).time ≤ last_time = omega (arith, ap (λ r. r.time) read.0, c.if-record-gt-MAX_TIME.false) in
    subst (λ r. IsGoodPrefix (earlier ++ c.args.bytes.now) (good_prefix earlier ++ r ∷ [])) (sym read.0)
    (with_record earlier c.args.bytes.now c.args.before awaits c.told-bytes
    (is_good_yes c.args.before c.args.bytes.now read.1 order in_time))

pub returns-then-record-before-clause-good : goal.returns-then-record-before-clause-good
returns-then-record-before-clause-good c = grind (arith, record_tests)

pub returns-then-record-before-clause-back : goal.returns-then-record-before-clause-back
returns-then-record-before-clause-back c = grind (arith, record_tests)

pub returns-then-record-before-clause-late : goal.returns-then-record-before-clause-late
returns-then-record-before-clause-late c = grind (arith, record_tests)

pub returns-then-record-before-clause-first_fault : goal.returns-then-record-before-clause-first_fault
returns-then-record-before-clause-first_fault c = grind (arith, record_tests)
