-- What one record more makes of the good prefix.
use Rattle.std.proofs.Common.{◌≡◌, ℕ, Bool, true, false, List, [], ◌∷◌, ◌++◌, length, Some, sym, ap, ◌∙◌, subst}
use Rattle.std.proofs.lemmas.List.{append-nil}
use Rattle.fdr_bus.specs.declared.TraceFault.{TraceFault}
use Rattle.fdr_bus.specs.Records.{AwaitsRecord, IsGoodPrefix, good_prefix, is_good, record_fault, record_of, time_of, trace_fault}
use Rattle.fdr_bus.proofs.GoodPrefix.{good_prefix-is_longest}
use Rattle.fdr_bus.proofs.TraceLemmas.{good_prefix-next, good_prefix_stays, trace_fault-bad}

good_here : (earlier next : List ℕ) (before : ℕ) (b : Bool) → AwaitsRecord earlier before → is_good before next ≡ b
    → is_good (time_of (good_prefix earlier)) next ≡ b
good_here earlier next before b awaits is = ap (λ n. is_good n next) awaits.last ∙ is

pub with_record : (earlier next : List ℕ) (before : ℕ) → AwaitsRecord earlier before → length next ≡ 16
    → is_good before next ≡ true → IsGoodPrefix (earlier ++ next) (good_prefix earlier ++ record_of next ∷ [])
with_record earlier next before awaits sixteen good =
    let more = good_prefix-next earlier next awaits.goes_on awaits.few sixteen (good_here earlier next before true awaits good) in
    subst (IsGoodPrefix (earlier ++ next)) more (good_prefix-is_longest (earlier ++ next))

pub without_record : (earlier next : List ℕ) (before : ℕ) → AwaitsRecord earlier before → length next ≡ 16 → is_good before next ≡ false
    → IsGoodPrefix (earlier ++ next) (good_prefix earlier)
without_record earlier next before awaits sixteen bad =
    subst (IsGoodPrefix (earlier ++ next))
    (good_prefix_stays earlier next awaits.goes_on sixteen (good_here earlier next before false awaits bad))
    (good_prefix-is_longest (earlier ++ next))

pub fault_of_record : (earlier next : List ℕ) (before : ℕ) (why : TraceFault) → AwaitsRecord earlier before → length next ≡ 16
    → is_good before next ≡ false → record_fault before next ≡ Some why
    → trace_fault (earlier ++ next) ≡ Some (length (good_prefix earlier), why)
fault_of_record earlier next before why awaits sixteen bad fault =
    ap trace_fault (sym (append-nil (earlier ++ next)))
    ∙ trace_fault-bad earlier next [] why awaits.goes_on awaits.few sixteen (good_here earlier next before false awaits bad)
    (ap (λ n. record_fault n next) awaits.last ∙ fault)
