-- How a trace ends of which some bytes were pulled.
use Rattle.std.proofs.Common.{◌≡◌, ⊎_elim, inl, inr, ℕ, ◌+◌, ◌*◌, ◌≤◌, ◌==◌, true, false, List, [], ◌++◌, length, Option, Some, IsTrue, refl, ap, ◌∙◌, arith}
use Rattle.std.proofs.Common.{eqb-true}
use Rattle.std.specs.Prelude.{nat_lt}
use Rattle.std.proofs.lemmas.Bool.{cases_Bool}
use Rattle.std.proofs.lemmas.Bool.Decides.{nat_tests}
use Rattle.std.proofs.lemmas.List.{append-nil}
use Rattle.fdr_io.specs.declared.Input.TheVariants as input
use Rattle.fdr_bus.specs.declared.TraceFault.{TraceFault}
use Rattle.fdr_bus.specs.declared.TraceFault.TheVariants as trace
use Rattle.fdr_bus.specs.Records.{IsDecided, fault_after, good_prefix, has_end, most_records, trace_fault}
use Rattle.fdr_bus.proofs.TraceLemmas.{good_prefix-decided, trace_fault-ended}
use Rattle.fdr_deck.specs.State.{Tells}
use Rattle.fdr_trace.specs.Pulls.{PullsUntilDecided}
use Rattle.fdr_twin.specs.declared.side.Side.TheVariants.{First}
use Rattle.fdr_twin.specs.Pair.{Pair, seen}
use Rattle.fdr_pair.specs.PairRun.{EndsPairLine}
use Rattle.fdr_pair.proofs.PairLine.{refused_decides, trace_fault-decided}
use Rattle.fdr_pair.specs.declared.outcome.PairOutcome.{PairOutcome}
use Rattle.fdr_pair.specs.declared.outcome.PairOutcome.TheVariants as outcome
use Rattle.fdr_pair.specs.PairMeaning.{end_of_trace, trace_end}

-- a refusal is answered where no read failed
refusal_ends : (index : ℕ) (why : TraceFault) → end_of_trace (Some (index, why)) false ≡ outcome.TraceRefused index why
refusal_ends index trace.Kind = refl
refusal_ends index trace.Back = refl
refusal_ends index trace.Late = refl
refusal_ends index trace.Truncated = refl
refusal_ends index trace.Many = refl

-- bytes that don't decide the trace stop in it
truncated_after : (bytes : List ℕ) → (IsDecided bytes → ⊥) → trace_fault bytes ≡ Some (length (good_prefix bytes), trace.Truncated)
unfolding trace_fault fault_after
truncated_after bytes undecided =
    let good = good_prefix bytes in
    let n = length good in ⊎_elim
    (λ (ended : has_end good ≡ true). absurd (undecided (inl ended)))
    (λ (unended : has_end good ≡ false). ⊎_elim
    (λ (most : (n == most_records) ≡ true). absurd (undecided (inr (inl (eqb-true n most_records most)))))
    (λ (fewer : (n == most_records) ≡ false). ⊎_elim
    (λ (short : nat_lt (length bytes) (16 * n + 16) ≡ true). rw (unended, fewer, short) refl)
    (λ (long : nat_lt (length bytes) (16 * n + 16) ≡ false).
    let more : 16 * n + 16 ≤ length bytes = grind (arith, nat_tests) in absurd (undecided (inr (inr more))))
    (cases_Bool (nat_lt (length bytes) (16 * n + 16))))
    (cases_Bool (n == most_records)))
    (cases_Bool (has_end good))

-- ---- a trace of which some bytes were pulled

-- the trace of these bytes is that of what was pulled, and ends as that
abbrev pub IsSameTrace : List ℕ → List ℕ → Type 0
IsSameTrace pulled bytes = (good_prefix bytes ≡ good_prefix pulled) × (trace_fault bytes ≡ trace_fault pulled)

module _ (tells : Tells) (old new : Pair) (pulled : List ℕ) (answer : PairOutcome)
    (pulls : PullsUntilDecided tells (seen First old) (seen First new) [] pulled) (ends : EndsPairLine tells old new pulled answer) where
  decided_same : IsTrue tells.input → IsDecided pulled → IsSameTrace pulled old.input
  decided_same told decided = (
    ap good_prefix (pulls.takes.input told) ∙ good_prefix-decided pulled new.input decided,
    ap trace_fault (pulls.takes.input told) ∙ trace_fault-decided pulled new.input decided,
  )

  ended_same : IsTrue tells.input → new.input ≡ [] → IsSameTrace pulled old.input
  ended_same told end =
      let all : old.input ≡ pulled = pulls.takes.input told ∙ ap (λ (x : List ℕ). pulled ++ x) end ∙ append-nil pulled in
      (ap good_prefix all, ap trace_fault all)

  pub done_same : answer ≡ outcome.Done → IsTrue tells.input → IsSameTrace pulled old.input
  done_same e told = decided_same told (inl (ends.ended e))

  pub refused_same : (index : ℕ) (why : TraceFault) → answer ≡ outcome.TraceRefused index why → IsTrue tells.input → IsSameTrace pulled old.input
  refused_same index why e told = ⊎_elim
      (λ (short : why ≡ trace.Truncated). ended_same told (ends.truncated index (e ∙ ap (outcome.TraceRefused index) short) told))
      (λ (decided : IsDecided pulled). decided_same told decided)
      (refused_decides pulled index why (ends.refused index why e))

  pub done_ends : (bytes : List ℕ) → answer ≡ outcome.Done → IsSameTrace pulled bytes → trace_end (record { bytes = bytes; failed = false }) ≡ outcome.Done
  done_ends bytes e same = ap (λ (x : Option (ℕ × TraceFault)). end_of_trace x false) (same.1 ∙ trace_fault-ended pulled (ends.ended e))

  pub refused_ends : (bytes : List ℕ) (index : ℕ) (why : TraceFault) → answer ≡ outcome.TraceRefused index why → IsSameTrace pulled bytes
      → trace_end (record { bytes = bytes; failed = false }) ≡ outcome.TraceRefused index why
  refused_ends bytes index why e same =
      ap (λ (x : Option (ℕ × TraceFault)). end_of_trace x false) (same.1 ∙ ends.refused index why e) ∙ refusal_ends index why

  pub failed_ends : answer ≡ outcome.ReadFault input.Line → trace_end (record { bytes = pulled; failed = true }) ≡ outcome.ReadFault input.Line
  failed_ends e = ap (λ (x : Option (ℕ × TraceFault)). end_of_trace x true) (truncated_after pulled (ends.undecided e))
