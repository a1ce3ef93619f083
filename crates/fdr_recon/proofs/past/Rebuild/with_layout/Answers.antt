use Rattle.std.proofs.Common.{◌≡◌, ◌<◌, ℕ, List, [], ap, ◌∙◌, sym, subst, arith}
use Rattle.std.proofs.lemmas.Grind.{moves, pieces}
use Rattle.std.specs.List.{All, slice_index_or}
use Rattle.fdr_layout.specs.SlotParts.{Laid}
use Rattle.fdr_recon.specs.Plans.{Planned}
use Rattle.std.proofs.lemmas.List.Elements.{All-nil}
use Rattle.fdr_table.specs.Rows.{ParamRow}
use Rattle.fdr_layout.specs.Samples.{Sample}
use Rattle.fdr_recon.specs.Kept.{IsSampleOf, EndsInCycle}
use Rattle.fdr_recon.proofs.KeptWords.{kept_word-none}
use Rattle.fdr_recon.proofs.past.Rebuild.with_layout.Goals as goal

pub invariant_of-result : goal.invariant_of-result
invariant_of-result c =
    let laid : c.in_ok-plans.plans.laid ≡ c.args.layout = ap (λ (p : Planned). p.laid) c.in_ok-plans.ensures in
    let P : List ParamRow → Type 0 = λ ps. All (λ (samples : List Sample). All (IsSampleOf ps) samples) c.args.layout.cycles in
    record {
      planned_for = ap (λ (p : Planned). p.words) c.in_ok-plans.ensures ∙ c.frame_words.ensures.words;
      some_words = c.room_for_words.ensures.some_words;
      room = c.in_ok-words.ensures.room;
      words = subst (All (λ word. word < 4096)) (sym c.in_ok-words.ensures.none) (All-nil (λ word. word < 4096));
      last_counter = sym (kept_word-none _ 0 _ c.in_ok-words.ensures.none);
      joined = omega arith;
      ends = subst (λ (l : Laid). (cycle : ℕ) → All (EndsInCycle c.args.frame.words cycle) (slice_index_or l.cycles cycle [])) (sym laid) c.requires.ends;
      params = subst (λ (l : Laid). All (λ (samples : List Sample). All (IsSampleOf c.in_ok-scales.scales.items) samples) l.cycles) (sym laid)
          (subst P (sym c.in_ok-scales.ensures) c.requires.params);
    }

pub returns-in_err-scales : goal.returns-in_err-scales
returns-in_err-scales c = grind (arith, moves) steps 2000000

pub returns-in_err-words : goal.returns-in_err-words
returns-in_err-words c = grind (arith, moves) steps 2000000

pub of-requires-clause-ends : goal.of-requires-clause-ends
of-requires-clause-ends c = search (pieces, arith) depth 5 fits 300

pub returns-in_err-plans : goal.returns-in_err-plans
returns-in_err-plans c = grind (arith, moves) steps 2000000
