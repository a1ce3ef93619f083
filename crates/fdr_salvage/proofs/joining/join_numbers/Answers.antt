use Rattle.std.proofs.Common.{◌+◌, take, get_or, sym, ap, ◌∙◌, map}
use Rattle.std.proofs.lemmas.List.{take_more}
use Rattle.fdr_recover.specs.Blocks.{Block}
use Rattle.fdr_recover.specs.Stretches.{stretches}
use Rattle.fdr_salvage.specs.Runs.{goes_on_with, run_numbers}
use Rattle.fdr_salvage.proofs.Joins.{map-split_last}
use Rattle.fdr_salvage.proofs.joining.join_numbers.Goals as goal

pub loop-number-preserved : goal.loop-number-preserved
loop-number-preserved c =
    let inv = c.loop-number.invariant in
    let numbers = c.args.numbers.now in
    let i = c.loop-number.number-index in
    let within = c.loop-number-test.true in
    let added = c.in_ok-join_number.ensures in
    record {
      joined = λ blocks is.
          let parts = map-split_last (λ (b : Block). b.number) blocks (take i numbers) (get_or numbers i 0) (is ∙ take_more numbers i 0 within) in
          added.joined parts.0 parts.1 parts.4 (inv.joined parts.0 parts.3)
          ∙ ap (λ bs. map run_numbers (stretches goes_on_with bs)) (sym parts.2);
      within = added.within;
      few = added.more ∙ ap (λ n. n + 1) inv.few;
    }
