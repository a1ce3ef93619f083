use Rattle.std.proofs.Common.{rules, ◌≡◌, ◌+◌, map, arith, ap, ◌∙◌, ℕ}
use Rattle.std.specs.List.{range_with_len}
use Rattle.fdr_layout.proofs.Lists.{map_step}
use Rattle.fdr_listing.specs.Text.{row_start_text}
use Rattle.fdr_readout.proofs.line_writer.all_starts.Goals as goal

pub loop-counter-preserved : goal.loop-counter-preserved
loop-counter-preserved c =
    map_step row_start_text c.loop-counter.starts.items c.push.new.self.items 0 c.loop-counter.counter (c.loop-counter.counter + 1) c.loop-counter.counter
    c.loop-counter.invariant (search rules) (omega arith) (omega arith)

pub returns : goal.returns
returns c =
    let all : c.loop-counter.counter ≡ 4096 = omega (arith, c.loop-counter.auto.counter-end, c.loop-counter-test.false) in
    c.loop-counter.invariant ∙ ap (λ (n : ℕ). map row_start_text (range_with_len 0 n)) all
