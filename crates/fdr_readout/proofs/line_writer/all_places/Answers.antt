use Rattle.std.proofs.Common.{rules, ◌≡◌, ◌+◌, map, arith, ap, ◌∙◌, ℕ}
use Rattle.std.specs.List.{range_with_len}
use Rattle.fdr_layout.proofs.Lists.{map_step}
use Rattle.fdr_readout.specs.Places.{place_text}
use Rattle.fdr_readout.proofs.line_writer.all_places.Goals as goal

pub loop-place-preserved : goal.loop-place-preserved
loop-place-preserved c =
    map_step place_text c.loop-place.places.items c.push.new.self.items 0 c.loop-place.place (c.loop-place.place + 1) c.loop-place.place
    c.loop-place.invariant (search rules) (omega arith) (omega arith)

pub returns : goal.returns
returns c =
    let all : c.loop-place.place ≡ 4096 = omega (arith, c.loop-place.auto.place-end, c.loop-place-test.false) in
    c.loop-place.invariant ∙ ap (λ (n : ℕ). map place_text (range_with_len 0 n)) all
