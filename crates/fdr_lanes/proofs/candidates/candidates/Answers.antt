use Rattle.std.proofs.Common.{◌+◌}
use Rattle.std.proofs.lemmas.Simd.{get_or-chunk}
use Rattle.fdr_lanes.proofs.Masks.{mask_few, marks_each}
use Rattle.fdr_lanes.proofs.candidates.candidates.Goals as goal

pub returns-clause-within_lanes : goal.returns-clause-within_lanes
returns-clause-within_lanes c = mask_few c.places.result c.places.ensures.len

pub returns-clause-each : goal.returns-clause-each
returns-clause-each c =
    let b = c.args.bytes.now in
    let at = c.args.at in
    marks_each b at c.places.result _ _ _ (λ k. (c.type_inv.bytes k).fits) (λ k h. get_or-chunk at 32 b k 0 h) (λ k h. get_or-chunk (at + 1) 32 b k 0 h)
    (λ k h. get_or-chunk (at + 2) 32 b k 0 h) c.places.ensures.len c.places.ensures.set
