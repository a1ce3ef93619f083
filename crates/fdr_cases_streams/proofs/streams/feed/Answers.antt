use Rattle.std.proofs.Common.{◌+◌, inr, Some, refl, arith}
use Rattle.fdr_stream.specs.Past.{StreamPast}
use Rattle.fdr_cases_streams.proofs.streams.feed.Goals as goal

pub feed-requires : goal.feed-requires
feed-requires g c =
    let known = c.requires in
    let at = c.loop-blocks.invariant known.0 known.1 known.2 known.3 in
    let past : StreamPast = record known.0 { begun = at.1; blocks = at.0 } in
    (past, at.2, at.3, omega (arith, known.4))

pub returns-in-Taken : goal.returns-in-Taken
returns-in-Taken g c past st may none =
    let at = c.loop-blocks.invariant past st may none in
    (at.0, c.in-Taken.ensures.taken (record past { begun = at.1; blocks = at.0 }) at.2 at.3 refl)

pub loop-blocks-preserved : goal.loop-blocks-preserved
loop-blocks-preserved g c past st may none =
    let at = c.loop-blocks.invariant past st may none in (
      at.0 + 1,
      Some c.args.next.now,
      c.in-Block.ensures.begun (record past { begun = at.1; blocks = at.0 }) at.2 at.3 refl,
      record { order = may.order; in_time = may.in_time; unended = may.unended; same = inr refl },
    )
