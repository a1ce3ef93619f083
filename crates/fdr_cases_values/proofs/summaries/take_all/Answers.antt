use Rattle.std.proofs.Common.{[], ◌++◌, arith}
use Rattle.fdr_readout.proofs.Taking.{taken_nothing}
use Rattle.fdr_cases_values.proofs.summaries.take_all.Goals as goal

pub take_piece-requires-clause-stands : goal.take_piece-requires-clause-stands
take_piece-requires-clause-stands g c = (
  [],
  c.args.taker.now,
  c.args.out.now,
  taken_nothing _ _ g.met.T.Taker.laws c.args.table.now c.args.reader.now c.args.taker.now c.args.out.now c.requires.fresh,
  omega (arith, c.requires.short),
)

pub take_rest-requires : goal.take_rest-requires
take_rest-requires g c = record {
  stands = (
    [] ++ c.args.bytes.now,
    c.args.taker.now,
    c.args.out.now,
    c.in-Ok.ensures.all [] c.args.taker.now c.args.out.now
        (taken_nothing _ _ g.met.T.Taker.laws c.args.table.now c.args.reader.now c.args.taker.now c.args.out.now c.requires.fresh),
  );
}
