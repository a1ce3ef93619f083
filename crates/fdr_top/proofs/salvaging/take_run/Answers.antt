use Rattle.std.proofs.Common.{◌∷◌, ap, arith}
use Rattle.std.proofs.lemmas.Result.{on_ok_weaker}
use Rattle.fdr_recover.proofs.Looking.{Looks-here}
use Rattle.fdr_readout.specs.Entries.{LineEntry}
use Rattle.fdr_salvage.specs.Runs.{run_length}
use Rattle.fdr_top.specs.Salvage.{run_text}
use Rattle.fdr_top.proofs.salvaging.take_run.Goals as goal

pub run_line-requires : goal.run_line-requires
run_line-requires g c = let within = c.requires.within in omega (arith, within.not_empty)

pub take_between-requires-clause-fresh : goal.take_between-requires-clause-fresh
take_between-requires-clause-fresh g c = c.restart.ensures c.args.blocks.now.table.now c.requires.reads.0 c.requires.reads.1

pub returns-in-Ok-clause-all : goal.returns-in-Ok-clause-all
returns-in-Ok-clause-all g c = λ told.
    let line = rw c.run_line.ensures at (c.in-Ok.ensures.all c.args.blocks.now.table.now) in
    on_ok_weaker c.take_between.result (λ read. g.met.T.Taker.laws.then _ _ _ _ _ _ _ _ _ line read)
    (rw c.requires.version at (c.take_between.ensures.all told))

pub returns-in-Ok-clause-part : goal.returns-in-Ok-clause-part
returns-in-Ok-clause-part g c = λ told fails.
    let line = rw c.run_line.ensures at (c.in-Ok.ensures.all c.args.blocks.now.table.now) in
    g.met.T.Taker.laws.fails_then _ _ _ _ _ _ _ _ line (rw c.requires.version at (c.take_between.ensures.part told fails))

pub returns-in-Ok-clause-front : goal.returns-in-Ok-clause-front
returns-in-Ok-clause-front g c = λ told fails.
    let line = rw c.run_line.ensures at (c.in-Ok.ensures.all c.args.blocks.now.table.now) in
    let front = rw c.requires.version at (c.take_between.ensures.front told fails) in
    let first = LineEntry (run_text c.args.run.now.first (run_length c.args.run.now)) in
    record {
      read = front.read;
      unread = front.unread;
      parted = front.parted;
      taken = g.met.T.Taker.laws.then _ _ _ _ _ _ _ _ _ line front.taken;
      later = front.later;
      ahead = ap (λ entries. first ∷ entries) front.ahead;
    }

pub returns-in-Err-clause-part : goal.returns-in-Err-clause-part
returns-in-Err-clause-part g c = λ told fails.
    g.met.T.Taker.laws.fails_before _ _ _ _ _ _ (rw c.run_line.ensures at (c.in-Err.ensures.part c.args.blocks.now.table.now))

pub returns-in-Err-clause-looks : goal.returns-in-Err-clause-looks
returns-in-Err-clause-looks g c = Looks-here _ _ (g.met.D.Deck.sound c.args.deck.now)
