use Rattle.std.proofs.Common.{◌≡◌, ◌+◌, ◌-◌, ◌<◌, length, take, drop, ◌∙◌, arith}
use Rattle.std.specs.List.{flat_map}
use Rattle.std.proofs.lemmas.List.{take_all}
use Rattle.std.proofs.lemmas.Result.{err_from_is_err_and}
use Rattle.fdr_recon.specs.Rows.{rows_looked_at}
use Rattle.fdr_readout.specs.Entries.{row_entries, last_frame_entries}
use Rattle.fdr_readout.proofs.EntryLemmas.{flat_map_next, flat_map_around}
use Rattle.fdr_readout.proofs.entries.take_frame.Goals as goal

pub loop-i-init : goal.loop-i-init
loop-i-init g c = record {
  taken = λ past some stands. rw (← c.linked.ensures.linked c.args.table.now past stands some) (c.in_ok-frame.ensures.all c.args.table.now);
  no_fault = c.in_ok-frame.ensures.no_fault;
}

pub returns-in_err-frame-clause-part : goal.returns-in_err-frame-clause-part
unfolding last_frame_entries
returns-in_err-frame-clause-part g c = λ past some stands.
    let rows = rows_looked_at c.args.table.now past (length past - 1) in
    let part = g.met.T.Taker.laws.fails_before _ _ _ _ _ (flat_map row_entries rows) (c.in_err-frame.ensures.part c.args.table.now) in
    let p = err_from_is_err_and c.from_residual.result c.from_residual.ensures.1 in
    rw p.1 (rw (← c.linked.ensures.linked c.args.table.now past stands some) part)

pub loop-i-preserved : goal.loop-i-preserved
loop-i-preserved g c = record {
  taken = λ past some stands.
      let rows = rows_looked_at c.args.table.now past (length past - 1) in
      let within : c.loop-i.i < length rows = omega (arith, c.rows-i-end.ensures.rows c.args.table.now past stands some) in
      rw (flat_map_next row_entries rows c.loop-i.i c.row.result (c.row.ensures.row c.args.table.now past stands))
      (g.met.T.Taker.laws.then _ _ _ _ _ _ _ _ _ (c.loop-i.invariant.taken past some stands) c.in_ok-take_row.ensures.all);
  no_fault = c.in_ok-take_row.ensures.no_fault ∙ c.loop-i.invariant.no_fault;
}

pub returns-in_err-take_row-clause-part : goal.returns-in_err-take_row-clause-part
unfolding last_frame_entries
returns-in_err-take_row-clause-part g c = λ past some stands.
    let rows = rows_looked_at c.args.table.now past (length past - 1) in
    let within : c.loop-i.i < length rows = omega (arith, c.rows-i-end.ensures.rows c.args.table.now past stands some) in
    let part = g.met.T.Taker.laws.fails_before _ _ _ _ _ (flat_map row_entries (drop (c.loop-i.i + 1) rows))
    (g.met.T.Taker.laws.fails_then _ _ _ _ _ _ _ _ (c.loop-i.invariant.taken past some stands) c.in_err-take_row.ensures.part) in
    let p = err_from_is_err_and c.from_residual-in_err-take_row.result c.from_residual-in_err-take_row.ensures.1 in
    rw p.1 (rw (flat_map_around row_entries rows c.loop-i.i c.row.result (c.row.ensures.row c.args.table.now past stands)) part)

pub returns-clause-all : goal.returns-clause-all
unfolding last_frame_entries
returns-clause-all g c = λ past some stands.
    let rows = rows_looked_at c.args.table.now past (length past - 1) in
    let all : take c.loop-i.i rows ≡ rows = take_all c.loop-i.i rows (omega (arith, c.rows-i-end.ensures.rows c.args.table.now past stands some)) in
    rw all at (c.loop-i.invariant.taken past some stands)
