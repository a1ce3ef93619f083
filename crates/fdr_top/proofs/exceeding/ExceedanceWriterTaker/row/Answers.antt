use Rattle.std.proofs.Common.{◌+◌, ◌<◌, ◌≤◌, ◌^◌, ℕ, ◌∷◌, [], arith}
use Rattle.fdr_readout.specs.Entries.{RowEntry}
use Rattle.fdr_top.specs.Exceeding.{HasTakenLines}
use Rattle.fdr_top.proofs.Coding.{on_err, on_ok}
use Rattle.fdr_top.proofs.WatchLines.{each_err, each_ok, entries_given, where_ok}
use Rattle.fdr_top.proofs.exceeding.ExceedanceWriterTaker.row.Goals as goal

one_fewer : (n : ℕ) → n + 1 ≤ 2 ^ 63 → n < 2 ^ 63
one_fewer n few = omega (arith, few)

pub take_row-requires : goal.take_row-requires
take_row-requires g c = record { low = c.requires.value.low; high = c.requires.value.high }

pub returns-clause-all : goal.returns-clause-all
returns-clause-all g c =
    let a = c.args.self.now in
    let o = g.O.Sink.written c.args.out.now in
    let p = g.O.Sink.written c.take_row.new.out in
    let entries = RowEntry c.args.row.now ∷ [] in
    on_ok c.take_row.result
    (λ gave. entries_given o p a c.take_row.new.self entries c.take_row.ensures.rules
    (λ few. c.take_row.ensures.rows (one_fewer a.watch.rows few)) (λ few steps had. gave (one_fewer a.watch.rows few) steps had))
    (where_ok (a.watch.rows < 2 ^ 63) _ c.take_row.result (λ few. each_ok (HasTakenLines a.watch) _ c.take_row.result
    (λ steps had. c.take_row.ensures.all steps few had)))

pub returns-clause-part : goal.returns-clause-part
returns-clause-part g c =
    on_err c.take_row.result (λ failed few steps had. failed steps had)
    (each_err (HasTakenLines c.args.self.now.watch) _ c.take_row.result c.take_row.ensures.part)
