use Rattle.std.proofs.Common.{subst, sym, ◌∙◌}
use Rattle.fdr_pair.specs.PairRun.{RunsPair}
use Rattle.fdr_pair.specs.declared.outcome.PairOutcome.{PairOutcome}
use Rattle.fdr_pair.proofs.PairMeans.{means}
use Rattle.fdr_pair.proofs.PairTable.{not_usage, records_by, refusal_not_usage, runs_accepted, runs_refused, runs_unread}
use Rattle.fdr_pair.proofs.run.run_pair.Goals as goal

pub returns-in-Ok-load_table-clause-runs : goal.returns-in-Ok-load_table-clause-runs
returns-in-Ok-load_table-clause-runs g c = λ fits.
    let e = c.in-Ok-load_table.ensures in
    let r = c.record_pair.ensures in
    let old = g.T.Source.rest c.args.table.now in
    let new = g.T.Source.rest c.load_table.new.source in
    let before = g.T.Source.faults c.args.table.now in
    let now = g.T.Source.faults c.load_table.new.source in
    let p = g.D.Twin.pair c.args.twin.now in
    let q = g.D.Twin.pair c.record_pair.new.twin in
    runs_accepted old new c.in-Ok-load_table.sound e.table e.end e.sound before now g.D.Deck.tells p q c.record_pair.result e.bounded
    (e.no_fault (λ x. absurd (cc))) r.past
    (records_by c.in-Ok-load_table.sound old old new before before now g.D.Deck.tells p q c.record_pair.result (r.records old before)) r.memory r.counts

pub returns-in-Ok-clause-runs : goal.returns-in-Ok-clause-runs
returns-in-Ok-clause-runs g c = λ fits.
    let e = c.in-Err.ensures in
    let old = g.T.Source.rest c.args.table.now in
    let new = g.T.Source.rest c.load_table.new.source in
    let before = g.T.Source.faults c.args.table.now in
    let now = g.T.Source.faults c.load_table.new.source in
    let p = g.D.Twin.pair c.args.twin.now in
    subst (λ (x : PairOutcome). RunsPair (record {
      rest_before = old;
      rest_now = new;
      table_before = before;
      table_now = now;
      tells = g.D.Deck.tells;
      old = p;
      new = p;
      answer = x;
    })) (sym c.table_refusal.ensures)
    (runs_refused old new before now c.in-Err.fault e.refused e.fault e.no_fault e.fault_within_limit g.D.Deck.tells p e.bounded
    (g.met.D.Twin.sound_pair c.args.twin.now))

pub returns-clause-runs : goal.returns-clause-runs
returns-clause-runs g c = λ fits.
    runs_unread (g.T.Source.rest c.args.table.now) (g.T.Source.faults c.args.table.now) g.D.Deck.tells (g.D.Twin.pair c.args.twin.now)
    (g.met.D.Twin.sound_pair c.args.twin.now)

-- ---- what it means

pub returns-in-Ok-load_table-clause-means : goal.returns-in-Ok-load_table-clause-means
returns-in-Ok-load_table-clause-means g c = λ fits told.
    means _ (returns-in-Ok-load_table-clause-runs g c fits) (not_usage c.record_pair.result c.record_pair.ensures.past) told

pub returns-in-Ok-clause-means : goal.returns-in-Ok-clause-means
returns-in-Ok-clause-means g c = λ fits told. means _ (returns-in-Ok-clause-runs g c fits)
    (λ usage. refusal_not_usage c.in-Err.fault (sym c.table_refusal.ensures ∙ usage)) told

pub returns-clause-means : goal.returns-clause-means
returns-clause-means g c = λ fits told. means _ (returns-clause-runs g c fits) (λ usage. absurd (cc)) told
