use Rattle.std.proofs.Common.{◌≡◌, ℕ, ◌++◌, ◌+◌, List, append_assoc, get_or, take, drop, suc, Result, Err, Some, refl, sym, ap, ◌∙◌, arith}
use Rattle.std.specs.List.{flat_map, slice_get}
use Rattle.std.proofs.Math.Seq.{drop-cons}
use Rattle.std.proofs.lemmas.List.{take-append-drop, take_all}
use Rattle.std.proofs.lemmas.Option.{slice_get-get_or}
use Rattle.std.proofs.lemmas.Result.{err_from_is_err_and}
use Rattle.fdr_recover.proofs.Looking.{Looks-here, Looks-then}
use Rattle.fdr_recover.specs.declared.walk.BlocksFault.{BlocksFault}
use Rattle.fdr_salvage.specs.declared.salvage.Run.{Run}
use Rattle.fdr_readout.proofs.EntryLemmas.{flat_map_next, flat_map_around}
use Rattle.fdr_top.specs.Salvage.{decided_in_run, entries_in_run}
use Rattle.fdr_top.proofs.salvaging.take_runs.Goals as goal

-- the fault that is handed on
same_fault : (r : Result (Unit {0}) BlocksFault) (fault handed wanted : BlocksFault) → r ≡ Err handed → handed ≡ fault → r ≡ Err wanted
    → ◌≡◌ {A = Result (Unit {0}) BlocksFault} (Err fault) (Err wanted)
same_fault r fault handed wanted is same wants = ap Err (sym same) ∙ sym is ∙ wants

-- the run at a place of a list
abbrev run_at : List Run → ℕ → Run
run_at runs i = get_or runs i (record { first = 0; next = 0 })

-- entries before and after some that are parted
regrouped : {X : Type 0} (before first rest after : List X) → (before ++ (first ++ rest)) ++ after ≡ (before ++ first) ++ (rest ++ after)
regrouped before first rest after =
    ap (λ xs. xs ++ after) (sym (append_assoc before first rest)) ∙ append_assoc (before ++ first) rest after

pub loop-run-init : goal.loop-run-init
loop-run-init g c = record {
  looks = Looks-here _ _ (g.met.D.Deck.sound c.args.deck.now);
  no_disk_fault = refl;
  no_fault = refl;
  reads = c.requires.reads;
  table = refl;
  version = refl;
  taken = λ told. g.met.T.Taker.laws.nothing _ _ _;
}

pub take_run-requires-clause-version : goal.take_run-requires-clause-version
take_run-requires-clause-version g c = c.loop-run.invariant.version ∙ c.requires.version

pub take_run-requires-clause-whole : goal.take_run-requires-clause-whole
take_run-requires-clause-whole g c = omega (arith, c.requires.whole, c.loop-run.invariant.looks.extent)

pub take_run-requires-clause-within : goal.take_run-requires-clause-within
take_run-requires-clause-within g c = c.requires.within c.loop-run.run-index (record { first = 0; next = 0 }) c.loop-run-test.true

pub take_run-requires-clause-room : goal.take_run-requires-clause-room
take_run-requires-clause-room g c = c.requires.room c.loop-run.run-index (record { first = 0; next = 0 }) c.loop-run-test.true

pub loop-run-preserved : goal.loop-run-preserved
loop-run-preserved g c =
    let inv = c.loop-run.invariant in
    let runs = c.args.runs.now in
    let i = c.loop-run.run-index in
    let f = entries_in_run c.args.blocks.now.table.now c.args.header.now (g.D.Deck.state c.args.deck.now).held in
    let is : slice_get runs i ≡ Some (run_at runs i) = slice_get-get_or runs i (record { first = 0; next = 0 }) c.loop-run-test.true in
    record {
      looks = Looks-then _ _ _ _ (g.met.D.Deck.sound c.args.deck.now) inv.looks c.take_run.ensures.looks;
      no_disk_fault = c.in_ok-take_run.ensures.disk_unfailed (λ e. absurd (cc)) ∙ inv.no_disk_fault;
      no_fault = c.in_ok-take_run.ensures.write_unfailed (λ e. absurd (cc)) ∙ inv.no_fault;
      reads = rw c.in_ok-take_run.ensures.table c.in_ok-take_run.ensures.reads;
      table = c.in_ok-take_run.ensures.table ∙ inv.table;
      version = c.in_ok-take_run.ensures.version ∙ inv.version;
      taken = λ told. rw (flat_map_next f runs i (run_at runs i) is)
          (g.met.T.Taker.laws.then _ _ _ _ _ _ _ _ _ (inv.taken told)
          (rw (inv.table, inv.looks.disk.held) at (c.in_ok-take_run.ensures.all told)));
    }

pub returns-in_err-take_run-clause-part : goal.returns-in_err-take_run-clause-part
returns-in_err-take_run-clause-part g c = λ told fails.
    let inv = c.loop-run.invariant in
    let runs = c.args.runs.now in
    let i = c.loop-run.run-index in
    let f = entries_in_run c.args.blocks.now.table.now c.args.header.now (g.D.Deck.state c.args.deck.now).held in
    let is : slice_get runs i ≡ Some (run_at runs i) = slice_get-get_or runs i (record { first = 0; next = 0 }) c.loop-run-test.true in
    let p = err_from_is_err_and c.from_residual.result c.from_residual.ensures.1 in
    let failed = c.in_err-take_run.ensures.part told (same_fault _ _ _ _ p.1 p.2 fails) in
    rw (flat_map_around f runs i (run_at runs i) is)
    (g.met.T.Taker.laws.fails_before _ _ _ _ _ (flat_map f (drop (i + 1) runs))
    (g.met.T.Taker.laws.fails_then _ _ _ _ _ _ _ _ (inv.taken told) (rw (inv.table, inv.looks.disk.held) at failed)))

pub returns-in_err-take_run-clause-front : goal.returns-in_err-take_run-clause-front
returns-in_err-take_run-clause-front g c = λ told fails.
    let inv = c.loop-run.invariant in
    let runs = c.args.runs.now in
    let i = c.loop-run.run-index in
    let f = entries_in_run c.args.blocks.now.table.now c.args.header.now (g.D.Deck.state c.args.deck.now).held in
    let is : slice_get runs i ≡ Some (run_at runs i) = slice_get-get_or runs i (record { first = 0; next = 0 }) c.loop-run-test.true in
    let p = err_from_is_err_and c.from_residual.result c.from_residual.ensures.1 in
    let front = rw (inv.table, inv.looks.disk.held) at (c.in_err-take_run.ensures.front told (same_fault _ _ _ _ p.1 p.2 fails)) in
    let before = flat_map f (take i runs) in
    let after = flat_map f (drop (i + 1) runs) in
    let decided = decided_in_run c.args.blocks.now.table.now c.args.header.now (run_at runs i) front.read in
    record {
      earlier = take i runs;
      run = run_at runs i;
      others = drop (suc i) runs;
      in_order = sym (take-append-drop i runs)
          ∙ ap (λ rest. take i runs ++ rest) (drop-cons runs i (record { first = 0; next = 0 }) c.loop-run-test.true);
      read = front.read;
      unread = front.unread;
      parted = front.parted;
      taken = g.met.T.Taker.laws.then _ _ _ _ _ _ _ _ _ (inv.taken told) front.taken;
      later = front.later ++ after;
      ahead = flat_map_around f runs i (run_at runs i) is ∙ ap (λ entries. (before ++ entries) ++ after) front.ahead
          ∙ regrouped before decided front.later after;
    }

pub returns-in_err-take_run-clause-looks : goal.returns-in_err-take_run-clause-looks
returns-in_err-take_run-clause-looks g c =
    Looks-then _ _ _ _ (g.met.D.Deck.sound c.args.deck.now) c.loop-run.invariant.looks c.take_run.ensures.looks

pub returns-clause-all : goal.returns-clause-all
returns-clause-all g c = λ told.
    let all : take c.loop-run.run-index c.args.runs.now ≡ c.args.runs.now = take_all c.loop-run.run-index c.args.runs.now
    (omega (arith, c.loop-run-test.false)) in
    rw all at (c.loop-run.invariant.taken told)
