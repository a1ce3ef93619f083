use Rattle.std.proofs.Common.{◌≡◌, Result, Ok, Err, sym, ap, refl, ◌∙◌}
use Rattle.std.specs.Prelude.{OnOk, OnErr}
use Rattle.std.proofs.lemmas.Result.{err_from_is_err_and}
use Rattle.fdr_recover.specs.declared.walk.BlocksFault.{BlocksFault}
use Rattle.fdr_recover.specs.declared.walk.BlocksFault.TheVariants as blocks
use Rattle.fdr_top.proofs.SessionEntries.{blocks_first, no_blocks}
use Rattle.fdr_top.proofs.sessions.take_between.Goals as goal

-- the fault that is handed on
same_fault : (r : Result (Unit {0}) BlocksFault) (fault handed wanted : BlocksFault) → r ≡ Err handed → handed ≡ fault → r ≡ Err wanted
    → ◌≡◌ {A = Result (Unit {0}) BlocksFault} (Err fault) (Err wanted)
same_fault r fault handed wanted is same wants = ap Err (sym same) ∙ sym is ∙ wants

-- what holds where it failed, and what holds anyway
where_failed : {T E P : Type 0} (r : Result T E) (e : E) → r ≡ Err e → OnErr r P → P
where_failed (Ok v) e is holds = absurd (cc)
where_failed (Err x) e is holds = holds

anyway : {T E P : Type 0} (r : Result T E) → P → OnOk r P
anyway (Ok v) holds = holds
anyway (Err e) holds = tt

-- neither the disk nor the taker failed
unfailed : {P : Type 0} (r : Result (Unit {0}) BlocksFault) → OnOk r P → (r ≡ Err blocks.Disk → ⊥) → (r ≡ Err blocks.Taker → ⊥) → P
unfailed (Ok v) holds disk taker = holds
unfailed (Err blocks.Disk) holds disk taker = absurd (disk refl)
unfailed (Err blocks.Taker) holds disk taker = absurd (taker refl)

pub walk_between-requires-clause-ready : goal.walk_between-requires-clause-ready
walk_between-requires-clause-ready g c = (
  refl,
  refl,
  rw c.requires.unopened (no_blocks g.T.Taker.took g.T.Taker.failed_in g.met.T.Taker.laws _ _ c.args.blocks.now.events c.args.blocks.now.taker
      c.args.out.now c.requires.fresh),
)

pub returns-in_err-walk_between-clause-part : goal.returns-in_err-walk_between-clause-part
returns-in_err-walk_between-clause-part g c = λ told fails.
    let p = err_from_is_err_and c.from_residual.result c.from_residual.ensures.1 in
    c.in_err-walk_between.ensures.part (same_fault _ _ _ _ p.1 p.2 fails) told

pub returns-in_err-walk_between-clause-front : goal.returns-in_err-walk_between-clause-front
returns-in_err-walk_between-clause-front g c = λ told fails.
    let p = err_from_is_err_and c.from_residual.result c.from_residual.ensures.1 in
    let front = c.in_err-walk_between.ensures.front (same_fault _ _ _ _ p.1 p.2 fails) in
    let more = front.2 told in
    let blocks = c.args.blocks.now in
    rw more.1 (blocks_first g.T.Taker.took g.T.Taker.failed_in g.met.T.Taker.laws blocks.table.now blocks.version _ _ front.0 blocks.taker c.args.out.now _ _
    front.1.2 more.0)

pub end_blocks-requires : goal.end_blocks-requires
end_blocks-requires g c =
    let all = c.in_ok-walk_between.ensures.all in
    record { stands = (c.args.blocks.now.taker, c.args.out.now, all.0, rw (all.1.0, all.1.1) all.1.2) }

pub returns-clause-all : goal.returns-clause-all
returns-clause-all g c = λ told.
    let all = c.in_ok-walk_between.ensures.all in
    rw (all.1.0, all.1.1, all.3 told) at (c.end_blocks.ensures.all c.args.blocks.now.taker c.args.out.now all.0 (rw (all.1.0, all.1.1) all.1.2))

pub returns-clause-part : goal.returns-clause-part
returns-clause-part g c = λ told is.
    let all = c.in_ok-walk_between.ensures.all in
    rw (all.1.0, all.1.1, all.3 told) at (where_failed c.end_blocks.result _ is
    (c.end_blocks.ensures.part c.args.blocks.now.taker c.args.out.now all.0 (rw (all.1.0, all.1.1) all.1.2)))

pub returns-clause-front : goal.returns-clause-front
returns-clause-front g c = λ told is. absurd (c.end_blocks.ensures.fault is)

pub returns-clause-write_unfailed : goal.returns-clause-write_unfailed
returns-clause-write_unfailed g c = λ other.
    unfailed c.end_blocks.result c.end_blocks.ensures.no_fault c.end_blocks.ensures.fault other ∙ c.in_ok-walk_between.ensures.write_unfailed (λ e. absurd (cc))

pub returns-clause-bounded : goal.returns-clause-bounded
returns-clause-bounded g c = λ told.
    let all = c.in_ok-walk_between.ensures.all in
    anyway c.end_blocks.result (rw (all.3 told) at all.2)

pub returns-clause-reads : goal.returns-clause-reads
returns-clause-reads g c = rw c.in_ok-walk_between.ensures.all.1.0 at c.end_blocks.ensures.reads

pub returns-clause-table : goal.returns-clause-table
returns-clause-table g c = anyway c.end_blocks.result (c.end_blocks.ensures.table ∙ c.in_ok-walk_between.ensures.all.1.0)

pub returns-clause-version : goal.returns-clause-version
returns-clause-version g c = anyway c.end_blocks.result (c.end_blocks.ensures.version ∙ c.in_ok-walk_between.ensures.all.1.1)
