use Rattle.std.proofs.Common.{◌≡◌, Result, Err, sym, ◌∙◌, ap, arith}
use Rattle.std.proofs.lemmas.Grind.{elements}
use Rattle.std.proofs.lemmas.Result.{err_from_is_err_and}
use Rattle.fdr_ring.specs.declared.ring.Ring.{Ring}
use Rattle.fdr_recover.specs.Images.{blocks_between}
use Rattle.fdr_twin.specs.Pair.{disk_on}
use Rattle.fdr_recover.proofs.Between.{between_none}
use Rattle.fdr_pair.specs.declared.bring.BringFault.{BringFault}
use Rattle.fdr_pair.proofs.PairWorks.{content_here, content_then}
use Rattle.fdr_pair.proofs.Bringing.{brought_none, brings_here, brought_next, brings_next, brings_missing}
use Rattle.fdr_pair.proofs.Bringing.{found_there, brings_all, brought_all, brought_so_far, behind_still}
use Rattle.fdr_pair.proofs.bring.bring_up.Goals as goal

-- the fault that is handed on
same_fault : (r : Result Ring BringFault) (fault handed wanted : BringFault) → r ≡ Err handed → handed ≡ fault → r ≡ Err wanted
    → ◌≡◌ {A = Result Ring BringFault} (Err fault) (Err wanted)
same_fault r fault handed wanted is same wants = ap Err (sym same) ∙ sym is ∙ wants

pub loop-seq-init : goal.loop-seq-init
loop-seq-init g c = record {
  end = omega (arith, c.next-seq.ensures.number);
  next = sym c.next-seq.ensures.number;
  brought = brought_none _ _ _ _ _ (between_none _ _ _ _ (omega (arith, c.next-seq.ensures.number))) c.requires.ring;
  lead = content_here _;
  work = brings_here _ _ _ _ _ (g.met.T.Twin.sound_pair c.args.twin.now) c.requires.ring.settled;
}

pub returns-in_err-level-clause-work : goal.returns-in_err-level-clause-work
returns-in_err-level-clause-work g c =
    let inv = c.loop-seq.invariant in
    brings_missing _ _ _ _ _ _ _ _ _ (g.met.T.Twin.sound_pair c.loop-seq.twin) (omega (arith, c.loop-seq.auto.seq, c.next-seq.ensures.number))
    (omega (arith, c.loop-seq-test.true)) c.requires.end c.requires.near c.requires.ring.sure.ring.next inv.next inv.lead inv.brought inv.work
    c.bring_block.ensures.work

pub returns-in_err-level-clause-not_found : goal.returns-in_err-level-clause-not_found
returns-in_err-level-clause-not_found g c r fails =
    let inv = c.loop-seq.invariant in
    let p = err_from_is_err_and c.from_residual.result c.from_residual.ensures.1 in
    let at = c.in_err-level.ensures.not_found r (same_fault _ _ _ _ p.1 p.2 fails) in
    let number : r.next ≡ c.loop-seq.seq = ap (λ (x : Ring). x.next) at.0 ∙ inv.next in (
      omega (arith, number, c.loop-seq.auto.seq, c.next-seq.ensures.number),
      omega (arith, number, c.loop-seq-test.true),
      brought_so_far _ _ _ _ _ (λ n. blocks_between c.args.ring.header (disk_on c.args.lead (g.T.Twin.pair c.args.twin.now)).held c.args.ring.next n)
          _ _ _ _ inv.lead inv.brought (g.met.T.Twin.sound_pair c.loop-seq.twin) at.1 number,
      λ told. found_there _ _ _ _ _ _ _ _ (g.T.Twin.pair c.bring_block.new.twin) (g.met.T.Twin.sound_pair c.loop-seq.twin)
          (omega (arith, c.loop-seq.auto.seq, c.next-seq.ensures.number)) (omega (arith, c.loop-seq-test.true)) c.requires.end c.requires.near
          c.requires.ring.sure.ring.next inv.next inv.lead inv.brought told (at.2 told),
    )

pub returns-in_err-level-clause-still_behind : goal.returns-in_err-level-clause-still_behind
returns-in_err-level-clause-still_behind g c fails told =
    let inv = c.loop-seq.invariant in
    let p = err_from_is_err_and c.from_residual.result c.from_residual.ensures.1 in
    behind_still _ _ _ _ _ _ _ _ _ _ inv.brought inv.next (omega (arith, c.loop-seq-test.true))
    (c.in_err-level.ensures.unmoved (same_fault _ _ _ _ p.1 p.2 fails)) told

pub loop-seq-preserved : goal.loop-seq-preserved
loop-seq-preserved g c =
    let inv = c.loop-seq.invariant in
    record {
      end = omega (arith, c.loop-seq-test.true);
      next = omega (arith, c.in_ok-level.ensures.next, inv.next);
      brought = brought_next _ _ _ _ _ _ _ _ _ (g.met.T.Twin.sound_pair c.loop-seq.twin)
          (omega (arith, c.loop-seq.auto.seq, c.next-seq.ensures.number)) (omega (arith, c.loop-seq-test.true)) c.requires.end c.requires.near
          c.requires.ring.sure.ring.next inv.next inv.lead inv.brought c.in_ok-level.level c.in_ok-level.ensures.brought;
      lead = content_then _ _ _ inv.lead c.bring_block.ensures.lead;
      work = brings_next _ _ _ _ _ _ _ _ _ (g.met.T.Twin.sound_pair c.loop-seq.twin)
          (omega (arith, c.loop-seq.auto.seq, c.next-seq.ensures.number)) (omega (arith, c.loop-seq-test.true)) c.requires.end c.requires.near
          c.requires.ring.sure.ring.next inv.next inv.lead inv.brought inv.work c.bring_block.ensures.work;
    }

pub returns-clause-brought : goal.returns-clause-brought
returns-clause-brought g c =
    brought_all _ _ c.args.ring _ _ _ _ (g.met.T.Twin.sound_pair c.loop-seq.twin) (omega (arith, c.loop-seq.invariant.end, c.loop-seq-test.false))
    c.requires.end c.requires.near c.requires.ring.sure.ring.next c.loop-seq.level c.loop-seq.invariant.brought

pub returns-clause-work : goal.returns-clause-work
returns-clause-work g c =
    brings_all _ _ c.args.ring _ _ _ _ (g.met.T.Twin.sound_pair c.loop-seq.twin) (omega (arith, c.loop-seq.invariant.end, c.loop-seq-test.false)) c.requires.end
    c.requires.near c.requires.ring.sure.ring.next c.loop-seq.invariant.work

pub returns-in_err-level-clause-lead : goal.returns-in_err-level-clause-lead
returns-in_err-level-clause-lead c = grind (arith, elements) steps 2000000
