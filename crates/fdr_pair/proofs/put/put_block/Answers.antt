use Rattle.std.proofs.Common.{◌∙◌, ℕ, ap, inr, ◌+◌, subst}
use Rattle.std.proofs.lemmas.Result.{IfErr-at_err, IfOk-weaker, on_err_weaker}
use Rattle.fdr_io.specs.Faults.{Rose}
use Rattle.fdr_pair.proofs.NearDecks.{near_prepared, near_put}
use Rattle.fdr_pair.proofs.Puts.{exact_by, quiet_prepared, quiet_put_by, put_by}
use Rattle.fdr_slot.proofs.HeaderLemmas.{in_limits-is}
use Rattle.fdr_pair.proofs.put.put_block.Goals as goal

pub returns-in_err-prepared-clause-disk_work : goal.returns-in_err-prepared-clause-disk_work
returns-in_err-prepared-clause-disk_work g c = quiet_prepared _ _ _ _ _ _ _ c.prepare.ensures.changes.disk_work

pub returns-clause-only : goal.returns-clause-only
returns-clause-only g c = on_err_weaker c.commit.result inr c.commit.ensures.only

pub returns-clause-seq_end : goal.returns-clause-seq_end
returns-clause-seq_end g c ends = let fails = IfErr-at_err _ ends c.commit.ensures.only in absurd (cc)

pub returns-clause-ring : goal.returns-clause-ring
returns-clause-ring g c =
    let prepared = c.in_ok-prepared.ensures.prepared in
    IfOk-weaker c.commit.result _ _ (λ r ring. (ring.0 ∙ prepared.0, ring.1 ∙ ap (λ n. n + 1) prepared.1, ring.2 ∙ prepared.2)) c.commit.ensures.ring

pub returns-clause-put : goal.returns-clause-put
returns-clause-put g c =
    let keeps = c.prepare.ensures.changes.keeps in
    let prepared = c.in_ok-prepared.ensures in
    IfOk-weaker c.commit.result _ _
    (λ r added told. put_by _ _ _ _ _ _ _ _ (keeps told).run (prepared.placed.block told) prepared.prepared.0 prepared.prepared.1 (added told))
    c.commit.ensures.added

pub returns-clause-exact : goal.returns-clause-exact
returns-clause-exact g c =
    let prepared = c.in_ok-prepared.ensures in
    let slots = (in_limits-is c.args.ring.header c.args.ring.limits).least_slots in
    IfOk-weaker c.commit.result _ _
    (λ r added told whole is. exact_by _ _ _ _ _ _ _ _ (prepared.placed.run told) (prepared.placed.block told) prepared.prepared.0 prepared.prepared.1
    (added told) slots whole is)
    c.commit.ensures.added

pub returns-clause-extent : goal.returns-clause-extent
returns-clause-extent g c = c.commit.ensures.changes.extent ∙ c.prepare.ensures.changes.extent

pub returns-clause-disk_work : goal.returns-clause-disk_work
returns-clause-disk_work g c =
    quiet_put_by _ _ _ _ _ _ _ _ _ _ (g.met.D.Deck.sound c.args.deck.now) c.prepare.ensures.changes.disk_work c.prepare.ensures.changes.keeps
    c.in_ok-prepared.ensures.placed.block c.in_ok-prepared.ensures.placed.settled c.in_ok-prepared.ensures.prepared.0 c.in_ok-prepared.ensures.prepared.1
    c.commit.ensures.changes.disk_work

pub returns-clause-succeeds : goal.returns-clause-succeeds
returns-clause-succeeds g c =
    let placed = c.in_ok-prepared.ensures.placed in
    IfOk-weaker c.commit.result _ _ (λ r added. record { fresh = added.fresh; disk_faults = added.disk_faults ∙ placed.succeeds.disk_faults })
    c.commit.ensures.succeeds

pub returns-clause-cause : goal.returns-clause-cause
returns-clause-cause g c fails =
    subst (λ (n : ℕ). Rose n (g.D.Deck.state c.commit.new.deck).disk_faults) c.in_ok-prepared.ensures.placed.succeeds.disk_faults
    (IfErr-at_err _ fails c.commit.ensures.cause)

pub returns-clause-rest : goal.returns-clause-rest
returns-clause-rest g c =
    g.met.D.Deck.rest_then c.args.deck.now c.prepare.new.deck c.commit.new.deck c.prepare.ensures.rest c.commit.ensures.rest

pub returns-in_err-prepared-clause-near : goal.returns-in_err-prepared-clause-near
returns-in_err-prepared-clause-near g c settled told =
    near_prepared _ _ _ _ _ _ (g.met.D.Deck.sound c.args.deck.now) (g.met.D.Deck.sound c.prepare.new.deck) settled
    c.prepare.ensures.changes.disk_work

pub returns-clause-near : goal.returns-clause-near
returns-clause-near g c settled told =
    let placed = c.in_ok-prepared.ensures.placed in
    near_put _ _ _ _ _ _ _ _ _ _ (g.met.D.Deck.sound c.args.deck.now) (g.met.D.Deck.sound c.prepare.new.deck) (g.met.D.Deck.sound c.commit.new.deck)
    settled c.requires.fact told c.prepare.ensures.changes.disk_work c.prepare.ensures.changes.keeps placed.block placed.settled placed.succeeds
    c.in_ok-prepared.ensures.prepared.0 c.in_ok-prepared.ensures.prepared.1 c.commit.ensures.changes.disk_work
