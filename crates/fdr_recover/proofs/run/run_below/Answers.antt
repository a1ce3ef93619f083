use Rattle.std.proofs.Common.{◌≡◌, ◌≤◌, ⊎_elim, ◌-◌, ◌∙◌, ◌+◌, length, Some, None, refl, sym, ap, subst, arith, rules}
use Rattle.std.specs.Prelude.{IsSome, IsTrue, option_map}
use Rattle.std.proofs.lemmas.Bool.{cases_lt}
use Rattle.fdr_deck.proofs.Composing.{refusal}
use Rattle.fdr_slot.specs.Places.{slot_number_of}
use Rattle.fdr_slot.proofs.HeadLemmas.{session_in-first}
use Rattle.fdr_recover.specs.Images.{block_of, block_in, block_numbered, blocks_below, session_of_slot, session_at}
use Rattle.fdr_recover.specs.Stretches.{last_session}
use Rattle.fdr_recover.proofs.Looking.{Looks-then, looks}
use Rattle.fdr_recover.proofs.Walking.{AllStand-more, walked_down, stops_at, stops_below}
use Rattle.fdr_recover.proofs.Sessions.{last_session-at, last_session-none}
use Rattle.fdr_recover.proofs.run.run_below.Given.{Over}
use Rattle.fdr_recover.proofs.run.run_below.Goals.{In_default, After-loop-first, then-first-next, else-first-next}
use Rattle.fdr_recover.proofs.run.run_below.Goals as goal

pub returns-in_err-head : goal.returns-in_err-head
returns-in_err-head g c =
    rw (refusal _ _ c.from_residual.ensures.1, ← c.loop-first.invariant.faults)
    (search (rules, looks, g.met.D.Deck.sound, g.met.D.Deck.rest_then, c.in_err-head.ensures, c.loop-first.invariant))

-- the slot below the blocks that were found has another number
none : (g : Over) (c : In_default g) → IsTrue g.D.Deck.tells.bytes
    → block_numbered c.args.h.now (g.D.Deck.state c.args.deck.now).held (c.loop-first.first - 1) ≡ None
none g c told =
    let h = c.args.h.now in
    let number = c.loop-first.first - 1 in
    ap (λ image. block_numbered h image number) (sym c.loop-first.invariant.looks.disk.held) ∙ c.in_ok-head.ensures.held told
    ∙ ap (option_map (block_of h (g.D.Deck.state c.loop-first.deck).held (slot_number_of h.slots number))) c.in_default.is

count : (g : Over) (c : In_default g) → IsTrue g.D.Deck.tells.bytes
    → c.loop-first.first + length (blocks_below c.args.h.now (g.D.Deck.state c.args.deck.now).held c.args.next) ≡ c.args.next
unfolding block_numbered blocks_below
count g c told =
    let n = c.args.h.now.slots in
    let slots = block_in c.args.h.now (g.D.Deck.state c.args.deck.now).held in
    let first = c.loop-first.first in
    walked_down n slots first c.args.next c.loop-first.invariant.order (c.loop-first.invariant.stand told)
    (stops_at n slots first (omega arith) (none g c told))

session : (g : Over) (c : In_default g) → IsTrue g.D.Deck.tells.bytes
    → c.loop-first.session ≡ last_session (blocks_below c.args.h.now (g.D.Deck.state c.args.deck.now).held c.args.next)
session g c told =
    let h = c.args.h.now in
    let held = (g.D.Deck.state c.args.deck.now).held in
    let first = c.loop-first.first in
    let inv = c.loop-first.invariant in
    let last = last_session-at h held c.args.next (omega (arith, inv.order, c.loop-first-test.true)) in
    ⊎_elim
    (λ less. inv.session told less ∙ sym last)
    (λ more. let same : first ≡ c.args.next = omega (arith, more, inv.order) in
    inv.unread same ∙ sym (last ∙ ap (λ k. session_at h held (k - 1)) (sym same) ∙ ap session_of_slot (none g c told)))
    (cases_lt first c.args.next)

pub returns-in_default : goal.returns-in_default
returns-in_default g c =
    let room : c.args.next ≤ c.loop-first.first + c.args.h.now.slots = omega arith in
    rw (← c.loop-first.invariant.faults)
    (search (rules, looks, count g c, session g c, room, g.met.D.Deck.sound, g.met.D.Deck.rest_then, c.in_ok-head.ensures, c.loop-first.invariant))

pub loop-first-preserved : goal.loop-first-preserved
unfolding block_numbered
loop-first-preserved g c =
    let h = c.args.h.now in
    let held = (g.D.Deck.state c.args.deck.now).held in
    let mid = (g.D.Deck.state c.loop-first.deck).held in
    let first = c.loop-first.first in
    let next = c.args.next in
    let inv = c.loop-first.invariant in
    let slot = slot_number_of h.slots (first - 1) in
    let some : IsTrue g.D.Deck.tells.bytes → block_numbered h held (first - 1) ≡ Some (block_of h mid slot c.in-Some.head) = λ told.
    ap (λ image. block_numbered h image (first - 1)) (sym inv.looks.disk.held)
    ∙ c.in_ok-head.ensures.held told
    ∙ ap (option_map (block_of h mid slot)) c.in-Some.is in
    record {
      looks = Looks-then _ _ _ _ (g.met.D.Deck.sound c.args.deck.now) inv.looks c.head_numbered.ensures.looks;
      faults = c.in_ok-head.ensures.succeeds.disk_faults ∙ inv.faults;
      fresh = λ was. c.in_ok-head.ensures.succeeds.fresh;
      rest = g.met.D.Deck.rest_then _ _ _ inv.rest c.head_numbered.ensures.rest;
      order = omega arith;
      above = omega arith;
      stand = λ told.
          AllStand-more h.slots (block_in h held) first next (omega arith) (inv.stand told) (subst (λ o. IsSome o) (sym (some told)) refl);
      unread = λ same. absurd (omega (arith, same, inv.order, c.loop-first-test.true));
      session = λ told less. elim c.if-first-next.branch [
        | then-first-next w ↦ w.session-is ∙ w.session_in-session.ensures ∙ ap session_of_slot (sym (some told))
            ∙ ap (λ k. session_at h held (k - 1)) w.if-first-next.true
        | else-first-next w ↦ w.session-is ∙ inv.session told (omega (arith, w.if-first-next.false, inv.order))
      ];
      old_version = λ old. elim c.if-first-next.branch [
        | then-first-next w ↦ w.session-is ∙ w.session_in-session.ensures ∙ session_in-first h c.in-Some.head old
        | else-first-next w ↦ w.session-is ∙ inv.old_version old
      ];
    }

-- all slots were looked at
count_all : (g : Over) (c : After-loop-first g) → IsTrue g.D.Deck.tells.bytes
    → c.loop-first.first + length (blocks_below c.args.h.now (g.D.Deck.state c.args.deck.now).held c.args.next) ≡ c.args.next
unfolding blocks_below
count_all g c told =
    let n = c.args.h.now.slots in
    let slots = block_in c.args.h.now (g.D.Deck.state c.args.deck.now).held in
    walked_down n slots c.loop-first.first c.args.next c.loop-first.invariant.order (c.loop-first.invariant.stand told)
    (stops_below n slots c.loop-first.first c.args.next (omega arith) (omega arith) (omega arith) (c.loop-first.invariant.stand told))

pub returns : goal.returns
returns g c =
    let h = c.args.h.now in
    let held = (g.D.Deck.state c.args.deck.now).held in
    let first = c.loop-first.first in
    let next = c.args.next in
    let inv = c.loop-first.invariant in
    let last : IsTrue g.D.Deck.tells.bytes → c.loop-first.session ≡ last_session (blocks_below h held next) =
    λ told. ⊎_elim
    (λ less. inv.session told less ∙ sym (last_session-at h held next (omega (arith, less))))
    (λ more. let same : first ≡ next = omega (arith, more, inv.order) in
    let empty : next ≡ 0 = omega arith in
    inv.unread same ∙ sym (last_session-none h held next empty))
    (cases_lt first next) in
    let room : next ≤ first + h.slots = omega arith in
    search (rules, count_all g c, last, room, inv.old_version, inv.fresh, inv)
