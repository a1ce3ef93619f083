use Rattle.std.proofs.Common.{◌≡◌, ◌∙◌, ap, arith, rules}
use Rattle.std.specs.Prelude.{IsTrue}
use Rattle.fdr_deck.proofs.Composing.{refusal}
use Rattle.fdr_recover.specs.Blocks.{number_after, next_among}
use Rattle.fdr_recover.specs.Images.{block_in, next_of}
use Rattle.fdr_recover.proofs.Looking.{Looks-then, looks}
use Rattle.fdr_recover.proofs.Nexts.{next_more}
use Rattle.fdr_recover.proofs.run.next_number.Goals as goal

pub returns-in_err-number_after : goal.returns-in_err-number_after
returns-in_err-number_after g c =
    rw (refusal _ _ c.from_residual.ensures.1, ← c.loop-slot.invariant.faults)
    (search (rules, looks, g.met.D.Deck.sound, g.met.D.Deck.rest_then, c.in_err-number_after.ensures, c.loop-slot.invariant))

pub loop-slot-preserved : goal.loop-slot-preserved
loop-slot-preserved g c = record {
  looks = Looks-then _ _ _ _ (g.met.D.Deck.sound c.args.deck.now) c.loop-slot.invariant.looks c.number_after.ensures.looks;
  faults = c.in_ok-number_after.ensures.succeeds.disk_faults ∙ c.loop-slot.invariant.faults;
  fresh = λ some. c.in_ok-number_after.ensures.succeeds.fresh;
  rest = g.met.D.Deck.rest_then _ _ _ c.loop-slot.invariant.rest c.number_after.ensures.rest;
  bound = omega (arith, c.in_ok-number_after.ensures.bound);
  next = λ told.
      next_more (block_in c.args.h.now (g.D.Deck.state c.args.deck.now).held) c.loop-slot.slot c.loop-slot.next c.in_ok-number_after.field-0 c.max-next.result
      c.max-next.ensures
      (c.in_ok-number_after.ensures.number told ∙ ap (λ held. number_after (block_in c.args.h.now held c.loop-slot.slot)) c.loop-slot.invariant.looks.disk.held)
      (c.loop-slot.invariant.next told);
}

pub returns : goal.returns
unfolding next_of
returns g c =
    let all : c.loop-slot.slot ≡ c.args.h.now.slots = omega arith in
    let next : IsTrue g.D.Deck.tells.bytes → c.loop-slot.next ≡ next_of c.args.h.now (g.D.Deck.state c.args.deck.now).held =
    λ told. c.loop-slot.invariant.next told ∙ ap (λ k. next_among k (block_in c.args.h.now (g.D.Deck.state c.args.deck.now).held)) all in
    search (rules, next, c.loop-slot.invariant.fresh, c.loop-slot.invariant)
