use Rattle.std.proofs.Common.{◌≡◌, ◌++◌, ◌+◌, [], Err, refl, sym, ap, ◌∙◌, arith, rules}
use Rattle.std.specs.Prelude.{IsErrOf, IsTrue}
use Rattle.std.specs.List.{cons_option}
use Rattle.fdr_deck.proofs.Composing.{refusal}
use Rattle.fdr_recover.specs.Images.{block_numbered, blocks_between}
use Rattle.fdr_recover.specs.Payloads.{TakesAll, TakesFront}
use Rattle.fdr_recover.proofs.Looking.{Looks-here, Looks-then, looks}
use Rattle.fdr_recover.specs.declared.walk.BlocksFault.TheVariants as fault
use Rattle.fdr_recover.proofs.Between.{between_none, between_count, between_more, between_split, length-payloads-append}
use Rattle.fdr_recover.proofs.walk.walk_between.Goals as goal

pub loop-number-init : goal.loop-number-init
loop-number-init g c = record {
  looks = Looks-here _ _ (g.met.D.Deck.sound c.args.deck.now);
  rest = g.met.D.Deck.rest_here c.args.deck.now;
  disk_work = refl;
  no_disk_fault = refl;
  end = omega arith;
  taken = (
    [],
    c.requires.ready,
    omega arith,
    λ told. sym (between_none c.args.h.now (g.D.Deck.state c.args.deck.now).held c.args.first c.args.first (omega arith)),
  );
}

pub walk_block-requires-clause-whole : goal.walk_block-requires-clause-whole
walk_block-requires-clause-whole g c = omega (arith, c.requires.whole, c.loop-number.invariant.looks.extent)

pub walk_block-requires-clause-stands : goal.walk_block-requires-clause-stands
walk_block-requires-clause-stands g c =
    let inv = c.loop-number.invariant.taken in
    let limits = c.requires.limits in (
      c.args.taker.now,
      c.args.out.now,
      inv.0,
      inv.1,
      omega (
        arith,
        inv.2,
        c.loop-number-test.true,
        c.loop-number.auto.number,
        c.requires.room,
        limits.most_slots,
        limits.most_payload,
      ),
    )

pub returns-in_err-walk_block : goal.returns-in_err-walk_block
returns-in_err-walk_block g c =
    let deck = g.met.D.Deck in
    let was = c.loop-number.invariant in
    let h = c.args.h.now in
    let held = (g.D.Deck.state c.args.deck.now).held in
    let first = c.args.first in
    let next = c.args.next in
    let number = c.loop-number.number in
    let low = c.loop-number.auto.number in
    let inv = c.loop-number.invariant.taken in
    let fails = c.in_err-walk_block.ensures in
    let part : IsErrOf {T = Unit {0}} (Err c.in_err-walk_block.field-0.0) fault.Taker → IsTrue g.D.Deck.tells.bytes
    → g.T.BlockTaker.failed_in c.args.taker.now c.args.out.now (blocks_between h held first next) c.walk_block.new.out =
    λ is told. let failed = fails.part c.args.taker.now c.args.out.now inv.0 inv.1 is in
    let more : failed.0 ≡ cons_option (block_numbered h held number) [] = rw c.loop-number.invariant.looks.disk.held at failed.2 told in
    let read = ap (λ xs. xs ++ failed.0) (inv.3 told) ∙ ap (λ xs. blocks_between h held first number ++ xs) more
    ∙ sym (between_more h held first number (omega (arith, low))) in
    let whole = between_split h held first (number + 1) next (omega (arith, low)) (omega (arith, c.loop-number-test.true)) in
    rw (ap (λ xs. xs ++ blocks_between h held (number + 1) next) read ∙ sym whole) at (failed.1 (blocks_between h held (number + 1) next)) in
    let front : IsErrOf {T = Unit {0}} (Err c.in_err-walk_block.field-0.0) fault.Disk → TakesFront g.D.Deck.tells (blocks_between h held first next)
    (λ blocks. g.T.BlockTaker.has_taken c.args.taker.now c.args.out.now blocks c.walk_block.new.taker c.walk_block.new.out) =
    λ is. (
      inv.0,
      rw (fails.same is, fails.unwritten is) inv.1,
      λ told. (
        blocks_between h held number next,
        between_split h held first number next (omega (arith, low)) (omega (arith, c.loop-number-test.true))
            ∙ ap (λ xs. xs ++ blocks_between h held number next) (sym (inv.3 told)),
      ),
    ) in
    rw (refusal _ _ c.from_residual.ensures.1, ← was.no_disk_fault, ← was.disk_work)
    (search (rules, looks, part, front, fails.disk_fault, fails.disk_unfailed, fails.write_fault, fails.write_unfailed, deck.sound, deck.rest_then, fails, was))

pub loop-number-preserved : goal.loop-number-preserved
loop-number-preserved g c =
    let h = c.args.h.now in
    let held = (g.D.Deck.state c.args.deck.now).held in
    let first = c.args.first in
    let number = c.loop-number.number in
    let inv = c.loop-number.invariant.taken in
    let all = c.in_ok-walk_block.ensures.all c.args.taker.now c.args.out.now inv.0 inv.1 in
    record {
      looks = Looks-then _ _ _ _ (g.met.D.Deck.sound c.args.deck.now) c.loop-number.invariant.looks c.walk_block.ensures.looks;
      rest = g.met.D.Deck.rest_then c.args.deck.now _ _ c.loop-number.invariant.rest c.walk_block.ensures.rest;
      disk_work = c.in_ok-walk_block.ensures.disk_work ∙ c.loop-number.invariant.disk_work;
      no_disk_fault = c.in_ok-walk_block.ensures.no_disk_fault ∙ c.loop-number.invariant.no_disk_fault;
      end = omega (arith, c.loop-number-test.true);
      taken = (
        inv.0 ++ all.0,
        all.1,
        omega (arith, length-payloads-append inv.0 all.0, inv.2, all.2, c.requires.limits.most_payload, c.loop-number.auto.number),
        λ told.
            ap (λ xs. xs ++ all.0) (inv.3 told)
            ∙ ap (λ xs. blocks_between h held first number ++ xs) (rw c.loop-number.invariant.looks.disk.held at all.3 told)
            ∙ sym (between_more h held first number (omega (arith, c.loop-number.auto.number))),
      );
    }

pub returns : goal.returns
returns g c =
    let h = c.args.h.now in
    let held = (g.D.Deck.state c.args.deck.now).held in
    let first = c.args.first in
    let end = c.loop-number.invariant.end in
    let inv = c.loop-number.invariant.taken in
    let all : TakesAll g.D.Deck.tells (blocks_between h held first c.args.next)
    (λ blocks. g.T.BlockTaker.has_taken c.args.taker.now c.args.out.now blocks c.loop-number.taker c.loop-number.out) = (
      inv.0,
      inv.1,
      omega (arith, inv.2, c.requires.room, end, c.requires.limits.most_slots),
      λ told. inv.3 told ∙ between_count h held first c.loop-number.number c.args.next (omega (arith, end, c.loop-number-test.false)),
    ) in
    search (rules, all, c.loop-number.invariant)
