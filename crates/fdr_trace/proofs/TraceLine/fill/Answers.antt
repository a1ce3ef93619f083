use Rattle.std.proofs.Common.{◌≡◌, ◌<◌, ℕ, List, [], length, ◌∙◌, refl, arith}
use Rattle.std.proofs.lemmas.Grind.{common_steps}
use Rattle.std.proofs.lemmas.List.{append-nil}
use Rattle.fdr_trace.proofs.Pulling.{PullsUntilDecided-none}
use Rattle.fdr_trace.proofs.PullMoments.{KeepsDeck-here, KeepsDeck-then, KeepsDeck-kept, PullsForRecord-none}
use Rattle.fdr_trace.proofs.Filling.{HasPulled-piece, IsRefused-end, IsCutOff-failed}
use Rattle.fdr_trace.proofs.TraceLine.fill.Goals as goal

waits_less : (n : ℕ) (xs : List ℕ) → n ≡ length xs → n < 16 → length xs < 16
waits_less n xs is less = omega arith

pub loop-self-init : goal.loop-self-init
loop-self-init g c =
    let sound = g.met.D.Deck.sound c.args.deck.now in
    record {
      filled = λ bytes records reads few. (
        [],
        PullsUntilDecided-none _ _ bytes,
        rw append-nil reads,
        PullsForRecord-none _ _ bytes records sound,
      );
      no_fault = refl;
      deck = KeepsDeck-here _ _ sound;
      rest = g.met.D.Deck.rest_here c.args.deck.now;
    }

pub loop-self-preserved : goal.loop-self-preserved
loop-self-preserved g c =
    let inv = c.loop-self.invariant in
    let pull = c.pull.ensures in
    let pulled = c.in-Ok.ensures.pulled in
    let waits = waits_less c.waiting.result c.loop-self.self.waiting c.waiting.ensures c.loop-self-test.true in
    record {
      filled = λ bytes records reads few.
          HasPulled-piece _ _ _ _ c.loop-self.self c.pull.new.self bytes pulled.0 records (g.met.D.Deck.sound c.args.deck.now) inv.deck
          (inv.filled bytes records reads few) waits few pulled.3 pull.disk pull.time pull.moments pulled.2 pull.kept_time pull.kept_count;
      no_fault = pulled.3.faults ∙ inv.no_fault;
      deck = KeepsDeck-then _ _ _ _ inv.deck pull.disk pull.announced (λ more. c.in-Ok.ensures.fresh) pull.time;
      rest = g.met.D.Deck.rest_then _ _ _ inv.rest pull.rest;
    }

pub returns-in-Ok-eq0 : goal.returns-in-Ok-eq0
returns-in-Ok-eq0 g c =
    let inv = c.loop-self.invariant in
    let pull = c.pull.ensures in
    let pulled = c.in-Ok-eq0.ensures.pulled in
    let nothing : length pulled.0 ≡ 0 = omega (arith, pulled.1, c.in-Ok-eq0.field-0-is) in
    let waits = waits_less c.waiting.result c.loop-self.self.waiting c.waiting.ensures c.loop-self-test.true in
    let deck = KeepsDeck-then _ _ _ _ inv.deck pull.disk pull.announced (λ more. c.in-Ok-eq0.ensures.fresh) pull.time in
    record {
      filled = λ bytes records reads few.
          let now = HasPulled-piece _ _ _ _ c.loop-self.self c.pull.new.self bytes pulled.0 records (g.met.D.Deck.sound c.args.deck.now) inv.deck
          (inv.filled bytes records reads few) waits few pulled.3 pull.disk pull.time pull.moments pulled.2 pull.kept_time pull.kept_count in (
            now.0,
            now.1,
            rw c.refused.ensures (IsRefused-end _ _ c.loop-self.self c.pull.new.self _ pulled.0 records now.2 waits few pulled.2 nothing
                (pulled.3.end nothing)),
            now.3,
          );
      no_fault = λ other. pulled.3.faults ∙ inv.no_fault;
      disk = deck.disk;
      announced = deck.announced;
      fresh = deck.fresh;
      time = deck.time;
      rest = g.met.D.Deck.rest_then _ _ _ inv.rest pull.rest;
    }

pub returns-in-Err : goal.returns-in-Err
returns-in-Err g c =
    let inv = c.loop-self.invariant in
    let pull = c.pull.ensures in
    let deck = KeepsDeck-kept _ _ _ _ inv.deck pull.disk pull.announced c.in-Err.ensures.kept pull.time in
    record {
      filled = λ bytes records reads few.
          IsCutOff-failed _ _ _ _ c.loop-self.self bytes records (g.met.D.Deck.sound c.args.deck.now) inv.deck (inv.filled bytes records reads few)
          (waits_less c.waiting.result c.loop-self.self.waiting c.waiting.ensures c.loop-self-test.true) few c.in-Err.ensures.kept pull.monotone
          c.in-Err.ensures.cause pull.disk pull.time pull.moments;
      no_fault = λ other. absurd (other refl);
      disk = deck.disk;
      announced = deck.announced;
      fresh = deck.fresh;
      time = deck.time;
      rest = g.met.D.Deck.rest_then _ _ _ inv.rest pull.rest;
    }

pub returns-clause-filled : goal.returns-clause-filled
returns-clause-filled g c = λ bytes records reads few.
    let inv = c.loop-self.invariant.filled bytes records reads few in
    (inv.0, inv.1, record { reads = inv.2; waits = omega (arith, c.waiting.ensures, c.loop-self-test.false) }, inv.3)

pub loop-self-smaller : goal.loop-self-smaller
loop-self-smaller c = grind (arith, common_steps) steps 2000000
