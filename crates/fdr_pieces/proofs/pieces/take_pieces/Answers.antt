use Rattle.std.proofs.Common.{rules, ◌≡◌, ◌++◌, take, refl, subst, ◌∙◌, arith}
use Rattle.std.specs.Prelude.{ℕ}
use Rattle.std.proofs.lemmas.List.{length-take, take-append-drop, take_all}
use Rattle.std.proofs.lemmas.Result.{err_from_is_err_and}
use Rattle.fdr_io.specs.Faults.{Rose}
use Rattle.fdr_pieces.specs.Limits.{most_input_bytes}
use Rattle.fdr_pieces.specs.Pieces.{PullsPieces, before_last, last_piece}
use Rattle.fdr_pieces.proofs.Pulling.{LeavesStops-pull, before_piece, piece_at_last, pieces_then, pieces_stay, pieces_ended, taken_of_piece}
use Rattle.fdr_pieces.proofs.Pulling.{ends_at_end, ends_at_fault, ends_too_long, within_limit, taken_within, more_than_limit, left_after, taken_bounded}
use Rattle.fdr_pieces.proofs.pieces.take_pieces.Given.{Over}
use Rattle.fdr_pieces.proofs.pieces.take_pieces.Goals.{In-Ok, In-Ok-eq0, In-Err, After-take}
use Rattle.fdr_pieces.proofs.pieces.take_pieces.Goals as goal

-- with the piece that came
pieces : (g : Over) (c : In-Ok g) → PullsPieces c.args.limit g.D.Deck.tells (g.D.Deck.state c.args.deck.now) (g.D.Deck.state c.pull.new.self)
    (c.loop-count.invariant.taken.0 ++ take c.in-Ok.count c.pull.new.buf)
pieces g c =
    let inv = c.loop-count.invariant.taken in
    let bound = c.in-Ok.ensures.bound in
    pieces_then c.args.limit _ _ _ _ inv.0 c.pull.new.buf c.in-Ok.count inv.1 (within_limit c.args.limit c.loop-count.left inv.0 inv.3) bound
    (omega (arith, bound, c.pull.auto.buf)) (omega (arith, c.in-Ok.count-test)) c.in-Ok.ensures.pulls

-- with none, at the end
pieces_at_end : (g : Over) (c : In-Ok-eq0 g) → PullsPieces c.args.limit g.D.Deck.tells (g.D.Deck.state c.args.deck.now) (g.D.Deck.state c.pull.new.self)
    c.loop-count.invariant.taken.0
pieces_at_end g c =
    let inv = c.loop-count.invariant.taken in
    pieces_ended c.args.limit _ _ _ _ inv.0 c.pull.new.buf c.in-Ok-eq0.field-0 inv.1 (omega (arith, c.in-Ok-eq0.field-0-test)) c.in-Ok-eq0.ensures.pulls

-- with none, after a pull that failed
pieces_at_fault : (g : Over) (c : In-Err g) → PullsPieces c.args.limit g.D.Deck.tells (g.D.Deck.state c.args.deck.now) (g.D.Deck.state c.pull.new.self)
    c.loop-count.invariant.taken.0
pieces_at_fault g c =
    let inv = c.loop-count.invariant.taken in
    let kept = c.in-Err.ensures.kept in
    pieces_stay c.args.limit _ _ _ _ inv.0 inv.1 kept.taken kept.pulled_before (λ told. kept.input)

-- what was pulled before it, as far as it is taken, is all that had been taken
all_before : (g : Over) (c : In-Ok g) → let inv = c.loop-count.invariant.taken in
    before_last c.args.limit (g.D.Deck.state c.args.deck.now) (g.D.Deck.state c.loop-count.deck) inv.0
    ++ last_piece c.args.limit (g.D.Deck.state c.args.deck.now) (g.D.Deck.state c.loop-count.deck) inv.0 ≡ inv.0
all_before g c =
    let inv = c.loop-count.invariant.taken in
    take-append-drop _ (take c.args.limit inv.0) ∙ take_all c.args.limit inv.0 (within_limit c.args.limit c.loop-count.left inv.0 inv.3)

-- what is taken of all
front : (g : Over) (c : After-take g) → take c.args.limit (c.loop-count.invariant.taken.0 ++ take c.in-Ok.count c.pull.new.buf)
    ≡ c.loop-count.invariant.taken.0 ++ take c.min-taken.result c.pull.new.buf
front g c =
    let inv = c.loop-count.invariant.taken in
    rw c.min-taken.ensures (taken_of_piece c.args.limit inv.0 c.pull.new.buf c.loop-count.left c.in-Ok.count inv.3)

is_before : (g : Over) (c : After-take g) → before_last c.args.limit (g.D.Deck.state c.args.deck.now) (g.D.Deck.state c.pull.new.self)
    (c.loop-count.invariant.taken.0 ++ take c.in-Ok.count c.pull.new.buf) ≡ c.loop-count.invariant.taken.0
is_before g c =
    let inv = c.loop-count.invariant.taken in
    before_piece c.args.limit (g.D.Deck.state c.args.deck.now) (g.D.Deck.state c.loop-count.deck) (g.D.Deck.state c.pull.new.self) inv.0
    (take c.min-taken.result c.pull.new.buf) _ inv.1.takes.taken (c.in-Ok.ensures.pulls.began (omega (arith, c.in-Ok.count-test))) (front g c)

is_last : (g : Over) (c : After-take g) → last_piece c.args.limit (g.D.Deck.state c.args.deck.now) (g.D.Deck.state c.pull.new.self)
    (c.loop-count.invariant.taken.0 ++ take c.in-Ok.count c.pull.new.buf) ≡ take c.min-taken.result c.pull.new.buf
is_last g c =
    let inv = c.loop-count.invariant.taken in
    piece_at_last c.args.limit (g.D.Deck.state c.args.deck.now) (g.D.Deck.state c.loop-count.deck) (g.D.Deck.state c.pull.new.self) inv.0
    (take c.min-taken.result c.pull.new.buf) _ inv.1.takes.taken (c.in-Ok.ensures.pulls.began (omega (arith, c.in-Ok.count-test))) (front g c)

pub returns-in-Ok-eq0-clause-all : goal.returns-in-Ok-eq0-clause-all
returns-in-Ok-eq0-clause-all g c =
    let inv = c.loop-count.invariant.taken in
    let none : c.in-Ok-eq0.field-0 ≡ 0 = omega (arith, c.in-Ok-eq0.field-0-test) in
    let pulls = c.in-Ok-eq0.ensures.pulls in (
      inv.0,
      pieces_at_end g c,
      ends_at_end c.args.limit g.D.Deck.tells (g.D.Deck.state c.loop-count.deck) (g.D.Deck.state c.pull.new.self) inv.0 c.pull.new.buf
          c.in-Ok-eq0.field-0 (within_limit c.args.limit c.loop-count.left inv.0 inv.3) none pulls,
      rw (pulls.ended none) inv.2,
    )

pub returns-in-Ok-eq0-clause-no_fault : goal.returns-in-Ok-eq0-clause-no_fault
returns-in-Ok-eq0-clause-no_fault g c = λ other. c.in-Ok-eq0.ensures.pulls.faults ∙ c.loop-count.invariant.no_fault

pub returns-in-Ok-eq0-clause-bounded : goal.returns-in-Ok-eq0-clause-bounded
returns-in-Ok-eq0-clause-bounded g c = taken_bounded c.args.limit _ _ _ _ (pieces_at_end g c)

pub returns-in-Err-clause-all : goal.returns-in-Err-clause-all
returns-in-Err-clause-all g c =
    let inv = c.loop-count.invariant.taken in (
      inv.0,
      pieces_at_fault g c,
      ends_at_fault c.args.limit g.D.Deck.tells (g.D.Deck.state c.pull.new.self) inv.0 (within_limit c.args.limit c.loop-count.left inv.0 inv.3),
      rw c.in-Err.ensures.kept.pulled_before inv.2,
    )

pub returns-in-Err-clause-fault : goal.returns-in-Err-clause-fault
returns-in-Err-clause-fault g c = λ fault. subst (λ (n : ℕ). Rose n (g.D.Deck.state c.pull.new.self).input_faults)
    c.loop-count.invariant.no_fault c.in-Err.ensures.cause

pub returns-in-Err-clause-no_fault : goal.returns-in-Err-clause-no_fault
returns-in-Err-clause-no_fault g c = λ other. absurd (other refl)

pub returns-in-Err-clause-bounded : goal.returns-in-Err-clause-bounded
returns-in-Err-clause-bounded g c = taken_bounded c.args.limit _ _ _ _ (pieces_at_fault g c)

pub take-requires-clause-piece : goal.take-requires-clause-piece
take-requires-clause-piece g c = omega (arith, length-take c.min-taken.result c.pull.new.buf, c.min-taken.ensures, c.in-Ok.ensures.bound, c.pull.auto.buf)

pub take-requires-clause-taking : goal.take-requires-clause-taking
take-requires-clause-taking g c =
    let at = goal.at.take-requires-clause-taking g c in
    let inv = c.loop-count.invariant.taken in (
      c.args.taker.now,
      c.args.out.now,
      before_last c.args.limit (g.D.Deck.state c.args.deck.now) (g.D.Deck.state c.loop-count.deck) inv.0,
      last_piece c.args.limit (g.D.Deck.state c.args.deck.now) (g.D.Deck.state c.loop-count.deck) inv.0,
      inv.2,
      rw (all_before g at.In-Ok) (taken_within most_input_bytes c.args.limit c.loop-count.left c.in-Ok.count c.min-taken.result inv.0 c.pull.new.buf
          c.requires.limit inv.3 c.min-taken.ensures),
    )

pub overflow_sub-left : goal.overflow_sub-left
overflow_sub-left g c = omega (arith, c.min-taken.ensures)

pub returns-in_err-take-clause-part : goal.returns-in_err-take-clause-part
returns-in_err-take-clause-part g c =
    let at = goal.at.returns-in_err-take-clause-part g c in
    let inv = c.loop-count.invariant.taken in
    let failed = c.in_err-take.ensures.part c.args.taker.now c.args.out.now _ _ inv.2 in
    let p = err_from_is_err_and c.from_residual.result c.from_residual.ensures.1 in
    rw p.1 (
      inv.0 ++ take c.in-Ok.count c.pull.new.buf,
      pieces g at.In-Ok,
      rw (is_before g at.After-take, is_last g at.After-take, p.2) (rw (all_before g at.In-Ok) at failed),
    )

pub returns-in_err-take-clause-bounded : goal.returns-in_err-take-clause-bounded
returns-in_err-take-clause-bounded g c = taken_bounded c.args.limit _ _ _ _ (pieces g (goal.at.returns-in_err-take-clause-bounded g c).In-Ok)

pub returns-then-taken-count-clause-all : goal.returns-then-taken-count-clause-all
returns-then-taken-count-clause-all g c =
    let at = goal.at.returns-then-taken-count-clause-all g c in
    let inv = c.loop-count.invariant.taken in
    let bytes = inv.0 ++ take c.in-Ok.count c.pull.new.buf in
    let taken = c.in_ok-take.ensures.all c.args.taker.now c.args.out.now _ _ inv.2 in (
      bytes,
      pieces g at.In-Ok,
      ends_too_long c.args.limit g.D.Deck.tells (g.D.Deck.state c.pull.new.self) bytes
          (more_than_limit c.args.limit c.loop-count.left c.in-Ok.count c.min-taken.result inv.0 c.pull.new.buf inv.3 c.in-Ok.ensures.bound
          c.min-taken.ensures c.if-taken-count.true),
      rw (is_before g at.After-take, is_last g at.After-take) (rw (all_before g at.In-Ok) at taken),
    )

pub returns-then-taken-count-clause-no_fault : goal.returns-then-taken-count-clause-no_fault
returns-then-taken-count-clause-no_fault g c = λ other. c.in-Ok.ensures.pulls.faults ∙ c.loop-count.invariant.no_fault

pub returns-then-taken-count-clause-bounded : goal.returns-then-taken-count-clause-bounded
returns-then-taken-count-clause-bounded g c = taken_bounded c.args.limit _ _ _ _ (pieces g (goal.at.returns-then-taken-count-clause-bounded g c).In-Ok)

pub loop-count-smaller : goal.loop-count-smaller
loop-count-smaller g c = omega (arith, c.min-taken.ensures, c.if-taken-count.false, c.in-Ok.count-test)

pub loop-count-preserved : goal.loop-count-preserved
loop-count-preserved g c =
    let at = goal.at.loop-count-preserved g c in
    let inv = c.loop-count.invariant.taken in
    let buf = c.pull.new.buf in
    let count = c.in-Ok.count in
    let taken = c.in_ok-take.ensures.all c.args.taker.now c.args.out.now _ _ inv.2 in
    record {
      taken = (
        inv.0 ++ take count buf,
        pieces g at.In-Ok,
        rw (is_before g at.After-take, is_last g at.After-take) (rw (all_before g at.In-Ok) at taken),
        left_after c.args.limit c.loop-count.left count c.min-taken.result inv.0 buf inv.3 c.in-Ok.ensures.bound c.min-taken.ensures c.if-taken-count.false,
      );
      disk = search rules;
      stops = LeavesStops-pull _ _ _ _ c.loop-count.invariant.stops c.loop-count.invariant.disk c.pull.ensures.disk c.pull.ensures.time c.pull.ensures.moments;
      announced = c.in-Ok.ensures.announced.announced ∙ c.loop-count.invariant.announced;
      no_fault = c.in-Ok.ensures.pulls.faults ∙ c.loop-count.invariant.no_fault;
    }
