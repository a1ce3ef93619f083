-- An input that is pulled piece by piece.
use Rattle.std.proofs.Common.{◌≡◌, ℕ, ◌+◌, ◌-◌, ◌≤◌, ◌<◌, List, [], ◌++◌, length, take, drop, ap, sym, refl, ◌∙◌, length-append, arith, inl, inr, ⊎_elim}
use Rattle.std.specs.Prelude.{IsTrue, min}
use Rattle.std.proofs.lemmas.Bool.{cases_lt}
use Rattle.std.proofs.lemmas.List.{take_all, take-take, take-append-drop, length-take}
use Rattle.std.proofs.Math.Seq.{take-append-add, take-append_seam, drop-append_seam}
use Rattle.fdr_deck.specs.State.{State, Tells}
use Rattle.fdr_deck.specs.Calls.{IsDiskWork, LeavesDisk}
use Rattle.fdr_deck.specs.Disk.{KeepsDisk}
use Rattle.fdr_deck.specs.Moments.{EachMoment, Elapses, IsSoundDeck, Within}
use Rattle.fdr_deck.specs.Pull.{GivesPiece, TakesInput}
use Rattle.fdr_deck.proofs.Line.{TakesInput-then}
use Rattle.fdr_deck.proofs.Moments.{EachMoment-then, Elapses-here, Elapses-then}
use Rattle.fdr_io.specs.Limits.{piece_bytes}
use Rattle.fdr_pieces.specs.Pieces.{PullsPieces, EndsInput, LeavesStops, before_last, last_piece}
use Rattle.fdr_pieces.specs.declared.pieces.InputEnd.TheVariants as input_end

-- ---- what stops leave

pub LeavesStops-here : (tells : Tells) (d : State) → IsSoundDeck tells d → LeavesStops tells d d
LeavesStops-here tells d sound =
    record { time = Elapses-here tells d sound; moments = λ told m since. (sound.only_now told m since).image }

-- calls that only look at the disk
pub LeavesStops-look : (tells : Tells) (old new : State) → IsDiskWork tells old.may_leave old new → LeavesStops tells old new
LeavesStops-look tells old new work = record { time = work.passes.time; moments = λ told m since. (work.moments told m since).image }

pub LeavesStops-then : (tells : Tells) (old mid new : State) → LeavesStops tells old mid → KeepsDisk old mid → LeavesStops tells mid new
    → LeavesStops tells old new
LeavesStops-then tells old mid new first kept second = record {
  time = Elapses-then tells old mid new first.time second.time;
  moments = EachMoment-then tells old mid new (λ m. old.may_leave m.image) first.time second.time first.moments
      (λ told m since. kept.no_more m.image (second.moments told m since));
}

-- a pull after those before
pub LeavesStops-pull : (tells : Tells) (old mid new : State) → LeavesStops tells old mid → LeavesDisk old mid → LeavesDisk mid new → Elapses tells mid new
    → EachMoment tells mid new (Within mid new) → LeavesStops tells old new
LeavesStops-pull tells old mid new before kept leaves time moments = record {
  time = Elapses-then tells old mid new before.time time;
  moments = EachMoment-then tells old mid new (λ m. old.may_leave m.image) before.time time before.moments
      (λ told m since. kept.disk.no_more m.image (⊎_elim
      (λ now. now.image)
      (λ inside. ⊎_elim (λ was. was) (λ is. leaves.disk.no_more m.image is) inside.image)
      (moments told m since)));
}

-- ---- what is pulled

-- a pull takes its bytes of the input
pulls_line : (tells : Tells) (old new : State) (buffer : List ℕ) (n : ℕ) → n ≤ length buffer → GivesPiece tells old new buffer n
    → TakesInput tells old new (take n buffer)
pulls_line tells old new buffer n few pulls = record {
  taken = omega (arith, pulls.taken, length-take n buffer, few);
  input = λ told.
      sym (take-append-drop n old.input)
      ∙ ap (λ (xs : List ℕ). xs ++ drop n old.input) (sym (pulls.given told).front)
      ∙ ap (λ (xs : List ℕ). take n buffer ++ xs) (sym (pulls.left told));
}

pub pieces_none : (limit : ℕ) (tells : Tells) (d : State) → PullsPieces limit tells d d []
pieces_none limit tells d = record {
  takes = record { taken = omega arith; input = λ told. refl };
  last = λ some. absurd (omega (arith, some));
  begun_within_limit = λ some. absurd (omega (arith, some));
  bounded = omega arith;
}

-- a pull that gives some
pub pieces_then : (limit : ℕ) (tells : Tells) (first old new : State) (bytes buffer : List ℕ) (n : ℕ) → PullsPieces limit tells first old bytes
    → length bytes ≤ limit → n ≤ length buffer → n ≤ piece_bytes → 0 < n → GivesPiece tells old new buffer n
    → PullsPieces limit tells first new (bytes ++ take n buffer)
pieces_then limit tells first old new bytes buffer n before few within small some pulls = record {
  takes = TakesInput-then tells first old new bytes (take n buffer) before.takes (pulls_line tells old new buffer n within pulls);
  last = λ any. record {
    begins = omega (arith, pulls.began some, before.takes.taken);
    gave_bytes = omega (arith, pulls.began some, pulls.taken, some);
    within_piece = omega (arith, pulls.began some, pulls.taken, small);
  };
  begun_within_limit = λ any. omega (arith, pulls.began some, before.takes.taken, few);
  bounded = omega (arith, length-append bytes (take n buffer), length-take n buffer, few, small);
}

-- a pull that gives none, or fails
pub pieces_stay : (limit : ℕ) (tells : Tells) (first old new : State) (bytes : List ℕ) → PullsPieces limit tells first old bytes
    → new.taken ≡ old.taken → new.pulled_before ≡ old.pulled_before → (IsTrue tells.input → new.input ≡ old.input) → PullsPieces limit tells first new bytes
pieces_stay limit tells first old new bytes before taken began line = record {
  takes = record {
    taken = taken ∙ before.takes.taken;
    input = λ told. before.takes.input told ∙ ap (λ (xs : List ℕ). bytes ++ xs) (sym (line told));
  };
  last = λ any. record {
    begins = omega (arith, (before.last any).begins, began);
    gave_bytes = omega (arith, (before.last any).gave_bytes, began, taken);
    within_piece = omega (arith, (before.last any).within_piece, began, taken);
  };
  begun_within_limit = λ any. omega (arith, before.begun_within_limit any, began);
  bounded = before.bounded;
}

-- a pull that finds the end
pub pieces_ended : (limit : ℕ) (tells : Tells) (first old new : State) (bytes buffer : List ℕ) (n : ℕ) → PullsPieces limit tells first old bytes → n ≡ 0
    → GivesPiece tells old new buffer n → PullsPieces limit tells first new bytes
pieces_ended limit tells first old new bytes buffer n before none pulls =
    pieces_stay limit tells first old new bytes before (omega (arith, pulls.taken, none)) (pulls.ended none)
    (λ told. pulls.left told ∙ ap (λ (k : ℕ). drop k old.input) none)

-- the end of the input, of which no more was left than is taken
pub ends_at_end : (limit : ℕ) (tells : Tells) (old new : State) (bytes buffer : List ℕ) (n : ℕ) → length bytes ≤ limit → n ≡ 0
    → GivesPiece tells old new buffer n → EndsInput limit tells new bytes input_end.End
ends_at_end limit tells old new bytes buffer n few none pulls = record {
  end_within_limit = λ end. few;
  fault_within_limit = λ end. few;
  many = λ end. absurd (cc);
  empty = λ end told. pulls.left told ∙ ap (λ (k : ℕ). drop k old.input) none ∙ (pulls.given told).end.0 none;
}

-- a pull that failed
pub ends_at_fault : (limit : ℕ) (tells : Tells) (new : State) (bytes : List ℕ) → length bytes ≤ limit → EndsInput limit tells new bytes input_end.Fault
ends_at_fault limit tells new bytes few = record {
  end_within_limit = λ end. few;
  fault_within_limit = λ end. few;
  many = λ end. absurd (cc);
  empty = λ end told. absurd (cc);
}

-- more bytes than are taken
pub ends_too_long : (limit : ℕ) (tells : Tells) (new : State) (bytes : List ℕ) → limit < length bytes → EndsInput limit tells new bytes input_end.TooLong
ends_too_long limit tells new bytes more = record {
  end_within_limit = λ end. absurd (cc);
  fault_within_limit = λ end. absurd (cc);
  many = λ end. more;
  empty = λ end told. absurd (cc);
}

-- what is taken and what is left are the limit together
pub within_limit : (limit left : ℕ) (bytes : List ℕ) → length bytes + left ≡ limit → length bytes ≤ limit
within_limit limit left bytes room = omega (arith, room)

-- a piece more, of which as much is taken as is left, is within the most that is taken
pub taken_within : (most limit left n k : ℕ) (bytes buffer : List ℕ) → limit ≤ most → length bytes + left ≡ limit → k ≡ min n left
    → length bytes + length (take k buffer) ≤ most
taken_within most limit left n k bytes buffer few room is = omega (arith, few, room, is, length-take k buffer)

-- where less is taken than came, more came than the limit
pub more_than_limit : (limit left n k : ℕ) (bytes buffer : List ℕ) → length bytes + left ≡ limit → n ≤ length buffer → k ≡ min n left → k < n
    → limit < length (bytes ++ take n buffer)
more_than_limit limit left n k bytes buffer room within is less =
    omega (arith, room, within, is, less, length-append bytes (take n buffer), length-take n buffer)

-- what is left after a piece that was taken whole
pub left_after : (limit left n k : ℕ) (bytes buffer : List ℕ) → length bytes + left ≡ limit → n ≤ length buffer → k ≡ min n left → n ≤ k
    → length (bytes ++ take n buffer) + (left - k) ≡ limit
left_after limit left n k bytes buffer room within is all =
    omega (arith, room, within, is, all, length-append bytes (take n buffer), length-take n buffer)

-- at most a piece more than the limit was pulled
pub taken_bounded : (limit : ℕ) (tells : Tells) (old new : State) (bytes : List ℕ) → PullsPieces limit tells old new bytes
    → new.taken ≤ old.taken + limit + piece_bytes
taken_bounded limit tells old new bytes pulls = omega (arith, pulls.takes.taken, pulls.bounded)

-- of a piece as much is taken as is left
pub taken_of_piece : (limit : ℕ) (bytes buffer : List ℕ) (left n : ℕ) → length bytes + left ≡ limit
    → take limit (bytes ++ take n buffer) ≡ bytes ++ take (min n left) buffer
taken_of_piece limit bytes buffer left n room =
    ap (λ k. take k (bytes ++ take n buffer)) (sym room) ∙ take-append-add bytes (take n buffer) left
    ∙ ap (λ (xs : List ℕ). bytes ++ xs) (elim (cases_lt left n) [
      | inl less ↦ let e : min n left ≡ left = omega arith in take-take left n buffer (omega arith) ∙ ap (λ k. take k buffer) (sym e)
      | inr all ↦ let e : min n left ≡ n = omega arith in
          take_all left (take n buffer) (omega (arith, length-take n buffer)) ∙ ap (λ k. take k buffer) (sym e)
    ])

-- what was pulled before a piece
pub before_piece : (limit : ℕ) (first old new : State) (bytes piece pulled : List ℕ) → old.taken ≡ first.taken + length bytes → new.pulled_before ≡ old.taken
    → take limit pulled ≡ bytes ++ piece → before_last limit first new pulled ≡ bytes
before_piece limit first old new bytes piece pulled taken began front =
    let count : new.pulled_before - first.taken ≡ length bytes = omega arith in
    ap (λ k. take k (take limit pulled)) count ∙ ap (take (length bytes)) front ∙ take-append_seam bytes piece

-- and the piece
pub piece_at_last : (limit : ℕ) (first old new : State) (bytes piece pulled : List ℕ) → old.taken ≡ first.taken + length bytes → new.pulled_before ≡ old.taken
    → take limit pulled ≡ bytes ++ piece → last_piece limit first new pulled ≡ piece
piece_at_last limit first old new bytes piece pulled taken began front =
    let count : new.pulled_before - first.taken ≡ length bytes = omega arith in
    ap (λ k. drop k (take limit pulled)) count ∙ ap (drop (length bytes)) front ∙ drop-append_seam bytes piece
