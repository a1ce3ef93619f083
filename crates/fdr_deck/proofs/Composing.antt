-- What two calls of a deck, one after another, counted, left and may leave.
use Rattle.std.proofs.Common.{◌≡◌, List, ℕ, Result, Ok, Err, ◌∙◌, ap}
use Rattle.std.specs.Prelude.{IsErrAnd, OnOk}
use Rattle.fdr_deck.specs.State.{State, Tells}
use Rattle.fdr_deck.specs.Disk.{KeepsDisk, LearnsExtent}
use Rattle.fdr_deck.specs.Calls.{Succeeds}
use Rattle.fdr_deck.proofs.Moments.{IsDiskWork-keep}
use Rattle.fdr_deck.proofs.Quiet.{IsDiskWork-look}

-- what the exit of a `?` answers
pub refusal : {T E : Type 0} (r : Result T E) (e : E) → IsErrAnd r (λ y. y ≡ e) → r ≡ Err e
refusal (Ok x) e is = absurd is
refusal (Err y) e is = ap Err is

-- a refusal with one fault is one with the same fault, whatever else would be answered
pub same_refusal : {T U E : Type 0} (x y : E) → ◌≡◌ {A = Result T E} (Err x) (Err y) → ◌≡◌ {A = Result U E} (Err x) (Err y)
same_refusal x y is = let same : x ≡ y = cc in ap Err same

pub same_fault : {T E : Type 0} {x y : E} → ◌≡◌ {A = Result T E} (Err x) (Err y) → x ≡ y
same_fault is = cc

pub Succeeds-then : (old mid new : State) → Succeeds old mid → Succeeds mid new → Succeeds old new
Succeeds-then old mid new first second = record { fresh = second.fresh; disk_faults = second.disk_faults ∙ first.disk_faults }

-- the last call is answered as it is
pub Succeeds-last : {T E : Type 0} (r : Result T E) (old mid new : State) → Succeeds old mid → OnOk r (Succeeds mid new) → OnOk r (Succeeds old new)
Succeeds-last (Ok x) old mid new first second = Succeeds-then old mid new first second
Succeeds-last (Err e) old mid new first second = tt

pub KeepsDisk-then : (old mid new : State) → KeepsDisk old mid → KeepsDisk mid new → KeepsDisk old new
KeepsDisk-then old mid new first second = record {
  held = second.held ∙ first.held;
  no_more = λ image leaves. first.no_more image (second.no_more image leaves);
  no_less = λ image leaves. second.no_less image (first.no_less image leaves);
}

-- a call that keeps the length after one that may have learned it
pub LearnsExtent-then : (tells : Tells) (old mid new : State) → LearnsExtent tells old mid → new.extent ≡ mid.extent → LearnsExtent tells old new
LearnsExtent-then tells old mid new learns same = record {
  bytes = λ told. same ∙ learns.bytes told;
  stops = λ told. same ∙ learns.stops told;
  known = λ some. same ∙ learns.known some;
}

-- what holds anyway holds of an answer
pub always_ok : {T E : Type 0} (r : Result T E) (P : Type 0) → P → OnOk r P
always_ok (Ok x) P holds = holds
always_ok (Err e) P holds = tt

-- what the disk holds after a last call that keeps it
pub held_last : {T E Told : Type 0} {new mid is : List ℕ} (r : Result T E) → new ≡ mid → (Told → mid ≡ is) → OnOk r (Told → new ≡ is)
held_last r same was = always_ok r _ (λ told. same ∙ was told)

pub ruleset calls = (Succeeds-then, Succeeds-last, KeepsDisk-then, LearnsExtent-then, IsDiskWork-look, IsDiskWork-keep)
