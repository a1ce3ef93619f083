-- What calls leave of a disk's image, one after another.
use Rattle.std.proofs.Common.{◌≡◌, ◌≤◌, ◌+◌, ℕ, List, Result, sym, subst, ◌∙◌}
use Rattle.std.specs.Prelude.{slice_index, IsTrue, OnOk}
use Rattle.fdr_deck.specs.State.{State, Tells}
use Rattle.fdr_deck.specs.Disk.{KeepsDisk, Torn, Tears}
use Rattle.fdr_deck.specs.Moments.{IsSoundDeck, EachMoment, Within}
use Rattle.fdr_deck.specs.Calls.{Passes, Succeeds}
use Rattle.fdr_deck.proofs.Composing.{Succeeds-then}
use Rattle.fdr_deck.proofs.Moments.{IsDiskWork-here, IsDiskWork-keep, IsDiskWork-write}
use Rattle.fdr_deck.proofs.Quiet.{IsDiskWork-look}
use Rattle.fdr_ring.specs.Closing.{IsTurned, Closing, ClosesGate, HasClosedGate}
use Rattle.fdr_ring.specs.Rings.{ChangesImage, OfSettled}
use Rattle.fdr_ring.proofs.Results.{map_ok}
use Rattle.fdr_ring.proofs.Bytes.{Torn-of-same, Torn-then, Torn-within, IsTurned-here, Closing-here, Closing-more}

-- one write, within a range
pub ChangesImage-write : (tells : Tells) (from n at few : ℕ) (old new : State) → IsSoundDeck tells old → Tears tells at few old new
    → from ≤ at → at + few ≤ from + n → new.extent ≡ old.extent → Passes tells old new → EachMoment tells old new (Within old new)
    → ChangesImage tells (Torn from n) old new
ChangesImage-write tells from n at few old new sound tears low high extent passes moments = record {
  keeps = λ told. Torn-within from n at few old.held new.held low high (tears.held told);
  extent = extent;
  disk_work = IsDiskWork-write tells (OfSettled old (Torn from n)) old old new at few sound sound
      (IsDiskWork-here tells (OfSettled old (Torn from n)) old sound
      (λ told image leaves settled. Torn-of-same from n old.held image (settled image leaves)))
      passes moments tears
      (λ told mid image leaves has torn settled. Torn-then from n old.held mid image (has settled) (Torn-within from n at few mid image low high torn));
}

-- a sync after what was changed
pub ChangesImage-sync : (tells : Tells) (Leaves : List ℕ → List ℕ → Type 0) (old mid new : State) → IsSoundDeck tells old → IsSoundDeck tells mid
    → ChangesImage tells Leaves old mid → new.held ≡ mid.held → ((image : List ℕ) → new.may_leave image → mid.may_leave image)
    → new.extent ≡ mid.extent → Passes tells mid new → EachMoment tells mid new (Within mid new) → ChangesImage tells Leaves old new
ChangesImage-sync tells Leaves old mid new sound sound_mid changes held no_more extent passes moments = record {
  keeps = λ told. subst (Leaves old.held) (sym held) (changes.keeps told);
  extent = extent ∙ changes.extent;
  disk_work = IsDiskWork-keep tells (OfSettled old Leaves) old mid new sound sound_mid changes.disk_work passes moments no_more;
}

-- a look at the disk
pub ClosesGate-look : (tells : Tells) (at : ℕ) (old new : State) → IsSoundDeck tells old → new.extent ≡ old.extent → KeepsDisk old new
    → Passes tells old new → EachMoment tells old new (Within old new) → ClosesGate tells at old new
ClosesGate-look tells at old new sound extent disk passes moments = record {
  turned = λ told. IsTurned-here at old.held new.held disk.held;
  extent = extent;
  disk_work = IsDiskWork-look tells (Closing at old) old new sound disk passes moments (λ told image leaves. Closing-here at old image leaves);
}

-- a write to the gate, which was open
pub ClosesGate-write : (tells : Tells) (at : ℕ) (old mid new : State) → IsSoundDeck tells old → IsSoundDeck tells mid → ClosesGate tells at old mid
    → (IsTrue tells.bytes → slice_index old.held at ≡ 0x5a) → mid.held ≡ old.held → Tears tells at 1 mid new → new.extent ≡ mid.extent
    → Passes tells mid new → EachMoment tells mid new (Within mid new) → ClosesGate tells at old new
ClosesGate-write tells at old mid new sound sound_mid closes open_gate held tears extent passes moments = record {
  turned = λ told. record {
    torn = subst (λ (l : List ℕ). Torn at 1 l new.held) held (tears.held told);
    same = λ closed. absurd (closed (open_gate told));
  };
  extent = extent ∙ closes.extent;
  disk_work = IsDiskWork-write tells (Closing at old) old mid new at 1 sound sound_mid closes.disk_work passes moments tears
      (λ told from image leaves has torn. Closing-more at old from image (open_gate (sound.stops_need_bytes told)) has torn);
}

-- a sync after that
pub ClosesGate-sync : (tells : Tells) (at : ℕ) (old mid new : State) → IsSoundDeck tells old → IsSoundDeck tells mid → ClosesGate tells at old mid
    → new.held ≡ mid.held → ((image : List ℕ) → new.may_leave image → mid.may_leave image) → new.extent ≡ mid.extent
    → Passes tells mid new → EachMoment tells mid new (Within mid new) → ClosesGate tells at old new
ClosesGate-sync tells at old mid new sound sound_mid closes held no_more extent passes moments = record {
  turned = λ told. subst (IsTurned at old.held) (sym held) (closes.turned told);
  extent = extent ∙ closes.extent;
  disk_work = IsDiskWork-keep tells (Closing at old) old mid new sound sound_mid closes.disk_work passes moments no_more;
}

pub HasClosedGate-sync : {T E : Type 0} (r : Result T E) (tells : Tells) (at : ℕ) (old mid new : State) → HasClosedGate tells at old mid
    → new.held ≡ mid.held → OnOk r (Succeeds mid new) → OnOk r (HasClosedGate tells at old new)
HasClosedGate-sync r tells at old mid new closed held = map_ok r (Succeeds mid new) (HasClosedGate tells at old new)
    (λ synced. record { held = λ told. held ∙ closed.held told; succeeds = Succeeds-then old mid new closed.succeeds synced })
