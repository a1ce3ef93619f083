-- What looking at an image leaves.
use Rattle.std.proofs.Common.{◌≡◌, ap, refl, ◌∙◌}
use Rattle.std.specs.Prelude.{IsTrue}
use Rattle.fdr_deck.specs.State.{State, Tells}
use Rattle.fdr_deck.specs.Moments.{IsSoundDeck}
use Rattle.fdr_slot.specs.declared.image.Header.{Header}
use Rattle.fdr_slot.specs.declared.image.ImageFault.{ImageFault}
use Rattle.fdr_recover.specs.Images.{recovered_run}
use Rattle.fdr_recover.specs.Looks.{Looks}
use Rattle.fdr_recover.specs.ImageHeader.{header_in}
use Rattle.fdr_recover.specs.declared.error.RingFault.{RingFault}
use Rattle.fdr_recover.specs.declared.error.RingFault.TheVariants as ring
use Rattle.fdr_deck.proofs.Moments.{IsDiskWork-here}
use Rattle.fdr_deck.proofs.Quiet.{IsDiskWork-then}
use Rattle.fdr_top.specs.declared.outcome.Outcome.TheVariants as outcome
use Rattle.fdr_recover.specs.Payloads.{run_in}
use Rattle.fdr_deck.specs.Calls.{IsDiskWork}
use Rattle.fdr_deck.specs.Disk.{KeepsDisk, LearnsExtent}
use Rattle.fdr_top.specs.Recover.{OnlyLooks, header_refusal}

-- no look yet
pub OnlyLooks-here : (tells : Tells) (d : State) → IsSoundDeck tells d → OnlyLooks tells d d
OnlyLooks-here tells d sound = record {
  learns = record { bytes = λ told. refl; stops = λ told. refl; known = λ some. refl };
  disk = record { held = refl; no_more = λ image leaves. leaves; no_less = λ image leaves. leaves };
  disk_work = IsDiskWork-here tells d.may_leave d sound (λ told image leaves. leaves);
}

-- what was seen of it
pub OnlyLooks-looked : (tells : Tells) (old new : State) → LearnsExtent tells old new → KeepsDisk old new → IsDiskWork tells old.may_leave old new
    → OnlyLooks tells old new
OnlyLooks-looked tells old new learns disk work = record { learns = learns; disk = disk; disk_work = work }

-- one look after another
pub OnlyLooks-then : (tells : Tells) (old mid new : State) → IsSoundDeck tells old → OnlyLooks tells old mid → Looks tells mid new → OnlyLooks tells old new
OnlyLooks-then tells old mid new sound first second = record {
  learns = record {
    bytes = λ told. second.extent ∙ first.learns.bytes told;
    stops = λ told. second.extent ∙ first.learns.stops told;
    known = λ some. second.extent ∙ first.learns.known some;
  };
  disk = record {
    held = second.disk.held ∙ first.disk.held;
    no_more = λ image leaves. first.disk.no_more image (second.disk.no_more image leaves);
    no_less = λ image leaves. second.disk.no_less image (first.disk.no_less image leaves);
  };
  disk_work = IsDiskWork-then tells old.may_leave mid.may_leave old.may_leave old mid new sound first.disk_work second.disk_work
      (λ told image leaves. leaves) (λ told image leaves. first.disk.no_more image leaves);
}

pub same_fault : (a b : ImageFault) → outcome.ImageRefused a ≡ outcome.ImageRefused b → a ≡ b
same_fault a b same = cc

pub header_not_memory : (f : RingFault) → header_refusal f ≡ outcome.NoMemory → ⊥
header_not_memory ring.NotEmpty e = cc
header_not_memory (ring.Image why) e = cc
header_not_memory ring.DiskFault e = cc
header_not_memory ring.SeqEnd e = cc

-- the run that is read is that at entry
pub run_same : (tells : Tells) (old mid : State) (h : Header) → OnlyLooks tells old mid → (IsTrue tells.bytes → h ≡ header_in old.held) → IsTrue tells.bytes
    → recovered_run h mid.held ≡ run_in old.held
run_same tells old mid h looks header told = ap (recovered_run h) looks.disk.held ∙ ap (λ (x : Header). recovered_run x old.held) (header told)
