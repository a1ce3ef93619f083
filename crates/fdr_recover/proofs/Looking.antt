-- Calls that only look at the disk, one after another.
use Rattle.std.proofs.Common.{◌≡◌, refl, ◌∙◌}
use Rattle.fdr_deck.specs.State.{State, Tells}
use Rattle.fdr_deck.specs.Disk.{KeepsDisk}
use Rattle.fdr_deck.specs.Moments.{EachMoment, Within, IsSoundDeck}
use Rattle.fdr_deck.specs.Calls.{Passes}
use Rattle.fdr_deck.proofs.Moments.{IsDiskWork-here, IsDiskWork-keep}
use Rattle.fdr_deck.proofs.Quiet.{IsDiskWork-then}
use Rattle.fdr_recover.specs.Looks.{Looks}

-- no call yet
pub Looks-here : (tells : Tells) (d : State) → IsSoundDeck tells d → Looks tells d d
Looks-here tells d sound = record {
  extent = refl;
  disk = record { held = refl; no_more = λ image leaves. leaves; no_less = λ image leaves. leaves };
  disk_work = IsDiskWork-here tells d.may_leave d sound (λ told image leaves. leaves);
}

-- one call of the disk that leaves it
pub Looks-call : (tells : Tells) (old new : State) → IsSoundDeck tells old → new.extent ≡ old.extent → KeepsDisk old new → Passes tells old new
    → EachMoment tells old new (Within old new) → Looks tells old new
Looks-call tells old new sound extent disk passes moments = record {
  extent = extent;
  disk = disk;
  disk_work = IsDiskWork-keep tells old.may_leave old old new sound sound (Looks-here tells old sound).disk_work passes moments disk.no_more;
}

-- calls, and then calls
pub Looks-then : (tells : Tells) (old mid new : State) → IsSoundDeck tells old → Looks tells old mid → Looks tells mid new → Looks tells old new
Looks-then tells old mid new sound first second = record {
  extent = second.extent ∙ first.extent;
  disk = record {
    held = second.disk.held ∙ first.disk.held;
    no_more = λ image leaves. first.disk.no_more image (second.disk.no_more image leaves);
    no_less = λ image leaves. second.disk.no_less image (first.disk.no_less image leaves);
  };
  disk_work = IsDiskWork-then tells old.may_leave mid.may_leave old.may_leave old mid new sound first.disk_work second.disk_work (λ told image leaves. leaves)
      (λ told image. first.disk.no_more image);
}

pub ruleset looks = (Looks-then, Looks-call)
