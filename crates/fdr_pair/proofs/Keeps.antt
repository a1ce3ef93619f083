-- What a side keeps by the run that it began with, where its session began later.
use Rattle.std.proofs.Common.{◌≡◌, ◌∙◌, inl, inr, ⊎_elim, ℕ, ◌+◌, ◌-◌, ◌≤◌, List, ◌++◌, length, take, Some, sym, ap, subst, append_assoc}
use Rattle.std.proofs.Common.{length-append, arith}
use Rattle.std.proofs.lemmas.List.{take-append-le}
use Rattle.std.proofs.Math.Seq.{take-append-add}
use Rattle.fdr_slot.specs.declared.image.Header.{Header}
use Rattle.fdr_recover.specs.Blocks.{Block}
use Rattle.fdr_recover.specs.Images.{recovered_run, next_of}
use Rattle.fdr_ring.specs.Gates.{KeepsHeader}
use Rattle.fdr_ring.specs.Runs.{IsTail}
use Rattle.fdr_ring.specs.declared.ring.Ring.{Ring}
use Rattle.fdr_ring.proofs.Turning.{KeepsHeader-then}
use Rattle.fdr_twin.specs.declared.side.Side.{Side}
use Rattle.fdr_twin.specs.Pair.{Pair, PairMoment, disk_on, image_on}
use Rattle.fdr_recorder.proofs.Steps.{tail_on}
use Rattle.fdr_pair.specs.Living.{SideKept, SideMoment}
use Rattle.fdr_pair.specs.SideKeeping.{HasFailedOrKeeps, KeepsRecording}

-- At the start the image had the last blocks of a run, N - 2 at least, and its next number; the count of faults didn't fall before.
pub keeps_since : (side : Side) (r : Ring) (run new : List Block) (next : ℕ) (entry start : Pair) (m : PairMoment)
    → (disk_on side entry).faults ≤ (disk_on side start).faults → KeepsHeader (disk_on side entry).held (disk_on side start).held
    → IsTail (r.header.slots - 2) run (recovered_run r.header (disk_on side start).held) → next_of r.header (disk_on side start).held ≡ next
    → SideMoment side (Some r) new start m → HasFailedOrKeeps side r.header run next new entry m
keeps_since side r run new next entry start m faults kept tail at is = ⊎_elim
    (λ rose. inl (omega (arith, rose, faults)))
    (λ keeps. inr (record {
      kept = KeepsHeader-then (disk_on side entry).held (disk_on side start).held (image_on side m) kept keeps.kept;
      count = keeps.count;
      fits = keeps.fits;
      run = tail_on (r.header.slots - 2) run (recovered_run r.header (disk_on side start).held) (take keeps.count new)
          (recovered_run r.header (image_on side m)) tail keeps.run;
      next = omega (arith, keeps.next, at);
      announced = keeps.announced;
    }))
    is

-- and so, whether the side has failed or not
pub kept_since : (side : Side) (r : Ring) (run new : List Block) (next : ℕ) (entry start : Pair) (m : PairMoment)
    → KeepsHeader (disk_on side entry).held (disk_on side start).held
    → IsTail (r.header.slots - 2) run (recovered_run r.header (disk_on side start).held) → next_of r.header (disk_on side start).held ≡ next
    → SideKept side (Some r) new start m → KeepsRecording r.header (disk_on side entry).held run next new 0 (image_on side m)
kept_since side r run new next entry start m kept tail at is = record {
  kept = KeepsHeader-then (disk_on side entry).held (disk_on side start).held (image_on side m) kept is.kept;
  count = is.count;
  fits = is.fits;
  run = tail_on (r.header.slots - 2) run (recovered_run r.header (disk_on side start).held) (take is.count new)
      (recovered_run r.header (image_on side m)) tail is.run;
  next = omega (arith, is.next, at);
  announced = is.announced;
}

-- further blocks to come
pub keeps_with_more : (h : Header) (entry : List ℕ) (old : List Block) (first : ℕ) (new more : List Block) (number : ℕ) (image : List ℕ)
    → KeepsRecording h entry old first new number image → KeepsRecording h entry old first (new ++ more) number image
keeps_with_more h entry old first new more number image keeps = record {
  kept = keeps.kept;
  count = keeps.count;
  fits = omega (arith, keeps.fits, length-append new more);
  run = subst (λ (l : List Block). IsTail (h.slots - 2) (old ++ l) (recovered_run h image)) (sym (take-append-le keeps.count new more keeps.fits)) keeps.run;
  next = keeps.next;
  announced = keeps.announced;
}

-- blocks that are among the old ones are among the new ones
pub keeps_moved : (h : Header) (entry : List ℕ) (own missing : List Block) (first next : ℕ) (new : List Block) (number : ℕ) (image : List ℕ)
    → first + length missing ≡ next → KeepsRecording h entry (own ++ missing) next new number image
    → KeepsRecording h entry own first (missing ++ new) number image
keeps_moved h entry own missing first next new number image at keeps =
    let count = length missing + keeps.count in
    record {
      kept = keeps.kept;
      count = count;
      fits = omega (arith, keeps.fits, length-append missing new);
      run = subst (λ (l : List Block). IsTail (h.slots - 2) l (recovered_run h image))
          (append_assoc own missing (take keeps.count new)
          ∙ ap (λ (l : List Block). own ++ l) (sym (take-append-add missing new keeps.count))) keeps.run;
      next = omega (arith, keeps.next, at);
      announced = keeps.announced;
    }
