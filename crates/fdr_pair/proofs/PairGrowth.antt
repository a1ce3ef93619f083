-- How the runs of both sides have grown, by what the contract says of the lead and of the other side.
use Rattle.std.proofs.Common.{◌≡◌, ℕ, ◌+◌, ◌-◌, List, ◌++◌, length, None, sym, ◌∙◌, ap, subst, arith}
use Rattle.std.proofs.Common.{length-append}
use Rattle.std.proofs.lemmas.List.{append_assoc, append-nil}
use Rattle.fdr_deck.specs.State.{Tells}
use Rattle.fdr_slot.specs.Limits.{IsInLimits}
use Rattle.fdr_slot.specs.declared.image.Header.{Header}
use Rattle.fdr_recover.specs.Blocks.{Block}
use Rattle.fdr_recover.specs.Images.{next_of, recovered_run}
use Rattle.fdr_recover.specs.ImageHeader.{image_fault_of, header_in}
use Rattle.fdr_recover.specs.Payloads.{run_in}
use Rattle.fdr_ring.specs.Runs.{last_blocks}
use Rattle.fdr_recorder.specs.NewBlocks.{AddsToRun, new_blocks, next_in}
use Rattle.fdr_bus.specs.declared.BusRecord.{BusRecord}
use Rattle.fdr_table.specs.Rows.{TableRows}
use Rattle.fdr_pair.specs.PairMoments.{KeepsBroughtRun, KeepsOwnRun}
use Rattle.fdr_pair.specs.SideKeeping.{HasFailedOrKeeps}
use Rattle.fdr_twin.specs.declared.side.Side.{Side}
use Rattle.fdr_twin.specs.Pair.{Pair, PairMoment, disk_on, seen}
use Rattle.fdr_pair.specs.Alike.{AreAlike, follower_on, lead_image, follower_image}
use Rattle.fdr_pair.specs.Brought.{blocks_not_below}
use Rattle.fdr_pair.specs.PairEnds.{FollowerHoldsBrought, HoldsAfter}
use Rattle.fdr_pair.proofs.Leading.{brought_next, one_header}
use Rattle.fdr_pair.proofs.Limits.{brought_nothing, limits_in}

-- ---- what a side holds

module _ (tells : Tells) (blocks : List Block) (old new : Pair) where
  -- a side that goes on from its own run
  pub grown_own : (side : Side) → IsInLimits (header_in (disk_on side old).held)
      → HoldsAfter tells side (header_in (disk_on side old).held) (run_in (disk_on side old).held) (next_in (disk_on side old).held) blocks old new
      → new.announced ≡ next_in (disk_on side old).held + length blocks
      → AddsToRun tells (blocks_not_below (next_in (disk_on side old).held) (run_in (disk_on side old).held) ++ blocks) (seen side old) (seen side new)
  grown_own side limits holds announced =
      subst (λ (bs : List Block). AddsToRun tells (bs ++ blocks) (seen side old) (seen side new))
      (sym (brought_nothing (disk_on side old).held limits))
      (record { header = holds.header; run = holds.last; next = holds.number; announced = announced; settled = holds.settled })

  -- the side that doesn't lead, once it is brought up to the lead
  pub grown_brought : (words : ℕ) → AreAlike words old → IsInLimits (header_in (lead_image old)) → FollowerHoldsBrought tells blocks old new
      → new.announced ≡ next_in (lead_image old) + length blocks
      → AddsToRun tells (blocks_not_below (next_in (follower_image old)) (run_in (lead_image old)) ++ blocks) (seen (follower_on old) old)
      (seen (follower_on old) new)
  grown_brought words alike limits holds announced =
      let same = one_header words old alike.header in
      let held = (disk_on (follower_on old) new).held in
      let long : next_in (follower_image old) + length (blocks_not_below (next_in (follower_image old)) (run_in (lead_image old)))
      ≡ next_in (lead_image old) =
      subst (λ (h : Header). next_in (follower_image old) + length (blocks_not_below (next_of h (follower_image old)) (run_in (lead_image old)))
      ≡ next_in (lead_image old)) (sym same) (brought_next words old alike limits) in
      let missing = blocks_not_below (next_in (follower_image old)) (run_in (lead_image old)) in
      let count : next_in (lead_image old) + length blocks ≡ next_in (follower_image old) + length (missing ++ blocks) =
      grind (arith, long, length-append missing blocks) in
      record {
        header = holds.header ∙ sym same;
        run = subst (λ (h : Header). recovered_run h held ≡ last_blocks (h.slots - 1) ((recovered_run h (follower_image old)
            ++ blocks_not_below (next_of h (follower_image old)) (run_in (lead_image old))) ++ blocks)) (sym same) holds.last
            ∙ ap (last_blocks ((header_in (follower_image old)).slots - 1)) (append_assoc (run_in (follower_image old)) missing blocks);
        next = subst (λ (h : Header). next_of h held ≡ next_in (lead_image old) + length blocks) (sym same) holds.number ∙ count;
        announced = announced ∙ count;
        settled = holds.settled;
      }

-- ---- what a side keeps

-- the base keeps its own run, to which nothing is brought
pub keeps_base : (t : TableRows) (records : List BusRecord) (old : Pair) (b : Side) (m : PairMoment) → image_fault_of (disk_on b old).held ≡ None
    → KeepsOwnRun b t records old m
    → HasFailedOrKeeps b (header_in (disk_on b old).held)
    (run_in (disk_on b old).held ++ blocks_not_below (next_in (disk_on b old).held) (run_in (disk_on b old).held))
    (next_in (disk_on b old).held) (new_blocks t (disk_on b old).held records) old m
keeps_base t records old b m none keeps =
    let own = (disk_on b old).held in
    let same : run_in own ++ blocks_not_below (next_in own) (run_in own) ≡ run_in own =
    ap (λ (bs : List Block). run_in own ++ bs) (brought_nothing own (limits_in own none)) ∙ append-nil (run_in own) in
    subst (λ (run : List Block). HasFailedOrKeeps b (header_in own) run (next_in own) (new_blocks t own records) old m) (sym same) keeps

-- the other side keeps its brought run
pub keeps_brought : (t : TableRows) (records : List BusRecord) (old : Pair) (m : PairMoment) → AreAlike t.frame.words old
    → KeepsBroughtRun t records old m
    → HasFailedOrKeeps (follower_on old) (header_in (follower_image old))
    (run_in (follower_image old) ++ blocks_not_below (next_in (follower_image old)) (run_in (lead_image old)))
    (next_in (lead_image old)) (new_blocks t (lead_image old) records) old m
keeps_brought t records old m alike keeps = subst (λ (h : Header). HasFailedOrKeeps (follower_on old) h
    (recovered_run h (follower_image old) ++ blocks_not_below (next_of h (follower_image old)) (run_in (lead_image old)))
    (next_in (lead_image old)) (new_blocks t (lead_image old) records) old m)
    (sym (one_header t.frame.words old alike.header)) keeps
