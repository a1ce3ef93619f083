-- What a recording on two disks means where it records.
use Rattle.std.proofs.Common.{◌≡◌, ◌⊎◌, ⊎_elim, inl, inr, ℕ, ◌+◌, ◌-◌, ◌<◌, ◌≤◌, true, false, List, [], ◌∷◌, ◌++◌, length, take, Option, Some}
use Rattle.std.proofs.Common.{None, IsTrue, refl, sym, ap, ◌∙◌, subst, arith}
use Rattle.std.specs.Prelude.{nat_lt}
use Rattle.std.specs.Option.{option_map}
use Rattle.std.proofs.lemmas.Bool.Decides.{nat_tests}
use Rattle.fdr_io.specs.declared.Input.TheVariants as input
use Rattle.fdr_bus.specs.declared.BusRecord.{BusRecord}
use Rattle.fdr_bus.specs.Records.{good_prefix}
use Rattle.fdr_bus.specs.declared.TraceFault.{TraceFault}
use Rattle.fdr_slot.specs.Limits.{sequence_end}
use Rattle.fdr_recover.specs.Blocks.{Block}
use Rattle.fdr_recover.specs.ImageHeader.{image_fault_of, header_in}
use Rattle.fdr_recover.specs.Payloads.{run_in}
use Rattle.fdr_table.specs.Reading.{first_some}
use Rattle.fdr_load.specs.Tables.{IsAccepted, table_in}
use Rattle.fdr_recorder.specs.NewBlocks.{new_blocks, next_in}
use Rattle.fdr_twin.specs.declared.side.Side.{Side}
use Rattle.fdr_twin.specs.declared.side.Side.TheVariants.{First, Second}
use Rattle.fdr_twin.specs.Pair.{PairMoment, disk_on, other_side}
use Rattle.fdr_pair.specs.Alike.{AreAlike, lead_on, follower_on, lead_image, follower_image}
use Rattle.fdr_pair.specs.Brought.{blocks_not_below}
use Rattle.fdr_pair.specs.Opening.{IsRightImage, frame_refusal}
use Rattle.fdr_pair.specs.PairEnds.{FollowerHoldsBrought, GoesOnWithLead, GoesOnWithoutLead, HasFailedSince, HaveEnded, HoldWithLead, HoldWithoutLead}
use Rattle.fdr_pair.specs.PairEnds.{LeadHolds}
use Rattle.fdr_pair.specs.PairMoments.{HasFailedBeforePull, HasPulledBytes, KeepsBroughtRun, KeepsRunWith, KeepsUpBy, MayRecordPair, blocks_to_get}
use Rattle.fdr_pair.specs.SideKeeping.{HasFailedOrKeeps}
use Rattle.fdr_twin.specs.Serving.{EachPairMoment}
use Rattle.fdr_pair.specs.PairRun.{PairRun, RecordsPair}
use Rattle.fdr_pair.specs.PairStages.{EndsPairTrace, IsPastPairTable, LeavesPairLine}
use Rattle.fdr_pair.specs.declared.outcome.PairOutcome.{PairOutcome}
use Rattle.fdr_pair.specs.declared.outcome.PairOutcome.TheVariants as outcome
use Rattle.fdr_pair.proofs.Alikes.{no_fault_of_side}
use Rattle.fdr_pair.specs.PairMeaning.{PairEffect, to_work, grow, left_or, of_both, pair_meaning, records_on_both, refused_blocks, refused_far}
use Rattle.fdr_pair.specs.PairMeaning.{refused_images, trace_end}
use Rattle.fdr_pair.specs.PairDoing.{GavePairInput, DoesAllOnBoth, Grows, HasGrown, IsPairTold, KeepsOn, DoesPairAsMeant}
use Rattle.fdr_load.specs.Supplies.{Supplied}
use Rattle.fdr_pair.proofs.PairFirstBlocks.{first_fewer, first_same}
use Rattle.fdr_pair.proofs.PairGivens.{all_elim, all_of, came_all, came_cut, came_part, front_all, front_same, gave_all, gave_cut, gave_part, given_by}
use Rattle.fdr_pair.proofs.PairGivens.{was_given, whole}
use Rattle.fdr_pair.proofs.PairGrowth.{grown_brought, grown_own, keeps_base, keeps_brought}
use Rattle.fdr_pair.proofs.Limits.{limits_in}
use Rattle.fdr_pair.proofs.PairHeaders.{first_after, header_list}
use Rattle.fdr_pair.proofs.PairRefusals.{alike_passes, frame_fits, meant_recorded, none_first, step_meant, step_recorded}
use Rattle.fdr_pair.proofs.PairTraces.{IsSameTrace, done_ends, done_same, failed_ends, refused_ends, refused_same}

-- ---- sides

pub twice : (s : Side) → other_side (other_side s) ≡ s
twice First = refl
twice Second = refl

pub of_each : (P : Side → Type 0) (s : Side) → P s → P (other_side s) → (side : Side) → P side
of_each P First one other First = one
of_each P First one other Second = other
of_each P Second one other First = other
of_each P Second one other Second = one

module _ (r : PairRun) (told : IsPairTold r) (bytes : List ℕ) (is : r.rest_before ≡ Some bytes) (accepted : IsAccepted bytes)
    (rec : RecordsPair (table_in bytes) r) where
  -- the answer is one of a recording that went on
  abbrev IsRecorded : Type 0
  IsRecorded = EndsPairTrace r.answer ⊎ (r.answer ≡ outcome.SeqEnd)

  abbrev words : ℕ
  words = (table_in bytes).frame.words

  abbrev table : Supplied
  table = record { bytes = bytes; failed = false }

  -- ---- what both sides keep once bytes are pulled

  abbrev KeepsFrom : Side → Type 0
  KeepsFrom b = (side : Side) → image_fault_of (disk_on side r.old).held ≡ None → MayRecordPair r.old → EachPairMoment r.tells r.old r.new (λ m.
      HasPulledBytes r.old m → HasFailedOrKeeps side (header_in (disk_on side r.old).held)
      (run_in (disk_on side r.old).held ++ blocks_not_below (next_in (disk_on side r.old).held) (run_in (disk_on b r.old).held))
      (next_in (disk_on b r.old).held) (new_blocks (table_in bytes) (disk_on b r.old).held (good_prefix rec.pulled)) r.old m)

  abbrev KeptFrom : Side → Type 0
  KeptFrom b = (side : Side) → image_fault_of (disk_on side r.old).held ≡ None → MayRecordPair r.old → EachPairMoment r.tells r.old r.new (λ m.
      HasPulledBytes r.old m → KeepsRunWith side (blocks_to_get b side (table_in bytes) (good_prefix rec.pulled) r.old) r.old m)

  abbrev KeepsUpFrom : Side → Type 0
  KeepsUpFrom b = MayRecordPair r.old → KeepsUpBy (disk_on b r.old).held (table_in bytes) r.tells rec.pulled r.old r.new

  -- which side had failed, and what both keep
  record KeptOn : Type 0 where
    pub failed : Option Side
    pub before : (side : Side) → failed ≡ Some side → HasFailedBeforePull r.tells side r.old r.new
    pub each : KeepsFrom (left_or failed (lead_on r.old))
    pub had : KeptFrom (left_or failed (lead_on r.old))
    pub in_time : KeepsUpFrom (left_or failed (lead_on r.old))
    pub alike : failed ≡ None → AreAlike words r.old

  keeps_of : (k : KeptOn) (came : Supplied) → (rest : List ℕ) × (came.bytes ≡ rec.pulled ++ rest) → KeepsOn (given_by r table came k.failed) r
  keeps_of k came front = record { pulled = rec.pulled; pulls = rec.pulls.takes; front = front; each = k.each; failed = k.had; in_time = k.in_time }

  only_this : (s : Side) → HasFailedBeforePull r.tells s r.old r.new → (side : Side) → Some s ≡ Some side → HasFailedBeforePull r.tells side r.old r.new
  only_this s failed side same = let this : s ≡ side = cc in subst (λ (x : Side). HasFailedBeforePull r.tells x r.old r.new) this failed

  -- the lead keeps its own run
  module _ (other : (m : PairMoment) → image_fault_of (follower_image r.old) ≡ None → MayRecordPair r.old → IsTrue r.tells.stops
      → r.new.since r.old.clock m → HasPulledBytes r.old m
      → HasFailedOrKeeps (follower_on r.old) (header_in (follower_image r.old))
      (run_in (follower_image r.old) ++ blocks_not_below (next_in (follower_image r.old)) (run_in (lead_image r.old)))
      (next_in (lead_image r.old)) (new_blocks (table_in bytes) (lead_image r.old) (good_prefix rec.pulled)) r.old m) where
    from_lead : KeepsFrom (lead_on r.old)
    from_lead = of_each (λ (side : Side). image_fault_of (disk_on side r.old).held ≡ None → MayRecordPair r.old
        → EachPairMoment r.tells r.old r.new (λ m. HasPulledBytes r.old m → HasFailedOrKeeps side (header_in (disk_on side r.old).held)
        (run_in (disk_on side r.old).held ++ blocks_not_below (next_in (disk_on side r.old).held) (run_in (lead_image r.old)))
        (next_in (lead_image r.old)) (new_blocks (table_in bytes) (lead_image r.old) (good_prefix rec.pulled)) r.old m)) (lead_on r.old)
        (λ none may stops m since pulled. keeps_base (table_in bytes) (good_prefix rec.pulled) r.old (lead_on r.old) m none
        (rec.keeps.lead none may stops m since))
        (λ none may stops m since pulled. other m none may stops since pulled)

  abbrev GoesWith : Type 0
  GoesWith = GoesOnWithLead (table_in bytes) r.tells (good_prefix rec.pulled) rec.pulled r.old r.new (EndsPairTrace r.answer) (r.answer ≡ outcome.SeqEnd)

  abbrev GoesWithout : Type 0
  GoesWithout = GoesOnWithoutLead (table_in bytes) r.tells (good_prefix rec.pulled) rec.pulled r.old r.new (EndsPairTrace r.answer)
      (r.answer ≡ outcome.SeqEnd)

  kept_both : (w : GoesWith) → AreAlike words r.old
      → (MayRecordPair r.old → EachPairMoment r.tells r.old r.new (λ m. HasPulledBytes r.old m
      → KeepsBroughtRun (table_in bytes) (good_prefix rec.pulled) r.old m))
      → KeptOn
  kept_both w alike moments = record {
    failed = None;
    before = λ side never. absurd (cc);
    each = from_lead (λ m none may stops since pulled.
        keeps_brought (table_in bytes) (good_prefix rec.pulled) r.old m alike (moments may stops m since pulled));
    had = w.kept;
    in_time = w.in_time;
    alike = λ none. alike;
  }

  kept_lead : (w : GoesWith) → HasFailedBeforePull r.tells (follower_on r.old) r.old r.new → KeptOn
  kept_lead w failed = record {
    failed = Some (follower_on r.old);
    before = only_this (follower_on r.old) failed;
    each = subst KeepsFrom (sym (twice (lead_on r.old))) (from_lead (λ m none may stops since pulled. inl (failed.moments stops m since pulled)));
    had = subst KeptFrom (sym (twice (lead_on r.old))) w.kept;
    in_time = subst KeepsUpFrom (sym (twice (lead_on r.old))) w.in_time;
    alike = λ none. absurd (cc);
  }

  kept_other : (w : GoesWithout) → KeptOn
  kept_other w = record {
    failed = Some (lead_on r.old);
    before = only_this (lead_on r.old) w.lead;
    each = of_each (λ (side : Side). image_fault_of (disk_on side r.old).held ≡ None → MayRecordPair r.old
        → EachPairMoment r.tells r.old r.new (λ m. HasPulledBytes r.old m → HasFailedOrKeeps side (header_in (disk_on side r.old).held)
        (run_in (disk_on side r.old).held ++ blocks_not_below (next_in (disk_on side r.old).held) (run_in (follower_image r.old)))
        (next_in (follower_image r.old)) (new_blocks (table_in bytes) (follower_image r.old) (good_prefix rec.pulled)) r.old m)) (lead_on r.old)
        (λ none may stops m since pulled. inl (w.lead.moments stops m since pulled))
        (λ none may stops m since pulled. keeps_base (table_in bytes) (good_prefix rec.pulled) r.old (follower_on r.old) m none
        (w.follower may stops m since pulled));
    had = w.kept;
    in_time = w.in_time;
    alike = λ none. absurd (cc);
  }

  kept_on : (LeavesPairLine r.answer → ⊥) → KeptOn
  kept_on not_left = ⊎_elim (λ w. ⊎_elim (λ alike. kept_both w alike.0 alike.1) (λ failed. kept_lead w failed.0) w.follower) (λ w. kept_other w)
      (rec.keeps.goes_on not_left told.bytes)

  -- both disks failed
  pub means_disks : r.answer ≡ outcome.DiskFault → DoesPairAsMeant r
  means_disks e =
      let k = kept_on (λ left. subst LeavesPairLine e left) in
      let came = came_part rec.pulled in
      let g = given_by r table came k.failed in
      record {
        g = g;
        given = was_given r table came k.failed (whole r bytes is) (gave_part r rec.pulled rec.pulls.takes e) k.before;
        does = inr (inl (record { answer = e; step = step_meant bytes accepted g refl; work = work k; causes = of_side }));
        keeps = keeps_of k came (front_same rec.pulled);
      }
    where
      work : (k : KeptOn) → k.failed ≡ None → (pair_meaning (given_by r table (came_part rec.pulled) k.failed)).step ≡ to_work
      work k none =
          let came = came_part rec.pulled in
          step_recorded bytes accepted (given_by r table came k.failed) refl
          (subst (λ (f : Option Side). refused_images (table_in bytes) (given_by r table came f) ≡ None) (sym none)
          (alike_passes r table came (table_in bytes) (k.alike none)))

      of_side : (side : Side) → HasFailedSince side r.old r.new
      of_side First = rec.causes.first e
      of_side Second = rec.causes.second e

  -- ---- one side alone

  module _ (past : IsPastPairTable r.answer) (ended : IsRecorded) where
    -- the image of the side that is left is right
    alone : (s : Side) (came : Supplied) → IsRightImage words (disk_on (other_side s) r.old).held
        → first_some (header_list words (given_by r table came (Some s))) ≡ None
    alone First came right = none_first None (option_map (outcome.ImageRefused Second) (image_fault_of r.old.second.held)) None
        (frame_refusal words (header_in r.old.second.held)) refl (ap (option_map (outcome.ImageRefused Second)) right.no_fault) refl
        (frame_fits words (header_in r.old.second.held) right.count right.version)
    alone Second came right = none_first (option_map (outcome.ImageRefused First) (image_fault_of r.old.first.held)) None None
        (frame_refusal words (header_in r.old.first.held)) (ap (option_map (outcome.ImageRefused First)) right.no_fault) refl refl
        (frame_fits words (header_in r.old.first.held) right.count right.version)

    passes_alone : (s : Side) (came : Supplied) → IsRightImage words (disk_on (other_side s) r.old).held
        → refused_images (table_in bytes) (given_by r table came (Some s)) ≡ None
    passes_alone s came right = first_after (header_list words (given_by r table came (Some s)))
        (of_both (Some s) (refused_blocks r.old.first.held r.old.second.held) ∷ of_both (Some s) (refused_far (given_by r table came (Some s))) ∷ [])
        (alone s came right)

    -- ---- what stands in the end

    -- what both sides are to hold, where this one is the base and these are the new blocks
    abbrev added : Side → List Block → Side → List Block
    added b blocks = λ (side : Side). blocks_not_below (next_in (disk_on side r.old).held) (run_in (disk_on b r.old).held) ++ blocks

    abbrev Holds : Side → List Block → Type 0
    Holds b blocks = Grows (added b blocks) r

    abbrev HoldsOn : Side → List Block → Side → Type 0
    HoldsOn b blocks side = HasFailedSince side r.old r.new ⊎ HasGrown (added b blocks) side r

    -- a side whose count is as it was, and that holds all
    abbrev HoldsOne : Side → List Block → Type 0
    HoldsOne b blocks = (x : Side) × ((disk_on x r.new).faults ≡ (disk_on x r.old).faults) × HasGrown (added b blocks) x r

    with_both : (blocks : List Block) → AreAlike words r.old → HoldWithLead r.tells blocks r.old r.new → Holds (lead_on r.old) blocks
    with_both blocks alike h =
        let b = lead_on r.old in
        let limits = limits_in (lead_image r.old) (no_fault_of_side words r.old b alike.header) in
        let own : LeadHolds r.tells blocks r.old r.new → HasGrown (added b blocks) b r =
        λ holds. grown_own r.tells blocks r.old r.new b limits holds h.announced in
        let other : FollowerHoldsBrought r.tells blocks r.old r.new → HasGrown (added b blocks) (follower_on r.old) r =
        λ holds. grown_brought r.tells blocks r.old r.new words alike limits holds h.announced in
        record {
          each = of_each (HoldsOn b blocks) b (⊎_elim (λ rose. inl rose) (λ holds. inr (own holds)) h.lead)
              (⊎_elim (λ rose. inl rose) (λ holds. inr (other holds)) h.follower);
          one = ⊎_elim {C = HoldsOne b blocks} (λ holds. (b, holds.faults, own holds)) (λ holds. (follower_on r.old, holds.faults, other holds)) h.one;
        }

    with_lead : (blocks : List Block) → HasFailedSince (follower_on r.old) r.old r.new → IsRightImage words (lead_image r.old)
        → LeadHolds r.tells blocks r.old r.new → HoldWithLead r.tells blocks r.old r.new → Holds (lead_on r.old) blocks
    with_lead blocks rose right holds h =
        let b = lead_on r.old in
        let own = grown_own r.tells blocks r.old r.new b (limits_in (lead_image r.old) right.no_fault) holds h.announced in
        record { each = of_each (HoldsOn b blocks) b (inr own) (inl rose); one = (b, holds.faults, own) }

    without_lead : (blocks : List Block) → HasFailedSince (lead_on r.old) r.old r.new → IsRightImage words (follower_image r.old)
        → HoldWithoutLead r.tells blocks r.old r.new → Holds (follower_on r.old) blocks
    without_lead blocks rose right h =
        let b = lead_on r.old in
        let own = grown_own r.tells blocks r.old r.new (other_side b) (limits_in (follower_image r.old) right.no_fault) h.follower h.announced in
        record { each = of_each (HoldsOn (other_side b) blocks) b (inl rose) (inr own); one = (other_side b, h.follower.faults, own) }

    abbrev Ends : Side → Type 0
    Ends b = HaveEnded (next_in (disk_on b r.old).held) (new_blocks (table_in bytes) (disk_on b r.old).held (good_prefix rec.pulled)) (Holds b)
        (EndsPairTrace r.answer) (r.answer ≡ outcome.SeqEnd)

    carry : (next : ℕ) (blocks : List Block) (H K : List Block → Type 0) (all used : Type 0) → ((bs : List Block) → H bs → K bs)
        → HaveEnded next blocks H all used → HaveEnded next blocks K all used
    carry next blocks H K all used to ends = record {
      recorded = λ is_all. to blocks (ends.recorded is_all);
      within = ends.within;
      seq_end = λ is_used. to (take (sequence_end - next) blocks) (ends.seq_end is_used);
      beyond = ends.beyond;
    }

    -- how the recording went on: which side had failed and what both keep, that the images pass, and what stands in the end
    record WentOn : Type 0 where
      pub kept : KeptOn
      pub passes : (came : Supplied) → refused_images (table_in bytes) (given_by r table came kept.failed) ≡ None
      pub no_fault : image_fault_of (disk_on (left_or kept.failed (lead_on r.old)) r.old).held ≡ None
      pub ends : Ends (left_or kept.failed (lead_on r.old))

    -- the image of the lead, as that of the other's other
    right_lead : GoesWith → IsRightImage words (disk_on (other_side (follower_on r.old)) r.old).held
    right_lead w = subst (λ (x : Side). IsRightImage words (disk_on x r.old).held) (sym (twice (lead_on r.old))) (w.read ended)

    both_ended : {next : ℕ} {blocks : List Block} {H K : List Block → Type 0} {all used : Type 0} → HaveEnded next blocks H all used
        → HaveEnded next blocks K all used → HaveEnded next blocks (λ (bs : List Block). H bs × K bs) all used
    both_ended one two = record {
      recorded = λ is_all. (one.recorded is_all, two.recorded is_all);
      within = one.within;
      seq_end = λ is_used. (one.seq_end is_used, two.seq_end is_used);
      beyond = one.beyond;
    }

    went_with : GoesWith → WentOn
    unfolding kept_both kept_lead
    went_with w = ⊎_elim
        (λ alike. record {
          kept = kept_both w alike.0 alike.1;
          passes = λ came. alike_passes r table came (table_in bytes) alike.0;
          no_fault = no_fault_of_side words r.old (lead_on r.old) alike.0.header;
          ends = carry _ _ (λ (blocks : List Block). HoldWithLead r.tells blocks r.old r.new) (Holds (lead_on r.old)) _ _
              (λ blocks h. with_both blocks alike.0 h) w.ends;
        })
        (λ failed. record {
          kept = kept_lead w failed.0;
          passes = λ came. passes_alone (follower_on r.old) came (right_lead w);
          no_fault = subst (λ (x : Side). image_fault_of (disk_on x r.old).held ≡ None) (sym (twice (lead_on r.old))) (w.read ended).no_fault;
          ends = subst Ends (sym (twice (lead_on r.old))) (carry _ _ (λ (blocks : List Block). LeadHolds r.tells blocks r.old r.new
              × HoldWithLead r.tells blocks r.old r.new) (Holds (lead_on r.old)) _ _
              (λ blocks h. with_lead blocks failed.0.now (w.read ended) h.0 h.1) (both_ended failed.1 w.ends));
        })
        w.follower

    went_without : GoesWithout → WentOn
    unfolding kept_other
    went_without w = record {
      kept = kept_other w;
      passes = λ came. passes_alone (lead_on r.old) came (w.read ended);
      no_fault = (w.read ended).no_fault;
      ends = carry _ _ (λ (blocks : List Block). HoldWithoutLead r.tells blocks r.old r.new) (Holds (follower_on r.old)) _ _
          (λ blocks h. without_lead blocks w.lead.now (w.read ended) h) w.ends;
    }

    went_on : (LeavesPairLine r.answer → ⊥) → WentOn
    went_on not_left = ⊎_elim (λ w. went_with w) (λ w. went_without w) (rec.keeps.goes_on not_left told.bytes)

    -- ---- the answers

    module _ (went : WentOn) where
      abbrev the_base : Side
      the_base = left_or went.kept.failed (lead_on r.old)

      abbrev blocks_by : List BusRecord → List Block
      blocks_by trace = new_blocks (table_in bytes) (disk_on the_base r.old).held trace

      -- all was recorded of the trace that came
      all_recorded : (came : Supplied) (a : PairOutcome) → r.answer ≡ a → EndsPairTrace r.answer → good_prefix came.bytes ≡ good_prefix rec.pulled
          → trace_end came ≡ a → GavePairInput came r → (rest : List ℕ) × (came.bytes ≡ rec.pulled ++ rest) → DoesPairAsMeant r
      all_recorded came a e all same ends of_input front =
          let g = given_by r table came went.kept.failed in
          let within = went.ends.within all in
          let test : nat_lt sequence_end (next_in (disk_on the_base r.old).held + length (blocks_by (good_prefix rec.pulled)))
          ≡ false = grind (arith, nat_tests) in
          let meant : pair_meaning g ≡ record { step = to_work; answer = a; images = grow (added the_base (blocks_by (good_prefix rec.pulled))) } =
          meant_recorded bytes accepted g refl (went.passes came)
          ∙ ap (λ (trace : List BusRecord). records_on_both g (blocks_by trace) (trace_end came)) same
          ∙ ap (records_on_both g (blocks_by (good_prefix rec.pulled))) ends
          ∙ (rw test refl) in
          record {
            g = g;
            given = was_given r table came went.kept.failed (whole r bytes is) of_input went.kept.before;
            does = inl (subst (λ (m : PairEffect). DoesAllOnBoth g m r) (sym meant)
                (record { answer = e; images = went.ends.recorded all; failed = λ past. absurd (past refl) }));
            keeps = keeps_of went.kept came front;
          }

      -- these bytes make as many blocks or more, and the same ones as far as there are numbers
      abbrev numbers : ℕ
      numbers = sequence_end - next_in (disk_on the_base r.old).held

      abbrev IsMore : List ℕ → Type 0
      IsMore more = (length (blocks_by (good_prefix rec.pulled)) ≤ length (blocks_by (good_prefix more)))
          × (take numbers (blocks_by (good_prefix more)) ≡ take numbers (blocks_by (good_prefix rec.pulled)))

      -- there were no more numbers
      some_recorded : r.answer ≡ outcome.SeqEnd → DoesPairAsMeant r
      some_recorded e =
          let came = came_all r rec.pulled in
          let g = given_by r table came went.kept.failed in
          let beyond = went.ends.beyond e in
          let image = (disk_on the_base r.old).held in
          let limits = limits_in image went.no_fault in
          let few : numbers ≤ length (blocks_by (good_prefix rec.pulled)) - 1 = omega (arith, beyond) in
          let so : IsMore came.bytes = all_elim IsMore r.tells.input r.old.input rec.pulled
          (λ line. subst IsMore (sym (rec.pulls.takes.input line))
          (first_fewer (table_in bytes) image rec.pulled r.new.input limits, first_same (table_in bytes) image rec.pulled r.new.input limits numbers few))
          (omega arith, refl) in
          let over : sequence_end < next_in image + length (blocks_by (good_prefix came.bytes)) = omega (arith, beyond, so.0) in
          let test : nat_lt sequence_end (next_in image + length (blocks_by (good_prefix came.bytes))) ≡ true = grind (arith, nat_tests) in
          let meant : pair_meaning g ≡ record {
            step = to_work;
            answer = outcome.SeqEnd;
            images = grow (added the_base
                (take numbers (blocks_by (good_prefix came.bytes))));
          } =
          meant_recorded bytes accepted g refl (went.passes came) ∙ (rw test refl) in
          record {
            g = g;
            given = was_given r table came went.kept.failed (whole r bytes is) (gave_all r rec.pulled rec.pulls.takes) went.kept.before;
            does = inl (subst (λ (m : PairEffect). DoesAllOnBoth g m r) (sym meant) (record {
              answer = e;
              images = subst (Holds the_base) (sym so.1) (went.ends.seq_end e);
              failed = λ past. absurd (past refl);
            }));
            keeps = keeps_of went.kept came (front_all r rec.pulled rec.pulls.takes);
          }

      ended_all : (a : PairOutcome) → r.answer ≡ a → EndsPairTrace r.answer
          → ((all : List ℕ) → IsSameTrace rec.pulled all → trace_end (record { bytes = all; failed = false }) ≡ a)
          → (IsTrue r.tells.input → IsSameTrace rec.pulled r.old.input) → DoesPairAsMeant r
      ended_all a e all ends same =
          let so = all_elim (IsSameTrace rec.pulled) r.tells.input r.old.input rec.pulled same (refl, refl) in
          all_recorded (came_all r rec.pulled) a e all so.0 (ends (all_of r.tells.input r.old.input rec.pulled) so) (gave_all r rec.pulled rec.pulls.takes)
          (front_all r rec.pulled rec.pulls.takes)

  -- ---- an answer of a recording

  went_at : (past : IsPastPairTable r.answer) (ended : IsRecorded) → (LeavesPairLine r.answer → ⊥) → WentOn past ended
  went_at past ended not_left = went_on past ended not_left

  pub means_done : r.answer ≡ outcome.Done → DoesPairAsMeant r
  means_done e =
      let past = subst IsPastPairTable (sym e) tt in
      let all = subst EndsPairTrace (sym e) tt in
      ended_all past (inl all) (went_at past (inl all) (λ left. subst LeavesPairLine e left)) outcome.Done e all
      (λ came. done_ends r.tells r.old r.new rec.pulled r.answer rec.pulls rec.ends came e)
      (done_same r.tells r.old r.new rec.pulled r.answer rec.pulls rec.ends e)

  pub means_trace : (index : ℕ) (why : TraceFault) → r.answer ≡ outcome.TraceRefused index why → DoesPairAsMeant r
  means_trace index why e =
      let past = subst IsPastPairTable (sym e) tt in
      let all = subst EndsPairTrace (sym e) tt in
      ended_all past (inl all) (went_at past (inl all) (λ left. subst LeavesPairLine e left)) (outcome.TraceRefused index why) e all
      (λ came. refused_ends r.tells r.old r.new rec.pulled r.answer rec.pulls rec.ends came index why e)
      (refused_same r.tells r.old r.new rec.pulled r.answer rec.pulls rec.ends index why e)

  pub means_cut : r.answer ≡ outcome.ReadFault input.Line → DoesPairAsMeant r
  means_cut e =
      let past = subst IsPastPairTable (sym e) tt in
      let all = subst EndsPairTrace (sym e) tt in
      all_recorded past (inl all) (went_at past (inl all) (λ left. subst LeavesPairLine e left)) (came_cut rec.pulled)
      (outcome.ReadFault input.Line) e all refl
      (failed_ends r.tells r.old r.new rec.pulled r.answer rec.pulls rec.ends e)
      (gave_cut r rec.pulled rec.pulls.takes (rec.causes.input e)) (front_same rec.pulled)

  pub means_seq_end : r.answer ≡ outcome.SeqEnd → DoesPairAsMeant r
  means_seq_end e =
      let past = subst IsPastPairTable (sym e) tt in
      some_recorded past (inr e) (went_at past (inr e) (λ left. subst LeavesPairLine e left)) e
