-- What is recorded on both disks of a twin in memory that was just made.
use Rattle.std.proofs.Common.{◌≡◌, inl, inr, ⊎_elim, ℕ, List, [], Option, Some, None, length, ap, sym, refl, subst, ◌∙◌}
use Rattle.fdr_bus.specs.Records.{good_prefix}
use Rattle.fdr_deck.specs.Disk.{IsSettled}
use Rattle.fdr_deck.specs.Memory.{held_in, memory_tells}
use Rattle.fdr_table.specs.Rows.{TableRows}
use Rattle.fdr_recover.specs.Blocks.{Block}
use Rattle.fdr_recover.specs.ImageHeader.{image_fault_of, header_in}
use Rattle.fdr_recorder.specs.NewBlocks.{new_blocks, next_in, owed_number}
use Rattle.fdr_twin.specs.declared.side.Side.{Side}
use Rattle.fdr_twin.specs.declared.side.Side.TheVariants.{First, Second}
use Rattle.fdr_twin.specs.Pair.{Pair, PairMoment, disk_on, seen}
use Rattle.fdr_twin.specs.TwinMemory.{TwinMemory, memory_on, twin_pair}
use Rattle.fdr_pair.specs.Alike.{lead_on, follower_on, lead_image, follower_image}
use Rattle.fdr_pair.specs.PairMoments.{MayRecordPair, KeepsOwnRun, KeepsRunWith, KeepsUpBy, HasFailedBeforePull, blocks_to_get}
use Rattle.fdr_pair.specs.PairStages.{EndsPairTrace}
use Rattle.fdr_pair.specs.PairEnds.{GoesOnWithLead, GoesOnWithoutLead, HaveEnded, HoldWithLead, HoldWithoutLead}
use Rattle.fdr_pair.specs.PairRun.{KeepsPair}
use Rattle.fdr_pair.specs.declared.outcome.PairOutcome.{PairOutcome}
use Rattle.fdr_pair.specs.declared.outcome.PairOutcome.TheVariants as outcome
use Rattle.fdr_pair_sure.specs.BothInMemory.{KeepsUpOnBoth, WentOnWithLead, WentOnWithoutLead, KeptOnBoth, pair_at_start}
use Rattle.fdr_pair_sure.proofs.Entries.{IsSameEntry, alike_same, at_follower, at_lead, brought_same, failed_before_same, follower_image_same}
use Rattle.fdr_pair_sure.proofs.Entries.{fault_same, first_same, no_fault_same, run_with_same, stays_same}
use Rattle.fdr_pair_sure.proofs.Entries.{hold_with_same, hold_without_same, lag_same, lead_image_same, own_same, pulled_same, until_same}

-- a twin as it is made means what the pair at the start means, as far as a recording looks at it
pub entry_of_made : (d : TwinMemory) (first second line : List ℕ) → held_in (memory_on First d) ≡ first → held_in (memory_on Second d) ≡ second
    → d.span.first_faults ≡ 0 → d.span.second_faults ≡ 0 → d.entries ≡ [] → d.span.taken ≡ 0 → d.span.pulled_before ≡ 0
    → IsSameEntry (twin_pair d) (pair_at_start first second line)
entry_of_made d first second line one other first_faults second_faults none taken before = record {
  first = sym one;
  second = sym other;
  first_faults = sym first_faults;
  second_faults = sym second_faults;
  clock = sym (ap length none);
  taken = sym taken;
  pulled_before = sym before;
}

-- there is a value where there isn't none
some_of : {A : Type 0} (o : Option A) → (o ≡ None → ⊥) → (a : A) × (o ≡ Some a)
some_of None some = absurd (some refl)
some_of (Some a) some = (a, refl)

-- what became of blocks, where what holds them implies another thing
ended_as : (next : ℕ) (blocks : List Block) (Hold Other : List Block → Type 0) (all used_up : Type 0) → ((l : List Block) → Hold l → Other l)
    → HaveEnded next blocks Hold all used_up → HaveEnded next blocks Other all used_up
ended_as next blocks Hold Other all used_up implies is = record {
  recorded = λ done. implies blocks (is.recorded done);
  within = is.within;
  seq_end = λ end. implies _ (is.seq_end end);
  beyond = is.beyond;
}

module _ (t : TableRows) (pulled : List ℕ) (a b : Pair) (same : IsSameEntry a b) (may : MayRecordPair a) (start : b.clock ≡ 0) (new : TwinMemory) where
  -- a moment since the twin was made is one since entry
  since_entry : (m : PairMoment) → (twin_pair new).since 0 m → (twin_pair new).since a.clock m
  since_entry m since = subst (λ (n : ℕ). (twin_pair new).since n m) (sym start ∙ same.clock) since

  -- the recording keeps up
  up_on_both : (image : List ℕ) → KeepsUpBy image t memory_tells pulled a (twin_pair new) → KeepsUpOnBoth image t pulled b new
  up_on_both image is = λ m since. lag_same a b same (owed_number t (header_in image) (next_in image)) pulled m (is refl m (since_entry m since))

  -- the recording went on from the lead's run
  with_lead : (answer : PairOutcome)
      → GoesOnWithLead t memory_tells (good_prefix pulled) pulled a (twin_pair new) (EndsPairTrace answer) (answer ≡ outcome.SeqEnd)
      → WentOnWithLead t pulled b answer new
  with_lead answer is = record {
    follower = ⊎_elim (λ alike. inl (
      alike_same a b same t.frame.words alike.0,
      λ m since later. brought_same a b same t (good_prefix pulled) m (alike.1 may refl m (since_entry m since) (pulled_same a b same m later)),
    ))
        (λ failed. inr (at_follower a b same (λ (s : Side). HasFailedBeforePull memory_tells s b (twin_pair new))
        (failed_before_same a b same memory_tells (follower_on a) (twin_pair new) failed.0))) is.follower;
    kept = λ side good m since later. at_lead a b same (λ (s : Side). KeepsRunWith side (blocks_to_get s side t (good_prefix pulled) b) b m)
        (first_same a b same (lead_on a) side t (good_prefix pulled) m
        (is.kept side (no_fault_same a b same side good) may refl m (since_entry m since) (pulled_same a b same m later)));
    in_time = subst (λ (i : List ℕ). KeepsUpOnBoth i t pulled b new) (sym (lead_image_same a b same)) (up_on_both (lead_image a) (is.in_time may));
    ends = subst (λ (i : List ℕ). HaveEnded (next_in i) (new_blocks t i (good_prefix pulled)) (λ blocks. HoldWithLead memory_tells blocks b (twin_pair new))
        (EndsPairTrace answer) (answer ≡ outcome.SeqEnd)) (sym (lead_image_same a b same))
        (ended_as (next_in (lead_image a)) (new_blocks t (lead_image a) (good_prefix pulled)) (λ blocks. HoldWithLead memory_tells blocks a (twin_pair new))
        (λ blocks. HoldWithLead memory_tells blocks b (twin_pair new)) (EndsPairTrace answer) (answer ≡ outcome.SeqEnd)
        (λ l. hold_with_same a b same memory_tells l (twin_pair new)) is.ends);
  }

  -- the recording went on from the run of the other side
  without_lead : (answer : PairOutcome)
      → GoesOnWithoutLead t memory_tells (good_prefix pulled) pulled a (twin_pair new) (EndsPairTrace answer) (answer ≡ outcome.SeqEnd)
      → WentOnWithoutLead t pulled b answer new
  without_lead answer is = record {
    lead = at_lead a b same (λ (s : Side). HasFailedBeforePull memory_tells s b (twin_pair new))
        (failed_before_same a b same memory_tells (lead_on a) (twin_pair new) is.lead);
    follower = λ m since later. at_follower a b same (λ (s : Side). KeepsOwnRun s t (good_prefix pulled) b m)
        (own_same a b same (follower_on a) t (good_prefix pulled) m (is.follower may refl m (since_entry m since) (pulled_same a b same m later)));
    kept = λ side good m since later. at_follower a b same (λ (s : Side). KeepsRunWith side (blocks_to_get s side t (good_prefix pulled) b) b m)
        (first_same a b same (follower_on a) side t (good_prefix pulled) m
        (is.kept side (no_fault_same a b same side good) may refl m (since_entry m since) (pulled_same a b same m later)));
    in_time = subst (λ (i : List ℕ). KeepsUpOnBoth i t pulled b new) (sym (follower_image_same a b same)) (up_on_both (follower_image a) (is.in_time may));
    ends = subst (λ (i : List ℕ). HaveEnded (next_in i) (new_blocks t i (good_prefix pulled))
        (λ blocks. HoldWithoutLead memory_tells blocks b (twin_pair new))
        (EndsPairTrace answer) (answer ≡ outcome.SeqEnd)) (sym (follower_image_same a b same))
        (ended_as (next_in (follower_image a)) (new_blocks t (follower_image a) (good_prefix pulled))
        (λ blocks. HoldWithoutLead memory_tells blocks a (twin_pair new))
        (λ blocks. HoldWithoutLead memory_tells blocks b (twin_pair new)) (EndsPairTrace answer) (answer ≡ outcome.SeqEnd)
        (λ l. hold_without_same a b same memory_tells l (twin_pair new)) is.ends);
  }

  settled : (side : Side) → IsSettled (seen side a)
  settled First = may.first
  settled Second = may.second

  -- what both images keep
  pub kept_on_both : (answer : PairOutcome) → KeepsPair t memory_tells pulled a (twin_pair new) answer → KeptOnBoth t pulled b answer new
  kept_on_both answer is = record {
    lead = λ good m since. at_lead a b same (λ (s : Side). KeepsOwnRun s t (good_prefix pulled) b m)
        (own_same a b same (lead_on a) t (good_prefix pulled) m
        (is.lead (subst (λ (i : List ℕ). image_fault_of i ≡ None) (lead_image_same a b same) good) may refl m (since_entry m since)));
    follower = λ good m since still. until_same a b same t.frame.words m
        (is.follower (subst (λ (i : List ℕ). image_fault_of i ≡ None) (follower_image_same a b same) good) may refl m (since_entry m since)
        (still ∙ same.taken));
    lead_run = λ good m since still. at_lead a b same (λ (s : Side). KeepsRunWith s [] b m) (run_with_same a b same (lead_on a) [] m
        (is.lead_run (subst (λ (i : List ℕ). image_fault_of i ≡ None) (lead_image_same a b same) good) may refl m (since_entry m since)
        (still ∙ same.taken)));
    unread = λ side fault m since.
        let why = some_of (image_fault_of (disk_on side a).held) (fault_same a b same side fault) in
        stays_same a b same side m (is.unread side why.0 why.1 (settled side) refl m (since_entry m since));
    goes_on = λ past. ⊎_elim (λ lead. inl (with_lead answer lead))
        (λ alone. inr (without_lead answer alone)) (is.goes_on past refl);
  }
