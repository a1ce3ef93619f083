-- A recording with looks at the disk before it and after it.
use Rattle.std.proofs.Common.{◌≡◌, ◌⊎◌, ⊎_elim, inl, ℕ, ◌+◌, ◌-◌, ◌^◌, ◌<◌, ◌≤◌, max, List, ◌++◌, length, take}
use Rattle.std.proofs.Common.{ap, sym, refl, ◌∙◌, subst, arith}
use Rattle.std.specs.Prelude.{IsTrue}
use Rattle.fdr_bus.specs.declared.BusRecord.{BusRecord}
use Rattle.fdr_deck.specs.State.{Moment, State, Tells}
use Rattle.fdr_deck.specs.Calls.{KeepsAnnounced}
use Rattle.fdr_deck.specs.Disk.{KeepsDisk}
use Rattle.fdr_deck.specs.Moments.{EachMoment, IsSoundDeck}
use Rattle.fdr_deck.proofs.Moments.{EachMoment-then, EachMoment-weaken, Elapses-then}
use Rattle.fdr_slot.specs.declared.image.Header.{Header}
use Rattle.fdr_slot.specs.declared.image.ImageFault.TheVariants as fault
use Rattle.fdr_recover.specs.Blocks.{Block}
use Rattle.fdr_recover.specs.Images.{next_of, recovered_run}
use Rattle.fdr_recover.specs.ImageHeader.{header_in, image_fault_of, IsFor}
use Rattle.fdr_recover.specs.Looks.{Looks}
use Rattle.fdr_ring.specs.Runs.{last_blocks}
use Rattle.fdr_table.specs.Rows.{TableRows}
use Rattle.fdr_recorder.specs.Keeping.{RecoversPrefix}
use Rattle.fdr_recorder.specs.Recording.{IsClose}
use Rattle.fdr_recorder.specs.Starting.{IsStarting}
use Rattle.fdr_recorder.proofs.Starting.{Starts-looked}
use Rattle.fdr_recorder.specs.NewBlocks.{AddsToRun, IsBlockMoment, MayRecord, RecordsBlocks, new_blocks, next_in}
use Rattle.fdr_recorder.proofs.Recordings.{chained, starting_moment}
use Rattle.fdr_recover.specs.Payloads.{run_in}
use Rattle.fdr_top.specs.Record.{RecordsStream}
use Rattle.fdr_top.specs.Stages.{WritesNothing}
use Rattle.fdr_top.specs.Refusals.{RefusesImage, RefusesOldImage}
use Rattle.fdr_top.specs.Recover.{OnlyLooks}
use Rattle.fdr_top.specs.declared.outcome.Outcome.{Outcome}
use Rattle.fdr_top.specs.declared.outcome.Outcome.TheVariants as outcome
use Rattle.fdr_top.proofs.ListedImages.{IsOfBlocks, of_blocks_begun}
use Rattle.fdr_top.proofs.RecordLines.{takes_image}

-- a recording may follow a look
may_still : (old new : State) → old.announced ≤ old.greatest → KeepsDisk old new → KeepsAnnounced old new → MayRecord old → MayRecord new
may_still old new sound disk told may = record {
  settled = λ image leaves. may.settled image (disk.no_more image leaves) ∙ sym disk.held;
  greatest = let same = ap next_in disk.held in ⊎_elim
      (λ anew. omega (arith, anew.1, told.announced, sound, may.greatest, same))
      (λ kept. omega (arith, kept.1, may.greatest, same))
      told.numbers;
}

-- ---- before the recording

moment_before : (t : TableRows) (a b : State) (records : List BusRecord) (m : Moment) → b.held ≡ a.held → IsBlockMoment t b records m
    → IsBlockMoment t a records m
moment_before t a b records m same at = record {
  keeps = subst (λ (i : List ℕ). RecoversPrefix (header_in i) i (run_in i) (new_blocks t i records) m.announced m.image) same at.keeps;
  close = subst (λ (i : List ℕ). IsClose (header_in i) (next_in i) m) same at.close;
}

recorded_before : (tells : Tells) (t : TableRows) (a b c : State) (blocks : List ℕ → List Block) → b.held ≡ a.held
    → AddsToRun tells (blocks b.held) b c → AddsToRun tells (blocks a.held) a c
recorded_before tells t a b c blocks same is = record {
  header = is.header ∙ ap header_in same;
  run = subst (λ (i : List ℕ). recovered_run (header_in i) c.held
      ≡ last_blocks ((header_in i).slots - 1) (run_in i ++ blocks i)) same is.run;
  next = subst (λ (i : List ℕ). next_of (header_in i) c.held ≡ next_in i + length (blocks i)) same is.next;
  announced = subst (λ (i : List ℕ). c.announced ≡ next_in i + length (blocks i)) same is.announced;
  settled = is.settled;
}

-- a recording that follows a look at the disk
pub RecordsBlocks-before : (t : TableRows) (tells : Tells) (records : List BusRecord) (a b c : State) (all used_up : Type 0) → IsSoundDeck tells a
    → OnlyLooks tells a b → RecordsBlocks t tells records b c all used_up → RecordsBlocks t tells records a c all used_up
RecordsBlocks-before t tells records a b c all used_up sound looks is =
    let same : b.held ≡ a.held = looks.disk.held in
    let may : MayRecord a → MayRecord b = may_still a b sound.greatest looks.disk looks.disk_work.passes.announced in
    let starts = Starts-looked tells (header_in a.held) a b sound looks.disk_work in
    let moments : MayRecord a → EachMoment tells a c (IsBlockMoment t a records) = λ ready.
    EachMoment-then tells a b c (IsBlockMoment t a records) looks.disk_work.passes.time is.time
    (EachMoment-weaken tells a b (IsStarting (header_in a.held) a) (IsBlockMoment t a records)
    (λ m at. starting_moment t a records m at) (starts.moments ready))
    (λ stops m since. moment_before t a b records m same (is.moments (may ready) stops m since)) in
    let for : (count : ℕ) → IsFor count b.held → IsFor count a.held = λ count it. subst (IsFor count) same it in
    record {
      time = Elapses-then tells a b c looks.disk_work.passes.time is.time;
      moments = moments;
      chain = chained t tells a c records moments;
      recorded = λ whole told. recorded_before tells t a b c (λ i. new_blocks t i records) same (is.recorded whole told);
      within = λ whole told. subst (λ (i : List ℕ). next_in i + length (new_blocks t i records) ≤ 2 ^ 48) same (is.within whole told);
      ready = λ whole stops ready. is.ready whole stops (may ready);
      near = λ whole told ready. subst (λ (i : List ℕ). next_in i + length (new_blocks t i records) ≤ max (next_in i) c.least + 1) same
          (is.near whole told (may ready));
      seq_end = λ e told. recorded_before tells t a b c (λ i. take (2 ^ 48 - next_in i) (new_blocks t i records)) same (is.seq_end e told);
      beyond = λ e told. subst (λ (i : List ℕ). 2 ^ 48 < next_in i + length (new_blocks t i records)) same (is.beyond e told);
      good = λ either told. for t.frame.words (is.good either told);
      current = λ either told. ap (λ (i : List ℕ). (header_in i).version) (sym same) ∙ is.current either told;
    }

-- and so is its image
pub image_before : (t : TableRows) (tells : Tells) (a b c : State) (answer : Outcome) → OnlyLooks tells a b → RefusesImage t tells b c answer
    → RefusesImage t tells a c answer
image_before t tells a b c answer looks is =
    let same : b.held ≡ a.held = looks.disk.held in
    let for : (count : ℕ) → IsFor count b.held → IsFor count a.held = λ count it. subst (IsFor count) same it in
    let back : (count : ℕ) → IsFor count a.held → IsFor count b.held = λ count it. subst (IsFor count) (sym same) it in
    record {
      header = record {
        refused = λ why e told. ap image_fault_of (sym same) ∙ is.header.refused why e told;
        small = is.header.small;
        small_always = is.header.small_always;
        refused_always = λ why past told first. is.header.refused_always why past told (ap image_fault_of same ∙ first);
      };
      words = λ image table e. let here = is.words image table e in (here.0, here.1, λ told. for image (here.2 told));
      words_always = λ image past told it differ. is.words_always image past told (back image it) differ;
    }

pub old_before : (t : TableRows) (tells : Tells) (a b : State) (answer : Outcome) → OnlyLooks tells a b → RefusesOldImage t tells b answer
    → RefusesOldImage t tells a answer
old_before t tells a b answer looks is = record {
  version = λ e told. subst (λ (i : List ℕ). IsFor t.frame.words i × ((header_in i).version ≡ 1)) looks.disk.held (is.version e told);
  version_always = λ past told for first. is.version_always past told (subst (IsFor t.frame.words) (sym looks.disk.held) for)
      (ap (λ (i : List ℕ). (header_in i).version) looks.disk.held ∙ first);
}

-- ---- after the recording

-- at a look after it, the disk holds all blocks and nothing else may be left
moment_after : (t : TableRows) (tells : Tells) (records : List BusRecord) (a b c : State) → IsSoundDeck tells a → IsSoundDeck tells b
    → RecordsStream t tells records a b outcome.Done → Looks tells b c → MayRecord a → IsTrue tells.stops → (m : Moment)
    → c.since b.clock m → IsBlockMoment t a records m
moment_after t tells records a b c sound_a sound_b is looks ready stops m since =
    let bytes = sound_a.stops_need_bytes stops in
    let quiet = looks.disk_work.moments stops m since in
    let after = is.ready tt stops ready in
    let still : m.image ≡ b.held = after.settled m.image quiet.image in
    let now : Moment = record { image = b.held; announced = b.announced; taken = b.taken; pulled_before = b.pulled_before } in
    let here = sound_b.counts_now stops now (sound_b.held stops) refl (record { taken = refl; pulled_before = refl }) in
    let whole = is.moments ready stops now (sound_b.falls stops a.clock b.clock now is.time.later (omega arith) here) in
    let stands = is.recorded tt bytes in
    let h = header_in a.held in
    let number : next_of h b.held ≡ next_in b.held = ap (λ (x : Header). next_of x b.held) (sym stands.header) in
    let at : next_of h m.image ≡ next_of h b.held = ap (next_of h) still in
    record {
      keeps = subst (λ (i : List ℕ). RecoversPrefix h a.held (run_in a.held) (new_blocks t a.held records) m.announced i) (sym still) (record {
        kept = whole.keeps.kept;
        count = whole.keeps.count;
        fits = whole.keeps.fits;
        run = whole.keeps.run;
        next = whole.keeps.next;
        announced = omega (arith, quiet.greatest, after.greatest, number);
      });
      close = omega (arith, at, stands.next, is.near tt bytes ready, quiet.least);
    }

-- a recording after which the disk is only looked at
pub RecordsStream-after : (t : TableRows) (tells : Tells) (records : List BusRecord) (a b c : State) (answer : Outcome) → IsSoundDeck tells a
    → IsSoundDeck tells b → RecordsStream t tells records a b outcome.Done → Looks tells b c → IsOfBlocks answer
    → RecordsStream t tells records a c answer
RecordsStream-after t tells records a b c answer sound_a sound_b is looks of =
    let told = looks.disk_work.passes.announced in
    let same : c.held ≡ b.held = looks.disk.held in
    let moments : MayRecord a → EachMoment tells a c (IsBlockMoment t a records) = λ ready.
    EachMoment-then tells a b c (IsBlockMoment t a records) is.time looks.disk_work.passes.time (is.moments ready)
    (moment_after t tells records a b c sound_a sound_b is looks ready) in
    record {
      time = Elapses-then tells a b c is.time looks.disk_work.passes.time;
      moments = moments;
      chain = chained t tells a c records moments;
      recorded = λ all bytes.
          let stands = is.recorded tt bytes in
          record {
            header = ap header_in same ∙ stands.header;
            run = ap (recovered_run (header_in a.held)) same ∙ stands.run;
            next = ap (next_of (header_in a.held)) same ∙ stands.next;
            announced = told.announced ∙ stands.announced;
            settled = λ stops image leaves. stands.settled stops image (looks.disk.no_more image leaves) ∙ sym same;
          };
      within = λ all bytes. is.within tt bytes;
      ready = λ all stops ready. may_still b c sound_b.greatest looks.disk told (is.ready tt stops ready);
      near = λ all bytes ready.
          let stands = is.recorded tt bytes in
          ⊎_elim (λ anew. omega (arith, anew.0, told.announced, stands.announced))
          (λ kept. omega (arith, kept.0, is.near tt bytes ready))
          told.numbers;
      seq_end = λ e. absurd (of_blocks_going answer of e);
      beyond = λ e. absurd (of_blocks_going answer of e);
      good = λ either bytes. is.good (inl tt) bytes;
      current = λ either bytes. is.current (inl tt) bytes;
    }
  where
    of_blocks_going : (answer : Outcome) → IsOfBlocks answer → answer ≡ outcome.SeqEnd → ⊥
    of_blocks_going answer of e = ⊎_elim
        (λ (x : answer ≡ outcome.Done). let c : outcome.SeqEnd ≡ outcome.Done = sym e ∙ x in cc)
        (λ (rest : (answer ≡ outcome.WriteFault) ⊎ (answer ≡ outcome.DiskFault)). ⊎_elim
        (λ (x : answer ≡ outcome.WriteFault). let c : outcome.SeqEnd ≡ outcome.WriteFault = sym e ∙ x in cc)
        (λ (x : answer ≡ outcome.DiskFault). let c : outcome.SeqEnd ≡ outcome.DiskFault = sym e ∙ x in cc)
        rest)
        of

-- and its image is taken
pub image_after : (t : TableRows) (tells : Tells) (records : List BusRecord) (a b c : State) (answer : Outcome)
    → RecordsStream t tells records a b outcome.Done → RefusesImage t tells a b outcome.Done → Looks tells b c → IsOfBlocks answer
    → RefusesImage t tells a c answer
image_after t tells records a b c answer is image looks of = takes_image t tells a c answer (of_blocks_begun answer of)
    (λ short. done_long (image.header.small_always tt (omega (arith, short, looks.extent)))) (λ bytes. is.good (inl tt) bytes)
  where
    done_long : (outcome.Done ≡ outcome.ImageRefused fault.Small) ⊎ (outcome.Done ≡ outcome.DiskFault) → ⊥
    done_long either = ⊎_elim (λ e. cc) (λ e. cc) either

-- what was recorded in isn't of version 1
pub old_after : (t : TableRows) (tells : Tells) (records : List BusRecord) (a b : State) (answer : Outcome)
    → RecordsStream t tells records a b outcome.Done → IsOfBlocks answer → RefusesOldImage t tells a answer
old_after t tells records a b answer is of = record {
  version = λ e told. absurd (of_blocks_begun answer of (subst WritesNothing (sym e) tt));
  version_always = λ past told for first. absurd (let one : ◌≡◌ {A = ℕ} 1 2 = sym first ∙ is.current (inl tt) told in cc);
}
