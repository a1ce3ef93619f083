-- What a drill leaves and answers.
use Rattle.std.proofs.Common.{◌≡◌, ◌≢◌, ◌⊎◌, ⊎_elim, inl, inr, ℕ, ◌+◌, ◌<◌, List, length, Option, Ok, Err, ap, sym, refl, ◌∙◌, subst, take, arith}
use Rattle.std.specs.Prelude.{IsTrue}
use Rattle.fdr_io.specs.Told.{followed_by}
use Rattle.fdr_io.specs.declared.Input.TheVariants as input
use Rattle.fdr_check.specs.Soundness.{IsSound}
use Rattle.fdr_deck.specs.State.{State, Tells}
use Rattle.fdr_deck.specs.Disk.{LearnsExtent}
use Rattle.fdr_deck.specs.Moments.{IsSoundDeck}
use Rattle.fdr_gen.specs.Trace.{generated_trace}
use Rattle.fdr_slot.specs.declared.image.Header.{Header}
use Rattle.fdr_recover.specs.Images.{recovered_run}
use Rattle.fdr_recover.specs.ImageHeader.{header_in, IsFor}
use Rattle.fdr_recover.specs.Looks.{Looks}
use Rattle.fdr_table.specs.Ranges.{IsInRange}
use Rattle.fdr_table.specs.Rows.{TableRows}
use Rattle.fdr_recorder.proofs.Starting.{Starts-looked}
use Rattle.fdr_words.specs.Forms.{drill_image}
use Rattle.fdr_recorder.specs.declared.source.SourceEnd.TheVariants as source
use Rattle.fdr_top.specs.Stages.{EndsRecording, IsPastTable}
use Rattle.fdr_top.specs.Answers.{IsOwn}
use Rattle.fdr_top.specs.Complete.{HasRoom}
use Rattle.fdr_top.specs.Drill.{DrillsImage, drill_line, drill_text}
use Rattle.fdr_top.specs.List.{RefusesOpening}
use Rattle.fdr_recorder.specs.NewBlocks.{new_blocks, next_in}
use Rattle.fdr_recorder.specs.Supplied.{RecordsSupply}
use Rattle.fdr_recorder.specs.Supply.{drawn_trace}
use Rattle.fdr_recorder.specs.declared.error.SessionFault.{SessionFault}
use Rattle.fdr_recorder.specs.declared.source.SourceEnd.{SourceEnd}
use Rattle.fdr_recorder.specs.Ends.{RecordingEnd}
use Rattle.fdr_recorder.proofs.Recordings.{RecordsBlocks-unbegun, nothing_started}
use Rattle.fdr_top.specs.Ends.{recording_answer, session_refusal}
use Rattle.fdr_top.specs.Record.{RecordsStream}
use Rattle.fdr_recover.specs.Payloads.{run_in}
use Rattle.fdr_top.specs.Recover.{OnlyLooks}
use Rattle.fdr_top.specs.Refusals.{RefusesImage, RefusesOldImage}
use Rattle.fdr_top.specs.Sessions.{summary_of_blocks}
use Rattle.fdr_top.specs.Tables.{ByTable}
use Rattle.fdr_top.specs.declared.outcome.Outcome.{Outcome}
use Rattle.fdr_top.specs.declared.outcome.Outcome.TheVariants as outcome
use Rattle.fdr_top.proofs.Drills.{RecordsBlocks-before, RecordsStream-after, image_after, image_before, old_after, old_before}
use Rattle.fdr_top.proofs.ListedImages.{IsOfBlocks}
use Rattle.fdr_top.proofs.Making.{table_or, table_told}
use Rattle.fdr_top.proofs.Readable.{lists_survivors, lists_undamaged}
use Rattle.fdr_top.proofs.RecordingEnds.{image_by_answer, old_by_answer, refusal_not_write, refusal_records_none, stream_by_answer}
use Rattle.fdr_top.proofs.RecordLines.{all_past, no_differ, no_first, no_old_version, refuses_no_version, refuses_nothing}

-- what was recorded, and what was written of it
drills : (t : TableRows) (seed frames : ℕ) (tells : Tells) (old new : State) (before now : Option (List ℕ)) (answer : Outcome) → IsInRange t → IsSound t
    → RecordsStream t tells (generated_trace t seed frames) old new answer → RefusesImage t tells old new answer
    → RefusesOldImage t tells old answer
    → (answer ≡ outcome.Done → IsTrue tells.bytes → now
    ≡ followed_by before (drill_line t (length (new_blocks t old.held (generated_trace t seed frames))) new.held))
    → (answer ≡ outcome.WriteFault → IsTrue tells.bytes → (k : ℕ) × (now ≡ followed_by before
    (take k (drill_line t (length (new_blocks t old.held (generated_trace t seed frames))) new.held))))
    → (answer ≢ outcome.Done → answer ≢ outcome.WriteFault → now ≡ before)
    → DrillsImage t seed frames tells old new before now answer
drills t seed frames tells old new before now answer range sound blocks image old_image text part silent = record {
  blocks = blocks;
  image = image;
  old_image = old_image;
  text = text;
  part = part;
  silent = silent;
  survives = λ past. lists_survivors t (generated_trace t seed frames) range sound;
  undamaged = λ all. lists_undamaged t tells (generated_trace t seed frames) old new answer range sound blocks all;
}

-- ---- where the image isn't opened, or memory ends

shut_records_none : (answer : Outcome) → RefusesOpening answer → EndsRecording answer → ⊥
shut_records_none (outcome.ImageRefused why) shut all = all
shut_records_none (outcome.WordsDiffer image table) shut all = all
shut_records_none outcome.DiskFault shut all = all
shut_records_none outcome.NoMemory shut all = all
shut_records_none answer shut all = shut

-- an image of version 1 for the table's frames is opened, unless the disk fails
shut_old : (t : TableRows) (tells : Tells) (old new : State) (answer : Outcome) → RefusesOpening answer → RefusesImage t tells old new answer
    → RefusesOldImage t tells old answer
shut_old t tells old new answer shut image = record {
  version = λ e told. absurd (rw e at shut);
  version_always = λ past told for first. shut_failed answer shut image past told for;
}
  where
    shut_failed : (a : Outcome) → RefusesOpening a → RefusesImage t tells old new a → IsPastTable a → IsTrue tells.bytes → IsFor t.frame.words old.held
        → (a ≡ outcome.OldVersion) ⊎ (a ≡ outcome.DiskFault)
    shut_failed (outcome.ImageRefused why) shut image past told for = absurd (no_first old.held why for.no_fault (image.header.refused why refl told))
    shut_failed (outcome.WordsDiffer i w) shut image past told for =
        absurd (no_differ t tells old new (outcome.WordsDiffer i w) i w image told for refl)
    shut_failed outcome.DiskFault shut image past told for = inr refl
    shut_failed outcome.NoMemory shut image past told for = absurd past
    shut_failed a shut image past told for = absurd shut

shut_not_end : (answer : Outcome) → RefusesOpening answer → answer ≡ outcome.SeqEnd → ⊥
shut_not_end answer shut e = rw e at shut

pub drill_shut : (t : TableRows) (seed frames : ℕ) (tells : Tells) (old new : State) (written : Option (List ℕ)) (answer : Outcome) → IsInRange t
    → IsSound t → IsSoundDeck tells old → OnlyLooks tells old new → RefusesOpening answer → RefusesImage t tells old new answer
    → DrillsImage t seed frames tells old new written written answer
drill_shut t seed frames tells old new written answer range sound deck looks shut image =
    drills t seed frames tells old new written written answer range sound
    (RecordsBlocks-unbegun t tells (generated_trace t seed frames) old new (EndsRecording answer) (answer ≡ outcome.SeqEnd)
    (Starts-looked tells (header_in old.held) old new deck looks.disk_work) (shut_records_none answer shut) (shut_not_end answer shut))
    image (shut_old t tells old new answer shut image)
    (λ done. absurd (shut_records_none answer shut (subst EndsRecording (sym done) tt)))
    (λ fails. absurd (shut_records_none answer shut (subst EndsRecording (sym fails) tt)))
    (λ done fails. refl)

-- ---- where the recording was cut short

-- a trace that is generated is pulled of nothing
drawn_blocks : (t : TableRows) (seed frames : ℕ) (tells : Tells) (a b c : State) (end : RecordingEnd) → IsSoundDeck tells a → OnlyLooks tells a b
    → RecordsSupply (drawn_trace t seed frames) t tells b c end → RecordsStream t tells (generated_trace t seed frames) a c (recording_answer end)
drawn_blocks t seed frames tells a b c end sound looks is =
    stream_by_answer t tells (generated_trace t seed frames) a c end
    (RecordsBlocks-before t tells (generated_trace t seed frames) a b c _ _ sound looks is.blocks)

drawn_image : (t : TableRows) (seed frames : ℕ) (tells : Tells) (a b c : State) (end : RecordingEnd) → OnlyLooks tells a b
    → RecordsSupply (drawn_trace t seed frames) t tells b c end → RefusesImage t tells a c (recording_answer end)
drawn_image t seed frames tells a b c end looks is =
    image_before t tells a b c (recording_answer end) looks (image_by_answer t tells b c end is.image)

drawn_old : (t : TableRows) (seed frames : ℕ) (tells : Tells) (a b c : State) (end : RecordingEnd) → OnlyLooks tells a b
    → RecordsSupply (drawn_trace t seed frames) t tells b c end → RefusesOldImage t tells a (recording_answer end)
drawn_old t seed frames tells a b c end looks is = old_before t tells a b (recording_answer end) looks (old_by_answer t tells b end is.version)

pub drill_cut : (t : TableRows) (seed frames : ℕ) (tells : Tells) (a b c : State) (written : Option (List ℕ)) (f : SessionFault) → IsInRange t → IsSound t
    → IsSoundDeck tells a → OnlyLooks tells a b → RecordsSupply (drawn_trace t seed frames) t tells b c (Err f)
    → DrillsImage t seed frames tells a c written written (session_refusal f)
drill_cut t seed frames tells a b c written f range sound deck looks is =
    drills t seed frames tells a c written written (session_refusal f) range sound (drawn_blocks t seed frames tells a b c (Err f) deck looks is)
    (drawn_image t seed frames tells a b c (Err f) looks is) (drawn_old t seed frames tells a b c (Err f) looks is)
    (λ done. absurd (refusal_records_none f (subst EndsRecording (sym done) tt)))
    (λ fails. absurd (refusal_not_write f fails))
    (λ done fails. refl)

-- ---- where all was recorded

module _ (t : TableRows) (seed frames : ℕ) (tells : Tells) (a b c d : State) (h : Header) (count : ℕ) (end : SourceEnd) (answer : Outcome)
    (before now : Option (List ℕ))
    (sound_a : IsSoundDeck tells a) (sound_c : IsSoundDeck tells c) (first : OnlyLooks tells a b)
    (is : RecordsSupply (drawn_trace t seed frames) t tells b c (Ok end)) (last : Looks tells c d) (of : IsOfBlocks answer)
    (header : IsTrue tells.bytes → h ≡ header_in a.held) (blocks : IsTrue tells.bytes → next_in b.held + count ≡ c.announced)
  where
    ended : RecordsSupply (drawn_trace t seed frames) t tells b c (Ok source.Ended)
    ended = subst (λ (x : RecordingEnd). RecordsSupply (drawn_trace t seed frames) t tells b c x) (is.ends.1 tt) is

    done : RecordsStream t tells (generated_trace t seed frames) a c outcome.Done
    done = drawn_blocks t seed frames tells a b c (Ok source.Ended) sound_a first ended

    taken : RefusesImage t tells a d answer
    taken = image_after t tells (generated_trace t seed frames) a c d answer done
        (drawn_image t seed frames tells a b c (Ok source.Ended) first ended) last of

    taken_old : RefusesOldImage t tells a answer
    taken_old = old_after t tells (generated_trace t seed frames) a c answer done of

    whole : RecordsStream t tells (generated_trace t seed frames) a d answer
    whole = RecordsStream-after t tells (generated_trace t seed frames) a c d answer sound_a sound_c done last of

    same_header : IsTrue tells.bytes → h ≡ header_in d.held
    same_header told = header told ∙ sym (done.recorded tt told).header ∙ ap header_in (sym last.disk.held)

    same_run : IsTrue tells.bytes → recovered_run h c.held ≡ run_in d.held
    same_run told =
        ap (λ (x : Header). recovered_run x c.held) (same_header told) ∙ ap (recovered_run (header_in d.held)) (sym last.disk.held)

    same_count : IsTrue tells.bytes → count ≡ length (new_blocks t a.held (generated_trace t seed frames))
    same_count told =
        let stands = (done.recorded tt told).announced in
        omega (arith, blocks told, stands, ap next_in first.disk.held)

    same_line : IsTrue tells.bytes → drill_text count (summary_of_blocks t h.version (recovered_run h c.held))
        ≡ drill_line t (length (new_blocks t a.held (generated_trace t seed frames))) d.held
    same_line told =
        ap (λ n. drill_text n (summary_of_blocks t h.version (recovered_run h c.held))) (same_count told)
        ∙ ap (λ (x : Header). drill_text (length (new_blocks t a.held (generated_trace t seed frames)))
        (summary_of_blocks t x.version (recovered_run h c.held))) (same_header told)
        ∙ ap (λ run. drill_text (length (new_blocks t a.held (generated_trace t seed frames)))
        (summary_of_blocks t (header_in d.held).version run)) (same_run told)

    pub drill_told : IsInRange t → IsSound t
        → (answer ≡ outcome.Done → IsTrue tells.bytes → now ≡ followed_by before (drill_text count (summary_of_blocks t h.version (recovered_run h c.held))))
        → (answer ≡ outcome.WriteFault → IsTrue tells.bytes
        → (k : ℕ) × (now ≡ followed_by before (take k (drill_text count (summary_of_blocks t h.version (recovered_run h c.held))))))
        → (answer ≡ outcome.DiskFault → now ≡ before) → DrillsImage t seed frames tells a d before now answer
    drill_told range sound text part unread = drills t seed frames tells a d before now answer range sound whole taken taken_old
        (λ e told. text e told ∙ ap (followed_by before) (same_line told))
        (λ e told. let p = part e told in (p.0, p.1 ∙ ap (λ l. followed_by before (take p.0 l)) (same_line told)))
        (λ not_done not_write. ⊎_elim (λ e. absurd (not_done e))
        (λ rest. ⊎_elim (λ e. absurd (not_write e)) (λ e. unread e) rest) of)

-- ---- where the table isn't read

pub drills_nothing : (seed frames : ℕ) (tells : Tells) (rest now : Option (List ℕ)) (d : State) (written : Option (List ℕ)) (answer : Outcome)
    → IsSoundDeck tells d → (IsPastTable answer → ⊥)
    → ByTable rest now answer (λ (t : TableRows). DrillsImage t seed frames tells d d written written answer)
drills_nothing seed frames tells rest now d written answer sound early =
    let t = table_or rest in (
      t,
      table_told rest,
      λ past. absurd (early past),
      record {
        blocks = RecordsBlocks-unbegun t tells (generated_trace t seed frames) d d (EndsRecording answer) (answer ≡ outcome.SeqEnd)
            (nothing_started tells d sound) (λ all. early (all_past answer all)) (λ e. early (subst IsPastTable (sym e) tt));
        image = refuses_nothing t tells d d answer early;
        old_image = refuses_no_version t tells d answer early;
        text = λ done. absurd (early (subst IsPastTable (sym done) tt));
        part = λ fails. absurd (early (subst IsPastTable (sym fails) tt));
        silent = λ done fails. refl;
        survives = λ past. absurd (early past);
        undamaged = λ all. absurd (early (all_past answer all));
      },
    )

-- ---- its answers

-- an image for the table's frames, numbers enough, and no fault: all is done, or memory ended
pub drill_done : (path image : List ℕ) (seed frames : ℕ) (t : TableRows) (tells : Tells) (old new : State) (before now : Option (List ℕ)) (answer : Outcome)
    → (answer ≡ outcome.NoMemory) ⊎ IsOwn (drill_image path image seed frames) answer → DrillsImage t seed frames tells old new before now answer
    → IsTrue tells.bytes → HasRoom t old (generated_trace t seed frames) → (answer ≡ outcome.DiskFault → ⊥) → (answer ≡ outcome.WriteFault → ⊥)
    → (answer ≡ outcome.Done) ⊎ (answer ≡ outcome.NoMemory)
drill_done path image seed frames t tells old new before now outcome.Done own is bytes room disk sink = inl refl
drill_done path image seed frames t tells old new before now outcome.NoMemory own is bytes room disk sink = inr refl
drill_done path image seed frames t tells old new before now outcome.WriteFault own is bytes room disk sink = absurd (sink refl)
drill_done path image seed frames t tells old new before now outcome.DiskFault own is bytes room disk sink = absurd (disk refl)
drill_done path image seed frames t tells old new before now outcome.SeqEnd own is bytes room disk sink =
    absurd (omega (arith, is.blocks.beyond refl bytes, room.numbers))
drill_done path image seed frames t tells old new before now (outcome.ImageRefused why) own is bytes room disk sink =
    absurd (no_first old.held why room.image.no_fault (is.image.header.refused why refl bytes))
drill_done path image seed frames t tells old new before now (outcome.WordsDiffer i w) own is bytes room disk sink =
    absurd (no_differ t tells old new (outcome.WordsDiffer i w) i w is.image bytes room.image refl)
drill_done path image seed frames t tells old new before now outcome.OldVersion own is bytes room disk sink =
    absurd (no_old_version t tells old outcome.OldVersion is.old_image bytes room.version refl)
drill_done path image seed frames t tells old new before now (outcome.ReadFault input.Table) own is bytes room disk sink =
    ⊎_elim (λ memory. absurd (cc)) (λ it. absurd it) own
drill_done path image seed frames t tells old new before now (outcome.ReadFault input.Line) own is bytes room disk sink =
    ⊎_elim (λ memory. absurd (cc)) (λ it. absurd it) own
drill_done path image seed frames t tells old new before now answer own is bytes room disk sink = ⊎_elim (λ memory. inr memory) (λ it. absurd it) own

-- ---- one stretch of calls after another

pub learns_then : (tells : Tells) (a b c d : State) → LearnsExtent tells a b → LearnsExtent tells b c → d.extent ≡ c.extent → LearnsExtent tells a d
learns_then tells a b c d first next same = record {
  bytes = λ told. same ∙ next.bytes told ∙ first.bytes told;
  stops = λ told. same ∙ next.stops told ∙ first.stops told;
  known = λ some. same ∙ next.known (subst (λ n. 0 < n) (sym (first.known some)) some) ∙ first.known some;
}
