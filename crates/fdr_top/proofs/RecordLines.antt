-- How a trace that is recorded ends, and which refusal of an image is answered.
use Rattle.std.proofs.Common.{◌≡◌, ◌⊎◌, inl, inr, ⊎_elim, Bool, true, false, ℕ, ◌<◌, List, [], length, take}
use Rattle.std.proofs.Common.{Option, Some, None, ap, sym, refl, ◌∙◌, subst, arith}
use Rattle.std.specs.Prelude.{IfSome, IsTrue, if◌then◌else◌, nat_lt, not, ◌↔◌}
use Rattle.std.proofs.lemmas.Bool.{cases_Bool}
use Rattle.fdr_io.specs.Told.{preceded_by}
use Rattle.fdr_io.specs.declared.Input.TheVariants as input
use Rattle.fdr_bus.specs.declared.BusRecord.{BusRecord}
use Rattle.fdr_bus.specs.declared.TraceFault.{TraceFault}
use Rattle.fdr_bus.specs.Records.{good_prefix, has_end, trace_fault}
use Rattle.fdr_bus.proofs.TraceLemmas.{good_prefix-append, good_prefix-decided}
use Rattle.fdr_deck.specs.State.{State, Tells}
use Rattle.fdr_slot.specs.Headers.{has_magic, has_open_gate, image_fault}
use Rattle.fdr_slot.specs.Limits.{IsInLimits, in_limits}
use Rattle.fdr_slot.specs.Places.{image_size}
use Rattle.fdr_slot.proofs.HeaderLemmas.{in_limits-is}
use Rattle.fdr_slot.specs.declared.image.ImageFault.{ImageFault}
use Rattle.fdr_slot.specs.declared.image.ImageFault.TheVariants as fault
use Rattle.fdr_top.proofs.Images.{same_fault}
use Rattle.fdr_recover.specs.ImageHeader.{image_fault_of, header_in, IsFor}
use Rattle.fdr_table.specs.Rows.{TableRows}
use Rattle.fdr_trace.specs.Pulls.{PullsUntilDecided}
use Rattle.fdr_recorder.specs.NewBlocks.{new_blocks, past_in}
use Rattle.fdr_recorder.specs.Past.{RecordingPast}
use Rattle.fdr_recorder.proofs.NewBlocks.{blocks-fewer}
use Rattle.fdr_words.specs.Forms.{record_line}
use Rattle.fdr_top.specs.Stages.{EndsReading, EndsRecording, IsPastTable, WritesNothing}
use Rattle.fdr_top.specs.Answers.{IsOwn}
use Rattle.fdr_top.specs.Complete.{HasRoom, TellsAccepted}
use Rattle.fdr_load.specs.Tables.{table_in}
use Rattle.fdr_top.proofs.TableAnswers.{taken_is_all}
use Rattle.fdr_top.specs.Traces.{EndsTrace}
use Rattle.fdr_top.specs.Record.{RecordsTrace}
use Rattle.fdr_top.specs.Refusals.{RefusesHeader, RefusesImage, RefusesOldImage}
use Rattle.fdr_top.specs.declared.outcome.Outcome.{Outcome}
use Rattle.fdr_top.specs.declared.outcome.Outcome.TheVariants as outcome
use Rattle.fdr_top.proofs.TraceAnswers.{answer_to, ended_unrefused, refused_line}

-- ---- what was told of the input

-- the refusal that is answered is that of the whole input
told_refusal : (tells : Tells) (old new : State) (pulled : List ℕ) (answer : Outcome) (index : ℕ) (why : TraceFault)
    → PullsUntilDecided tells old new [] pulled → EndsTrace tells old new pulled answer → answer ≡ outcome.TraceRefused index why
    → IsTrue tells.input → trace_fault old.input ≡ Some (index, why)
told_refusal tells old new pulled answer index why pulls ends refused told =
    refused_line tells old new pulled index why pulls (ends.refused index why refused)
    (λ short. ends.truncated index (refused ∙ ap (outcome.TraceRefused index) short) told) told

pub told_end : (tells : Tells) (old new : State) (pulled : List ℕ) (answer : Outcome) → PullsUntilDecided tells old new [] pulled
    → EndsTrace tells old new pulled answer → answer ≡ outcome.Done → IsTrue tells.input → good_prefix pulled ≡ good_prefix old.input
told_end tells old new pulled answer pulls ends done told =
    sym (ap good_prefix (pulls.takes.input told) ∙ good_prefix-decided pulled new.input (inl (ends.ended done)))

-- where the input is refused, so it is answered, unless a pull failed
pub refusal_told : (tells : Tells) (old new : State) (pulled : List ℕ) (answer : Outcome) (index : ℕ) (why : TraceFault)
    → PullsUntilDecided tells old new [] pulled → EndsTrace tells old new pulled answer → EndsReading answer → IsTrue tells.input
    → trace_fault old.input ≡ Some (index, why)
    → (answer ≡ outcome.TraceRefused index why) ⊎ (answer ≡ outcome.ReadFault input.Line)
unfolding answer_to
refusal_told tells old new pulled outcome.Done index why pulls ends all told first =
    let same = told_end tells old new pulled outcome.Done pulls ends refl told in
    absurd (ended_unrefused old.input index why (ap has_end (sym same) ∙ ends.ended refl) first)
refusal_told tells old new pulled (outcome.TraceRefused i w) index why pulls ends all told first =
    let here = told_refusal tells old new pulled (outcome.TraceRefused i w) i w pulls ends refl told in
    let same : ◌≡◌ {A = Option (ℕ × TraceFault)} (Some (i, w)) (Some (index, why)) = sym here ∙ first in
    inl (ap answer_to same)
refusal_told tells old new pulled (outcome.ReadFault input.Line) index why pulls ends all told first = inr refl
refusal_told tells old new pulled answer index why pulls ends all told first = absurd all

-- a trace with an end record isn't refused
pub told_whole : (tells : Tells) (old new : State) (pulled : List ℕ) (answer : Outcome) (index : ℕ) (why : TraceFault)
    → PullsUntilDecided tells old new [] pulled → EndsTrace tells old new pulled answer → answer ≡ outcome.TraceRefused index why
    → IsTrue tells.input → has_end (good_prefix old.input) ≡ true → ⊥
told_whole tells old new pulled answer index why pulls ends refused told ended =
    ended_unrefused old.input index why ended (told_refusal tells old new pulled answer index why pulls ends refused told)

-- ---- which refusal is answered

pub reading_past : (a : Outcome) → EndsReading a → IsPastTable a
reading_past outcome.Done all = tt
reading_past (outcome.TraceRefused index why) all = tt
reading_past (outcome.ReadFault input.Line) all = tt
reading_past a all = absurd all

pub all_past : (a : Outcome) → EndsRecording a → IsPastTable a
all_past outcome.Done all = tt
all_past (outcome.TraceRefused index why) all = tt
all_past (outcome.ReadFault input.Line) all = tt
all_past outcome.WriteFault all = tt
all_past a all = absurd all

-- an answer that comes before the image is asked for
pub refuses_nothing : (t : TableRows) (tells : Tells) (old new : State) (answer : Outcome) → (IsPastTable answer → ⊥)
    → RefusesImage t tells old new answer
refuses_nothing t tells old new answer early = record {
  header = record {
    refused = λ why e. absurd (early (subst IsPastTable (sym e) tt));
    small = λ why e. absurd (early (subst IsPastTable (sym e) tt));
    small_always = λ past. absurd (early past);
    refused_always = λ why past. absurd (early past);
  };
  words = λ image table e. absurd (early (subst IsPastTable (sym e) tt));
  words_always = λ image past. absurd (early past);
}

pub refuses_no_version : (t : TableRows) (tells : Tells) (old : State) (answer : Outcome) → (IsPastTable answer → ⊥) → RefusesOldImage t tells old answer
refuses_no_version t tells old answer early = record {
  version = λ e told. absurd (early (subst IsPastTable (sym e) tt));
  version_always = λ past told for first. absurd (early past);
}

some_same : (a b : ImageFault) → ◌≡◌ {A = Option ImageFault} (Some a) (Some b) → a ≡ b
some_same a b e = cc

-- an image has one first fault, or none
pub no_first : (image : List ℕ) (why : ImageFault) → image_fault_of image ≡ None → image_fault_of image ≡ Some why → ⊥
no_first image why none some = let c : ◌≡◌ {A = Option ImageFault} None (Some why) = sym none ∙ some in cc

-- an image for the table's frames isn't refused for its words
pub no_differ : (t : TableRows) (tells : Tells) (old new : State) (answer : Outcome) (image table : ℕ) → RefusesImage t tells old new answer
    → IsTrue tells.bytes → IsFor t.frame.words old.held → answer ≡ outcome.WordsDiffer image table → ⊥
no_differ t tells old new answer image table refuses bytes for e =
    let here = refuses.words image table e in here.1 (sym (here.2 bytes).words ∙ for.words ∙ sym here.0)

-- an image of version 2 isn't refused for its version
pub no_old_version : (t : TableRows) (tells : Tells) (old : State) (answer : Outcome) → RefusesOldImage t tells old answer → IsTrue tells.bytes
    → (header_in old.held).version ≡ 2 → answer ≡ outcome.OldVersion → ⊥
no_old_version t tells old answer refuses bytes second e = let one : ◌≡◌ {A = ℕ} 1 2 = sym (refuses.version e bytes).1 ∙ second in cc

-- the image's first fault is answered
pub header_faulty : (tells : Tells) (old new : State) (found : ImageFault) → (IsTrue tells.bytes → image_fault_of old.held ≡ Some found)
    → ((found ≡ fault.Small) ↔ (new.extent < 64)) → RefusesHeader tells old new (outcome.ImageRefused found)
header_faulty tells old new found first small = record {
  refused = λ why e bytes. first bytes ∙ ap Some (same_fault found why e);
  small = λ why e. subst (λ (x : ImageFault). (x ≡ fault.Small) ↔ (new.extent < 64)) (same_fault found why e) small;
  small_always = λ past short. inl (ap outcome.ImageRefused (small.1 short));
  refused_always = λ why past bytes some. inl (ap outcome.ImageRefused (some_same found why (sym (first bytes) ∙ some)));
}

pub image_refused : (t : TableRows) (tells : Tells) (old new : State) (found : ImageFault) → (IsTrue tells.bytes → image_fault_of old.held ≡ Some found)
    → ((found ≡ fault.Small) ↔ (new.extent < 64)) → RefusesImage t tells old new (outcome.ImageRefused found)
image_refused t tells old new found first small = record {
  header = header_faulty tells old new found first small;
  words = λ image table e. absurd (cc);
  words_always = λ image past bytes other differ. absurd (no_first old.held found other.no_fault (first bytes));
}

-- the disk failed before the image was known
pub header_failed : (tells : Tells) (old new : State) → RefusesHeader tells old new outcome.DiskFault
header_failed tells old new = record {
  refused = λ why e. absurd (cc);
  small = λ why e. absurd (cc);
  small_always = λ past short. inr refl;
  refused_always = λ why past bytes first. inr refl;
}

pub disk_failed : (t : TableRows) (tells : Tells) (old new : State) → RefusesImage t tells old new outcome.DiskFault
disk_failed t tells old new = record {
  header = header_failed tells old new;
  words = λ image table e. absurd (cc);
  words_always = λ image past bytes other differ. inr refl;
}

-- an image without a fault isn't refused
pub takes_header : (tells : Tells) (old new : State) (answer : Outcome) → (WritesNothing answer → ⊥)
    → (new.extent < 64 → ⊥) → (IsTrue tells.bytes → image_fault_of old.held ≡ None) → RefusesHeader tells old new answer
takes_header tells old new answer begun long good = record {
  refused = λ why e. absurd (begun (subst WritesNothing (sym e) tt));
  small = λ why e. absurd (begun (subst WritesNothing (sym e) tt));
  small_always = λ past short. absurd (long short);
  refused_always = λ why past bytes first. absurd (no_first old.held why (good bytes) first);
}

-- an image that is for the table's frames isn't refused
pub takes_image : (t : TableRows) (tells : Tells) (old new : State) (answer : Outcome) → (WritesNothing answer → ⊥)
    → (new.extent < 64 → ⊥) → (IsTrue tells.bytes → IsFor t.frame.words old.held) → RefusesImage t tells old new answer
takes_image t tells old new answer begun long good = record {
  header = takes_header tells old new answer begun long (λ bytes. (good bytes).no_fault);
  words = λ image table e. absurd (begun (subst WritesNothing (sym e) tt));
  words_always = λ image past bytes other differ. absurd (differ (sym other.words ∙ (good bytes).words));
}

-- ---- a recording that nothing hinders

-- the table of a source that is read to its end is that of all that was told
pub room_of : (old new : Option (List ℕ)) (taken : List ℕ) (t : TableRows) (d : State) (accepted : TellsAccepted old)
    → t ≡ table_in taken → old ≡ preceded_by taken new → IfSome new (λ left. left ≡ []) → (records : TableRows → List BusRecord)
    → HasRoom (table_in accepted.0) d (records (table_in accepted.0)) → HasRoom t d (records t)
room_of old new taken t d accepted table whole end records room =
    subst (λ (x : TableRows). HasRoom x d (records x))
    (ap table_in (taken_is_all old new taken accepted.0 whole end accepted.1) ∙ sym table) room

-- an image without a fault has a header within its limits
faulty : (short gate magic limits long : Bool) → limits ≡ false → (if short then Some fault.Small
    else if not gate then Some fault.Closed
    else if not magic then Some fault.Magic
    else if not limits then Some fault.Geometry
    else if long then Some fault.Short
    else None) ≡ None → ⊥
faulty true gate magic limits long outside none = cc
faulty false false magic limits long outside none = cc
faulty false true false limits long outside none = cc
faulty false true true true long outside none = absurd (cc)
faulty false true true false long outside none = cc

pub limits_in : (image : List ℕ) → image_fault_of image ≡ None → IsInLimits (header_in image)
unfolding image_fault
limits_in image none = ⊎_elim
    (λ (within : in_limits (header_in image) ≡ true). in_limits-is (header_in image) within)
    (λ (outside : in_limits (header_in image) ≡ false). absurd (faulty (nat_lt (length image) 64) (has_open_gate (take 64 image))
    (has_magic (take 64 image)) (in_limits (header_in image)) (nat_lt (length image) (image_size (header_in image))) outside none))
    (cases_Bool (in_limits (header_in image)))

has_room : (t : TableRows) (tells : Tells) (d0 d2 : State) (answer : Outcome) (is : RecordsTrace t tells d0 d2 answer)
    → answer ≡ outcome.SeqEnd → IsTrue tells.bytes → IsTrue tells.input → HasRoom t d0 (good_prefix d0.input) → ⊥
has_room t tells d0 d2 answer is ends bytes told room =
    let line = is.pulls.takes.input told in
    let grown = good_prefix-append is.pulled d2.input in
    let past : RecordingPast = past_in t d0.held [] in
    let limits : IsInLimits (header_in d0.held) = limits_in d0.held room.image.no_fault in
    let fewer = blocks-fewer past is.pulled d2.input grown.0 limits grown.1 in
    let all = ap (λ (l : List ℕ). length (new_blocks t d0.held (good_prefix l))) line in
    omega (arith, is.blocks.beyond ends bytes, room.numbers, fewer, all)

-- an image for the table's frames, numbers enough, and no fault: all is recorded, or memory ended
pub record_done : (path image : List ℕ) (t : TableRows) (tells : Tells) (d0 d2 : State) (answer : Outcome)
    → (answer ≡ outcome.NoMemory) ⊎ IsOwn (record_line path image) answer → RecordsTrace t tells d0 d2 answer
    → IsTrue tells.input → has_end (good_prefix d0.input) ≡ true → IsTrue tells.bytes → HasRoom t d0 (good_prefix d0.input)
    → (answer ≡ outcome.ReadFault input.Line → ⊥) → (answer ≡ outcome.DiskFault → ⊥)
    → (answer ≡ outcome.Done) ⊎ (answer ≡ outcome.NoMemory)
record_done path image t tells d0 d2 outcome.Done own is told ended bytes room line disk = inl refl
record_done path image t tells d0 d2 outcome.NoMemory own is told ended bytes room line disk = inr refl
record_done path image t tells d0 d2 (outcome.ReadFault input.Line) own is told ended bytes room line disk = absurd (line refl)
record_done path image t tells d0 d2 (outcome.ReadFault input.Table) own is told ended bytes room line disk =
    ⊎_elim (λ memory. absurd (cc)) (λ it. absurd it) own
record_done path image t tells d0 d2 outcome.DiskFault own is told ended bytes room line disk = absurd (disk refl)
record_done path image t tells d0 d2 outcome.SeqEnd own is told ended bytes room line disk =
    absurd (has_room t tells d0 d2 outcome.SeqEnd is refl bytes told room)
record_done path image t tells d0 d2 (outcome.TraceRefused index why) own is told ended bytes room line disk =
    absurd (told_whole tells d0 d2 is.pulled (outcome.TraceRefused index why) index why is.pulls is.trace refl told ended)
record_done path image t tells d0 d2 (outcome.ImageRefused why) own is told ended bytes room line disk =
    absurd (no_first d0.held why room.image.no_fault (is.image.header.refused why refl bytes))
record_done path image t tells d0 d2 (outcome.WordsDiffer i w) own is told ended bytes room line disk =
    absurd (no_differ t tells d0 d2 (outcome.WordsDiffer i w) i w is.image bytes room.image refl)
record_done path image t tells d0 d2 outcome.OldVersion own is told ended bytes room line disk =
    absurd (no_old_version t tells d0 outcome.OldVersion is.old_image bytes room.version refl)
record_done path image t tells d0 d2 answer own is told ended bytes room line disk = ⊎_elim (λ memory. inr memory) (λ it. absurd it) own
