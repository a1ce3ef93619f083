-- What listing an image leaves and answers.
use Rattle.std.proofs.Common.{◌≡◌, ◌≢◌, ◌⊎◌, ⊎_elim, inl, inr, ℕ, ◌<◌, ◌≤◌, List, [], Option, Some, None, ap, sym, refl, ◌∙◌, subst, arith}
use Rattle.std.specs.Prelude.{IsTrue, ◌↔◌, take}
use Rattle.fdr_io.specs.Faults.{Rose}
use Rattle.fdr_io.specs.Told.{followed_by}
use Rattle.fdr_io.specs.declared.Input.TheVariants as input
use Rattle.fdr_io.proofs.Telling.{followed_by-nil}
use Rattle.fdr_deck.specs.State.{State, Tells}
use Rattle.fdr_deck.specs.Moments.{IsSoundDeck}
use Rattle.fdr_frame.specs.WordCount.{IsWordCount}
use Rattle.fdr_slot.specs.Places.{image_size}
use Rattle.fdr_slot.specs.declared.image.Header.{Header}
use Rattle.fdr_slot.specs.declared.image.ImageFault.{ImageFault}
use Rattle.fdr_slot.specs.declared.image.ImageFault.TheVariants as fault
use Rattle.fdr_recover.specs.Blocks.{Block}
use Rattle.fdr_recover.specs.Images.{recovered_run}
use Rattle.fdr_recover.specs.Looks.{Looks}
use Rattle.fdr_recover.specs.Payloads.{run_in}
use Rattle.fdr_recover.specs.ImageHeader.{image_fault_of, header_in, IsFor}
use Rattle.fdr_recover.specs.declared.error.HeaderFault.{HeaderFault}
use Rattle.fdr_recover.specs.declared.error.HeaderFault.TheVariants as header
use Rattle.fdr_table.specs.Rows.{TableRows}
use Rattle.fdr_words.specs.Forms.{drill_image, list_image, salvage_image}
use Rattle.fdr_top.specs.Stages.{IsOfTable, IsPastTable, WritesNothing}
use Rattle.fdr_top.specs.Answers.{IsOwn}
use Rattle.fdr_top.specs.List.{RefusesOpening, ListsImage, ListsRead, listing_in, opening_refusal}
use Rattle.fdr_top.specs.Sessions.{listing_of_blocks}
use Rattle.fdr_top.specs.Refusals.{RefusesImage}
use Rattle.fdr_top.specs.Recover.{OnlyLooks}
use Rattle.fdr_load.specs.Tables.{table_in}
use Rattle.fdr_top.specs.Tables.{ByTable}
use Rattle.fdr_top.specs.declared.outcome.Outcome.{Outcome}
use Rattle.fdr_top.specs.declared.outcome.Outcome.TheVariants as outcome
use Rattle.fdr_top.proofs.Images.{OnlyLooks-here, OnlyLooks-then, run_same}
use Rattle.fdr_top.proofs.ReadLines.{none_listed}
use Rattle.fdr_top.proofs.RecordLines.{disk_failed, image_refused, no_differ, no_first, refuses_nothing, takes_image}
use Rattle.fdr_top.proofs.TableAnswers.{past_not_memory, table_not_past}

-- where the image is for frames of other words
words_refused : (t : TableRows) (tells : Tells) (old new : State) (image : ℕ) → 64 ≤ new.extent
    → (IsTrue tells.bytes → IsFor image old.held) → image ≢ t.frame.words → RefusesImage t tells old new (outcome.WordsDiffer image t.frame.words)
words_refused t tells old new image long for other = record {
  header = record {
    refused = λ why e told. absurd (cc);
    small = λ why e. absurd (cc);
    small_always = λ past short. absurd (omega (arith, short, long));
    refused_always = λ why past told some. absurd (no_first old.held why (for told).no_fault some);
  };
  words = λ found table e. same_words found table e;
  words_always = λ found past told held differs. inl (ap (λ (n : ℕ). outcome.WordsDiffer n t.frame.words) (sym (for told).words ∙ held.words));
}
  where
    same_words : (found table : ℕ) → outcome.WordsDiffer image t.frame.words ≡ outcome.WordsDiffer found table
        → (table ≡ t.frame.words) × (found ≢ table) × (IsTrue tells.bytes → IsFor found old.held)
    same_words found table e =
        let first : image ≡ found = cc in
        let second : t.frame.words ≡ table = cc in (
          sym second,
          λ same. other (first ∙ same ∙ sym second),
          λ told. subst (λ (n : ℕ). IsFor n old.held) first (for told),
        )

-- where no header for the table's frames is answered
pub header_refused : (t : TableRows) (tells : Tells) (old new : State) (f : HeaderFault)
    → (IsTrue tells.bytes → (why : ImageFault) → f ≡ header.Image why → image_fault_of old.held ≡ Some why)
    → ((why : ImageFault) → f ≡ header.Image why → (why ≡ fault.Small) ↔ (new.extent < 64))
    → ((image table : ℕ) → f ≡ header.WordsDiffer image table
    → (table ≡ t.frame.words) × (image ≢ table) × (64 ≤ new.extent) × (IsTrue tells.bytes → IsFor image old.held))
    → RefusesImage t tells old new (opening_refusal f)
header_refused t tells old new (header.Image found) first small differ =
    image_refused t tells old new found (λ told. first told found refl) (small found refl)
header_refused t tells old new (header.WordsDiffer image table) first small differ =
    let here = differ image table refl in
    rw here.0 (words_refused t tells old new image here.2 here.3 (λ same. here.1 (same ∙ sym here.0)))
header_refused t tells old new header.DiskFault first small differ = disk_failed t tells old new

pub header_shut : (f : HeaderFault) → RefusesOpening (opening_refusal f)
header_shut (header.Image why) = tt
header_shut (header.WordsDiffer image table) = tt
header_shut header.DiskFault = tt

pub opening_not_memory : (f : HeaderFault) → opening_refusal f ≡ outcome.NoMemory → ⊥
opening_not_memory (header.Image why) e = cc
opening_not_memory (header.WordsDiffer image table) e = cc
opening_not_memory header.DiskFault e = cc

pub shut_not_done : (answer : Outcome) → RefusesOpening answer → answer ≡ outcome.Done → ⊥
shut_not_done answer shut e = rw e at shut

pub shut_not_write : (answer : Outcome) → RefusesOpening answer → answer ≡ outcome.WriteFault → ⊥
shut_not_write answer shut e = rw e at shut

-- where the image isn't opened
pub unlisted : (t : TableRows) (tells : Tells) (old new : State) (written : Option (List ℕ)) (before now : ℕ) (answer : Outcome)
    → IsWordCount t.frame.words → OnlyLooks tells old new → RefusesOpening answer → RefusesImage t tells old new answer
    → ListsImage t tells old new written written before now answer
unlisted t tells old new written before now answer count looks shut image = record {
  looks = looks;
  text = λ done told. absurd (shut_not_done answer shut done);
  part = λ told. (0, sym (followed_by-nil written));
  drained = λ fails told none. none_listed t _ _ written count;
  good = λ either told. absurd (⊎_elim (shut_not_done answer shut) (shut_not_write answer shut) either);
  begun = inl refl;
  image = image;
}

-- what the blocks' listing answers
abbrev pub IsOfBlocks : Outcome → Type 0
IsOfBlocks answer = (answer ≡ outcome.Done) ⊎ ((answer ≡ outcome.WriteFault) ⊎ (answer ≡ outcome.DiskFault))

-- what holds of each of these answers
pub of_blocks : (P : Outcome → Type 0) (answer : Outcome) → P outcome.Done → P outcome.WriteFault → P outcome.DiskFault → IsOfBlocks answer → P answer
of_blocks P answer done write disk of = ⊎_elim
    (λ (x : answer ≡ outcome.Done). subst P (sym x) done)
    (λ (rest : (answer ≡ outcome.WriteFault) ⊎ (answer ≡ outcome.DiskFault)). ⊎_elim
    (λ (x : answer ≡ outcome.WriteFault). subst P (sym x) write)
    (λ (x : answer ≡ outcome.DiskFault). subst P (sym x) disk)
    rest)
    of

pub of_blocks_begun : (answer : Outcome) → IsOfBlocks answer → WritesNothing answer → ⊥
of_blocks_begun answer = of_blocks (λ (a : Outcome). WritesNothing a → ⊥) answer (λ none. none) (λ none. none) (λ none. none)

-- they are answers of the commands that read the blocks
pub of_blocks_list : (path image : List ℕ) (answer : Outcome) → IsOfBlocks answer → IsOwn (list_image path image) answer
of_blocks_list path image answer = of_blocks (λ (a : Outcome). IsOwn (list_image path image) a) answer tt tt tt

pub of_blocks_salvage : (path image : List ℕ) (ring : Option (ℕ × ℕ)) (answer : Outcome) → IsOfBlocks answer → IsOwn (salvage_image path image ring) answer
of_blocks_salvage path image ring answer = of_blocks (λ (a : Outcome). IsOwn (salvage_image path image ring) a) answer tt tt tt

pub of_blocks_drill : (path image : List ℕ) (seed frames : ℕ) (answer : Outcome) → IsOfBlocks answer → IsOwn (drill_image path image seed frames) answer
of_blocks_drill path image seed frames answer = of_blocks (λ (a : Outcome). IsOwn (drill_image path image seed frames) a) answer tt tt tt

-- where the blocks are read and their bits listed
pub blocks_listed : (t : TableRows) (tells : Tells) (old mid new : State) (h : Header) (before now : Option (List ℕ)) (sink_before sink_now : ℕ)
    (answer : Outcome) → IsSoundDeck tells old → OnlyLooks tells old mid → Looks tells mid new → (IsTrue tells.bytes → h ≡ header_in old.held)
    → (IsTrue tells.bytes → IsFor t.frame.words old.held) → image_size h ≤ mid.extent → IsOfBlocks answer
    → (answer ≡ outcome.Done → IsTrue tells.bytes → now ≡ followed_by before (listing_of_blocks t h.version (recovered_run h mid.held)))
    → (IsTrue tells.bytes → (k : ℕ) × (now ≡ followed_by before (take k (listing_of_blocks t h.version (recovered_run h mid.held)))))
    → (answer ≡ outcome.DiskFault → IsTrue tells.bytes → (Rose sink_before sink_now → ⊥)
    → ListsRead t h.version (recovered_run h mid.held) before now)
    → ListsImage t tells old new before now sink_before sink_now answer
blocks_listed t tells old mid new h before now sink_before sink_now answer sound first second header for long of text part drained =
    let listed : IsTrue tells.bytes → listing_of_blocks t h.version (recovered_run h mid.held) ≡ listing_in t old.held = λ told.
    ap (λ (x : Header). listing_of_blocks t x.version (recovered_run h mid.held)) (header told)
    ∙ ap (listing_of_blocks t (header_in old.held).version) (run_same tells old mid h first header told) in
    record {
      looks = OnlyLooks-then tells old mid new sound first second;
      text = λ done told. text done told ∙ ap (followed_by before) (listed told);
      part = λ told. let p = part told in (p.0, p.1 ∙ ap (λ (l : List ℕ). followed_by before (take p.0 l)) (listed told));
      drained = λ fails told none.
          let run = run_same tells old mid h first header told in
          subst (λ (v : ℕ). ListsRead t v (run_in old.held) before now) (ap (λ (x : Header). x.version) (header told))
          (subst (λ (l : List Block). ListsRead t h.version l before now) run (drained fails told none));
      good = λ either told. for told;
      begun = inr for;
      image = takes_image t tells old new answer (of_blocks_begun answer of) (λ short. omega (arith, short, second.extent, long)) for;
    }

-- a table, which is that of the source's bytes where it tells them
any_table : (rest : Option (List ℕ)) → (t : TableRows) × ((bytes : List ℕ) → rest ≡ Some bytes → t ≡ table_in bytes)
any_table None = (table_in [], λ bytes told. absurd (cc))
any_table (Some found) = (table_in found, λ bytes told. let same : found ≡ bytes = cc in ap table_in same)

-- where the table isn't read, the deck isn't touched and nothing is listed
pub lists_nothing : (tells : Tells) (rest now : Option (List ℕ)) (d : State) (written : Option (List ℕ)) (before after : ℕ) (answer : Outcome)
    → IsSoundDeck tells d → (answer ≡ outcome.NoMemory) ⊎ IsOfTable answer
    → ByTable rest now answer (λ (t : TableRows). ListsImage t tells d d written written before after answer)
lists_nothing tells rest now d written before after answer sound either =
    let early : IsPastTable answer → ⊥ = λ past. ⊎_elim
    (λ (m : answer ≡ outcome.NoMemory). past_not_memory answer past m)
    (λ (of : IsOfTable answer). table_not_past answer of past) either in
    let not : (other : Outcome) → IsPastTable other → answer ≡ other → ⊥ = λ other past e. early (rw e past) in
    let found = any_table rest in (
      found.0,
      found.1,
      λ past. absurd (early past),
      record {
        looks = OnlyLooks-here tells d sound;
        text = λ done told. absurd (not outcome.Done tt done);
        part = λ told. (0, sym (followed_by-nil written));
        drained = λ fails told none. absurd (not outcome.DiskFault tt fails);
        good = λ either told. absurd (⊎_elim (not outcome.Done tt) (not outcome.WriteFault tt) either);
        begun = inl refl;
        image = refuses_nothing found.0 tells d d answer early;
      },
    )

-- the image is for the table's frames, and nothing fails: its bits are listed, or memory ended
pub list_done : (path image : List ℕ) (t : TableRows) (tells : Tells) (old new : State) (before now : Option (List ℕ)) (f_before f_now : ℕ) (answer : Outcome)
    → (answer ≡ outcome.NoMemory) ⊎ IsOwn (list_image path image) answer → ListsImage t tells old new before now f_before f_now answer
    → IsTrue tells.bytes → IsFor t.frame.words old.held → (answer ≡ outcome.DiskFault → ⊥) → (answer ≡ outcome.WriteFault → ⊥)
    → (answer ≡ outcome.Done) ⊎ (answer ≡ outcome.NoMemory)
list_done path image t tells old new before now f_before f_now outcome.Done of lists told for disk sink = inl refl
list_done path image t tells old new before now f_before f_now (outcome.ImageRefused why) of lists told for disk sink =
    absurd (no_first old.held why for.no_fault (lists.image.header.refused why refl told))
list_done path image t tells old new before now f_before f_now (outcome.WordsDiffer words table) of lists told for disk sink =
    absurd (no_differ t tells old new (outcome.WordsDiffer words table) words table lists.image told for refl)
list_done path image t tells old new before now f_before f_now outcome.WriteFault of lists told for disk sink = absurd (sink refl)
list_done path image t tells old new before now f_before f_now outcome.DiskFault of lists told for disk sink = absurd (disk refl)
list_done path image t tells old new before now f_before f_now outcome.NoMemory of lists told for disk sink = inr refl
list_done path image t tells old new before now f_before f_now (outcome.ReadFault input.Table) of lists told for disk sink =
    ⊎_elim (λ memory. absurd (cc)) (λ own. absurd own) of
list_done path image t tells old new before now f_before f_now (outcome.ReadFault input.Line) of lists told for disk sink =
    ⊎_elim (λ memory. absurd (cc)) (λ own. absurd own) of
list_done path image t tells old new before now f_before f_now answer of lists told for disk sink = ⊎_elim (λ memory. inr memory) (λ own. absurd own) of
