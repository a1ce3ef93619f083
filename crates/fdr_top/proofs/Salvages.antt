-- What salvaging an image leaves and answers.
use Rattle.std.proofs.Common.{◌≡◌, ◌⊎◌, ⊎_elim, inl, inr, ℕ, ◌+◌, ◌<◌, ◌≤◌, List, [], ◌∷◌, ◌++◌, length, map, Option, Some, None, ap, ap₂, sym}
use Rattle.std.proofs.Common.{◌*◌, true, false, refl, ◌∙◌, subst, arith}
use Rattle.std.specs.Prelude.{IsTrue, nat_lt, take, is_none}
use Rattle.std.proofs.lemmas.Bool.Decides.{nat_tests}
use Rattle.std.specs.List.{flat_map}
use Rattle.std.proofs.lemmas.Grind.{flat_map-append}
use Rattle.fdr_io.specs.Faults.{Rose}
use Rattle.fdr_io.specs.Told.{followed_by}
use Rattle.fdr_io.specs.declared.Input.TheVariants as input
use Rattle.fdr_io.proofs.Telling.{followed_by-nil}
use Rattle.fdr_deck.specs.State.{State, Tells}
use Rattle.fdr_deck.specs.Moments.{EachMoment, IsSoundDeck, Within}
use Rattle.fdr_deck.specs.Calls.{Passes}
use Rattle.fdr_deck.specs.Disk.{KeepsDisk, LearnsExtent}
use Rattle.fdr_deck.proofs.Quiet.{IsDiskWork-look}
use Rattle.fdr_slot.specs.declared.image.Header.{Header}
use Rattle.fdr_slot.specs.declared.image.ImageFault.{ImageFault}
use Rattle.fdr_slot.specs.declared.image.ImageFault.TheVariants as fault
use Rattle.fdr_recover.specs.Blocks.{Block}
use Rattle.fdr_recover.specs.Looks.{Looks}
use Rattle.fdr_salvage.specs.declared.salvage.Run.{Run}
use Rattle.fdr_salvage.specs.Runs.{blocks_in_run, run_length, run_numbers, runs_of}
use Rattle.fdr_table.specs.Rows.{TableRows}
use Rattle.fdr_readout.specs.Entries.{entry_lines}
use Rattle.fdr_words.specs.Forms.{salvage_image}
use Rattle.fdr_top.specs.Stages.{IsOfTable, IsPastTable, WritesNothing}
use Rattle.fdr_top.specs.Answers.{IsOwn, Yes}
use Rattle.fdr_top.specs.List.{IsOpened, RefusesOpening}
use Rattle.fdr_top.specs.Recover.{OnlyLooks}
use Rattle.fdr_top.specs.Refusals.{IsReadable, RefusesBy, RefusesLength, ring_fault}
use Rattle.fdr_top.specs.Salvage.{AreRunsOf, CanBeSalvaged, IsOpenedBy, SalvagesImage, SalvagesRead, entries_in_run, entries_in_runs, run_listing}
use Rattle.fdr_top.specs.Salvage.{run_text, salvage_header, salvage_in, salvage_text}
use Rattle.fdr_top.specs.Sessions.{entries_of_blocks, listing_of_blocks}
use Rattle.fdr_top.specs.Tables.{ByTable}
use Rattle.fdr_top.specs.declared.listing.ImageReader.{ImageReader}
use Rattle.fdr_top.specs.declared.outcome.Outcome.{Outcome}
use Rattle.fdr_top.specs.declared.outcome.Outcome.TheVariants as outcome
use Rattle.fdr_top.proofs.Images.{OnlyLooks-here, OnlyLooks-then, same_fault}
use Rattle.fdr_top.proofs.ListedImages.{IsOfBlocks, of_blocks_begun, shut_not_done, shut_not_write}
use Rattle.fdr_top.proofs.Making.{table_or, table_told}
use Rattle.fdr_top.proofs.RecordLines.{no_differ, no_first, refuses_nothing, takes_image}
use Rattle.fdr_top.proofs.SessionEntries.{lines_of_blocks}
use Rattle.fdr_top.proofs.TableAnswers.{past_not_memory, table_not_past}

-- ---- the lines of runs

-- a run has as many numbers as blocks
pub length_of_run : (run : List Block) → run_length (run_numbers run) ≡ length run
length_of_run [] = refl
length_of_run (b ∷ bs) = omega arith

-- the lines of a run's entries are its listing
lines_of_run : (t : TableRows) (h : Header) (image : List ℕ) (run : List Block) → blocks_in_run h image (run_numbers run) ≡ run
    → flat_map (entry_lines t) (entries_in_run t h image (run_numbers run)) ≡ run_listing t h.version run
unfolding entry_lines
lines_of_run t h image run same =
    let line : run_text (run_numbers run).first (run_length (run_numbers run)) ≡ run_text (run_numbers run).first (length run) =
    ap (run_text (run_numbers run).first) (length_of_run run) in
    let blocks : flat_map (entry_lines t) (entries_of_blocks t h.version (blocks_in_run h image (run_numbers run))) ≡ listing_of_blocks t h.version run =
    lines_of_blocks t h.version (blocks_in_run h image (run_numbers run)) ∙ ap (listing_of_blocks t h.version) same in
    ap₂ (λ (xs ys : List ℕ). xs ++ ys) line blocks

pub lines_of_runs : (t : TableRows) (h : Header) (image : List ℕ) (rs : List (List Block)) → map (blocks_in_run h image) (map run_numbers rs) ≡ rs
    → flat_map (entry_lines t) (entries_in_runs t h image (map run_numbers rs)) ≡ flat_map (run_listing t h.version) rs
lines_of_runs t h image [] same = refl
lines_of_runs t h image (r ∷ rs) same =
    let one : blocks_in_run h image (run_numbers r) ≡ r = cc in
    let rest : map (blocks_in_run h image) (map run_numbers rs) ≡ rs = cc in
    flat_map-append (entry_lines t) (entries_in_run t h image (run_numbers r)) (entries_in_runs t h image (map run_numbers rs))
    ∙ ap₂ (λ (xs ys : List ℕ). xs ++ ys) (lines_of_run t h image r one) (lines_of_runs t h image rs rest)

-- the lines of the entries of an image's runs are what is salvaged of it
pub lines_salvaged : (t : TableRows) (h : Header) (image : List ℕ) (runs : List Run) → AreRunsOf h image runs
    → flat_map (entry_lines t) (entries_in_runs t h image runs) ≡ salvage_text t h image
unfolding salvage_text
lines_salvaged t h image runs are =
    ap (λ (rs : List Run). flat_map (entry_lines t) (entries_in_runs t h image rs)) are.numbers
    ∙ lines_of_runs t h image (runs_of h image) (ap (map (blocks_in_run h image)) (sym are.numbers) ∙ are.blocks)

-- ---- images that are read by their header, or by a ring in place of it

-- the length was asked for
pub size_looks : (tells : Tells) (old new : State) → IsSoundDeck tells old → LearnsExtent tells old new → KeepsDisk old new → Passes tells old new
    → EachMoment tells old new (Within old new) → OnlyLooks tells old new
size_looks tells old new sound learns disk passes moments = record {
  learns = learns;
  disk = disk;
  disk_work = IsDiskWork-look tells old.may_leave old new sound disk passes moments (λ told image leaves. leaves);
}

pub opened_by_header : (t : TableRows) (tells : Tells) (old new : State) (r : ImageReader) → IsOpened t tells old new r → IsOpenedBy None t tells old new r
opened_by_header t tells old new r opened = record {
  limits = opened.limits;
  whole = opened.whole;
  header = opened.header;
  image = opened.image;
  readable = record {
    long = omega (arith, opened.whole);
    good = λ told. (opened.image told).no_fault;
  };
  fresh = opened.fresh;
}

-- what a length is for a ring
pub small_length : (ring : ℕ × ℕ) (size : ℕ) → size < 64 → ring_fault ring size ≡ Some fault.Small
small_length ring size small = let test : nat_lt size 64 ≡ true = grind (arith, nat_tests) in rw test refl

pub short_length : (ring : ℕ × ℕ) (size : ℕ) → 64 ≤ size → size < 64 + ring.0 * (16 + ring.1) → ring_fault ring size ≡ Some fault.Short
short_length ring size long short =
    let test : nat_lt size 64 ≡ false = grind (arith, nat_tests) in
    let other : nat_lt size (64 + ring.0 * (16 + ring.1)) ≡ true = grind (arith, nat_tests) in
    rw (test, other) refl

pub right_length : (ring : ℕ × ℕ) (size : ℕ) → 64 ≤ size → 64 + ring.0 * (16 + ring.1) ≤ size → ring_fault ring size ≡ None
right_length ring size long enough =
    let test : nat_lt size 64 ≡ false = grind (arith, nat_tests) in
    let other : nat_lt size (64 + ring.0 * (16 + ring.1)) ≡ false = grind (arith, nat_tests) in
    rw (test, other) refl

-- the fault of the length is answered
pub length_refused : (ring : ℕ × ℕ) (new : State) (found : ImageFault) → ring_fault ring new.extent ≡ Some found
    → RefusesLength ring new (outcome.ImageRefused found)
length_refused ring new found first = record {
  refused = λ why e. first ∙ ap Some (same_fault found why e);
  refused_always = λ why past some. inl (ap outcome.ImageRefused (let e : ◌≡◌ {A = Option ImageFault} (Some found) (Some why) = sym first ∙ some in cc));
  words = λ image table e. cc;
}

pub length_failed : (ring : ℕ × ℕ) (new : State) → RefusesLength ring new outcome.DiskFault
length_failed ring new = record {
  refused = λ why e. absurd (cc);
  refused_always = λ why past some. inr refl;
  words = λ image table e. cc;
}

-- a length has one fault, or none
no_fault_of : (ring : ℕ × ℕ) (size : ℕ) (why : ImageFault) → ring_fault ring size ≡ None → ring_fault ring size ≡ Some why → ⊥
no_fault_of ring size why none some = let c : ◌≡◌ {A = Option ImageFault} None (Some why) = sym none ∙ some in cc

-- where the image isn't read
pub refuses_by_nothing : (ring : Option (ℕ × ℕ)) (t : TableRows) (tells : Tells) (old new : State) (answer : Outcome) → (IsPastTable answer → ⊥)
    → RefusesBy ring t tells old new answer
refuses_by_nothing None t tells old new answer early = refuses_nothing t tells old new answer early
refuses_by_nothing (Some ring) t tells old new answer early = record {
  refused = λ why e. absurd (early (subst IsPastTable (sym e) tt));
  refused_always = λ why past. absurd (early past);
  words = λ image table e. early (subst IsPastTable (sym e) tt);
}

-- an image that can be read isn't refused
takes_by : (ring : Option (ℕ × ℕ)) (t : TableRows) (tells : Tells) (old new : State) (answer : Outcome) → (WritesNothing answer → ⊥)
    → IsReadable ring tells old new → (IsTrue tells.bytes → CanBeSalvaged t ring old.held) → RefusesBy ring t tells old new answer
takes_by None t tells old new answer begun readable can = takes_image t tells old new answer begun (λ short. omega (arith, short, readable.long)) can
takes_by (Some ring) t tells old new answer begun readable can = record {
  refused = λ why e. absurd (begun (subst WritesNothing (sym e) tt));
  refused_always = λ why past some. absurd (no_fault_of ring new.extent why readable some);
  words = λ image table e. begun (subst WritesNothing (sym e) tt);
}

-- what can be read can be read as long as the length is the same
pub readable_kept : (ring : Option (ℕ × ℕ)) (tells : Tells) (old mid new : State) → new.extent ≡ mid.extent → IsReadable ring tells old mid
    → IsReadable ring tells old new
readable_kept None tells old mid new same readable = record { long = omega (arith, readable.long, same); good = readable.good }
readable_kept (Some ring) tells old mid new same readable = ap (ring_fault ring) same ∙ readable

-- ---- what is answered

-- where the image isn't opened, or nothing of it is listed
pub unsalvaged : (t : TableRows) (ring : Option (ℕ × ℕ)) (tells : Tells) (old new : State) (written : Option (List ℕ)) (before now : ℕ)
    (answer : Outcome) → OnlyLooks tells old new → RefusesOpening answer → RefusesBy ring t tells old new answer
    → SalvagesImage t ring tells old new written written before now answer
unsalvaged t ring tells old new written before now answer looks shut refuses = record {
  looks = looks;
  text = λ done told. absurd (shut_not_done answer shut done);
  part = λ told. (0, sym (followed_by-nil written));
  drained = λ fails told none. inl refl;
  good = λ either told. absurd (⊎_elim (shut_not_done answer shut) (shut_not_write answer shut) either);
  begun = inl refl;
  image = refuses;
}

-- where the runs are found and listed
pub runs_salvaged : (t : TableRows) (ring : Option (ℕ × ℕ)) (tells : Tells) (old mid new : State) (r : ImageReader) (before now : Option (List ℕ))
    (sink_before sink_now : ℕ) (answer : Outcome) → IsSoundDeck tells old → OnlyLooks tells old mid → Looks tells mid new
    → IsOpenedBy ring t tells old mid r → IsOfBlocks answer
    → (answer ≡ outcome.Done → IsTrue tells.bytes → now ≡ followed_by before (salvage_text t r.header mid.held))
    → (IsTrue tells.bytes → (k : ℕ) × (now ≡ followed_by before (take k (salvage_text t r.header mid.held))))
    → (answer ≡ outcome.DiskFault → IsTrue tells.bytes → (Rose sink_before sink_now → ⊥)
    → (now ≡ before) ⊎ SalvagesRead t r.header mid.held before now)
    → SalvagesImage t ring tells old new before now sink_before sink_now answer
runs_salvaged t ring tells old mid new r before now sink_before sink_now answer sound first second opened of text part drained =
    let listed : IsTrue tells.bytes → salvage_text t r.header mid.held ≡ salvage_in t ring old.held = λ told.
    ap (salvage_text t r.header) first.disk.held ∙ ap (λ (h : Header). salvage_text t h old.held) (opened.header told) in
    record {
      looks = OnlyLooks-then tells old mid new sound first second;
      text = λ done told. text done told ∙ ap (followed_by before) (listed told);
      part = λ told. let p = part told in (p.0, p.1 ∙ ap (λ (l : List ℕ). followed_by before (take p.0 l)) (listed told));
      drained = λ fails told none. ⊎_elim
          (λ (same : now ≡ before). inl same)
          (λ (read : SalvagesRead t r.header mid.held before now). inr (
          subst (λ (x : List ℕ). SalvagesRead t (salvage_header t ring old.held) x before now) first.disk.held
          (subst (λ (h : Header). SalvagesRead t h mid.held before now) (opened.header told) read)))
          (drained fails told none);
      good = λ either told. opened.image told;
      begun = inr opened.image;
      image = takes_by ring t tells old new answer (of_blocks_begun answer of) (readable_kept ring tells old mid new second.extent opened.readable)
          opened.image;
    }

-- the words are compared only by the header
words_own : (ring : Option (ℕ × ℕ)) (t : TableRows) (tells : Tells) (old new : State) (image table : ℕ)
    → RefusesBy ring t tells old new (outcome.WordsDiffer image table) → Yes (is_none ring)
words_own None t tells old new image table refuses = tt
words_own (Some ring) t tells old new image table refuses = absurd (refuses.words image table refl)

-- what opening answers is the command's own
pub opening_own : (path image : List ℕ) (ring : Option (ℕ × ℕ)) (t : TableRows) (tells : Tells) (old new : State) (answer : Outcome)
    → RefusesOpening answer → RefusesBy ring t tells old new answer → (answer ≡ outcome.NoMemory) ⊎ IsOwn (salvage_image path image ring) answer
opening_own path image ring t tells old new (outcome.ImageRefused why) shut refuses = inr tt
opening_own path image ring t tells old new (outcome.WordsDiffer w u) shut refuses = inr (words_own ring t tells old new w u refuses)
opening_own path image ring t tells old new outcome.DiskFault shut refuses = inr tt
opening_own path image ring t tells old new outcome.NoMemory shut refuses = inl refl
opening_own path image ring t tells old new answer shut refuses = absurd shut

-- where the table isn't read, the deck isn't touched and nothing is salvaged
pub salvages_nothing : (ring : Option (ℕ × ℕ)) (tells : Tells) (rest now : Option (List ℕ)) (d : State) (written : Option (List ℕ)) (before after : ℕ)
    (answer : Outcome) → IsSoundDeck tells d → (answer ≡ outcome.NoMemory) ⊎ IsOfTable answer
    → ByTable rest now answer (λ (t : TableRows). SalvagesImage t ring tells d d written written before after answer)
salvages_nothing ring tells rest now d written before after answer sound either =
    let early : IsPastTable answer → ⊥ = λ past. ⊎_elim
    (λ (m : answer ≡ outcome.NoMemory). past_not_memory answer past m)
    (λ (of : IsOfTable answer). table_not_past answer of past) either in
    let not : (other : Outcome) → IsPastTable other → answer ≡ other → ⊥ = λ other past e. early (rw e past) in (
      table_or rest,
      table_told rest,
      λ past. absurd (early past),
      record {
        looks = OnlyLooks-here tells d sound;
        text = λ done told. absurd (not outcome.Done tt done);
        part = λ told. (0, sym (followed_by-nil written));
        drained = λ fails told none. inl refl;
        good = λ either told. absurd (⊎_elim (not outcome.Done tt) (not outcome.WriteFault tt) either);
        begun = inl refl;
        image = refuses_by_nothing ring (table_or rest) tells d d answer early;
      },
    )

-- an image that can be salvaged isn't refused
not_refused : (t : TableRows) (ring : Option (ℕ × ℕ)) (tells : Tells) (old new : State) (why : ImageFault) → IsSoundDeck tells old
    → OnlyLooks tells old new → RefusesBy ring t tells old new (outcome.ImageRefused why) → IsTrue tells.bytes → CanBeSalvaged t ring old.held → ⊥
not_refused t None tells old new why sound looks refuses told can = no_first old.held why can.no_fault (refuses.header.refused why refl told)
not_refused t (Some ring) tells old new why sound looks refuses told can =
    no_fault_of ring (length old.held) why can (ap (ring_fault ring) (sound.size told ∙ sym (looks.learns.bytes told)) ∙ refuses.refused why refl)

not_different : (t : TableRows) (ring : Option (ℕ × ℕ)) (tells : Tells) (old new : State) (image table : ℕ)
    → RefusesBy ring t tells old new (outcome.WordsDiffer image table) → IsTrue tells.bytes → CanBeSalvaged t ring old.held → ⊥
not_different t None tells old new image table refuses told can =
    no_differ t tells old new (outcome.WordsDiffer image table) image table refuses told can refl
not_different t (Some ring) tells old new image table refuses told can = refuses.words image table refl

-- the image can be salvaged, and nothing fails: its runs are listed, or memory ended
pub salvage_done : (path image : List ℕ) (ring : Option (ℕ × ℕ)) (t : TableRows) (tells : Tells) (old new : State) (before now : Option (List ℕ))
    (f_before f_now : ℕ) (answer : Outcome) → (answer ≡ outcome.NoMemory) ⊎ IsOwn (salvage_image path image ring) answer → IsSoundDeck tells old
    → SalvagesImage t ring tells old new before now f_before f_now answer → IsTrue tells.bytes → CanBeSalvaged t ring old.held
    → (answer ≡ outcome.DiskFault → ⊥) → (answer ≡ outcome.WriteFault → ⊥) → (answer ≡ outcome.Done) ⊎ (answer ≡ outcome.NoMemory)
salvage_done path image ring t tells old new before now f_before f_now outcome.Done of sound does told can disk sink = inl refl
salvage_done path image ring t tells old new before now f_before f_now (outcome.ImageRefused why) of sound does told can disk sink =
    absurd (not_refused t ring tells old new why sound does.looks does.image told can)
salvage_done path image ring t tells old new before now f_before f_now (outcome.WordsDiffer w u) of sound does told can disk sink =
    absurd (not_different t ring tells old new w u does.image told can)
salvage_done path image ring t tells old new before now f_before f_now outcome.WriteFault of sound does told can disk sink = absurd (sink refl)
salvage_done path image ring t tells old new before now f_before f_now outcome.DiskFault of sound does told can disk sink = absurd (disk refl)
salvage_done path image ring t tells old new before now f_before f_now outcome.NoMemory of sound does told can disk sink = inr refl
salvage_done path image ring t tells old new before now f_before f_now (outcome.ReadFault input.Table) of sound does told can disk sink =
    ⊎_elim (λ memory. absurd (cc)) (λ own. absurd own) of
salvage_done path image ring t tells old new before now f_before f_now (outcome.ReadFault input.Line) of sound does told can disk sink =
    ⊎_elim (λ memory. absurd (cc)) (λ own. absurd own) of
salvage_done path image ring t tells old new before now f_before f_now answer of sound does told can disk sink =
    ⊎_elim (λ memory. inr memory) (λ own. absurd own) of
