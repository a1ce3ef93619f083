-- What upgrading an image leaves and answers.
use Rattle.std.proofs.Common.{◌≡◌, ◌⊎◌, ⊎_elim, inl, inr, Bool, true, false, ℕ, ◌<◌, ◌≤◌, List, [], ◌∷◌, length, Option, Some, None, ap, sym}
use Rattle.std.proofs.Common.{refl, ◌∙◌, subst, arith}
use Rattle.std.specs.Prelude.{IsTrue, ◌↔◌, ◌==◌, if◌then◌else◌, map, nat_lt, not, slice_index, take}
use Rattle.std.proofs.lemmas.Bool.{cases_lt}
use Rattle.std.proofs.lemmas.Bool.Decides.{nat_tests}
use Rattle.fdr_io.specs.declared.Input.TheVariants as input
use Rattle.fdr_deck.specs.State.{State, Tells}
use Rattle.fdr_deck.specs.Calls.{IsDiskWork, Passes}
use Rattle.fdr_deck.specs.Disk.{IsSettled, KeepsDisk, LearnsExtent, Tears, Torn, patched}
use Rattle.fdr_deck.specs.Moments.{EachMoment, IsSoundDeck, Within}
use Rattle.fdr_deck.proofs.Moments.{IsDiskWork-here, IsDiskWork-keep, IsDiskWork-write}
use Rattle.fdr_deck.proofs.Quiet.{IsDiskWork-then, IsDiskWork-weaken}
use Rattle.fdr_slot.specs.Headers.{has_magic, header_of, image_fault}
use Rattle.fdr_slot.specs.Limits.{in_limits}
use Rattle.fdr_slot.specs.Places.{image_size}
use Rattle.fdr_slot.specs.declared.image.Header.{Header}
use Rattle.fdr_slot.specs.declared.image.ImageFault.{ImageFault}
use Rattle.fdr_slot.specs.declared.image.ImageFault.TheVariants as fault
use Rattle.fdr_recover.specs.ImageHeader.{image_fault_of, header_in}
use Rattle.fdr_recover.specs.Payloads.{contents_of, run_in}
use Rattle.fdr_recover.specs.declared.error.RingFault.{RingFault}
use Rattle.fdr_recover.specs.declared.error.RingFault.TheVariants as ring
use Rattle.fdr_recover.proofs.Contents.{recovered_run-contents}
use Rattle.fdr_ring.specs.Rings.{OfSettled}
use Rattle.fdr_words.specs.Forms.{upgrade_image}
use Rattle.fdr_top.specs.Answers.{IsOwn}
use Rattle.fdr_top.specs.Recover.{header_refusal}
use Rattle.fdr_top.specs.Refusals.{RefusesHeader}
use Rattle.fdr_top.specs.Stages.{WritesNothing}
use Rattle.fdr_top.specs.Upgrade.{UpgradesImage, UpgradingStop, VersionStop, image_upgraded_from, upgraded}
use Rattle.fdr_top.specs.declared.outcome.Outcome.{Outcome}
use Rattle.fdr_top.specs.declared.outcome.Outcome.TheVariants as outcome
use Rattle.fdr_top.proofs.RecordLines.{header_failed, header_faulty, no_first, takes_header}

-- ---- the write of the version

-- nothing was written yet
pub version_here : (version : ℕ) (tells : Tells) (d : State) → IsSoundDeck tells d → IsDiskWork tells (OfSettled d (VersionStop version)) d d
version_here version tells d sound =
    IsDiskWork-here tells (OfSettled d (VersionStop version)) d sound (λ told image leaves settled. inl (settled image leaves))

-- the byte was written, or the write failed
pub version_torn : (version : ℕ) (tells : Tells) (a b : State) → version ≡ 1 → IsSoundDeck tells a → Passes tells a b
    → EachMoment tells a b (Within a b) → Tears tells 1 1 a b → IsDiskWork tells (OfSettled a (VersionStop version)) a b
version_torn version tells a b first sound passes moments tears =
    IsDiskWork-write tells (OfSettled a (VersionStop version)) a a b 1 1 sound sound (version_here version tells a sound) passes moments tears
    (λ told from image leaves holds torn settled. inr (first, subst (λ (i : List ℕ). Torn 1 1 i image) (settled from leaves) torn))

-- after it the disk was synced, or that failed
pub version_synced : (version : ℕ) (tells : Tells) (a b c : State) → IsSoundDeck tells a → IsSoundDeck tells b
    → IsDiskWork tells (OfSettled a (VersionStop version)) a b → Passes tells b c → EachMoment tells b c (Within b c)
    → ((image : List ℕ) → c.may_leave image → b.may_leave image) → IsDiskWork tells (OfSettled a (VersionStop version)) a c
version_synced version tells a b c sound_a sound_b work passes moments fewer =
    IsDiskWork-keep tells (OfSettled a (VersionStop version)) a b c sound_a sound_b work passes moments fewer

-- ---- an image by its version

abbrev version_by : Bool → ℕ
version_by second = if second then 2 else 1

-- a header is of version 1 or of version 2
version_cases : (bytes : List ℕ) → ((header_of bytes).version ≡ 1) ⊎ ((header_of bytes).version ≡ 2)
unfolding header_of
version_cases bytes = go (slice_index bytes 1 == 0xa5)
  where
    go : (second : Bool) → (version_by second ≡ 1) ⊎ (version_by second ≡ 2)
    go true = inr refl
    go false = inl refl

-- the byte of version 2 is read as version 2
patched_version : (image : List ℕ) → 1 < length image → (header_in (patched 1 (0xa5 ∷ []) image)).version ≡ 2
unfolding header_of
patched_version [] long = absurd (omega (arith, long))
patched_version (gate ∷ rest) long = refl

-- the image in version 2 is of version 2
upgraded_version : (image : List ℕ) → 1 < length image → (header_in (upgraded image)).version ≡ 2
upgraded_version image long = ⊎_elim
    (λ (first : (header_in image).version ≡ 1). ap (λ n. (header_in (image_upgraded_from n image)).version) first ∙ patched_version image long)
    (λ (second : (header_in image).version ≡ 2). ap (λ n. (header_in (image_upgraded_from n image)).version) second ∙ second)
    (version_cases _)

-- ---- images that differ in the byte at place 1 alone

-- the first fault of an image by what its bytes say
abbrev fault_by : Bool → Bool → Header → ℕ → Option ImageFault
fault_by gate magic h size =
    if nat_lt size 64 then Some fault.Small
    else if not gate then Some fault.Closed
    else if not magic then Some fault.Magic
    else if not (in_limits h) then Some fault.Geometry
    else if nat_lt size (image_size h) then Some fault.Short
    else None

-- it is the same in both versions
fault_by_version : (gate magic : Bool) (h : Header) (size : ℕ) (one other : Bool)
    → fault_by gate magic (record h { version = version_by one }) size ≡ fault_by gate magic (record h { version = version_by other }) size
fault_by_version gate magic h size true true = refl
fault_by_version gate magic h size true false = refl
fault_by_version gate magic h size false true = refl
fault_by_version gate magic h size false false = refl

fault_kept : (gate was now : ℕ) (rest : List ℕ) (size : ℕ) → image_fault (gate ∷ now ∷ rest) size ≡ image_fault (gate ∷ was ∷ rest) size
unfolding image_fault has_magic header_of
fault_kept gate was now rest size =
    fault_by_version (gate == 0x5a) (has_magic (gate ∷ was ∷ rest)) (header_of (gate ∷ was ∷ rest)) size (now == 0xa5) (was == 0xa5)

run_kept : (gate was now : ℕ) (rest : List ℕ) → map contents_of (run_in (gate ∷ now ∷ rest)) ≡ map contents_of (run_in (gate ∷ was ∷ rest))
unfolding header_of
run_kept gate was now rest =
    recovered_run-contents (header_in (gate ∷ now ∷ rest)) (header_in (gate ∷ was ∷ rest)) (gate ∷ now ∷ rest) (gate ∷ was ∷ rest) refl refl refl

torn_kept : (old image : List ℕ) → 1 < length old → Torn 1 1 old image → image_fault_of old ≡ None
    → (image_fault_of image ≡ None) × (map contents_of (run_in image) ≡ map contents_of (run_in old))
torn_kept [] image long torn none = absurd (omega (arith, long))
torn_kept (gate ∷ []) image long torn none = absurd (omega (arith, long))
torn_kept (gate ∷ was ∷ rest) [] long torn none = absurd (omega (arith, torn.size))
torn_kept (gate ∷ was ∷ rest) (now ∷ []) long torn none = absurd (omega (arith, torn.size))
torn_kept (gate ∷ was ∷ rest) (front ∷ now ∷ left) long torn none =
    let same_gate : front ≡ gate = let front : front ∷ [] ≡ gate ∷ [] = torn.front in cc in
    let same_rest : left ≡ rest = torn.behind in
    rw (same_gate, same_rest) (fault_kept gate was now (take 62 rest) (length (gate ∷ now ∷ rest)) ∙ none, run_kept gate was now rest)

-- an image without a fault has the bytes of a header
faultless_long : (image : List ℕ) → image_fault_of image ≡ None → 1 < length image
unfolding image_fault
faultless_long image none = ⊎_elim
    (λ (short : length image < 64). absurd (let test : nat_lt (length image) 64 ≡ true = grind (arith, nat_tests) in
    let c : Some fault.Small ≡ None = rw test at none in cc))
    (λ (long : 64 ≤ length image). omega (arith, long))
    (cases_lt (length image) 64)

-- what a stop in `upgrade` leaves of an image reads, and has the blocks with the same numbers and payloads
pub upgrading_keeps : (old image : List ℕ) → image_fault_of old ≡ None → UpgradingStop old image
    → (image_fault_of image ≡ None) × (map contents_of (run_in image) ≡ map contents_of (run_in old))
upgrading_keeps old image none (inl e) = (ap image_fault_of e ∙ none, ap (λ i. map contents_of (run_in i)) e)
upgrading_keeps old image none (inr torn) = torn_kept old image (faultless_long old none) torn.2 none

-- ---- what a stop leaves

-- what a stop leaves while the version is written, it leaves in `upgrade`
stopped : (old mid image : List ℕ) (h : Header) → mid ≡ old → h ≡ header_in old → image_fault_of old ≡ None → VersionStop h.version mid image
    → UpgradingStop old image
stopped old mid image h same header good (inl e) = inl (e ∙ same)
stopped old mid image h same header good (inr torn) =
    inr (good, ap (λ (x : Header). x.version) (sym header) ∙ torn.0, subst (λ (i : List ℕ). Torn 1 1 i image) same torn.1)

-- the version is written after the header was read
upgrading_work : (tells : Tells) (old mid new : State) (h : Header) → IsSoundDeck tells old → KeepsDisk old mid
    → IsDiskWork tells old.may_leave old mid → (IsTrue tells.bytes → h ≡ header_in old.held)
    → (IsTrue tells.bytes → image_fault_of old.held ≡ None) → IsDiskWork tells (OfSettled mid (VersionStop h.version)) mid new
    → IsDiskWork tells (OfSettled old UpgradingStop) old new
upgrading_work tells old mid new h sound kept read header good work =
    IsDiskWork-then tells old.may_leave (OfSettled mid (VersionStop h.version)) (OfSettled old UpgradingStop) old mid new sound read work
    (λ told image leaves settled. inl (settled image leaves))
    (λ told image stop settled.
    let bytes = sound.stops_need_bytes told in
    stopped old.held mid.held image h kept.held (header bytes) (good bytes)
    (stop (λ i leaves. settled i (kept.no_more i leaves) ∙ sym kept.held)))

-- ---- what is promised

-- where the header isn't read, or memory ends before
pub upgrade_unread : (tells : Tells) (old new : State) (answer : Outcome) → LearnsExtent tells old new → KeepsDisk old new
    → IsDiskWork tells old.may_leave old new → (answer ≡ outcome.Done → ⊥) → RefusesHeader tells old new answer
    → UpgradesImage tells old new answer
upgrade_unread tells old new answer learns kept work undone header = record {
  disk_work = IsDiskWork-weaken tells old.may_leave (OfSettled old UpgradingStop) old new work (λ told image leaves settled. inl (settled image leaves));
  learns = learns;
  part = λ told. inl kept.held;
  kept = λ none image stop. upgrading_keeps old.held image none stop;
  held = λ done told. absurd (undone done);
  version = λ done told. absurd (undone done);
  settled = λ done told. absurd (undone done);
  good = λ done told. absurd (undone done);
  header = header;
}

-- which refusal is answered where the header isn't read
pub header_refuses : (tells : Tells) (old new : State) (f : RingFault) → (f ≡ ring.NotEmpty → ⊥) → (f ≡ ring.SeqEnd → ⊥)
    → (IsTrue tells.bytes → (why : ImageFault) → f ≡ ring.Image why → image_fault_of old.held ≡ Some why)
    → ((why : ImageFault) → f ≡ ring.Image why → (why ≡ fault.Small) ↔ (new.extent < 64)) → RefusesHeader tells old new (header_refusal f)
header_refuses tells old new ring.NotEmpty not_empty not_end first small = absurd (not_empty refl)
header_refuses tells old new (ring.Image found) not_empty not_end first small =
    header_faulty tells old new found (λ told. first told found refl) (small found refl)
header_refuses tells old new ring.DiskFault not_empty not_end first small = header_failed tells old new
header_refuses tells old new ring.SeqEnd not_empty not_end first small = absurd (not_end refl)

pub refusal_not_done : (f : RingFault) → header_refusal f ≡ outcome.Done → ⊥
refusal_not_done ring.NotEmpty e = cc
refusal_not_done (ring.Image why) e = cc
refusal_not_done ring.DiskFault e = cc
refusal_not_done ring.SeqEnd e = cc

-- what is answered where it isn't
pub refusal_own : (path : List ℕ) (f : RingFault) → IsOwn (upgrade_image path) (header_refusal f)
refusal_own path ring.NotEmpty = tt
refusal_own path (ring.Image why) = tt
refusal_own path ring.DiskFault = tt
refusal_own path ring.SeqEnd = tt

pub refusal_failed : (f : RingFault) → (f ≡ ring.NotEmpty → ⊥) → (f ≡ ring.SeqEnd → ⊥) → header_refusal f ≡ outcome.DiskFault → f ≡ ring.DiskFault
refusal_failed ring.NotEmpty not_empty not_end e = absurd (not_empty refl)
refusal_failed (ring.Image why) not_empty not_end e = absurd (cc)
refusal_failed ring.DiskFault not_empty not_end e = refl
refusal_failed ring.SeqEnd not_empty not_end e = absurd (not_end refl)

-- where the header is read
module _ (tells : Tells) (old mid new : State) (h : Header) (answer : Outcome)
    (sound : IsSoundDeck tells old) (learns : LearnsExtent tells old mid) (kept : KeepsDisk old mid)
    (read : IsDiskWork tells old.may_leave old mid) (header : IsTrue tells.bytes → h ≡ header_in old.held)
    (good : IsTrue tells.bytes → image_fault_of old.held ≡ None) (whole : image_size h ≤ mid.extent) (extent : new.extent ≡ mid.extent)
    (work : IsDiskWork tells (OfSettled mid (VersionStop h.version)) mid new)
    (part : IsTrue tells.bytes → VersionStop h.version mid.held new.held)
  where
    stop : IsTrue tells.bytes → UpgradingStop old.held new.held
    stop told = stopped old.held mid.held new.held h kept.held (header told) (good told) (part told)

    size : IsTrue tells.bytes → 1 < length old.held
    size told = omega (arith, whole, sound.size told, learns.bytes told)

    pub upgrade_read : (answer ≡ outcome.Done → IsTrue tells.bytes → new.held ≡ image_upgraded_from h.version mid.held)
        → (answer ≡ outcome.Done → IsTrue tells.stops → IsSettled new) → (WritesNothing answer → ⊥) → UpgradesImage tells old new answer
    upgrade_read written settled begun =
        let held : answer ≡ outcome.Done → IsTrue tells.bytes → new.held ≡ upgraded old.held = λ done told.
        written done told ∙ ap (λ (x : Header). image_upgraded_from x.version mid.held) (header told)
        ∙ ap (image_upgraded_from (header_in old.held).version) kept.held in
        record {
          disk_work = upgrading_work tells old mid new h sound kept read header good work;
          learns = record {
            bytes = λ told. extent ∙ learns.bytes told;
            stops = λ told. extent ∙ learns.stops told;
            known = λ some. extent ∙ learns.known some;
          };
          part = stop;
          kept = λ none image left. upgrading_keeps old.held image none left;
          held = held;
          version = λ done told. (
            (upgrading_keeps old.held new.held (good told) (stop told)).0,
            ap (λ (i : List ℕ). (header_in i).version) (held done told) ∙ upgraded_version old.held (size told),
          );
          settled = settled;
          good = λ done told. good told;
          header = takes_header tells old new answer begun (λ short. omega (arith, short, extent, whole)) good;
        }

-- where memory ends before the disk is looked at
pub upgrades_nothing : (tells : Tells) (d : State) → IsSoundDeck tells d → UpgradesImage tells d d outcome.NoMemory
upgrades_nothing tells d sound = upgrade_unread tells d d outcome.NoMemory
    (record { bytes = λ told. refl; stops = λ told. refl; known = λ some. refl })
    (record { held = refl; no_more = λ image leaves. leaves; no_less = λ image leaves. leaves })
    (IsDiskWork-here tells d.may_leave d sound (λ told image leaves. leaves))
    (λ e. absurd (cc))
    (record {
      refused = λ why e told. absurd (cc);
      small = λ why e. absurd (cc);
      small_always = λ past short. absurd past;
      refused_always = λ why past told first. absurd past;
    })

-- what the disk holds is an image, and nothing fails: all is done
pub upgrade_done : (path : List ℕ) (tells : Tells) (old new : State) (answer : Outcome) → IsOwn (upgrade_image path) answer
    → UpgradesImage tells old new answer → IsTrue tells.bytes → image_fault_of old.held ≡ None → (answer ≡ outcome.DiskFault → ⊥)
    → answer ≡ outcome.Done
upgrade_done path tells old new outcome.Done own is told none disk = refl
upgrade_done path tells old new (outcome.ImageRefused why) own is told none disk = absurd (no_first old.held why none (is.header.refused why refl told))
upgrade_done path tells old new outcome.DiskFault own is told none disk = absurd (disk refl)
upgrade_done path tells old new (outcome.ReadFault input.Table) own is told none disk = absurd own
upgrade_done path tells old new (outcome.ReadFault input.Line) own is told none disk = absurd own
upgrade_done path tells old new answer own is told none disk = absurd own
