-- What both images keep while a recording on two disks goes on, from before its start on.
use Rattle.std.proofs.Common.{◌≡◌, ◌⊎◌, inl, inr, ⊎_elim, ℕ, ◌-◌, ◌<◌, ◌≤◌, List, [], ◌++◌, length, take, refl, sym, ◌∙◌, ap, subst, arith}
use Rattle.std.proofs.Common.{length-drop, Option, Some, None, Result}
use Rattle.std.specs.Prelude.{IsTrue}
use Rattle.std.specs.Option.{ForSome}
use Rattle.fdr_io.specs.Faults.{Rose}
use Rattle.fdr_bus.specs.Records.{good_prefix}
use Rattle.fdr_deck.specs.State.{Tells}
use Rattle.fdr_deck.specs.Disk.{IsSettled}
use Rattle.fdr_slot.specs.declared.image.Header.{Header}
use Rattle.fdr_slot.specs.declared.image.ImageFault.{ImageFault}
use Rattle.fdr_recover.specs.Blocks.{Block}
use Rattle.fdr_recover.specs.Images.{recovered_run, next_of}
use Rattle.fdr_recover.specs.ImageHeader.{image_fault_of, header_in}
use Rattle.fdr_recover.specs.Payloads.{run_in}
use Rattle.fdr_ring.specs.Runs.{IsTail, last_blocks}
use Rattle.fdr_ring.specs.declared.ring.Ring.{Ring}
use Rattle.fdr_table.specs.Rows.{TableRows}
use Rattle.fdr_twin.specs.declared.side.Side.{Side}
use Rattle.fdr_twin.specs.declared.side.Side.TheVariants.{First, Second}
use Rattle.fdr_twin.specs.Pair.{Pair, PairMoment, disk_on, image_on, seen}
use Rattle.fdr_twin.specs.Sound.{IsSoundPair}
use Rattle.fdr_twin.specs.Serving.{EachPairMoment}
use Rattle.fdr_recorder.specs.NewBlocks.{new_blocks, next_in}
use Rattle.fdr_recorder.specs.Past.{all_blocks, past_at_start, session_of}
use Rattle.fdr_recorder.specs.declared.source.SourceEnd.{SourceEnd}
use Rattle.fdr_pair.specs.Brought.{missing_blocks}
use Rattle.fdr_pair.specs.Alike.{AreAlike, lead_on, follower_on, lead_image, follower_image}
use Rattle.fdr_pair.specs.Living.{Follows, SideKept, SideMoment}
use Rattle.fdr_pair.specs.PairRecording.{IsSettledSide}
use Rattle.fdr_pair.specs.PairMoments.{MayRecordPair, HasFailedBy, KeepsOwnRun, KeepsRunUntilPull, KeepsRunWith, StaysAsAtEntry}
use Rattle.fdr_pair.specs.SideKeeping.{HasFailedOrKeeps, KeepsRecording}
use Rattle.fdr_pair.specs.Traces.{PairRecordsTrace, TellsOnlySince, trace_blocks}
use Rattle.fdr_pair.specs.PairStarting.{HoldsRun, IsCountedByRing, IsPairStarted, StartsOnRun, StartsWithLead, ring_on}
use Rattle.fdr_pair.specs.declared.fault.PairFault.{PairFault}
use Rattle.fdr_pair.specs.declared.rings.PairRings.{PairRings}
use Rattle.fdr_pair.specs.declared.start.PairStart.{PairStart}
use Rattle.fdr_pair.proofs.Going.{on, known}
use Rattle.fdr_pair.proofs.Keeps.{keeps_since, kept_since}
use Rattle.fdr_pair.proofs.KeptSides.{of_now}

-- ---- lists of blocks

-- the last N - 1 blocks are a tail with N - 2 of them at least
last_tail : (n : ℕ) (whole : List Block) → IsTail (n - 2) whole (last_blocks (n - 1) whole)
last_tail n whole = record {
  lost = length whole - (n - 1);
  within = omega arith;
  tail = refl;
  enough = omega (arith, length-drop (length whole - (n - 1)) whole);
}

-- an image that holds the last N - 1 blocks of a run has a tail of it
pub tail_of : (h : Header) (run : List Block) (image : List ℕ) → recovered_run h image ≡ last_blocks (h.slots - 1) run
    → IsTail (h.slots - 2) run (recovered_run h image)
tail_of h run image is = subst (λ (l : List Block). IsTail (h.slots - 2) run l) (sym is) (last_tail h.slots run)

-- what is kept with no new block is kept with any
pub keeps_first : (h : Header) (entry : List ℕ) (old : List Block) (first : ℕ) (new : List Block) (number : ℕ) (image : List ℕ)
    → KeepsRecording h entry old first [] number image → KeepsRecording h entry old first new number image
keeps_first h entry old first new number image keeps =
    let none : keeps.count ≡ 0 = omega (arith, keeps.fits) in
    record {
      kept = keeps.kept;
      count = 0;
      fits = omega arith;
      run = subst (λ (n : ℕ). IsTail (h.slots - 2) (old ++ take n []) (recovered_run h image)) none keeps.run;
      next = omega (arith, keeps.next, none);
      announced = keeps.announced;
    }

-- the blocks of a trace are those that a recording adds to the image whose header, next number and session the past has
pub blocks_same : (t : TableRows) (h : Header) (next session : ℕ) (image bytes : List ℕ) → h ≡ header_in image → next ≡ next_in image
    → session ≡ session_of (run_in image) → trace_blocks (past_at_start t h next session) bytes ≡ new_blocks t image (good_prefix bytes)
blocks_same t h next session image bytes header number after =
    ap (λ x. all_blocks (record { table = t; header = x; first = next; session = session; records = good_prefix bytes })) header
    ∙ ap (λ x. all_blocks (record { table = t; header = header_in image; first = x; session = session; records = good_prefix bytes })) number
    ∙ ap (λ x. all_blocks (record { table = t; header = header_in image; first = next_in image; session = x; records = good_prefix bytes })) after

no_ring : (o : Option Ring) (f : Option ImageFault) (why : ImageFault) → ForSome o (λ r. f ≡ None) → f ≡ Some why → o ≡ None
no_ring None f why none some = refl
no_ring (Some r) f why none some = absurd (let is : f ≡ None = none r refl in cc)

-- ---- from the start of the session on

module _ (t : TableRows) (tells : Tells) (s : PairStart) (p0 p5 p6 : Pair) (end : Result SourceEnd PairFault) (sound : IsSoundPair tells p5)
    (started : IsPairStarted t tells s p0 p5)
    (recorded : PairRecordsTrace tells (past_at_start t s.session.rings.header s.session.rings.next s.session.session) s.session.rings p5 p6 end) where
  abbrev rings : PairRings
  rings = s.session.rings

  abbrev blocks : List Block
  blocks = trace_blocks (past_at_start t rings.header rings.next s.session.session) recorded.pulled

  -- ---- each moment is one from before the session or one of it

  pub over : (P : PairMoment → Type 0) → EachPairMoment tells p0 p5 P → EachPairMoment tells p5 p6 (λ m. p5.since p5.clock m ⊎ P m)
      → EachPairMoment tells p0 p6 P
  over P was is = on tells P p0 p5 p6 started.time recorded.time was
      (λ stops m since. ⊎_elim (λ now. known tells P p0 p5 sound started.time was stops m now) (λ late. late) (is stops m since))

  -- no byte is pulled before the session, so of moments with pulled bytes only those of the session count
  pub over_pulled : (P : PairMoment → Type 0) → EachPairMoment tells p5 p6 (λ m. p5.taken < m.taken → p5.since p5.clock m ⊎ P m)
      → EachPairMoment tells p0 p6 (λ m. p0.taken < m.taken → P m)
  over_pulled P is = over (λ m. p0.taken < m.taken → P m)
      (λ stops m since some. let none = (started.keeps.unpulled stops m since).taken in absurd (omega (arith, some, none)))
      (λ stops m since. ⊎_elim (λ now. inl now) (λ late. inr late) (early stops m since))
    where
      line : p5.taken ≡ p0.taken
      line = started.line.taken

      early : IsTrue tells.stops → (m : PairMoment) → p6.since p5.clock m → p5.since p5.clock m ⊎ (p0.taken < m.taken → P m)
      early stops m since = ⊎_elim
          (λ idle. inr (λ some. let none = idle.pulled.taken in absurd (omega (arith, some, none, line))))
          (λ some. ⊎_elim (λ now. inl now) (λ late. inr (λ _. late)) (is stops m since some))
          (recorded.idle stops m since)

  bytes_told : IsTrue tells.stops → IsTrue tells.bytes
  bytes_told stops = (sound.sides First).stops_need_bytes stops

  -- ---- one side

  pub follows_on : (side : Side) → Follows rings.header rings.next (ring_on side rings)
  follows_on First = rings.first_follows
  follows_on Second = rings.second_follows

  pub settled_now : (side : Side) → IsSettledSide tells side (ring_on side rings) p5
  settled_now First = started.begun.settled.first
  settled_now Second = started.begun.settled.second

  side_moment : (side : Side) → EachPairMoment tells p5 p6
      (λ m. TellsOnlySince rings.next p5 m.taken → SideMoment side (ring_on side rings) blocks p5 m)
  side_moment First = recorded.first
  side_moment Second = recorded.second

  -- a side without a ring has failed
  pub rose_before : (side : Side) → ring_on side rings ≡ None → Rose (disk_on side p0).faults (disk_on side p5).faults
  rose_before side none = subst (λ o. IsCountedByRing o (disk_on side p0).faults (disk_on side p5).faults) none (started.counts side)

  failed_as : (side : Side) (m : PairMoment) → ring_on side rings ≡ None → SideMoment side None blocks p5 m → p5.since p5.clock m ⊎ HasFailedBy side p0 m
  failed_as side m none is = ⊎_elim (λ now. inl now)
      (λ faults. inr (subst (λ (n : ℕ). Rose (disk_on side p0).faults n) (sym faults) (rose_before side none))) is

  pub failed_by : (side : Side) → ring_on side rings ≡ None → EachPairMoment tells p5 p6 (λ m. p5.since p5.clock m ⊎ HasFailedBy side p0 m)
  failed_by side none stops m since = ⊎_elim
      (λ idle. ⊎_elim (λ now. inl now) (λ stays. failed_as side m none (inr stays.faults)) (idle.sides side))
      (λ some. failed_as side m none (subst (λ o. SideMoment side o blocks p5 m) none (side_moment side stops m since (inr some))))
      (recorded.idle stops m since)

  -- of a side that starts on a run
  kept_as : (side : Side) (run : List Block) (m : PairMoment) (o : Option Ring) → Follows rings.header rings.next o
      → IsCountedByRing o (disk_on side p0).faults (disk_on side p5).faults → StartsOnRun o rings.header side run rings.next p0 p5
      → SideMoment side o blocks p5 m → p5.since p5.clock m ⊎ HasFailedOrKeeps side rings.header run rings.next blocks p0 m
  kept_as side run m None follows counts rose is = ⊎_elim (λ now. inl now)
      (λ faults. inr (inl (subst (λ (n : ℕ). Rose (disk_on side p0).faults n) (sym faults) rose))) is
  kept_as side run m (Some r) follows counts holds is =
      let same : r.header ≡ rings.header = (follows r refl).0 in
      let held = (disk_on side p5).held in
      let tail : IsTail (r.header.slots - 2) run (recovered_run r.header held) =
      subst (λ (h : Header). IsTail (h.slots - 2) run (recovered_run h held)) (sym same) (tail_of rings.header run held holds.last) in
      let at : next_of r.header held ≡ rings.next = ap (λ (h : Header). next_of h held) same ∙ holds.number in
      inr (subst (λ (h : Header). HasFailedOrKeeps side h run rings.next blocks p0 m) same
      (keeps_since side r run blocks rings.next p0 p5 m (omega (arith, counts)) holds.kept tail at is))

  pub kept_on : (side : Side) (run : List Block) → StartsOnRun (ring_on side rings) rings.header side run rings.next p0 p5
      → EachPairMoment tells p5 p6 (λ m. TellsOnlySince rings.next p5 m.taken
      → p5.since p5.clock m ⊎ HasFailedOrKeeps side rings.header run rings.next blocks p0 m)
  kept_on side run begins stops m since only =
      kept_as side run m (ring_on side rings) (follows_on side) (started.counts side) begins (side_moment side stops m since only)

  -- the session goes on from this image
  pub from_image : (side : Side) (run : List Block) (image : List ℕ) (m : PairMoment) → rings.header ≡ header_in image → rings.next ≡ next_in image
      → s.session.session ≡ session_of (run_in image)
      → HasFailedOrKeeps side rings.header run rings.next blocks p0 m
      → HasFailedOrKeeps side (header_in image) run (next_in image) (new_blocks t image (good_prefix recorded.pulled)) p0 m
  from_image side run image m header number after is =
      subst (λ (l : List Block). HasFailedOrKeeps side (header_in image) run (next_in image) l p0 m)
      (blocks_same t rings.header rings.next s.session.session image recorded.pulled header number after)
      (subst (λ (n : ℕ). HasFailedOrKeeps side (header_in image) run n blocks p0 m) number
      (subst (λ (h : Header). HasFailedOrKeeps side h run rings.next blocks p0 m) header is))

  -- ---- the lead

  no_number_above : StartsWithLead t.frame.words rings s.session.session p0 p5 → MayRecordPair p0 → p5.greatest ≤ rings.next
  no_number_above w may = omega (arith, started.greatest, may.greatest, w.next)

  lead_late : MayRecordPair p0 → EachPairMoment tells p5 p6 (λ m. p5.since p5.clock m ⊎ KeepsOwnRun (lead_on p0) t (good_prefix recorded.pulled) p0 m)
  lead_late may stops m since = ⊎_elim
      (λ w. ⊎_elim (λ now. inl now)
      (λ late. inr (from_image (lead_on p0) (run_in (lead_image p0)) (lead_image p0) m w.header w.next w.after late))
      (kept_on (lead_on p0) (run_in (lead_image p0)) w.lead stops m since (inl (no_number_above w may))))
      (λ w. ⊎_elim (λ now. inl now) (λ rose. inr (inl rose)) (failed_by (lead_on p0) w.lead.0 stops m since))
      (started.goes_on (bytes_told stops))

  -- At every moment the lead's image keeps its run, what is recorded and what is announced.
  pub lead_kept : image_fault_of (lead_image p0) ≡ None → MayRecordPair p0
      → EachPairMoment tells p0 p6 (KeepsOwnRun (lead_on p0) t (good_prefix recorded.pulled) p0)
  lead_kept read may = over (KeepsOwnRun (lead_on p0) t (good_prefix recorded.pulled) p0)
      (λ stops m since. ⊎_elim (λ rose. inl rose)
      (λ keeps. inr (keeps_first (header_in (lead_image p0)) (lead_image p0) (run_in (lead_image p0)) (next_in (lead_image p0))
      (new_blocks t (lead_image p0) (good_prefix recorded.pulled)) m.announced (image_on (lead_on p0) m) keeps))
      (started.keeps.lead read may stops m since))
      (lead_late may)

  -- ---- whether a side has failed or not

  -- the image of a side keeps its run and these blocks
  abbrev pub RunWith : Side → List Block → List ℕ → Type 0
  RunWith side added image = KeepsRecording (header_in (disk_on side p0).held) (disk_on side p0).held (run_in (disk_on side p0).held)
      (next_in (disk_on side p0).held) added 0 image

  side_kept : (side : Side) → EachPairMoment tells p5 p6 (SideKept side (ring_on side rings) blocks p5)
  side_kept First = recorded.first_kept
  side_kept Second = recorded.second_kept

  -- what held of a side's image at each moment of the start holds of what a stop may leave of it then
  still_so : (side : Side) (Q : List ℕ → Type 0) → EachPairMoment tells p0 p5 (λ m. Q (image_on side m)) → IsTrue tells.stops → (m : PairMoment)
      → (disk_on side p5).may_leave (image_on side m) → Q (image_on side m)
  still_so side Q was stops m leaves =
      of_now tells side Q p5 m sound stops (λ x here. known tells (λ y. Q (image_on side y)) p0 p5 sound started.time was stops x here) leaves

  -- so it does of the image of a side without a ring
  pub none_kept : (side : Side) → ring_on side rings ≡ None → (Q : List ℕ → Type 0) → EachPairMoment tells p0 p5 (λ m. Q (image_on side m))
      → EachPairMoment tells p5 p6 (λ m. Q (image_on side m))
  none_kept side none Q was stops m since =
      still_so side Q was stops m (subst (λ o. SideKept side o blocks p5 m) none (side_kept side stops m since))

  -- and until bytes are pulled
  idle_kept : (side : Side) (Q : List ℕ → Type 0) → EachPairMoment tells p0 p5 (λ m. Q (image_on side m))
      → EachPairMoment tells p0 p6 (λ m. m.taken ≡ p0.taken → Q (image_on side m))
  idle_kept side Q was = over (λ m. m.taken ≡ p0.taken → Q (image_on side m)) (λ stops m since _. was stops m since)
      (λ stops m since. ⊎_elim
      (λ idle. ⊎_elim (λ now. inl now) (λ stays. inr (λ _. still_so side Q was stops m stays.image)) (idle.sides side))
      (λ some. inr (λ none. let line = started.line.taken in absurd (omega (arith, some, none, line))))
      (recorded.idle stops m since))

  -- Until bytes are pulled the lead's image keeps its run.
  pub lead_run_kept : image_fault_of (lead_image p0) ≡ None → MayRecordPair p0
      → EachPairMoment tells p0 p6 (λ m. m.taken ≡ p0.taken → KeepsRunWith (lead_on p0) [] p0 m)
  lead_run_kept read may = idle_kept (lead_on p0) (λ l. RunWith (lead_on p0) [] l) (started.keeps.lead_run read may)

  -- Until bytes are pulled the other side's image keeps its run; where both are alike, with the first of the missing blocks.
  pub follower_kept : image_fault_of (follower_image p0) ≡ None → MayRecordPair p0
      → EachPairMoment tells p0 p6 (λ m. m.taken ≡ p0.taken → KeepsRunUntilPull t.frame.words p0 m)
  follower_kept read may = idle_kept (follower_on p0) (λ l. RunWith (follower_on p0) [] l ⊎ (AreAlike t.frame.words p0
      × RunWith (follower_on p0) (missing_blocks (header_in (lead_image p0)) (lead_image p0) (follower_image p0)) l))
      (started.keeps.follower read may)

  -- An image whose header doesn't read stays as it was.
  pub unread_kept : (side : Side) (why : ImageFault) → image_fault_of (disk_on side p0).held ≡ Some why → IsSettled (seen side p0)
      → EachPairMoment tells p0 p6 (StaysAsAtEntry side p0)
  unread_kept side why fault settled = over (StaysAsAtEntry side p0) (started.keeps.unread side why fault settled)
      (λ stops m since.
      let none = no_ring (ring_on side rings) (image_fault_of (disk_on side p0).held) why (started.read (bytes_told stops) side) fault in
      inr (none_kept side none (λ l. l ≡ (disk_on side p0).held) (started.keeps.unread side why fault settled) stops m since))

  -- a side with a ring, that starts on a run
  pub ring_kept : (side : Side) (run : List Block) (r : Ring) → ring_on side rings ≡ Some r
      → StartsOnRun (ring_on side rings) rings.header side run rings.next p0 p5
      → EachPairMoment tells p5 p6 (λ m. KeepsRecording rings.header (disk_on side p0).held run rings.next blocks 0 (image_on side m))
  ring_kept side run r is begins stops m since =
      let held = (disk_on side p5).held in
      let holds : HoldsRun rings.header side run rings.next p0 p5 = subst (λ o. StartsOnRun o rings.header side run rings.next p0 p5) is begins in
      let same : r.header ≡ rings.header = (follows_on side r is).0 in
      let tail : IsTail (r.header.slots - 2) run (recovered_run r.header held) =
      subst (λ (h : Header). IsTail (h.slots - 2) run (recovered_run h held)) (sym same) (tail_of rings.header run held holds.last) in
      let at : next_of r.header held ≡ rings.next = ap (λ (h : Header). next_of h held) same ∙ holds.number in
      subst (λ (h : Header). KeepsRecording h (disk_on side p0).held run rings.next blocks 0 (image_on side m)) same
      (kept_since side r run blocks rings.next p0 p5 m holds.kept tail at (subst (λ o. SideKept side o blocks p5 m) is (side_kept side stops m since)))

  -- the session goes on from this image
  pub recording_from : (side : Side) (run : Header → List Block) (image held : List ℕ) → rings.header ≡ header_in image
      → rings.next ≡ next_in image → s.session.session ≡ session_of (run_in image)
      → KeepsRecording rings.header (disk_on side p0).held (run rings.header) rings.next blocks 0 held
      → KeepsRecording (header_in image) (disk_on side p0).held (run (header_in image)) (next_in image) (new_blocks t image (good_prefix recorded.pulled))
      0 held
  recording_from side run image held header number after is =
      subst (λ (l : List Block). KeepsRecording (header_in image) (disk_on side p0).held (run (header_in image)) (next_in image) l 0 held)
      (blocks_same t rings.header rings.next s.session.session image recorded.pulled header number after)
      (subst (λ (n : ℕ). KeepsRecording (header_in image) (disk_on side p0).held (run (header_in image)) n blocks 0 held) number
      (subst (λ (h : Header). KeepsRecording h (disk_on side p0).held (run h) rings.next blocks 0 held) header is))
