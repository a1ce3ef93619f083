-- The moments while a session starts.
use Rattle.std.proofs.Common.{◌≡◌, ℕ, ◌+◌, ◌-◌, ◌%◌, ◌^◌, ◌≤◌, List, [], ◌∷◌, inl, inr, refl, sym, ◌∙◌, ap, subst, arith, None, rules}
use Rattle.std.specs.Prelude.{IsTrue}
use Rattle.fdr_deck.specs.State.{State, Tells, Moment}
use Rattle.fdr_deck.specs.Disk.{IsSettled, KeepsDisk}
use Rattle.fdr_deck.specs.Pull.{KeepsInput}
use Rattle.fdr_deck.specs.Moments.{HasSamePulls, IsNow, Elapses, EachMoment, IsSoundDeck}
use Rattle.fdr_deck.specs.Calls.{HasOneAnnounced, IsDiskWork, Passes, Announces, LeavesDisk}
use Rattle.fdr_deck.proofs.Moments.{EachMoment-then, Elapses-then, HasSamePulls-before, KeepsInput-then}
use Rattle.fdr_slot.specs.declared.image.Header.{Header}
use Rattle.fdr_recover.specs.Blocks.{Block}
use Rattle.fdr_recover.specs.Stretches.{last_session}
use Rattle.fdr_recover.specs.Images.{next_of}
use Rattle.fdr_ring.specs.Runs.{KeepsRun}
use Rattle.fdr_ring.specs.Rings.{IsAttaching, OfSettled}
use Rattle.fdr_table.specs.Rows.{TableRows}
use Rattle.fdr_stream.specs.Kept.{StreamKept}
use Rattle.fdr_stream.specs.Blocks.{due_blocks}
use Rattle.fdr_stream.specs.Past.{stream_made, RepresentsStream}
use Rattle.fdr_recorder.specs.Past.{session_of}
use Rattle.fdr_recorder.specs.Recording.{IsReady}
use Rattle.fdr_recorder.specs.Starting.{AnnouncesLast, IsStarting, Starts}
use Rattle.fdr_recorder.proofs.Steps.{keeps_run, tail_same}

weaker : (h : Header) (old new : List ℕ) → KeepsRun h (h.slots - 1) old new → KeepsRun h (h.slots - 2) old new
weaker h old new keeps = search (rules, arith, keeps)

attaching_same : (h : Header) (image : List ℕ) → IsAttaching h image image
attaching_same h image = search (rules, tail_same)

-- an image that may be left while the session starts
starting : (h : Header) (entry : State) (m : Moment) → IsAttaching h entry.held m.image → m.announced ≤ next_of h entry.held → entry.least ≤ m.announced
    → HasSamePulls entry m → IsStarting h entry m
starting h entry m image told least pulled = record {
  recording = record { image = keeps_run h entry.held m.image [] m.announced (weaker h entry.held m.image image.run) told; least = least; pulled = pulled };
  image = image;
}

module _ (tells : Tells) (h : Header) (d0 d1 : State) (sound : IsSoundDeck tells d0) (quiet : IsDiskWork tells d0.may_leave d0 d1) where
  looking : IsReady (next_of h d0.held) d0 → EachMoment tells d0 d1 (IsStarting h d0)
  looking ready stops m since = let q = quiet.moments stops m since in
      starting h d0 m (subst (λ (l : List ℕ). IsAttaching h d0.held l) (sym (ready.settled m.image q.image)) (attaching_same h d0.held))
      (omega (arith, q.greatest, ready.greatest)) q.least q.pulled

  -- nothing was announced
  pub looking_announced : (now : State) → EachMoment tells d0 d1 (AnnouncesLast d0 now)
  looking_announced now stops m since = let q = quiet.moments stops m since in inl (q.least, q.greatest)

  looking_pulled : EachMoment tells d0 d1 (HasSamePulls d0)
  looking_pulled stops m since = (quiet.moments stops m since).pulled

  -- only the header was read
  pub Starts-looked : Starts tells h d0 d1
  Starts-looked = search (rules, looking, looking_pulled, quiet.passes)

  module _ (disk : KeepsDisk d0 d1) (fresh : HasOneAnnounced d1) (d2 : State) (passes2 : Passes tells d1 d2) (quiet2 : IsTrue tells.stops
      → IsDiskWork tells (OfSettled d1 (IsAttaching h)) d1 d2) where
    settled1 : IsSettled d0 → IsSettled d1
    settled1 settled image left = settled image (disk.no_more image left) ∙ sym disk.held

    attaching_pulled : EachMoment tells d1 d2 (HasSamePulls d0)
    attaching_pulled stops m since = let q = (quiet2 stops).moments stops m since in
        HasSamePulls-before d0 d1 m quiet.passes.input q.pulled

    attaching : IsReady (next_of h d0.held) d0 → EachMoment tells d1 d2 (IsStarting h d0)
    attaching ready stops m since =
        let q = (quiet2 stops).moments stops m since in
        let told = quiet.passes.announced.announced in
        starting h d0 m (subst (λ (l : List ℕ). IsAttaching h l m.image) disk.held (q.image (settled1 ready.settled)))
        (omega (arith, q.greatest, fresh.greatest, told, sound.greatest, ready.greatest))
        (omega (arith, q.least, fresh.least, told, sound.least))
        (attaching_pulled stops m since)

    -- nothing was announced
    pub attaching_announced : (now : State) → EachMoment tells d0 d2 (AnnouncesLast d0 now)
    attaching_announced now = EachMoment-then tells d0 d1 d2 (AnnouncesLast d0 now) quiet.passes.time passes2.time (looking_announced now)
        (λ stops m since.
        let q = (quiet2 stops).moments stops m since in
        let told = quiet.passes.announced.announced in
        inl (omega (arith, q.least, fresh.least, told, sound.least), omega (arith, q.greatest, fresh.greatest, told, sound.greatest)))

    -- and then the next number was
    pub starting_announced : (d3 : State) → Elapses tells d2 d3 → EachMoment tells d2 d3 (IsNow d3) → EachMoment tells d0 d3 (AnnouncesLast d0 d3)
    starting_announced d3 time3 moments = EachMoment-then tells d0 d2 d3 (AnnouncesLast d0 d3)
        (Elapses-then tells d0 d1 d2 quiet.passes.time passes2.time) time3 (attaching_announced d3)
        (λ stops m since. inr (moments stops m since).image)

    -- the ring was attached, or the disk failed then
    pub Starts-attached : Starts tells h d0 d2
    Starts-attached = record {
      time = Elapses-then tells d0 d1 d2 quiet.passes.time passes2.time;
      moments = λ ready. EachMoment-then tells d0 d1 d2 (IsStarting h d0) quiet.passes.time passes2.time (looking ready) (attaching ready);
      pulled = EachMoment-then tells d0 d1 d2 (HasSamePulls d0) quiet.passes.time passes2.time looking_pulled attaching_pulled;
      input = KeepsInput-then d0 d1 d2 quiet.passes.input passes2.input;
      input_faults = passes2.input_faults ∙ quiet.passes.input_faults;
      disk_faults = omega (arith, quiet.passes.disk_faults, passes2.disk_faults);
    }

    module _ (fresh2 : HasOneAnnounced d2) (next : ℕ) (d3 : State) (announces : Announces next d2 d3) where
      told2 : d2.announced ≡ d0.announced
      told2 = passes2.announced.announced ∙ quiet.passes.announced.announced

      pub greatest-started : d0.greatest ≤ next → d3.greatest ≤ next
      greatest-started le = omega (arith, announces.greatest, fresh2.greatest, told2, sound.greatest, le)

      pub least-started : d0.greatest ≤ next → d0.least ≤ d3.least
      least-started le = omega (arith, announces.least, fresh2.least, told2, sound.least, sound.greatest, le)

      pub Starts-announced : (IsTrue tells.stops → IsSettled d2) → (IsTrue tells.stops → IsAttaching h d1.held d2.held) → (IsTrue tells.stops
          → next ≡ next_of h d1.held) → LeavesDisk d2 d3 → KeepsInput d2 d3 →
          d3.input_faults ≡ d2.input_faults → Elapses tells d2 d3 → EachMoment tells d2 d3 (IsNow d3) → Starts tells h d0 d3
      Starts-announced settled2 keeps number leaves line3 line_faults3 time3 moments =
          let was = Starts-attached in
          let announced_pulled : EachMoment tells d2 d3 (HasSamePulls d0) = λ stops m since.
          HasSamePulls-before d0 d3 m (KeepsInput-then d0 d2 d3 was.input line3) (moments stops m since).pulled in
          record {
            time = Elapses-then tells d0 d2 d3 was.time time3;
            moments = λ ready. EachMoment-then tells d0 d2 d3 (IsStarting h d0) was.time time3 (was.moments ready) (λ stops m since.
                let now = moments stops m since in
                let at : next ≡ next_of h d0.held = number stops ∙ ap (λ (l : List ℕ). next_of h l) disk.held in
                let image : m.image ≡ d2.held = settled2 stops m.image (leaves.disk.no_more m.image now.image) in
                let kept : IsAttaching h d0.held d2.held = subst (λ (l : List ℕ). IsAttaching h l d2.held) disk.held (keeps stops) in
                starting h d0 m (subst (λ (l : List ℕ). IsAttaching h d0.held l) (sym image) kept)
                (omega (arith, now.greatest, announces.greatest, fresh2.greatest, told2, sound.greatest, ready.greatest, at))
                (omega (arith, now.least, announces.least, fresh2.least, told2, sound.least, sound.greatest, ready.greatest, at))
                (announced_pulled stops m since));
            pulled = EachMoment-then tells d0 d2 d3 (HasSamePulls d0) was.time time3 was.pulled announced_pulled;
            input = KeepsInput-then d0 d2 d3 was.input line3;
            input_faults = line_faults3 ∙ was.input_faults;
            disk_faults = omega (arith, was.disk_faults, leaves.disk_faults);
          }

-- the session after any blocks
pub session_of-is : (blocks : List Block) → session_of blocks ≡ (last_session blocks + 1) % 2 ^ 32
session_of-is [] = refl
session_of-is (b ∷ bs) = refl

-- no block is due before the first record
pub stream-started : (k : StreamKept) (t : TableRows) (payload : ℕ) → RepresentsStream k (stream_made t payload)
    → RepresentsStream k (record { table = t; payload = payload; records = []; begun = None; blocks = due_blocks t payload [] })
stream-started k t payload stands =
    subst (λ n. RepresentsStream k (record { table = t; payload = payload; records = []; begun = None; blocks = n })) (stands.blocks refl) stands

pub next-started : (k : StreamKept) (t : TableRows) (payload next : ℕ) → RepresentsStream k (stream_made t payload) → next ≡ next + due_blocks t payload []
next-started k t payload next stands = let none : 0 ≡ due_blocks t payload [] = stands.blocks refl in omega (arith, none)
