-- A block that is prepared, committed and announced.
use Rattle.std.proofs.Common.{◌≡◌, ◌≤◌, ⊎_elim, ℕ, ◌+◌, ◌-◌, List, [], ◌∷◌, ◌++◌, sym, ◌∙◌, ap, subst, arith, Some, rules}
use Rattle.std.specs.Prelude.{IsTrue}
use Rattle.fdr_deck.specs.State.{State, Tells}
use Rattle.fdr_deck.specs.Disk.{IsSettled}
use Rattle.fdr_deck.specs.Pull.{KeepsInput}
use Rattle.fdr_deck.specs.Moments.{HasSamePulls, IsNow, Elapses, EachMoment, IsSoundDeck}
use Rattle.fdr_deck.specs.Calls.{IsDiskWork, KeepsAnnounced, Succeeds, Announces, LeavesDisk}
use Rattle.fdr_deck.proofs.Moments.{EachMoment-then, Elapses-then, HasSamePulls-before, KeepsInput-then}
use Rattle.fdr_deck.proofs.Moments.{KeepsAnnounced-least, KeepsAnnounced-greatest, KeepsAnnounced-then}
use Rattle.fdr_slot.specs.declared.image.Header.{Header}
use Rattle.fdr_slot.specs.Limits.{IsInLimits}
use Rattle.fdr_recover.specs.Blocks.{Block}
use Rattle.fdr_recover.specs.Images.{recovered_run, next_of}
use Rattle.fdr_ring.specs.Gates.{IsClosed, waiting_block}
use Rattle.fdr_ring.specs.Runs.{KeepsRun, HasSame, HasAdded, last_blocks}
use Rattle.fdr_ring.specs.Rings.{IsRing, IsSureRing, IsPreparing, IsCommitting, OfSettled}
use Rattle.fdr_recorder.specs.Keeping.{RecoversPrefix, RecoversAll}
use Rattle.fdr_recorder.specs.Recording.{IsReady, IsNear, IsRecordingMoment, IsClose, RecordsFirstOf, RecordsAllOf}
use Rattle.fdr_recorder.proofs.Steps.{keeps_run, keeps_may, keeps_added, all_added, last_one_more}

-- the fact of a ring after an announcement
pub IsRing-told : (tells : Tells) (h : Header) (number : ℕ) (old new : State) → LeavesDisk old new → IsRing tells h number old → IsRing tells h number new
IsRing-told tells h number old new leaves ring = record {
  extent = omega (arith, ring.extent, leaves.extent);
  next = λ told. ring.next told ∙ ap (λ (l : List ℕ). next_of h l) (sym leaves.disk.held);
  closed = λ told. subst (λ (l : List ℕ). IsClosed h l number) (sym leaves.disk.held) (ring.closed told);
}

pub IsSureRing-told : (tells : Tells) (h : Header) (number : ℕ) (old new : State) → LeavesDisk old new → IsSureRing tells h number old
    → IsSureRing tells h number new
IsSureRing-told tells h number old new leaves sure = record {
  ring = IsRing-told tells h number old new leaves sure.ring;
  stops = λ stops image left. sure.stops stops image (leaves.disk.no_more image left);
}

module _ (tells : Tells) (h : Header) (next size : ℕ) (d0 d1 : State) (sound : IsSoundDeck tells d0) (ring : IsRing tells h next d0)
    (extent : d1.extent ≡ d0.extent)
    (quiet : IsDiskWork tells (OfSettled d0 (IsPreparing h next size)) d0 d1)
  where
    number : IsTrue tells.stops → next ≡ next_of h d0.held
    number stops = ring.next (sound.stops_need_bytes stops)

    preparing : (new : List Block) → IsReady next d0 → EachMoment tells d0 d1 (IsRecordingMoment h d0 new)
    preparing new ready stops m since = let q = quiet.moments stops m since in record {
      image = keeps_run h d0.held m.image new m.announced (q.image ready.settled).run (omega (arith, q.greatest, ready.greatest, number stops));
      least = q.least;
      pulled = q.pulled;
    }

    preparing_close : (mark : ℕ) → IsReady next d0 → IsNear next mark d0 → EachMoment tells d0 d1 (IsClose h mark)
    preparing_close mark ready near stops m since = let q = quiet.moments stops m since in
        omega (arith, (q.image ready.settled).run.next, number stops, near.least, q.least)

    preparing_pulled : EachMoment tells d0 d1 (HasSamePulls d0)
    preparing_pulled stops m since = (quiet.moments stops m since).pulled

    -- the block wasn't prepared
    pub RecordsFirstOf-unprepared : (new : List Block) → RecordsFirstOf tells h next new d0 d1
    RecordsFirstOf-unprepared new =
        let low = KeepsAnnounced-least tells d0 d1 sound quiet.passes.announced in
        let high = KeepsAnnounced-greatest tells d0 d1 sound quiet.passes.announced in
        search (rules, arith, preparing, preparing_close, preparing_pulled, quiet.passes, extent, low, high)

    module _ (b : Block) (settled : IsTrue tells.stops → IsSettled d1) (succeeds : Succeeds d0 d1) (keeps : IsTrue tells.bytes
        → IsPreparing h next size d0.held d1.held)
        (waits : IsTrue tells.bytes
        → waiting_block h d1.held next ≡ Some b) (d2 : State) (extent2 : d2.extent ≡ d1.extent) (quiet2 : IsDiskWork tells (OfSettled d1
        (IsCommitting h next)) d1 d2)
      where
        run1 : IsTrue tells.stops → KeepsRun h (h.slots - 2) d0.held d1.held
        run1 stops = (keeps (sound.stops_need_bytes stops)).run

        told1 : d1.announced ≡ d0.announced
        told1 = quiet.passes.announced.announced

        committing_pulled : EachMoment tells d1 d2 (HasSamePulls d0)
        committing_pulled stops m since = let q = quiet2.moments stops m since in
            HasSamePulls-before d0 d1 m quiet.passes.input q.pulled

        committing : IsReady next d0 → EachMoment tells d1 d2 (IsRecordingMoment h d0 (b ∷ []))
        committing ready stops m since = let q = quiet2.moments stops m since in record {
          image = keeps_may h b d0.held d1.held m.image m.announced (run1 stops) ((q.image (settled stops)).run b (waits (sound.stops_need_bytes stops)))
              (omega (arith, q.greatest, succeeds.fresh.greatest, told1, sound.greatest, ready.greatest, number stops));
          least = omega (arith, q.least, succeeds.fresh.least, told1, sound.least);
          pulled = committing_pulled stops m since;
        }

        committing_close : (mark : ℕ) → IsNear next mark d0 → EachMoment tells d1 d2 (IsClose h mark)
        committing_close mark near stops m since =
            let q = quiet2.moments stops m since in
            let low : d0.announced ≤ m.announced = omega (arith, q.least, succeeds.fresh.least, told1) in
            ⊎_elim {C = IsClose h mark m}
            (λ (same : HasSame h d1.held m.image). omega (arith, same.next, (run1 stops).next, number stops, near.announced, low))
            (λ (added : HasAdded h b d1.held m.image). omega (arith, added.next, (run1 stops).next, number stops, near.announced, low))
            ((q.image (settled stops)).run b (waits (sound.stops_need_bytes stops)))

        announced2 : KeepsAnnounced d0 d2
        announced2 = KeepsAnnounced-then d0 d1 d2 quiet.passes.announced quiet2.passes.announced

        -- the block wasn't committed, or it wasn't announced yet
        pub RecordsFirstOf-prepared : RecordsFirstOf tells h next (b ∷ []) d0 d2
        RecordsFirstOf-prepared = record {
          time = Elapses-then tells d0 d1 d2 quiet.passes.time quiet2.passes.time;
          moments = λ ready. EachMoment-then tells d0 d1 d2 (IsRecordingMoment h d0 (b ∷ [])) quiet.passes.time quiet2.passes.time (preparing
              (b ∷ []) ready) (committing ready);
          close = λ mark ready near. EachMoment-then tells d0 d1 d2 (IsClose h mark) quiet.passes.time quiet2.passes.time
              (preparing_close mark ready near) (committing_close mark near);
          pulled = EachMoment-then tells d0 d1 d2 (HasSamePulls d0) quiet.passes.time quiet2.passes.time preparing_pulled committing_pulled;
          input = KeepsInput-then d0 d1 d2 quiet.passes.input quiet2.passes.input;
          input_faults = quiet2.passes.input_faults ∙ quiet.passes.input_faults;
          disk_faults = omega (arith, quiet.passes.disk_faults, quiet2.passes.disk_faults);
          extent = extent2 ∙ extent;
          least = λ le. KeepsAnnounced-least tells d0 d2 sound announced2;
          greatest = λ le. omega (arith, KeepsAnnounced-greatest tells d0 d2 sound announced2, le);
        }

        module _ (limits : IsInLimits h) (settled2 : IsTrue tells.stops → IsSettled d2) (succeeds2 : Succeeds d1 d2) (sure2 : IsSureRing tells h (next + 1) d2)
            (run : IsTrue tells.bytes → recovered_run h d1.held ≡ last_blocks (h.slots - 2) (recovered_run h d0.held))
            (added : IsTrue tells.bytes → HasAdded h b d1.held d2.held) (d3 : State) (announces : Announces (next + 1) d2 d3) (leaves : LeavesDisk d2 d3)
          where
            told2 : d2.announced ≡ d1.announced
            told2 = quiet2.passes.announced.announced

            announcing_pulled : KeepsInput d2 d3 → EachMoment tells d2 d3 (IsNow d3) → EachMoment tells d2 d3 (HasSamePulls d0)
            announcing_pulled line3 moments stops m since =
                let still = KeepsInput-then d0 d2 d3 (KeepsInput-then d0 d1 d2 quiet.passes.input quiet2.passes.input) line3 in
                HasSamePulls-before d0 d3 m still (moments stops m since).pulled

            announcing : (line3 : KeepsInput d2 d3) → EachMoment tells d2 d3 (IsNow d3) → IsReady next d0 → EachMoment tells d2 d3
                (IsRecordingMoment h d0 (b ∷ []))
            announcing line3 moments ready stops m since =
                let now = moments stops m since in
                let image : m.image ≡ d2.held = settled2 stops m.image (leaves.disk.no_more m.image now.image) in
                record {
                  image = subst (λ (l : List ℕ). RecoversPrefix h d0.held (recovered_run h d0.held) (b ∷ []) m.announced l) (sym image)
                      (keeps_added h b d0.held d1.held d2.held m.announced (run1 stops) (added (sound.stops_need_bytes stops))
                      (omega (arith, now.greatest, announces.greatest, succeeds2.fresh.greatest, told2, told1, sound.greatest, ready.greatest, number stops)));
                  least = omega (arith, now.least, announces.least, succeeds2.fresh.least, told2, told1, sound.least, sound.greatest, ready.greatest);
                  pulled = announcing_pulled line3 moments stops m since;
                }

            announcing_close : EachMoment tells d2 d3 (IsNow d3) → (mark : ℕ) → IsNear next mark d0 → EachMoment tells d2 d3 (IsClose h mark)
            announcing_close moments mark near stops m since =
                let now = moments stops m since in
                let image : m.image ≡ d2.held = settled2 stops m.image (leaves.disk.no_more m.image now.image) in
                let at : next_of h m.image ≡ next_of h d2.held = ap (λ (l : List ℕ). next_of h l) image in
                let low : d0.announced ≤ m.announced = omega (arith, now.least, announces.least, succeeds2.fresh.least, told2, told1, near.announced) in
                omega (arith, at, (added (sound.stops_need_bytes stops)).next, (run1 stops).next, number stops, low, near.announced)

            announced_least : d0.greatest ≤ next → d0.least ≤ d3.least
            announced_least le = omega (arith, announces.least, succeeds2.fresh.least, told2, told1, sound.least, sound.greatest, le)

            announced_greatest : d0.greatest ≤ next → d3.greatest ≤ next + 1
            announced_greatest le = omega (arith, announces.greatest, succeeds2.fresh.greatest, told2, told1, sound.greatest, le)

            RecordsFirstOf-added : KeepsInput d2 d3 → d3.input_faults ≡ d2.input_faults → Elapses tells d2 d3 → EachMoment tells d2 d3 (IsNow d3)
                → RecordsFirstOf tells h next (b ∷ []) d0 d3
            RecordsFirstOf-added line3 line_faults3 time3 moments = let was = RecordsFirstOf-prepared in record {
              time = Elapses-then tells d0 d2 d3 was.time time3;
              moments = λ ready. EachMoment-then tells d0 d2 d3 (IsRecordingMoment h d0 (b ∷ [])) was.time time3 (was.moments ready)
                  (announcing line3 moments ready);
              close = λ mark ready near. EachMoment-then tells d0 d2 d3 (IsClose h mark) was.time time3 (was.close mark ready near)
                  (announcing_close moments mark near);
              pulled = EachMoment-then tells d0 d2 d3 (HasSamePulls d0) was.time time3 was.pulled (announcing_pulled line3 moments);
              input = KeepsInput-then d0 d2 d3 was.input line3;
              input_faults = line_faults3 ∙ was.input_faults;
              disk_faults = omega (arith, was.disk_faults, leaves.disk_faults);
              extent = leaves.extent ∙ was.extent;
              least = announced_least;
              greatest = announced_greatest;
            }

            RecordsAllOf-added : RecordsAllOf tells h next (b ∷ []) d0 d3
            RecordsAllOf-added = record {
              fact = λ is. IsRing-told tells h (next + 1) d2 d3 leaves sure2.ring;
              sure = λ is. IsSureRing-told tells h (next + 1) d2 d3 leaves sure2;
              keeps = λ told. subst (λ (l : List ℕ). RecoversAll h d0.held (recovered_run h d0.held) (b ∷ []) l) (sym leaves.disk.held)
                  (all_added h b d0.held d1.held d2.held (keeps told).run (added told));
              last = λ told whole is. ap (λ (l : List ℕ). recovered_run h l) leaves.disk.held ∙ (added told).run
                  ∙ ap (λ (l : List Block). l ++ b ∷ []) (run told)
                  ∙ last_one_more h.slots whole (recovered_run h d0.held) b (omega (arith, limits.least_slots)) is;
              settled = λ stops is image left. settled2 stops image (leaves.disk.no_more image left) ∙ sym leaves.disk.held;
              announced = λ is. announces.announced;
              greatest = announced_greatest;
              least = announced_least;
              near = λ mark near. record {
                announced = announces.announced;
                least = omega (arith, announces.least, succeeds2.fresh.least, told2, told1, near.announced);
              };
              disk_faults = leaves.disk_faults ∙ succeeds2.disk_faults ∙ succeeds.disk_faults;
            }

            -- both at once
            pub recorded-added : KeepsInput d2 d3 → d3.input_faults ≡ d2.input_faults → Elapses tells d2 d3 → EachMoment tells d2 d3 (IsNow d3)
                → RecordsFirstOf tells h next (b ∷ []) d0 d3 × RecordsAllOf tells h next (b ∷ []) d0 d3
            recorded-added line3 line_faults3 time3 moments = (RecordsFirstOf-added line3 line_faults3 time3 moments, RecordsAllOf-added)
