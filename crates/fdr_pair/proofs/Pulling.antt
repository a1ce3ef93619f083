-- A pull of a twin, which leaves both disks.
use Rattle.std.proofs.Common.{◌≡◌, ◌⊎◌, inl, inr, ⊎_elim, ℕ, ◌+◌, ◌-◌, ◌<◌, ◌≤◌, List, [], ◌++◌, length, take}
use Rattle.std.proofs.Common.{ap, refl, sym, ◌∙◌, subst, arith, Option, Some, None}
use Rattle.std.specs.Prelude.{IsTrue}
use Rattle.std.proofs.lemmas.Bool.{cases_lt}
use Rattle.fdr_bus.specs.declared.BusRecord.{BusRecord}
use Rattle.fdr_bus.specs.Records.{IsDecided}
use Rattle.fdr_deck.specs.State.{State, Tells}
use Rattle.fdr_deck.specs.Calls.{HasOneAnnounced, KeepsAnnounced, LeavesDisk}
use Rattle.fdr_deck.specs.Moments.{IsSoundDeck}
use Rattle.fdr_deck.proofs.Moments.{KeepsAnnounced-greatest, KeepsAnnounced-least}
use Rattle.fdr_slot.specs.declared.image.Header.{Header}
use Rattle.fdr_recover.specs.Images.{recovered_run}
use Rattle.fdr_ring.specs.declared.ring.Ring.{Ring}
use Rattle.fdr_trace.specs.Moments.{IsTraceMoment, PullsForRecord}
use Rattle.fdr_trace.specs.Pulls.{PullsUntilDecided}
use Rattle.fdr_twin.specs.declared.side.Side.{Side}
use Rattle.fdr_twin.specs.declared.side.Side.TheVariants.{First}
use Rattle.fdr_twin.specs.Pair.{Pair, PairMoment, other_side, disk_on, image_on, seen}
use Rattle.fdr_twin.specs.Same.{IsSameDisk, IsSameState}
use Rattle.fdr_twin.specs.Rest.{HasSameRest, LeavesSide, StaysOn}
use Rattle.fdr_twin.specs.Sound.{IsSoundPair}
use Rattle.fdr_twin.specs.Serving.{EachPairMoment}
use Rattle.fdr_recorder.specs.Keeping.{RecoversAll, RecoversPrefix}
use Rattle.fdr_recorder.specs.Lag.{IsInTime, KeepsUp}
use Rattle.fdr_recorder.proofs.Lag.{IsInTime-pull, at_moment, least_up}
use Rattle.fdr_recorder.proofs.Steps.{keeps_none, keeps_run, same_run}
use Rattle.fdr_pair.specs.Living.{Follows, SideMoment, SideNow}
use Rattle.fdr_pair.specs.PairRecording.{IsSettledSide}
use Rattle.fdr_pair.specs.Putting.{AddsExactly}
use Rattle.fdr_pair.specs.Traces.{IsPairLagMoment, shown_on}
use Rattle.fdr_pair.proofs.Going.{exact_none, ring_left}
use Rattle.fdr_pair.proofs.Idling.{IsIdleUntilPull}
use Rattle.fdr_pair.proofs.Told.{shows}
use Rattle.fdr_pair.proofs.Sides.{either_side}

-- A side is as it was. At each new moment, where stops are told, it has an image that a stop could leave before, and the count of
-- faults that it had.
pub record IsLeft (tells : Tells) (side : Side) (p q : Pair) : Type 0 where
  pub disk : IsSameDisk (disk_on side p) (disk_on side q)
  pub moments : EachPairMoment tells p q (λ m. p.since p.clock m ⊎ StaysOn side p m)

other_left : (tells : Tells) (side : Side) (p q : Pair) → LeavesSide side p q → IsLeft tells side p q
other_left tells side p q leaves = record { disk = leaves.disk; moments = λ stops m since. leaves.moments m since }

module _ (tells : Tells) (s t : State) (p q : Pair) (sound : IsSoundPair tells p) (here : IsSameState s (seen p.turned p))
    (there : IsSameState t (seen q.turned q)) (rest : HasSameRest p q) (leaves : LeavesDisk s t) where
  same_turned : IsSameState t (seen p.turned q)
  same_turned = subst (λ (x : Side). IsSameState t (seen x q)) rest.turned there

  own_disk : IsSameDisk (disk_on p.turned p) (disk_on p.turned q)
  own_disk = record {
    extent = same_turned.extent ∙ leaves.extent ∙ sym here.extent;
    held = same_turned.held ∙ leaves.disk.held ∙ sym here.held;
    no_more = λ image is. here.leaves image (leaves.disk.no_more image (same_turned.left image is));
    no_less = λ image is. same_turned.leaves image (leaves.disk.no_less image (here.left image is));
    faults = same_turned.disk_faults ∙ leaves.disk_faults ∙ sym here.disk_faults;
  }

  module _ (bytes more : List ℕ) (records : List BusRecord) (reads : PullsForRecord tells s t bytes more records) where
    own_left : IsLeft tells p.turned p q
    own_left = record {
      disk = own_disk;
      moments = λ stops m since. ⊎_elim (λ early. inl early)
          (λ counted.
          let at = shows tells (IsTraceMoment s bytes more records) p.turned s t p q here same_turned reads.moments stops m since in
          inr (record {
            image = here.leaves (image_on p.turned m) at.image;
            faults = let same = own_disk.faults in let low = counted.least in let high = counted.greatest in omega (arith, same, low, high);
          }))
          (rest.own.moments m since);
    }

    pub left : (side : Side) → IsLeft tells side p q
    left side = either_side (λ x. IsLeft tells x p q) side p.turned own_left (other_left tells (other_side p.turned) p q rest.other)

    -- At a moment nothing was pulled yet, and no number above those from before is announced, or the number from before is.
    pub pull_told : EachPairMoment tells p q (λ m. ((m.taken ≡ p.taken) × (m.announced ≤ p.greatest)) ⊎ (m.announced ≡ p.announced))
    pull_told stops m since =
        let at = shows tells (IsTraceMoment s bytes more records) p.turned s t p q here same_turned reads.moments stops m since in
        ⊎_elim (λ same. inl (same.taken ∙ sym here.taken, omega (arith, at.greatest, here.greatest)))
        (λ pulling. inr (pulling.announced ∙ sym here.announced)) at.pulled

    -- no number below those from before is announced
    pub pull_low : EachPairMoment tells p q (λ m. p.least ≤ m.announced)
    pull_low stops m since =
        let at = shows tells (IsTraceMoment s bytes more records) p.turned s t p q here same_turned reads.moments stops m since in
        omega (arith, at.least, here.least)

    -- until bytes are pulled, nothing is done
    pub pull_idle : EachPairMoment tells p q (IsIdleUntilPull p)
    pull_idle stops m since =
        let at = shows tells (IsTraceMoment s bytes more records) p.turned s t p q here same_turned reads.moments stops m since in
        ⊎_elim (λ same. inl (record {
          pulled = record { taken = same.taken ∙ sym here.taken; pulled_before = same.pulled_before ∙ sym here.pulled_before };
          sides = λ side. (left side).moments stops m since;
        }))
        (λ pulling. inr (omega (arith, pulling.last.pull.begins, pulling.last.pull.gave_bytes, here.taken))) at.pulled

  -- what is said of the line is said of the twin's
  pub pulls_seen : (bytes more : List ℕ) → PullsUntilDecided tells s t bytes more → PullsUntilDecided tells (seen First p) (seen First q) bytes more
  pulls_seen bytes more pulls =
      let same : t.pulled_before - s.taken ≡ q.pulled_before - p.taken = omega (arith, there.pulled_before, here.taken) in
      record {
        takes = record {
          taken = omega (arith, pulls.takes.taken, here.taken, there.taken);
          input = λ told. here.input ∙ pulls.takes.input told ∙ ap (λ (l : List ℕ). more ++ l) (sym there.input);
        };
        none = λ none. there.pulled_before ∙ pulls.none none ∙ sym here.pulled_before;
        last = λ some. let was = pulls.last some in record {
          begins = omega (arith, was.begins, here.taken, there.pulled_before);
          gave_bytes = omega (arith, was.gave_bytes, there.taken, there.pulled_before);
          within_piece = omega (arith, was.within_piece, there.taken, there.pulled_before);
        };
        undecided = λ some. subst (λ (n : ℕ). IsDecided (bytes ++ take n more) → ⊥) same (pulls.undecided some);
        faults = omega (arith, pulls.faults, here.input_faults, there.input_faults);
      }

  pub pull_no_less : IsSoundDeck tells s → KeepsAnnounced s t → p.least ≤ q.least
  pull_no_less sound_s told = omega (arith, KeepsAnnounced-least tells s t sound_s told, here.least, there.least)

  pub pull_announced : KeepsAnnounced s t → q.announced ≡ p.announced
  pull_announced told = there.announced ∙ told.announced ∙ sym here.announced

  -- No number above the next one may be announced any more: the announced number is the next one, and either bytes were pulled, or
  -- none above it could be announced before.
  pub pull_greatest : (next : ℕ) (bytes more : List ℕ) → IsSoundDeck tells s → PullsUntilDecided tells s t bytes more → KeepsAnnounced s t
      → (s.taken < t.taken → HasOneAnnounced t) → p.announced ≡ next → (q.taken ≡ p.taken → p.greatest ≤ next) → q.greatest ≤ next
  pull_greatest next bytes more sound_s pulls told fresh stood few = ⊎_elim
      (λ some.
      let anew = fresh (omega (arith, pulls.takes.taken, some)) in
      omega (arith, anew.greatest, told.announced, here.announced, there.greatest, stood))
      (λ none.
      let most = few (omega (arith, pulls.takes.taken, none, here.taken, there.taken)) in
      omega (arith, KeepsAnnounced-greatest tells s t sound_s told, here.greatest, there.greatest, most))
      (cases_lt 0 (length more))

  -- how what is announced lags behind, where the records so far are announced
  module _ (owed : List BusRecord → ℕ) (start : Pair) (bytes more : List ℕ) (records : List BusRecord) (sound_s : IsSoundDeck tells s)
      (was : PullsUntilDecided tells (seen First start) (seen First p) [] bytes) (enough : owed records ≤ p.announced)
      (pulls : PullsUntilDecided tells s t bytes more) (reads : PullsForRecord tells s t bytes more records) (told : KeepsAnnounced s t)
      (fresh : s.taken < t.taken → HasOneAnnounced t) where
    up_here : KeepsUp owed tells (seen First start) (seen First p) bytes records → KeepsUp owed tells (seen First start) s bytes records
    up_here up =
        let same : p.pulled_before - start.taken ≡ s.pulled_before - start.taken = omega (arith, here.pulled_before) in
        record {
          pulls = record {
            takes = record {
              taken = omega (arith, up.pulls.takes.taken, here.taken);
              input = λ told. up.pulls.takes.input told ∙ ap (λ (l : List ℕ). bytes ++ l) here.input;
            };
            none = λ none. sym here.pulled_before ∙ up.pulls.none none;
            last = λ some. let was = up.pulls.last some in record {
              begins = omega (arith, was.begins, here.pulled_before);
              gave_bytes = omega (arith, was.gave_bytes, here.taken, here.pulled_before);
              within_piece = omega (arith, was.within_piece, here.taken, here.pulled_before);
            };
            undecided = λ some. subst (λ (n : ℕ). IsDecided ([] ++ take n bytes) → ⊥) same (up.pulls.undecided some);
            faults = omega (arith, up.pulls.faults, here.input_faults);
          };
          least = λ some. subst (λ (n : ℕ). IsInTime owed start.taken bytes n s.pulled_before s.taken) here.least
              (subst (λ (n : ℕ). IsInTime owed start.taken bytes p.least n s.taken) here.pulled_before
              (subst (λ (n : ℕ). IsInTime owed start.taken bytes p.least p.pulled_before n) here.taken (up.least some)));
          announced = omega (arith, up.announced, here.announced);
        }

    all_taken : s.taken ≡ start.taken + length bytes
    all_taken = omega (arith, was.takes.taken, here.taken)

    pub pull_in_time : EachPairMoment tells p q (λ m. (m.taken ≡ p.taken → KeepsUp owed tells (seen First start) (seen First p) bytes records)
        → IsPairLagMoment owed start (bytes ++ more) m)
    pull_in_time stops m since up =
        let at = shows tells (IsTraceMoment s bytes more records) p.turned s t p q here same_turned reads.moments stops m since in
        ⊎_elim
        (λ same.
        let lag = at_moment owed tells (seen First start) s t bytes more records sound_s (up_here (up (same.taken ∙ sym here.taken))) pulls reads told
        fresh (shown_on p.turned m) at in
        record { pulled = ⊎_elim (λ same. inl (record { taken = same.taken; pulled_before = same.pulled_before })) (λ late. inr late) lag.pulled })
        (λ pulling. record {
          pulled = inr (IsInTime-pull owed start.taken s.taken bytes more records m.announced m.pulled_before m.taken all_taken
              (omega (arith, enough, pulling.announced, here.announced)) pulling.last);
        })
        at.pulled

    least_here : (q.taken ≡ p.taken → KeepsUp owed tells (seen First start) (seen First p) bytes records) → 0 < length (bytes ++ more)
        → IsInTime owed start.taken (bytes ++ more) t.least t.pulled_before t.taken
    least_here up some = ⊎_elim
        (λ given.
        let anew = fresh (omega (arith, pulls.takes.taken, given)) in
        IsInTime-pull owed start.taken s.taken bytes more records t.least t.pulled_before t.taken all_taken
        (omega (arith, anew.least, told.announced, here.announced, enough)) (reads.last given))
        (λ none.
        let same : q.taken ≡ p.taken = omega (arith, pulls.takes.taken, none, here.taken, there.taken) in
        least_up owed tells (seen First start) s t bytes more records sound_s (up_here (up same)) pulls reads told fresh some)
        (cases_lt 0 (length more))

    pub pull_least : (q.taken ≡ p.taken → KeepsUp owed tells (seen First start) (seen First p) bytes records) → 0 < length (bytes ++ more)
        → IsInTime owed start.taken (bytes ++ more) q.least q.pulled_before q.taken
    pull_least up some =
        subst (λ (n : ℕ). IsInTime owed start.taken (bytes ++ more) n q.pulled_before q.taken) (sym there.least)
        (subst (λ (n : ℕ). IsInTime owed start.taken (bytes ++ more) t.least n q.taken) (sym there.pulled_before)
        (subst (λ (n : ℕ). IsInTime owed start.taken (bytes ++ more) t.least t.pulled_before n) (sym there.taken) (least_here up some)))

-- ---- a side that is left

pub image_left : (tells : Tells) (side : Side) (p q : Pair) → IsSoundPair tells p → IsLeft tells side p q → IsTrue tells.stops → (m : PairMoment)
    → q.since p.clock m → (disk_on side p).may_leave (image_on side m)
image_left tells side p q sound is stops m since = ⊎_elim
    (λ was. ((sound.sides side).only_now stops (shown_on side m)
    (m, (was, record { image = refl; announced = refl; taken = refl; pulled_before = refl }))).image)
    (λ stays. stays.image)
    (is.moments stops m since)

-- no number above the next one is announced at a moment of which Q holds
pub moments_left : (tells : Tells) (Q : PairMoment → Type 0) (side : Side) (o : Option Ring) (h : Header) (next : ℕ) (p q : Pair) → IsSoundPair tells p
    → IsLeft tells side p q → EachPairMoment tells p q (λ m. Q m → m.announced ≤ next) → Follows h next o → IsSettledSide tells side o p
    → EachPairMoment tells p q (λ m. Q m → SideMoment side o [] p m)
moments_left tells Q side None h next p q sound is told follows settled stops m since holds =
    ⊎_elim (λ early. inl early) (λ stays. inr stays.faults) (is.moments stops m since)
moments_left tells Q side (Some r) h next p q sound is told follows settled stops m since holds =
    let bytes = (sound.sides side).stops_need_bytes stops in
    let held = (disk_on side p).held in
    let still : image_on side m ≡ held = settled.settled stops (image_on side m) (image_left tells side p q sound is stops m since) in
    let most = told stops m since holds in
    inr (subst (λ (l : List ℕ). RecoversPrefix r.header held (recovered_run r.header held) [] m.announced l) (sym still)
    (keeps_run r.header held held [] m.announced (same_run r.header held) (omega (arith, most, settled.sure.ring.next bytes, (follows r refl).1))))

pub now_left : (tells : Tells) (side : Side) (o : Option Ring) (p q : Pair) → IsLeft tells side p q → IsSettledSide tells side o p
    → SideNow tells side o o [] p q
now_left tells side None p q is settled = is.disk.faults
now_left tells side (Some r) p q is settled =
    let held = (disk_on side p).held in
    record {
      header = refl;
      next = omega arith;
      faults = omega (arith, is.disk.faults);
      keeps = λ told. subst (λ (l : List ℕ). RecoversAll r.header held (recovered_run r.header held) [] l) (sym is.disk.held) (keeps_none r.header held);
      exact = λ told. subst (λ (l : List ℕ). AddsExactly r.header [] held l) (sym is.disk.held) (exact_none r.header held);
      ring = ring_left tells side r p q is.disk settled;
    }
