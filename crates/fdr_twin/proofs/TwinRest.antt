-- What the calls of the twin in memory leave of the other side.
use Rattle.std.proofs.Common.{◌≡◌, ◌⊎◌, inl, inr, ⊎_elim, ℕ, ◌≤◌, List, [], ◌∷◌, ◌++◌, length, refl, ◌∙◌, ap, arith, length-append, rules}
use Rattle.std.proofs.Common.{min, max, Option, Some, None}
use Rattle.fdr_deck.specs.Announced.{least_announced, greatest_announced}
use Rattle.fdr_deck.specs.Disk.{KeepsDisk}
use Rattle.fdr_deck.specs.declared.announced.Announced.{Announced}
use Rattle.fdr_deck.specs.declared.calls.Call.{Call}
use Rattle.fdr_deck.specs.declared.calls.Call.TheVariants.{Pass}
use Rattle.fdr_twin.specs.declared.calls.SideCall.{SideCall}
use Rattle.fdr_deck.specs.Memory.{memory_state, IsEntered, left_in}
use Rattle.fdr_deck.proofs.MemoryDisk.{keeps_disk_pass}
use Rattle.fdr_twin.specs.declared.side.Side.{Side}
use Rattle.fdr_twin.specs.declared.side.Side.TheVariants.{First, Second}
use Rattle.fdr_twin.specs.Pair.{PairMoment, other_side, disk_on, image_on, faults_on}
use Rattle.fdr_twin.specs.Rest.{PairElapses, HasSameRest}
use Rattle.fdr_twin.specs.declared.calls.Snapshot.{Snapshot}
use Rattle.fdr_twin.specs.declared.calls.Span.{Span}
use Rattle.fdr_twin.specs.declared.calls.TwinEntry.{TwinEntry}
use Rattle.fdr_twin.specs.TwinMemory.{TwinMemory, call_of, disk_of, entered_by, IsFresh, lose, lost_on}
use Rattle.fdr_twin.specs.TwinMemory.{IsNested, facing, memory_on, counts_on, IsPairBetween}
use Rattle.fdr_twin.specs.TwinMemory.{both_first, both_left_first, twin_pair, HasStood, IsLost}
use Rattle.fdr_twin.specs.TwinFaces.{entries_push}
use Rattle.fdr_twin.specs.TwinSound.{left_both, pair_only_now, pair_counts_now, pair_falls}
use Rattle.fdr_twin.proofs.TwinCalls.{pair_earlier, pair_no_more, pair_last_call, pair_wider, pair_no_other}

-- the disk of a side, whichever it is
disk_is : (x : Side) (d : TwinMemory) → disk_on x (twin_pair d) ≡ disk_of x d
disk_is First d = refl
disk_is Second d = refl

-- a call of one side is nothing to the other
other_passes : (side : Side) (call : Call) → facing (other_side side) side call ≡ Pass
other_passes First call = refl
other_passes Second call = refl

-- the counts of both sides say the count of each
pub counts_same : (x : Side) (a b : Span) → a.first_faults ≡ b.first_faults → a.second_faults ≡ b.second_faults → counts_on x a ≡ counts_on x b
counts_same First a b one two = one
counts_same Second a b one two = two

-- The moment has both counts of faults.
abbrev HasFaults : Span → PairMoment → Type 0
HasFaults span m = (m.first_faults ≡ span.first_faults) × (m.second_faults ≡ span.second_faults)

count_is : (x : Side) (span : Span) (m : PairMoment) → HasFaults span m → faults_on x m ≡ counts_on x span
count_is First span m is = is.0
count_is Second span m is = is.1

-- The rest is left where each new moment has an image that a stop could leave before of the other side, and both counts from before the call or from after it.
rest_by : (old new : TwinMemory) → new.turned ≡ old.turned
    → KeepsDisk (memory_state (memory_on (other_side old.turned) old)) (memory_state (memory_on (other_side old.turned) new))
    → counts_on (other_side old.turned) new.span ≡ counts_on (other_side old.turned) old.span → counts_on old.turned old.span ≤ counts_on old.turned new.span
    → PairElapses (twin_pair old) (twin_pair new)
    → ((m : PairMoment) → (twin_pair new).since (length old.entries) m → (twin_pair old).since (length old.entries) m
    ⊎ (left_in (memory_on (other_side old.turned) old) (image_on (other_side old.turned) m) × (HasFaults old.span m ⊎ HasFaults new.span m)))
    → HasSameRest (twin_pair old) (twin_pair new)
rest_by old new turned kept same le time moments =
    let x = old.turned in
    let y = other_side x in
    record {
      turned = turned;
      other = record {
        disk = rw (disk_is y old, disk_is y new) (record {
          extent = ap (λ (l : List ℕ). length l) kept.held;
          held = kept.held;
          no_more = kept.no_more;
          no_less = kept.no_less;
          faults = same;
        });
        moments = λ m since. ⊎_elim (λ was. inl was) (λ is. inr (record {
          image = rw (disk_is y old) is.0;
          faults = rw (disk_is y old) (⊎_elim (λ was. count_is y old.span m was) (λ now. count_is y new.span m now ∙ same) is.1);
        })) (moments m since);
      };
      own = record {
        faults = rw (disk_is x old, disk_is x new) le;
        moments = λ m since. ⊎_elim (λ was. inl was) (λ is. inr (record {
          least = rw (disk_is x old) (⊎_elim (λ was. omega (arith, count_is x old.span m was)) (λ now. omega (arith, count_is x new.span m now, le)) is.1);
          greatest = rw (disk_is x new) (⊎_elim (λ was. omega (arith, count_is x old.span m was, le)) (λ now. omega (arith, count_is x new.span m now)) is.1);
        })) (moments m since);
      };
      time = time;
    }

-- where no call was lost, the counts that have stood are those now
counts_now : (now : Span) (m : PairMoment) → now.first_lost ≡ None → now.second_lost ≡ None → HasStood now m → HasFaults now m
counts_now now m no_first no_second stood = ⊎_elim (λ is. (is.first, is.second)) (λ lost. ⊎_elim
    (λ one. absurd (rw no_first at one))
    (λ two. absurd (rw no_second at two)) lost) stood

-- a call of the side that the twin is turned to is entered
module _ (call : SideCall) (old : TwinMemory) (now : Span) (input : List ℕ) (input_faults : ℕ) (fresh : IsFresh old.span now) where
  abbrev entry : TwinEntry
  entry = record { side = old.turned; call = call; span = old.span }

  abbrev new : TwinMemory
  new = entered_by old old.turned call now input input_faults

  -- each side, as a deck in memory, has entered the call or one that did nothing
  pub entered_on : (x : Side) → IsEntered (facing x old.turned (call_of call)) (memory_on x old) (memory_on x new)
  entered_on x = record {
    entries = entries_push x old.entries entry;
    announced = fresh.announced;
    least = fresh.least;
    greatest = fresh.greatest;
    first = refl;
    failing = refl;
  }

  -- the other's count stays, and no call is lost
  pub entered_rest : counts_on (other_side old.turned) now ≡ counts_on (other_side old.turned) old.span
      → counts_on old.turned old.span ≤ counts_on old.turned now → HasSameRest (twin_pair old) (twin_pair new)
  entered_rest same le =
      let y = other_side old.turned in
      let kept = keeps_disk_pass (memory_on y old) (memory_on y new) (rw (other_passes old.turned (call_of call)) at (entered_on y)) in
      rest_by old new refl kept same le (record {
        later = omega (arith, length-append old.entries (entry ∷ []));
        earlier = λ t m le since. pair_earlier old.entries entry now (both_first old) (both_left_first old) t m le since;
        added = λ t m le since. pair_falls (old.entries ++ entry ∷ []) now (both_first old) (both_left_first old) t (length old.entries) m le since;
        no_more = λ t m le since. pair_no_more old.entries (entry ∷ []) old.span now (both_first old) (both_left_first old) t m le since;
      })
      (λ m since. ⊎_elim
      (λ early. ⊎_elim
      (λ is. inl (pair_counts_now old.entries old.span (both_first old) (both_left_first old) (length old.entries) m is))
      (λ is. inr (rw (other_passes old.turned (call_of call)) at (is.images y), inl (is.first, is.second)))
      early)
      (λ is. inr (kept.no_more (image_on y m) (is.images y), inr (counts_now now m fresh.first_lost fresh.second_lost is.stood)))
      (pair_last_call old.entries entry now (both_first old) (both_left_first old) (length old.entries) m (omega arith) since))

-- Nothing is entered: an announcement, or a call that found no memory. More may have stood since, and each moment that is new has the counts of now.
pub unentered_rest : (old : TwinMemory) (now : Span) (input_faults : ℕ)
    → ((left : Side → List ℕ → Type 0) (m : PairMoment) → IsPairBetween left old.span m → IsPairBetween left now m)
    → ((left : Side → List ℕ → Type 0) (m : PairMoment) → IsPairBetween left now m → IsPairBetween left old.span m ⊎ HasFaults now m)
    → counts_on (other_side old.turned) now ≡ counts_on (other_side old.turned) old.span → counts_on old.turned old.span ≤ counts_on old.turned now
    → HasSameRest (twin_pair old) (twin_pair (record old { span = now; input_faults = input_faults }))
unentered_rest old now input_faults more only same le =
    rest_by old (record old { span = now; input_faults = input_faults }) refl
    (record { held = refl; no_more = λ image is. is; no_less = λ image is. is }) same le (record {
      later = omega arith;
      earlier = λ t m le since. pair_wider old.entries old.span now (both_first old) (both_left_first old) t m (λ left is. more left m is) since;
      added = λ t m le since. pair_falls old.entries now (both_first old) (both_left_first old) t (length old.entries) m le since;
      no_more = λ t m le since. pair_no_other old.entries old.span now (both_first old) (both_left_first old) t m le since;
    })
    (λ m since.
    let is : IsPairBetween (left_both old.entries (both_first old) (both_left_first old)) now m =
    pair_only_now old.entries now (both_first old) (both_left_first old) (length old.entries) m (omega arith) since in
    ⊎_elim
    (λ was. inl (pair_counts_now old.entries old.span (both_first old) (both_left_first old) (length old.entries) m was))
    (λ faults. inr (is.images (other_side old.turned), inr faults))
    (only (left_both old.entries (both_first old) (both_left_first old)) m is))

lose_more : (side : Side) (span : Span) (count : ℕ) (left : Side → List ℕ → Type 0) (m : PairMoment) → lost_on side span ≡ None
    → IsPairBetween left span m → IsPairBetween left (lose side span count) m
lose_more First span count left m none is =
    let stood : HasStood (lose First span count) m = ⊎_elim (λ now. inr (inl now))
    (λ lost. ⊎_elim (λ one. absurd (rw none at one)) (λ two. inr (inr two)) lost) is.stood in
    search (rules, is)
lose_more Second span count left m none is =
    let stood : HasStood (lose Second span count) m = ⊎_elim (λ now. inr (inr now))
    (λ lost. ⊎_elim (λ one. inr (inl one)) (λ two. absurd (rw none at two)) lost) is.stood in
    search (rules, is)

lose_only : (side : Side) (span : Span) (count : ℕ) (left : Side → List ℕ → Type 0) (m : PairMoment) → IsPairBetween left (lose side span count) m
    → IsPairBetween left span m ⊎ HasFaults (lose side span count) m
lose_only First span count left m is = ⊎_elim
    (λ now. inr (now.first, now.second))
    (λ lost. let stood : HasStood span m = ⊎_elim (λ one. inl one) (λ two. inr (inr two)) lost in inl (search (rules, is)))
    is.stood
lose_only Second span count left m is = ⊎_elim
    (λ now. inr (now.first, now.second))
    (λ lost. let stood : HasStood span m = ⊎_elim (λ one. inr (inl one)) (λ two. inl two) lost in inl (search (rules, is)))
    is.stood

other_count : (side : Side) (span : Span) (count : ℕ) → counts_on (other_side side) (lose side span count) ≡ counts_on (other_side side) span
other_count First span count = refl
other_count Second span count = refl

-- A call of the side that the twin is turned to, the first one of it since the last entered call that finds no memory, leaves the rest.
pub lost_rest : (old : TwinMemory) (count : ℕ) → lost_on old.turned old.span ≡ None
    → counts_on old.turned old.span ≤ counts_on old.turned (lose old.turned old.span count)
    → HasSameRest (twin_pair old) (twin_pair (record old { span = lose old.turned old.span count }))
lost_rest old count none le = unentered_rest old (lose old.turned old.span count) old.input_faults
    (λ left m is. lose_more old.turned old.span count left m none is)
    (λ left m is. lose_only old.turned old.span count left m is)
    (other_count old.turned old.span count) le

lost_within : (o : Option Snapshot) (a : Announced) (m : PairMoment) → IsNested o a → IsLost o m
    → (least_announced a ≤ m.announced) × (m.announced ≤ greatest_announced a)
lost_within None a m nested lost = absurd lost
lost_within (Some s) a m nested lost = (omega (arith, nested.0, lost.least), omega (arith, nested.1, lost.greatest))

-- an announcement leaves the rest, by the parts that mean the twin
pub told_rest : (old now : TwinMemory) (a : Announced) (count : ℕ) → old ≡ now → least_announced a ≡ min (least_announced old.span.announced) count
    → greatest_announced a ≡ max (greatest_announced old.span.announced) count
    → IsNested old.span.first_lost old.span.announced → IsNested old.span.second_lost old.span.announced
    → HasSameRest (twin_pair now) (twin_pair (record old { span = record old.span { announced = a } }))
told_rest old now a count is least greatest first second =
    let told : Span = record old.span { announced = a } in
    let same = λ (x : Side). counts_same x told old.span refl refl in
    rw (← is) (unentered_rest old told old.input_faults
    (λ left m is. record {
      images = is.images;
      least = omega (arith, is.least, least);
      greatest = omega (arith, is.greatest, greatest);
      taken = is.taken;
      pulled_before = is.pulled_before;
      stood = ⊎_elim
          (λ now. inl (record {
            first = now.first;
            second = now.second;
            least = omega (arith, now.least, least);
            greatest = omega (arith, now.greatest, greatest);
          }))
          (λ lost. inr lost) is.stood;
    })
    (λ left m is. ⊎_elim
    (λ now. inr (now.first, now.second))
    (λ lost. let bounds = ⊎_elim (lost_within old.span.first_lost old.span.announced m first)
    (lost_within old.span.second_lost old.span.announced m second) lost in
    inl (record { images = is.images; least = bounds.0; greatest = bounds.1; taken = is.taken; pulled_before = is.pulled_before; stood = inr lost }))
    is.stood)
    (same (other_side old.turned)) (omega (arith, same old.turned)))
