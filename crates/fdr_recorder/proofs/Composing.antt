-- Calls that record blocks, one after another.
use Rattle.std.proofs.Common.{◌≡◌, ℕ, ◌+◌, ◌-◌, List, [], ◌++◌, length, refl, sym, ◌∙◌, ap, subst, arith, length-append, append_assoc, rules}
use Rattle.std.specs.Prelude.{IsTrue}
use Rattle.fdr_deck.specs.State.{State, Tells}
use Rattle.fdr_deck.specs.Moments.{HasSamePulls, IsSoundDeck}
use Rattle.fdr_deck.proofs.Moments.{EachMoment-then, Elapses-here, Elapses-then, HasSamePulls-before, KeepsInput-then}
use Rattle.fdr_slot.specs.declared.image.Header.{Header}
use Rattle.fdr_recover.specs.Blocks.{Block}
use Rattle.fdr_recover.specs.Images.{recovered_run, next_of}
use Rattle.fdr_ring.specs.Runs.{last_blocks}
use Rattle.fdr_ring.specs.Rings.{IsRing, IsSureRing}
use Rattle.fdr_recorder.specs.Keeping.{RecoversPrefix}
use Rattle.fdr_recorder.specs.Recording.{IsReady, IsNear, IsRecordingMoment, IsClose, RecordsFirstOf, RecordsAllOf}
use Rattle.fdr_recorder.proofs.Steps.{keeps_run, same_run, keeps_none, keeps_on, keeps_more, all_on}
use Rattle.std.proofs.lemmas.List.{append-nil}

-- nothing was done
pub RecordsAllOf-here : (tells : Tells) (h : Header) (next : ℕ) (d : State) → RecordsAllOf tells h next [] d d
RecordsAllOf-here tells h next d =
    let none : next ≡ next + 0 = omega arith in
    record {
      fact = λ is. subst (λ (n : ℕ). IsRing tells h n d) none is;
      sure = λ is. subst (λ (n : ℕ). IsSureRing tells h n d) none is;
      keeps = λ told. keeps_none h d.held;
      last = λ told whole is. is ∙ ap (λ (l : List Block). last_blocks (h.slots - 1) l) (sym (append-nil whole));
      settled = λ told is. is;
      announced = λ is. is ∙ none;
      greatest = λ le. omega (arith, le);
      least = λ le. omega arith;
      near = λ mark near. subst (λ (n : ℕ). IsNear n mark d) none near;
      disk_faults = refl;
    }

pub RecordsFirstOf-here : (tells : Tells) (h : Header) (next : ℕ) (new : List Block) (d : State) → IsSoundDeck tells d → IsRing tells h next d
    → RecordsFirstOf tells h next new d d
RecordsFirstOf-here tells h next new d sound ring = record {
  time = Elapses-here tells d sound;
  moments = λ ready stops m since.
      let now = sound.only_now stops m since in
      let number : next ≡ next_of h d.held = ring.next (sound.stops_need_bytes stops) in
      record {
        image = subst (λ (l : List ℕ). RecoversPrefix h d.held (recovered_run h d.held) new m.announced l) (sym (ready.settled m.image now.image))
            (keeps_run h d.held d.held new m.announced (same_run h d.held) (omega (arith, now.greatest, ready.greatest, number)));
        least = now.least;
        pulled = now.pulled;
      };
  pulled = λ stops m since. (sound.only_now stops m since).pulled;
  close = λ mark ready near stops m since.
      let now = sound.only_now stops m since in
      let number : next ≡ next_of h d.held = ring.next (sound.stops_need_bytes stops) in
      let at : next_of h m.image ≡ next_of h d.held = ap (λ (l : List ℕ). next_of h l) (ready.settled m.image now.image) in
      omega (arith, at, number, near.least, now.least);
  input = record { input = refl; taken = refl; pulled_before = refl };
  input_faults = refl;
  disk_faults = omega arith;
  extent = refl;
  least = λ le. omega arith;
  greatest = λ le. omega (arith, le);
}

pub RecordsFirstOf-more : (tells : Tells) (h : Header) (next : ℕ) (new more : List Block) (old now : State) → RecordsFirstOf tells h next new old now
    → RecordsFirstOf tells h next (new ++ more) old now
RecordsFirstOf-more tells h next new more old now is = let long = length-append new more in search (rules, arith, keeps_more, long, is)

module _ (tells : Tells) (h : Header) (next : ℕ) (new more : List Block) (d0 d1 d2 : State) (has : RecordsAllOf tells h next new d0 d1) where
  all_long : next + length new + length more ≡ next + length (new ++ more)
  all_long = omega (arith, length-append new more)

  ready_on : IsTrue tells.stops → IsReady next d0 → IsReady (next + length new) d1
  ready_on stops ready = record { settled = has.settled stops ready.settled; greatest = has.greatest ready.greatest }

  pub RecordsFirstOf-then : IsSoundDeck tells d0 → RecordsFirstOf tells h next new d0 d1 → RecordsFirstOf tells h (next + length new) more d1 d2
      → RecordsFirstOf tells h next (new ++ more) d0 d2
  RecordsFirstOf-then sound first second = record {
    time = Elapses-then tells d0 d1 d2 first.time second.time;
    moments = λ ready. EachMoment-then tells d0 d1 d2 (IsRecordingMoment h d0 (new ++ more)) first.time second.time
        ((RecordsFirstOf-more tells h next new more d0 d1 first).moments ready)
        (λ stops m since. let at = second.moments (ready_on stops ready) stops m since in record {
          image = keeps_on h d0.held d1.held m.image (recovered_run h d0.held) new more m.announced (has.keeps (sound.stops_need_bytes stops)) at.image;
          least = omega (arith, at.least, has.least ready.greatest);
          pulled = HasSamePulls-before d0 d1 m first.input at.pulled;
        });
    pulled = EachMoment-then tells d0 d1 d2 (HasSamePulls d0) first.time second.time first.pulled
        (λ stops m since. HasSamePulls-before d0 d1 m first.input (second.pulled stops m since));
    close = λ mark ready near. EachMoment-then tells d0 d1 d2 (IsClose h mark) first.time second.time
        (first.close mark ready near)
        (λ stops m since. second.close mark (ready_on stops ready) (has.near mark near) stops m since);
    input = KeepsInput-then d0 d1 d2 first.input second.input;
    input_faults = second.input_faults ∙ first.input_faults;
    disk_faults = omega (arith, first.disk_faults, second.disk_faults);
    extent = second.extent ∙ first.extent;
    least = λ le. let one = has.least le in let two = second.least (has.greatest le) in omega (arith, one, two);
    greatest = λ le. let last = second.greatest (has.greatest le) in omega (arith, last, all_long);
  }

  pub RecordsAllOf-then : RecordsAllOf tells h (next + length new) more d1 d2 → RecordsAllOf tells h next (new ++ more) d0 d2
  RecordsAllOf-then also = record {
    fact = λ is. subst (λ (n : ℕ). IsRing tells h n d2) all_long (also.fact (has.fact is));
    sure = λ is. subst (λ (n : ℕ). IsSureRing tells h n d2) all_long (also.sure (has.sure is));
    keeps = λ told. all_on h d0.held d1.held d2.held (recovered_run h d0.held) new more (has.keeps told) (also.keeps told);
    last = λ told whole is. also.last told (whole ++ new) (has.last told whole is)
        ∙ ap (λ (l : List Block). last_blocks (h.slots - 1) l) (append_assoc whole new more);
    settled = λ stops is. also.settled stops (has.settled stops is);
    announced = λ is. also.announced (has.announced is) ∙ all_long;
    greatest = λ le. let last = also.greatest (has.greatest le) in omega (arith, last, all_long);
    least = λ le. let one = has.least le in let two = also.least (has.greatest le) in omega (arith, one, two);
    near = λ mark near. subst (λ (n : ℕ). IsNear n mark d2) all_long (also.near mark (has.near mark near));
    disk_faults = also.disk_faults ∙ has.disk_faults;
  }
