-- Each side of the twin in memory means what the deck in memory means that has its calls.
use Rattle.std.specs.Prelude.{◌≡◌, ℕ, suc, ◌-◌, List, [], ◌∷◌, ◌++◌, length}
use Rattle.std.proofs.Common.{inl, inr, ⊎_elim, refl, sym, ◌∙◌, ap, arith, subst}
use Rattle.fdr_deck.specs.State.{Moment}
use Rattle.fdr_deck.specs.declared.calls.Entry.{Entry}
use Rattle.fdr_deck.specs.declared.calls.Call.{Call}
use Rattle.fdr_deck.specs.declared.calls.Call.TheVariants.{Pass, Write, FailedWrite, Sync, Provide, FailedProvide}
use Rattle.fdr_deck.specs.Memory.{memory_state, held_by, left_by, left_within, IsBetween, IsAmid, moments_after}
use Rattle.fdr_twin.specs.declared.side.Side.{Side}
use Rattle.fdr_twin.specs.declared.side.Side.TheVariants.{First, Second}
use Rattle.fdr_twin.specs.Pair.{PairMoment, seen, IsSeen}
use Rattle.fdr_twin.specs.Same.{IsSameState}
use Rattle.fdr_twin.specs.declared.calls.Span.{Span}
use Rattle.fdr_twin.specs.declared.calls.TwinEntry.{TwinEntry}
use Rattle.fdr_twin.specs.TwinMemory.{TwinMemory, numbers_of, call_on, entry_on, entries_on, memory_on, held_step, left_step, both_within}
use Rattle.fdr_twin.specs.TwinMemory.{IsPairBetween, IsPairAmid, pair_moments, both_first, both_left_first, twin_pair}

-- A side's disk sees as many calls as there are.
pub entries_long : (side : Side) (es : List TwinEntry) → length (entries_on side es) ≡ length es
unfolding entries_on
entries_long side [] = refl
entries_long side (e ∷ es) = ap (λ (n : ℕ). suc n) (entries_long side es)

-- Where one more call is entered, a side's disk sees that one after all earlier ones.
pub entries_push : (side : Side) (es : List TwinEntry) (e : TwinEntry) → entries_on side (es ++ e ∷ []) ≡ entries_on side es ++ (entry_on side e ∷ [])
unfolding entries_on
entries_push side [] e = refl
entries_push side (x ∷ es) e = ap (λ (l : List Entry). entry_on side x ∷ l) (entries_push side es e)

-- a call after which, and within which, a stop may leave what is held
holds_by : (call : Call) (held : List ℕ) (leaves : List ℕ → Type 0) → leaves held → left_by call held leaves (held_by call held)
holds_by Pass held leaves has = has
holds_by (Write at bytes) held leaves has = inl refl
holds_by (FailedWrite at bytes) held leaves has = (held, (has, record { size = refl; front = refl; behind = refl }))
holds_by Sync held leaves has = refl
holds_by (Provide size) held leaves has = refl
holds_by (FailedProvide size) held leaves has = inl has

holds_within : (call : Call) (held : List ℕ) (leaves : List ℕ → Type 0) → leaves held → left_within call held leaves held
holds_within Pass held leaves has = has
holds_within (Write at bytes) held leaves has = inl has
holds_within (FailedWrite at bytes) held leaves has = inl has
holds_within Sync held leaves has = inl has
holds_within (Provide size) held leaves has = inl has
holds_within (FailedProvide size) held leaves has = inl has

-- what one side shows
shown_between : (side : Side) (leaves : Side → List ℕ → Type 0) (span : Span) (m : Moment) (pm : PairMoment) → IsSeen side pm m
    → IsPairBetween leaves span pm → IsBetween (leaves side) (numbers_of span) m
shown_between side leaves span m pm seen is = record {
  image = subst (λ (l : List ℕ). leaves side l) (sym seen.image) (is.images side);
  least = omega (arith, is.least, seen.announced);
  greatest = omega (arith, is.greatest, seen.announced);
  taken = seen.taken ∙ is.taken;
  pulled_before = seen.pulled_before ∙ is.pulled_before;
}

shown_amid : (side : Side) (leaves : Side → List ℕ → Type 0) (span : Span) (m : Moment) (pm : PairMoment) → IsSeen side pm m
    → IsPairAmid leaves span pm → IsAmid (leaves side) (numbers_of span) m
shown_amid side leaves span m pm seen is = record {
  image = subst (λ (l : List ℕ). leaves side l) (sym seen.image) (is.images side);
  announced = seen.announced ∙ is.announced;
  taken = seen.taken ∙ is.taken;
  pulled_before = seen.pulled_before ∙ is.pulled_before;
}

-- Each moment of the twin in memory, as a side shows it, is one of the deck in memory that has this side's calls.
pub shows : (side : Side) (es : List TwinEntry) (now : Span) (held : Side → List ℕ) (leaves : Side → List ℕ → Type 0) (t : ℕ) (m : Moment) (pm : PairMoment)
    → IsSeen side pm m → pair_moments es now held leaves t pm → moments_after (entries_on side es) (numbers_of now) (held side) (leaves side) t m
unfolding entries_on pair_moments moments_after
shows side [] now held leaves t m pm seen is = shown_between side leaves now m pm seen is
shows side (e ∷ es) now held leaves t m pm seen (inl here) = inl (
  here.0,
  ⊎_elim
      (λ is. inl (shown_between side leaves e.span m pm seen is))
      (λ is. inr (shown_amid side (both_within e held leaves) e.span m pm seen is)) here.1,
)
shows side (e ∷ es) now held leaves t m pm seen (inr since) =
    inr (shows side es now (held_step e held) (left_step e held leaves) (t - 1) m pm seen since)

-- a moment of a side, and of the other side this image
with_other : Side → Span → List ℕ → Moment → PairMoment
with_other First span image m = record {
  first = m.image;
  second = image;
  first_faults = span.first_faults;
  second_faults = span.second_faults;
  announced = m.announced;
  taken = m.taken;
  pulled_before = m.pulled_before;
}
with_other Second span image m = record {
  first = image;
  second = m.image;
  first_faults = span.first_faults;
  second_faults = span.second_faults;
  announced = m.announced;
  taken = m.taken;
  pulled_before = m.pulled_before;
}

across : Side → Side
across First = Second
across Second = First

seen_with : (side : Side) (span : Span) (image : List ℕ) (m : Moment) → IsSeen side (with_other side span image m) m
unfolding with_other
seen_with First span image m = record { image = refl; announced = refl; taken = refl; pulled_before = refl }
seen_with Second span image m = record { image = refl; announced = refl; taken = refl; pulled_before = refl }

pair_between : (side : Side) (held : Side → List ℕ) (leaves : Side → List ℕ → Type 0) (span : Span) (m : Moment) → ((x : Side) → leaves x (held x))
    → IsBetween (leaves side) (numbers_of span) m → IsPairBetween leaves span (with_other side span (held (across side)) m)
unfolding with_other across
pair_between First held leaves span m has is = record {
  images = elim [ First ↦ is.image | Second ↦ has Second ];
  least = is.least;
  greatest = is.greatest;
  stood = inl (record { first = refl; second = refl; least = is.least; greatest = is.greatest });
  taken = is.taken;
  pulled_before = is.pulled_before;
}
pair_between Second held leaves span m has is = record {
  images = elim [ First ↦ has First | Second ↦ is.image ];
  least = is.least;
  greatest = is.greatest;
  stood = inl (record { first = refl; second = refl; least = is.least; greatest = is.greatest });
  taken = is.taken;
  pulled_before = is.pulled_before;
}

pair_amid : (side : Side) (held : Side → List ℕ) (leaves : Side → List ℕ → Type 0) (span : Span) (m : Moment) → ((x : Side) → leaves x (held x))
    → IsAmid (leaves side) (numbers_of span) m → IsPairAmid leaves span (with_other side span (held (across side)) m)
unfolding with_other across
pair_amid First held leaves span m has is = record {
  images = elim [ First ↦ is.image | Second ↦ has Second ];
  announced = is.announced;
  first = refl;
  second = refl;
  taken = is.taken;
  pulled_before = is.pulled_before;
}
pair_amid Second held leaves span m has is = record {
  images = elim [ First ↦ has First | Second ↦ is.image ];
  announced = is.announced;
  first = refl;
  second = refl;
  taken = is.taken;
  pulled_before = is.pulled_before;
}

-- Each moment of the deck in memory that has a side's calls is one that the twin in memory shows on this side.
pub is_shown : (side : Side) (es : List TwinEntry) (now : Span) (held : Side → List ℕ) (leaves : Side → List ℕ → Type 0) (t : ℕ) (m : Moment)
    → ((x : Side) → leaves x (held x)) → moments_after (entries_on side es) (numbers_of now) (held side) (leaves side) t m
    → (pm : PairMoment) × (pair_moments es now held leaves t pm × IsSeen side pm m)
unfolding entries_on pair_moments moments_after
is_shown side [] now held leaves t m has is =
    (with_other side now (held (across side)) m, (pair_between side held leaves now m has is, seen_with side now (held (across side)) m))
is_shown side (e ∷ es) now held leaves t m has (inl here) = ⊎_elim
    (λ is. (
      with_other side e.span (held (across side)) m,
      (
        inl (here.0, inl (pair_between side held leaves e.span m has is)),
        seen_with side e.span (held (across side)) m,
      ),
    ))
    (λ is. (
      with_other side e.span (held (across side)) m,
      (
        inl (
          here.0,
          inr (pair_amid side held (both_within e held leaves) e.span m
              (λ x. holds_within (call_on x e) (held x) (leaves x) (has x)) is),
        ),
        seen_with side e.span (held (across side)) m,
      ),
    ))
    here.1
is_shown side (e ∷ es) now held leaves t m has (inr since) =
    let there = is_shown side es now (held_step e held) (left_step e held leaves) (t - 1) m
    (λ x. holds_by (call_on x e) (held x) (leaves x) (has x)) since in
    (there.0, (inr there.1.0, there.1.1))

-- Each side of the twin in memory means what the deck in memory means that has its calls.
pub twin_faces : (side : Side) (d : TwinMemory) → IsSameState (memory_state (memory_on side d)) (seen side (twin_pair d))
twin_faces First d = record {
  extent = refl;
  held = refl;
  leaves = λ image is. is;
  left = λ image is. is;
  clock = sym (entries_long First d.entries);
  moments = λ t m since. is_shown First d.entries d.span (both_first d) (both_left_first d) t m (λ x. refl) since;
  only = λ t m is. shows First d.entries d.span (both_first d) (both_left_first d) t m is.0 is.1.1 is.1.0;
  announced = refl;
  least = refl;
  greatest = refl;
  input = refl;
  taken = refl;
  pulled_before = refl;
  disk_faults = refl;
  input_faults = refl;
}
twin_faces Second d = record {
  extent = refl;
  held = refl;
  leaves = λ image is. is;
  left = λ image is. is;
  clock = sym (entries_long Second d.entries);
  moments = λ t m since. is_shown Second d.entries d.span (both_first d) (both_left_first d) t m (λ x. refl) since;
  only = λ t m is. shows Second d.entries d.span (both_first d) (both_left_first d) t m is.0 is.1.1 is.1.0;
  announced = refl;
  least = refl;
  greatest = refl;
  input = refl;
  taken = refl;
  pulled_before = refl;
  disk_faults = refl;
  input_faults = refl;
}
