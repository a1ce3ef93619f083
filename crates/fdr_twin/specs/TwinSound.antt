-- The moments of the twin in memory are sound, whatever calls it has seen.
use Rattle.std.specs.Prelude.{ℕ, ◌-◌, ◌≤◌, List, [], ◌∷◌, length}
use Rattle.std.proofs.Common.{inl, inr, arith}
use Rattle.fdr_deck.specs.Memory.{memory_state, memory_tells, left_after}
use Rattle.fdr_deck.specs.MemorySound.{memory_is_sound}
use Rattle.fdr_twin.specs.declared.side.Side.{Side}
use Rattle.fdr_twin.specs.Pair.{PairMoment, seen}
use Rattle.fdr_twin.specs.Sound.{IsSoundPair}
use Rattle.fdr_twin.specs.Rest.{HasSameRest}
use Rattle.fdr_twin.specs.RestSound.{HasSameRest-here, HasSameRest-then}
use Rattle.fdr_twin.specs.SoundSame.{IsSoundDeck-same}
use Rattle.fdr_twin.specs.declared.calls.Span.{Span}
use Rattle.fdr_twin.specs.declared.calls.TwinEntry.{TwinEntry}
use Rattle.fdr_twin.specs.TwinMemory.{TwinMemory, entries_on, memory_on, held_step, left_step, IsPairBetween, pair_moments, both_first}
use Rattle.fdr_twin.specs.TwinMemory.{both_left_first, twin_pair}
use Rattle.fdr_twin.specs.TwinFaces.{twin_faces}

-- The image is one that a stop after all these calls may leave of this side.
abbrev pub left_both : List TwinEntry → (Side → List ℕ) → (Side → List ℕ → Type 0) → Side → List ℕ → Type 0
left_both es held leaves side = left_after (entries_on side es) (held side) (leaves side)

-- The moments of the twin in memory since now, or a later time, are moments between two calls.
pub pair_only_now : (es : List TwinEntry) (now : Span) (held : Side → List ℕ) (leaves : Side → List ℕ → Type 0) (t : ℕ) (m : PairMoment) → length es ≤ t
    → pair_moments es now held leaves t m → IsPairBetween (left_both es held leaves) now m
unfolding entries_on left_after pair_moments
pair_only_now [] now held leaves t m late since = since
pair_only_now (e ∷ es) now held leaves t m late (inl early) = absurd (omega (arith, early.0))
pair_only_now (e ∷ es) now held leaves t m late (inr since) = pair_only_now es now (held_step e held) (left_step e held leaves) (t - 1) m (omega arith) since

-- A moment between the last call and the next is one since each earlier time.
pub pair_counts_now : (es : List TwinEntry) (now : Span) (held : Side → List ℕ) (leaves : Side → List ℕ → Type 0) (t : ℕ) (m : PairMoment)
    → IsPairBetween (left_both es held leaves) now m → pair_moments es now held leaves t m
unfolding entries_on left_after pair_moments
pair_counts_now [] now held leaves t m is = is
pair_counts_now (e ∷ es) now held leaves t m is = inr (pair_counts_now es now (held_step e held) (left_step e held leaves) (t - 1) m is)

-- A moment of the twin in memory since a time is one since each earlier time.
pub pair_falls : (es : List TwinEntry) (now : Span) (held : Side → List ℕ) (leaves : Side → List ℕ → Type 0) (earlier t : ℕ) (m : PairMoment) → earlier ≤ t
    → pair_moments es now held leaves t m → pair_moments es now held leaves earlier m
unfolding pair_moments
pair_falls [] now held leaves earlier t m le since = since
pair_falls (e ∷ es) now held leaves earlier t m le (inl here) = inl (omega (arith, here.0), here.1)
pair_falls (e ∷ es) now held leaves earlier t m le (inr since) =
    inr (pair_falls es now (held_step e held) (left_step e held leaves) (earlier - 1) (t - 1) m (omega arith) since)

-- The twin in memory is sound, whatever calls it has seen.
pub twin_is_sound : (d : TwinMemory) → IsSoundPair memory_tells (twin_pair d)
twin_is_sound d = record {
  sides = λ side. IsSoundDeck-same memory_tells (memory_state (memory_on side d)) (seen side (twin_pair d)) (twin_faces side d) (memory_is_sound
      (memory_on side d));
  falls = λ earlier t m le now since. pair_falls d.entries d.span (both_first d) (both_left_first d) earlier t m le since;
}

-- Where nothing is done, the twin in memory has the same rest.
pub twin_rest_here : (d : TwinMemory) → HasSameRest (twin_pair d) (twin_pair d)
twin_rest_here d = HasSameRest-here (twin_pair d) (twin_is_sound d).falls

-- What leaves the same rest of the twin in memory twice in a row leaves it from the first to the last.
pub twin_rest_then : (old mid new : TwinMemory) → HasSameRest (twin_pair old) (twin_pair mid) → HasSameRest (twin_pair mid) (twin_pair new)
    → HasSameRest (twin_pair old) (twin_pair new)
twin_rest_then old mid new first second = HasSameRest-then (twin_pair old) (twin_pair mid) (twin_pair new) (twin_is_sound mid).falls first second
