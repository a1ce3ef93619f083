-- The events of a bit list: its accepted frames, and the gaps, which are the longest stretches of bits outside them.
use Rattle.std.specs.Prelude.{ℕ, ◌≡◌, ◌+◌, ◌-◌, ◌*◌, ◌<◌, nat_lt, if◌then◌else◌, List, [], ◌∷◌, ◌++◌, Option, Some, None, All}
use Rattle.std.specs.List.{filter_map}
use Rattle.fdr_bits.specs.Bits.{bits_in}
use Rattle.fdr_sync.specs.Accepted.{accepted_from, accepted_frames, AreAcceptedFrames}

-- a frame that begins at a bit, or a gap, by its first bit and its number of bits
pub data Event : Type 0 where
  Frame : ℕ → Event
  Gap : ℕ → ℕ → Event

-- what lies between two places, as events: nothing, or one gap
abbrev pub gap_between : ℕ → ℕ → List Event
gap_between low high = if nat_lt low high then Gap low (high - low) ∷ [] else []

-- the frames at these places with the gaps before them, from bit `free` to the end of the last frame
unfoldable pub frames_and_gaps : ℕ → ℕ → List ℕ → List Event
frames_and_gaps w free [] = []
frames_and_gaps w free (a ∷ xs) = gap_between free a ++ Frame a ∷ frames_and_gaps w (a + 48 * w) xs

-- where the last of the frames at these places ends, or `free` where there is none
unfoldable pub end_of_frames : ℕ → ℕ → List ℕ → ℕ
end_of_frames w free [] = free
end_of_frames w free (a ∷ xs) = end_of_frames w (a + 48 * w) xs

-- the events of bits from bit `free` to the end of the last accepted frame
unfoldable pub decided_from : List ℕ → ℕ → ℕ → List Event
decided_from b w free = frames_and_gaps w free (accepted_from b w free)

-- all events of bits from bit `free` on
unfoldable pub events_from : List ℕ → ℕ → ℕ → List Event
events_from b w free = decided_from b w free ++ gap_between (end_of_frames w free (accepted_from b w free)) (bits_in b)

-- all events of bits, in their order: the accepted frames, and the gaps between them
abbrev pub events_of : List ℕ → ℕ → List Event
events_of b w = events_from b w 0

-- the events of bits that no further bytes change: all but a last gap that ends where the bytes end
abbrev pub decided_events : List ℕ → ℕ → List Event
decided_events b w = decided_from b w 0

-- where an event that is a frame begins; none for a gap
abbrev pub frame_of_event : Event → Option ℕ
frame_of_event (Frame a) = Some a
frame_of_event (Gap a n) = None

-- where an event that is a gap begins, and how many bits it has; none for a frame
abbrev pub gap_of_event : Event → Option (ℕ × ℕ)
gap_of_event (Frame a) = None
gap_of_event (Gap a n) = Some (a, n)

-- the gaps of bits from bit `free` on, each with its first bit and its number of bits
abbrev pub gaps_from : List ℕ → ℕ → ℕ → List (ℕ × ℕ)
gaps_from b w free = filter_map gap_of_event (events_from b w free)

-- the gaps of bits, each with its first bit and its number of bits: the longest stretches outside accepted frames
abbrev pub gaps : List ℕ → ℕ → List (ℕ × ℕ)
gaps b w = gaps_from b w 0

-- how many bits an event has: 48 w for a frame
abbrev pub event_bits : ℕ → Event → ℕ
event_bits w (Frame a) = 48 * w
event_bits w (Gap a n) = n

-- the bit at which an event begins
abbrev pub event_place : Event → ℕ
event_place (Frame a) = a
event_place (Gap a n) = a

-- The events follow one another from one place to another without a hole.
abbrev pub Cover : ℕ → ℕ → ℕ → List Event → Type 0
Cover w from end [] = from ≡ end
Cover w from end (e ∷ es) = (event_place e ≡ from) × Cover w (from + event_bits w e) end es

-- The first of the events is a gap.
abbrev pub BeginsWithGap : List Event → Type 0
BeginsWithGap [] = ⊥
BeginsWithGap (Frame a ∷ es) = ⊥
BeginsWithGap (Gap a n ∷ es) = Unit {0}

-- No gap among the events is next to another.
abbrev pub NoGapsMeet : List Event → Type 0
NoGapsMeet [] = Unit {0}
NoGapsMeet (Frame a ∷ es) = NoGapsMeet es
NoGapsMeet (Gap a n ∷ es) = (¬ BeginsWithGap es) × NoGapsMeet es

-- The events cover the bits from the first to the last without a hole, each gap has a bit at least, no gap is next to another,
-- and the frames among them are the accepted ones.
pub record AreEvents (b : List ℕ) (w : ℕ) (es : List Event) : Type 0 where
  pub cover : Cover w 0 (bits_in b) es
  pub not_empty : All (λ e. 0 < event_bits w e) es
  pub apart : NoGapsMeet es
  pub frames : AreAcceptedFrames b w (filter_map frame_of_event es)

-- Bits have exactly one list of accepted frames and exactly one of events: those that `accepted_frames` and `events_of` give.
pub record EventsAreUnique (b : List ℕ) (w : ℕ) : Type 0 where
  pub accepted : AreAcceptedFrames b w (accepted_frames b w)
  pub only_accepted : (xs : List ℕ) → AreAcceptedFrames b w xs → xs ≡ accepted_frames b w
  pub events : AreEvents b w (events_of b w)
  pub only_events : (es : List Event) → AreEvents b w es → es ≡ events_of b w
