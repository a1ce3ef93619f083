-- The word slots of a stream of frames: a frame has four subframes of w words. Slot k counts from 0 at the stream's
-- start, subframes and words count from 1.
use Rattle.std.specs.Prelude.{ℕ, Bool, ◌+◌, ◌-◌, ◌*◌, ◌/◌, ◌%◌, ◌==◌, ◌&&◌, List, [], ◌∷◌, slice_index, if◌then◌else◌}
use Rattle.fdr_frame.specs.declared.SlotKind.{SlotKind}
use Rattle.fdr_frame.specs.declared.SlotKind.TheVariants.{Sync, Counter, Plain}

-- the frame of word slot k, counted from 0, where a subframe has w words
abbrev pub frame_of : ℕ → ℕ → ℕ
frame_of w k = k / (4 * w)

-- the subframe of word slot k, from 1 to 4, where a subframe has w words
abbrev pub subframe_of : ℕ → ℕ → ℕ
subframe_of w k = k / w % 4 + 1

-- the word of word slot k in its subframe, from 1 to w
abbrev pub word_of : ℕ → ℕ → ℕ
word_of w k = k % w + 1

-- the sync words of subframes 1 to 4, as ARINC 717 has them: octal 1107, 2670, 5107, 6670
abbrev pub sync_words : List ℕ
sync_words = 0o1107 ∷ 0o2670 ∷ 0o5107 ∷ 0o6670 ∷ []

-- the sync word of subframe s, from 1 to 4
abbrev pub sync_word : ℕ → ℕ
sync_word s = slice_index sync_words (s - 1)

-- whether word slot k has the sync word of its subframe: it is word 1
abbrev pub is_sync : ℕ → ℕ → Bool
is_sync w k = word_of w k == 1

-- whether word slot k has the frame counter, which is in word `cword` of subframe `csub`
abbrev pub is_counter : ℕ → ℕ → ℕ → ℕ → Bool
is_counter w cword csub k = (subframe_of w k == csub) && (word_of w k == cword)

-- what is in word slot k: a sync word in word 1, else the frame counter in its word and subframe, and else a word of parameters
abbrev pub kind_of : ℕ → ℕ → ℕ → ℕ → SlotKind
kind_of w cword csub k = if is_sync w k then Sync else (if is_counter w cword csub k then Counter else Plain)
