-- The bus words that are held for sources.
use Rattle.std.specs.Prelude.{ℕ, ◌≡◌, ◌<◌, ◌≤◌, ◌+◌, ◌*◌, ◌%◌, ◌==◌, if◌then◌else◌, List, Option, Some, None, length, map, slice_index, slice_index_or}
use Rattle.std.specs.List.{All}
use Rattle.std.specs.Option.{unwrap_or}
use Rattle.fdr_bus.specs.Words.{label_of}
use Rattle.fdr_sampler.specs.declared.held_words.HeldSource.{HeldSource}
use Rattle.fdr_sampler.specs.declared.timed_word.TimedWord.{TimedWord}
use Rattle.fdr_sampler.specs.Held.{Source, HeldWord}

-- how many pairs of a bus and a label there are: 65,536
abbrev pub bus_labels : ℕ
bus_labels = 65536

-- where a source is in the order of buses and of the first bytes of bus words, which have their labels the other way round
abbrev pub place_of : Source → ℕ
place_of s = s.bus * 256 + label_of s.label

-- sources, and the word that is held for each
pub record HeldBySource : Type 0 where
  pub sources : List Source
  pub words : List (Option HeldWord)

-- what a word that is kept with its time stands for: none where it is 0, since a word that is held has odd parity
abbrev pub as_held_word : TimedWord → Option HeldWord
as_held_word t = if t.word == 0 then None else Some (record { word = t.word; time = t.time })

-- a word that is kept where none is held: 0
abbrev pub no_word : TimedWord
no_word = record { word = 0; time = 0 }

-- the word that is held for a source, of all words that are kept
abbrev pub own_held : List TimedWord → HeldSource → Option HeldWord
own_held words h = as_held_word (slice_index_or words h.at no_word)

-- sources, and the word that is held for each, of all words that are kept
abbrev pub held_by_source : List HeldSource → List TimedWord → HeldBySource
held_by_source held words = record { sources = map (λ (h : HeldSource). h.source) held; words = map (own_held words) held }

-- which of the five words of a bus and a label is a source's, counted from 0: the one of its SDI, or the last one, which is of
-- any SDI
abbrev pub own_word : Option ℕ → ℕ
own_word sdi = unwrap_or sdi 4

-- The numbers say for some pairs of a bus and a label where their five words begin, which are no other pair's, and are 0 for all
-- other pairs. The first five words are of none.
pub record AreLabelStarts (starts : List ℕ) (end : ℕ) : Type 0 where
  pub pairs : length starts ≡ bus_labels
  pub fives : (k : ℕ) → slice_index starts k % 5 ≡ 0
  pub within : (k : ℕ) → slice_index starts k + 5 ≤ end
  pub whole : end % 5 ≡ 0
  pub apart : (k m : ℕ) → 0 < slice_index starts k → slice_index starts k ≡ slice_index starts m → k ≡ m

-- The source's word is the one of its SDI among those of its bus and label.
pub record HasWord (starts : List ℕ) (h : HeldSource) : Type 0 where
  pub begun : 0 < slice_index starts (place_of h.source)
  pub label : h.source.label < 256
  pub at : h.at ≡ slice_index starts (place_of h.source) + own_word h.source.sdi
  pub two_bits : (sdi : ℕ) → h.source.sdi ≡ Some sdi → sdi < 4

-- Each source has its word among this many of them.
pub record AreHeldWords (held : List HeldSource) (starts : List ℕ) (count : ℕ) : Type 0 where
  pub begin : AreLabelStarts starts count
  pub words : All (HasWord starts) held
