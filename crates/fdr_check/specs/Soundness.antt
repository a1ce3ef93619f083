-- The tables that a recorder can be built from.
use Rattle.std.specs.Prelude.{ℕ, ◌+◌, ◌*◌, ◌/◌, ◌%◌, ◌<◌, ◌≤◌, ◌≡◌, ◌≢◌, Bool, ◌&&◌, nat_le, nat_lt, IsTrue, List, length, Some, All, AllPairs, slice_get}
use Rattle.std.specs.Prelude.{sum_by}
use Rattle.std.specs.List.{list_any, range_with_len}
use Rattle.fdr_frame.specs.Slots.{is_counter}
use Rattle.fdr_table.specs.Rows.{FrameRow, ParamRow, PlaceRow, TableRows}
use Rattle.fdr_check.specs.Occurrences.{frame_bits, occurs, occurrences, is_part, part_occurrences, part_width}

-- whether bit b of the superframe is one of an occurrence of the place
abbrev pub covers : ℕ → PlaceRow → ℕ → Bool
covers w p b = occurs w p (b / 12) && nat_le p.lsb (b % 12 + 1) && nat_lt (b % 12 + 1) (p.lsb + p.width)

-- The two places have no occurrences that share a bit.
abbrev pub ShareNoBit : ℕ → PlaceRow → PlaceRow → Type 0
ShareNoBit w p q = (b : ℕ) → b < 16 * frame_bits w → IsTrue (covers w p b) → IsTrue (covers w q b) → ⊥

-- No occurrence of the place is in the counter's word.
abbrev pub IsOffCounter : FrameRow → PlaceRow → Type 0
IsOffCounter f p = (k : ℕ) → k < 64 * f.words → IsTrue (occurs f.words p k) → IsTrue (is_counter f.words f.cword f.csub k) → ⊥

-- whether some place carries this part of the parameter with this index
abbrev pub has_part : List PlaceRow → ℕ → ℕ → Bool
has_part places param part = list_any (is_part param part) places

-- The parts of the parameter with this index are numbered from 1 on with none missing, the places of each have one width, and the
-- widths of all parts add to the parameter's.
pub record HasParts (places : List PlaceRow) (param : ℕ) (p : ParamRow) : Type 0 where
  pub count : ℕ
  pub not_empty : 1 ≤ count
  pub numbers : All (λ (l : PlaceRow). l.param ≡ param → l.part ≤ count) places
  pub none_missing : (part : ℕ) → 1 ≤ part → part ≤ count → IsTrue (has_part places param part)
  pub widths : All (λ (l : PlaceRow). l.param ≡ param → l.width ≡ part_width places param l.part) places
  pub whole : p.width ≡ sum_by (part_width places param) (range_with_len 1 count)

-- Each part of the parameter with this index occurs in a superframe as often as the parameter's rate says.
abbrev pub HasRate : ℕ → List PlaceRow → ℕ → ParamRow → Type 0
HasRate w places param p = (part : ℕ) → IsTrue (has_part places param part) → length (part_occurrences w places param part) ≡ p.rate

-- how often all parts together may occur in a superframe: 262,144 times
unfoldable pub most_superframe_parts : ℕ
most_superframe_parts = 262144

-- The table is sound: no word is above the number of words, no place is on word 1 or on the counter, no two places share a bit,
-- each parameter has its parts and its rate, and there aren't too many parts.
pub record IsSound (t : TableRows) : Type 0 where
  pub cword : t.frame.cword ≤ t.frame.words
  pub words : All (λ (p : PlaceRow). p.word ≤ t.frame.words) t.places
  pub sync : All (λ (p : PlaceRow). p.word ≢ 1) t.places
  pub counter : All (IsOffCounter t.frame) t.places
  pub apart : AllPairs (ShareNoBit t.frame.words) t.places
  pub parts : (n : ℕ) (p : ParamRow) → slice_get t.params n ≡ Some p → HasParts t.places n p
  pub rates : (n : ℕ) (p : ParamRow) → slice_get t.params n ≡ Some p → HasRate t.frame.words t.places n p
  pub within_superframe : length (occurrences t.frame.words t.places) ≤ most_superframe_parts
