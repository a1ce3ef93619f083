-- The tables whose samples can be read back from their frames.
use Rattle.std.specs.Prelude.{◌≡◌, ℕ, ◌+◌, ◌*◌, ◌/◌, ◌%◌, ◌^◌, ◌<◌, ◌≤◌, ◌⊎◌, List, Some, All, Contains, IsTrue, slice_get, sum_by}
use Rattle.fdr_frame.specs.declared.SlotKind.TheVariants.{Plain}
use Rattle.fdr_frame.specs.Slots.{kind_of}
use Rattle.fdr_frame.specs.WordCount.{IsWordCount}
use Rattle.fdr_table.specs.Rows.{FrameRow, ParamRow, TableRows}
use Rattle.fdr_layout.specs.SlotParts.{SlotPart, all_parts}
use Rattle.fdr_layout.specs.Samples.{Part, Sample, samples}
use Rattle.fdr_sampler.specs.SlotWord.{piece_of}

-- a part lies within one word of the superframe, which has neither a sync word nor the counter
pub record IsPlaced (f : FrameRow) (p : Part) : Type 0 where
  pub within : p.at % 12 + p.width ≤ 12
  pub slot : p.at / 12 < 64 * f.words
  pub plain : kind_of f.words f.cword f.csub (p.at / 12) ≡ Plain

-- two parts share no bit
abbrev pub AreApart : SlotPart → SlotPart → Type 0
AreApart a b = (a.part.at + a.part.width ≤ b.part.at) ⊎ (b.part.at + b.part.width ≤ a.part.at)

-- the pieces of each raw value of the parameter make it up
abbrev pub AreWhole : ParamRow → List Part → Type 0
AreWhole p parts = (raw : ℕ) → raw < 2 ^ p.width → sum_by (λ (q : Part). piece_of raw q * 2 ^ q.shift) parts ≡ raw

pub record IsRecordable (t : TableRows) : Type 0 where
  pub words : IsWordCount t.frame.words
  pub cword_low : 2 ≤ t.frame.cword
  pub cword_high : t.frame.cword ≤ t.frame.words
  pub csub_low : 1 ≤ t.frame.csub
  pub csub_high : t.frame.csub ≤ 4
  pub placed : All (λ (a : SlotPart). IsPlaced t.frame a.part) (all_parts t)
  pub apart : (a b : SlotPart) → Contains (all_parts t) a → Contains (all_parts t) b → (b ≡ a) ⊎ AreApart a b
  pub whole : (n : ℕ) (s : Sample) → slice_get (samples t) n ≡ Some s → (p : ParamRow) × (slice_get t.params s.param ≡ Some p) × AreWhole p s.parts
  pub telling : (n : ℕ) (p : ParamRow) → slice_get t.params n ≡ Some p → IsTrue p.tells → p.width ≡ 1
