-- Recordings that differ only in the order of two bus words.
use Rattle.std.specs.Prelude.{◌≡◌, ◌≢◌, ◌⊎◌, List, ◌∷◌, ◌++◌}
use Rattle.fdr_bus.specs.declared.BusRecord.{BusRecord}
use Rattle.fdr_bus.specs.declared.RecordKind.TheVariants.{Word}
use Rattle.fdr_bus.specs.Words.{label_of}

-- Two bus words came at one time, on different buses or with different labels.
pub record AreTogether (a b : BusRecord) : Type 0 where
  pub first : a.kind ≡ Word
  pub second : b.kind ≡ Word
  pub time : a.time ≡ b.time
  pub apart : (a.bus ≢ b.bus) ⊎ (label_of a.word ≢ label_of b.word)

-- The records differ only in the order of two neighbours that are bus words of one time, on different buses or with different
-- labels.
pub record AreExchanged (records others : List BusRecord) : Type 0 where
  pub before : List BusRecord
  pub a : BusRecord
  pub b : BusRecord
  pub after : List BusRecord
  pub together : AreTogether a b
  pub one : records ≡ before ++ a ∷ b ∷ after
  pub other : others ≡ before ++ b ∷ a ∷ after
