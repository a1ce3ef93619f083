-- What came to an encoder and to a decoder, and what they keep of it.
use Rattle.std.specs.Prelude.{ℕ, ◌≡◌, ◌-◌, ◌<◌, ◌≤◌, ◌%◌, ◌==◌, ◌&&◌, nat_lt, Bool, true, if◌then◌else◌, List, [], ◌∷◌, ◌++◌, length, Option, Some}
use Rattle.std.specs.Prelude.{None, IsSome}
use Rattle.std.specs.declared.result.Result.{Result}
use Rattle.std.specs.declared.result.Result.TheVariants.{Ok, Err}
use Rattle.fdr_biphase.specs.declared.Missing.{Missing}
use Rattle.fdr_biphase.specs.declared.encoder.Encoder.{Encoder}
use Rattle.fdr_biphase.specs.declared.decoder.Decoder.{Decoder}
use Rattle.fdr_biphase.specs.declared.decoder.Fitting.{Fitting}
use Rattle.fdr_biphase.specs.declared.decoder.Fitting.TheVariants.{Both, One}
use Rattle.fdr_biphase.specs.Cells.{bits_of_bytes, level_at, level_after}
use Rattle.fdr_biphase.specs.Phases.{fails_at, cell_bits}
use Rattle.fdr_biphase.specs.Words.{word_bits}

-- The encoder was made with the level `first` before the first cell, and the cells of these bytes were taken from it.
pub record RepresentsEncoder (e : Encoder) (first : Bool) (bytes : List ℕ) : Type 0 where
  pub level : e.level ≡ level_after first (bits_of_bytes bytes)

-- the levels that were pushed since a decoder was made, and the bits that the pushes answered
pub record DecoderPast : Type 0 where
  pub levels : List Bool
  pub bits : List Bool

-- the past of a decoder to which nothing was pushed
abbrev pub decoder_made : DecoderPast
decoder_made = record { levels = []; bits = [] }

-- the bit that an answer of a decoder gives, as a list: of one bit, or empty where it gives none
abbrev pub answered_bit : Option Bool → List Bool
answered_bit None = []
answered_bit (Some bit) = bit ∷ []

-- the place that an answer of a decoder names as missing, if it names one
abbrev pub answered_place : Result (Option Bool) Missing → Option ℕ
answered_place (Ok answer) = None
answered_place (Err m) = Some m.at

-- the past of a decoder after one more pushed level, with the bit that this push answered, if it did
abbrev pub decoder_with : DecoderPast → Bool → Option Bool → DecoderPast
decoder_with past level answer = record { levels = past.levels ++ level ∷ []; bits = past.bits ++ answered_bit answer }

-- the past of a decoder after the 64 levels of one more word, with the 32 bits that were answered for it
abbrev pub with_word : DecoderPast → ℕ → ℕ → DecoderPast
with_word past levels bits = record { levels = past.levels ++ word_bits 64 levels; bits = past.bits ++ word_bits 32 bits }

-- These phases fit the levels, and no other does: both, or one of 0 and 1.
abbrev pub ArePhases : Fitting → List Bool → Type 0
ArePhases Both levels = (fails_at levels 0 ≡ None) × (fails_at levels 1 ≡ None)
ArePhases (One phase) levels = (phase ≤ 1) × (fails_at levels phase ≡ None) × IsSome (fails_at levels (1 - phase))

-- the bit that waits after `count` levels until a phase fails or no level comes, as a list: a 1 where both phases fit and phase 0
-- has a bit more than phase 1, and else none
abbrev pub waiting_bit : Fitting → ℕ → List Bool
waiting_bit Both count = if nat_lt 0 count && (count % 2 == 0) then true ∷ [] else []
waiting_bit (One phase) count = []

-- These levels were pushed to the decoder and these bits answered: the bits of the levels are those that were answered, and at
-- most one that waits.
pub record RepresentsDecoder (d : Decoder) (past : DecoderPast) : Type 0 where
  pub count : d.count ≡ length past.levels
  pub last : 0 < length past.levels → d.last ≡ level_at past.levels (length past.levels - 1)
  pub phases : ArePhases d.fitting past.levels
  pub bits : cell_bits past.levels ≡ past.bits ++ waiting_bit d.fitting d.count
