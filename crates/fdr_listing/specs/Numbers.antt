-- The texts of numbers that are ready.
use Rattle.std.specs.Prelude.{ℕ, ◌≡◌, ◌^◌, ◌++◌, List, codes, map, decimal}
use Rattle.std.specs.List.{range_with_len}
use Rattle.fdr_listing.specs.Text.{fraction_text}

-- what ends a line after a whole part: a point and the d digits of n, or nothing for no digits, and a line feed
unfoldable pub fraction_end : ℕ → ℕ → List ℕ
fraction_end d n = fraction_text n d ++ codes "\n"

-- a unit, 10^d, and what ends a line for each number below it: the texts of fractions that are ready
pub record ReadyFractions : Type 0 where
  pub unit : ℕ
  pub ends : List (List ℕ)

-- the texts of all fractions of d digits, each with a line feed
abbrev pub ready_fractions : ℕ → ReadyFractions
ready_fractions d = record { unit = 10 ^ d; ends = map (fraction_end d) (range_with_len 0 (10 ^ d)) }

-- The texts are ready of the whole numbers below 4,096, and of the fractions of up to three digits.
pub record AreNumberTexts (whole : List (List ℕ)) (fractions : List ReadyFractions) : Type 0 where
  pub whole_numbers : whole ≡ map decimal (range_with_len 0 4096)
  pub by_digits : fractions ≡ map ready_fractions (range_with_len 0 4)
