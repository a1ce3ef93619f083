-- Bits as a word.
use Rattle.std.specs.Prelude.{ℕ, ◌==◌, Bool, List, map}
use Rattle.std.specs.List.{range_with_len}
use Rattle.std.specs.Int.{bit_at}

-- the `count` lowest bits of a word, the least significant first
unfoldable pub word_bits : ℕ → ℕ → List Bool
word_bits count word = map (λ j. bit_at word j == 1) (range_with_len 0 count)
