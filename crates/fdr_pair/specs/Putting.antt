-- What a block that is put on a disk leaves.
use Rattle.std.specs.Prelude.{◌≡◌, ◌⊎◌, ℕ, ◌+◌, ◌-◌, List, [], ◌∷◌, ◌++◌}
use Rattle.fdr_slot.specs.declared.image.Header.{Header}
use Rattle.fdr_recover.specs.Blocks.{Block}
use Rattle.fdr_recover.specs.Images.{recovered_run, next_of}
use Rattle.fdr_ring.specs.Gates.{KeepsHeader}
use Rattle.fdr_ring.specs.Runs.{IsTail, KeepsRun, last_blocks}

-- The block b is after the run, of which at least the last N - 2 blocks are kept, b among them.
pub record HasPut (h : Header) (b : Block) (old new : List ℕ) : Type 0 where
  pub kept : KeepsHeader old new
  pub run : IsTail (h.slots - 2) (recovered_run h old ++ b ∷ []) (recovered_run h new)
  pub next : next_of h new ≡ next_of h old + 1

-- Of a list that the run was the last N - 1 blocks of, it is now the last N - 1 with these blocks after it.
abbrev pub AddsExactly : Header → List Block → List ℕ → List ℕ → Type 0
AddsExactly h new old now =
    (whole : List Block) → recovered_run h old ≡ last_blocks (h.slots - 1) whole → recovered_run h now ≡ last_blocks (h.slots - 1) (whole ++ new)

-- The block b is after the run, or there is no such block; at least the last N - 2 blocks are kept.
abbrev pub MayPut : Header → Block → List ℕ → List ℕ → Type 0
MayPut h b old new = KeepsRun h (h.slots - 2) old new ⊎ HasPut h b old new
