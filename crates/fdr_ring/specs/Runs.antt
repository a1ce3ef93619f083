-- What the calls of a ring leave of the recovered run.
use Rattle.std.specs.Prelude.{◌≡◌, ◌⊎◌, ◌≤◌, ℕ, ◌+◌, ◌-◌, List, [], ◌∷◌, ◌++◌, length, drop, min}
use Rattle.fdr_slot.specs.declared.image.Header.{Header}
use Rattle.fdr_recover.specs.Blocks.{Block}
use Rattle.fdr_recover.specs.Images.{recovered_run, next_of}
use Rattle.fdr_ring.specs.Gates.{KeepsHeader}

-- The part is the whole list of blocks except for its oldest, with at least `least` of them where there are as many.
pub record IsTail (least : ℕ) (whole part : List Block) : Type 0 where
  pub lost : ℕ
  pub within : lost ≤ length whole
  pub tail : part ≡ drop lost whole
  pub enough : min least (length whole) ≤ length part

-- the last blocks of a run, at most this many
abbrev pub last_blocks : ℕ → List Block → List Block
last_blocks most run = drop (length run - most) run

-- Length, header and next number of the image are as they were, and of its recovered run only the oldest blocks may be gone: at
-- least `least` are there where there were as many.
pub record KeepsRun (h : Header) (least : ℕ) (old new : List ℕ) : Type 0 where
  pub kept : KeepsHeader old new
  pub run : IsTail least (recovered_run h old) (recovered_run h new)
  pub next : next_of h new ≡ next_of h old

-- Length, header, next number and recovered run of the image are as they were.
pub record HasSame (h : Header) (old new : List ℕ) : Type 0 where
  pub kept : KeepsHeader old new
  pub run : recovered_run h new ≡ recovered_run h old
  pub next : next_of h new ≡ next_of h old

-- Length and header of the image are as they were, and its recovered run has the block b more, after it.
pub record HasAdded (h : Header) (b : Block) (old new : List ℕ) : Type 0 where
  pub kept : KeepsHeader old new
  pub run : recovered_run h new ≡ recovered_run h old ++ b ∷ []
  pub next : next_of h new ≡ next_of h old + 1

-- Length and header of the image are as they were, and its recovered run is as it was, or has the block b more.
abbrev pub MayAdd : Header → Block → List ℕ → List ℕ → Type 0
MayAdd h b old new = HasSame h old new ⊎ HasAdded h b old new
