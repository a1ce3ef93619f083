-- The sessions of the blocks of an image, and of its last one.
use Rattle.std.proofs.Common.{◌≡◌, ⊎_elim, ℕ, zero, suc, ◌-◌, ◌%◌, ◌<◌, List, [], ◌∷◌, Some, None, refl, sym, ap, ◌∙◌, arith}
use Rattle.std.proofs.lemmas.Bool.{cases_Bool}
use Rattle.fdr_lists.proofs.Options.{some_or_none}
use Rattle.fdr_slot.specs.declared.image.Header.{Header}
use Rattle.fdr_slot.specs.Heads.{is_valid}
use Rattle.fdr_slot.proofs.HeadLemmas.{session_in-first}
use Rattle.fdr_recover.specs.Blocks.{Block, Slots, standing_block, run_below}
use Rattle.fdr_recover.specs.Images.{head_at, block_of, block_in, block_numbered, blocks_below, session_of_slot, session_at}
use Rattle.fdr_recover.specs.Stretches.{last_session}
use Rattle.fdr_recover.proofs.Standing.{standing_block-stands}
use Rattle.fdr_recover.proofs.Runs.{run_below-none, run_below-some}
use Rattle.fdr_recover.proofs.BlockLemmas.{block_in-valid, block_in-invalid}
use Rattle.fdr_recover.proofs.Stretching.{last_session-push}

-- the last block below a number is the one before it, where that is in its slot
pub last_session-below : (n : ℕ) (slots : Slots) (number : ℕ)
    → last_session (run_below n slots (suc number)) ≡ session_of_slot (standing_block n slots number)
last_session-below n slots number = ⊎_elim
    (λ none. ap last_session (run_below-none n slots number none) ∙ sym (ap session_of_slot none))
    (λ some. ap last_session (run_below-some n slots number some.0 some.1)
    ∙ last_session-push (run_below n slots number) some.0
    ∙ sym (ap session_of_slot some.1))
    (some_or_none (standing_block n slots number))

-- the session of the blocks below a number
pub last_session-at : (h : Header) (image : List ℕ) (next : ℕ) → 0 < next → last_session (blocks_below h image next) ≡ session_at h image (next - 1)
unfolding blocks_below block_numbered
last_session-at h image next some =
    let whole : next ≡ suc (next - 1) = omega (arith, some) in
    ap (λ k. last_session (run_below h.slots (block_in h image) k)) whole ∙ last_session-below h.slots (block_in h image) (next - 1)

pub last_session-none : (h : Header) (image : List ℕ) (next : ℕ) → next ≡ 0 → last_session (blocks_below h image next) ≡ 0
unfolding blocks_below
last_session-none h image next none = ap (λ k. last_session (run_below h.slots (block_in h image) k)) none

-- in version 1 no block has a session
pub block_in-first : (h : Header) (image : List ℕ) (i : ℕ) (b : Block) → h.version ≡ 1 → block_in h image i ≡ Some b → b.session ≡ 0
block_in-first h image i b first is = ⊎_elim
    (λ valid. let held = block_in-valid h image i valid in
    let found : Some (block_of h image i (head_at h image i)) ≡ Some b = sym held ∙ is in
    let block : block_of h image i (head_at h image i) ≡ b = cc in
    ap (λ (x : Block). x.session) (sym block) ∙ session_in-first h (head_at h image i) first)
    (λ invalid. let none = block_in-invalid h image i invalid in absurd (cc))
    (cases_Bool (is_valid h i (head_at h image i)))

pub last_session-first : (h : Header) (image : List ℕ) (number : ℕ) → h.version ≡ 1 → last_session (blocks_below h image number) ≡ 0
unfolding blocks_below
last_session-first h image zero first = refl
last_session-first h image (suc number) first = ⊎_elim
    (λ none. last_session-below h.slots (block_in h image) number ∙ ap session_of_slot none)
    (λ some. last_session-below h.slots (block_in h image) number
    ∙ ap session_of_slot some.1
    ∙ block_in-first h image (some.0.number % h.slots) some.0 first (standing_block-stands h.slots (block_in h image) number some.0 some.1).1)
    (some_or_none (standing_block h.slots (block_in h image) number))
