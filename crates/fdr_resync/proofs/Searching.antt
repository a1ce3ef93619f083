-- The steps of a search through bytes that may go on.
use Rattle.std.proofs.Common.{◌≡◌, ℕ, ◌+◌, ◌-◌, ◌*◌, ◌<◌, ◌≤◌, max, List, ◌++◌, sym, ◌∙◌, subst, ⊎_elim, arith}
use Rattle.std.proofs.lemmas.Bool.{and_parts, cases_lt, eqb-true}
use Rattle.fdr_bits.specs.Bits.{bits_in, word_at}
use Rattle.fdr_bits.proofs.AppendLemmas.{word_at_append_left}
use Rattle.fdr_frame.specs.Slots.{sync_word}
use Rattle.fdr_lanes.specs.Syncs.{IsSyncPosition, IsFirstSyncFrom, HasNoSyncFrom}
use Rattle.fdr_sync.specs.Frames.{is_frame_position, IsFramePosition}
use Rattle.fdr_sync.proofs.SameLemmas.{frame_append_left}

-- no frame begins from bit `from` up to bit `at`, however the bytes go on
pub record IsClear (b : List ℕ) (w from at : ℕ) : Type 0 where
  pub none : (more : List ℕ) (q : ℕ) → from ≤ q → q < at → IsFramePosition (b ++ more) w q → ⊥

pub clear_at_start : (b : List ℕ) (w from : ℕ) → IsClear b w from from
clear_at_start b w from = record { none = λ more q low high. absurd (omega arith) }

-- a frame begins with the sync word of its first subframe
sync_of_frame : (b : List ℕ) (w p : ℕ) → IsFramePosition b w p → word_at b p ≡ sync_word 1
unfolding is_frame_position
sync_of_frame b w p h = eqb-true (word_at b p) (sync_word 1) (and_parts _ _ (and_parts _ _ (and_parts _ _ (and_parts _ _ h).0).0).0).1

-- no frame begins where the word isn't that sync word
pub clear_without_syncs : (b : List ℕ) (w from at next : ℕ) → IsClear b w from at → ((q : ℕ) → at ≤ q → q < next → IsSyncPosition b q → ⊥)
    → ((q : ℕ) → at ≤ q → q < next → q + 12 ≤ bits_in b) → IsClear b w from next
clear_without_syncs b w from at next clear none within = record {
  none = λ more q low high h. ⊎_elim
      (λ old. clear.none more q low old h)
      (λ new. none q new high (within q new high, sym (word_at_append_left b more q (within q new high)) ∙ sync_of_frame (b ++ more) w q h))
      (cases_lt q at);
}

-- the search goes on a bit after a place where no frame begins
pub clear_past : (b : List ℕ) (w from at : ℕ) → 0 < w → IsClear b w from at → at + 48 * w ≤ bits_in b → (IsFramePosition b w at → ⊥) → IsClear b w from (at + 1)
clear_past b w from at some clear within fails = record {
  none = λ more q low high h. ⊎_elim
      (λ old. clear.none more q low old h)
      (λ new. let here : q ≡ at = omega arith in
      fails (sym (frame_append_left b more w at some within) ∙ subst (IsFramePosition (b ++ more) w) here h))
      (cases_lt q at);
}

-- it goes on to the next such word
pub clear_to_sync : (b : List ℕ) (w from at p : ℕ) → IsClear b w from at → IsFirstSyncFrom b at p → IsClear b w from p
clear_to_sync b w from at p clear h =
    let within : p + 12 ≤ bits_in b = h.position.0 in
    clear_without_syncs b w from at p clear h.first (λ q low high. omega arith)

-- and where there is none, to the last 11 bits, in which one may begin
pub clear_to_end : (b : List ℕ) (w from at next : ℕ) → IsClear b w from at → HasNoSyncFrom b at → next ≡ max at (bits_in b - 11) → IsClear b w from next
clear_to_end b w from at next clear none is =
    clear_without_syncs b w from at next clear (λ q low high. none q low) (λ q low high. omega arith)
