-- The last block of a recording.
use Rattle.std.proofs.Common.{◌≡◌, ℕ, ◌+◌, ◌-◌, ◌^◌, ◌<◌, min, List, [], ◌∷◌, length, take, ap, sym, ◌∙◌, subst, arith}
use Rattle.fdr_deck.specs.State.{State, Tells}
use Rattle.fdr_slot.specs.declared.image.Header.{Header}
use Rattle.fdr_recover.specs.Blocks.{Block}
use Rattle.fdr_stream.specs.Blocks.{cut_block, blocks_of}
use Rattle.fdr_recorder.specs.Recording.{RecordsAllOf, HasEnded}
use Rattle.fdr_recorder.specs.Past.{RecordingPast, recorded_bytes, due_count, blocks_from, rest_of}
use Rattle.fdr_recorder.proofs.Composing.{RecordsAllOf-here}

pub rest-none : (past : RecordingPast) (n : ℕ) → length (blocks_of past.header.payload (recorded_bytes past)) ≡ due_count past + min n 1 → n ≡ 0
    → rest_of past ≡ []
rest-none past n count none =
    let zero : length (blocks_of past.header.payload (recorded_bytes past)) - due_count past ≡ 0 = omega (arith, count, none) in
    ap (λ m. blocks_from past (due_count past) m) zero

pub rest-one : (past : RecordingPast) (n next session : ℕ) (bytes : List ℕ) → length
    (blocks_of past.header.payload (recorded_bytes past)) ≡ due_count past + min n 1 → 0 < n
    → next ≡ past.first + due_count past → session ≡ past.session
    → bytes ≡ cut_block past.header.payload (recorded_bytes past) (due_count past)
    → rest_of past ≡ record { number = next; session = session; payload = bytes } ∷ []
rest-one past n next session bytes count some at of is =
    let one : length (blocks_of past.header.payload (recorded_bytes past)) - due_count past ≡ 1 = omega (arith, count, some) in
    ap (λ m. blocks_from past (due_count past) m) one
    ∙ ap (λ (k : ℕ). record { number = k; session = past.session; payload = cut_block past.header.payload (recorded_bytes past) (due_count past) } ∷ [])
    (sym at)
    ∙ ap (λ (m : ℕ). record { number = next; session = m; payload = cut_block past.header.payload (recorded_bytes past) (due_count past) } ∷ []) (sym of)
    ∙ ap (λ (l : List ℕ). record { number = next; session = session; payload = l } ∷ []) (sym is)

-- there was no number for it
pub HasEnded-rest : (tells : Tells) (h : Header) (next : ℕ) (b : Block) (d : State) → next ≡ 2 ^ 48 → HasEnded tells h next (b ∷ []) d d
HasEnded-rest tells h next b d ends =
    let none : 2 ^ 48 - next ≡ 0 = omega (arith, ends) in
    record {
      beyond = omega (arith, ends);
      recorded = subst (λ n. RecordsAllOf tells h next (take n (b ∷ [])) d d) (sym none) (RecordsAllOf-here tells h next d);
    }
