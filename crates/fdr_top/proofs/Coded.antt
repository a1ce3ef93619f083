-- What `encode` and `decode` promise of their input.
use Rattle.std.proofs.Common.{◌≡◌, ◌⊎◌, inl, inr, ⊎_elim, ℕ, ◌+◌, ◌<◌, List, ◌++◌, take}
use Rattle.std.proofs.Common.{Option, None, Some, ap, sym, refl, ◌∙◌, ◌-◌, [], length, append-nil, subst, false}
use Rattle.std.specs.Prelude.{IsTrue}
use Rattle.fdr_io.specs.Faults.{Rose}
use Rattle.fdr_io.specs.Told.{followed_by}
use Rattle.fdr_io.specs.Output.{Emits}
use Rattle.fdr_deck.specs.State.{State, Tells}
use Rattle.fdr_biphase.specs.Cells.{bits_of_bytes}
use Rattle.fdr_biphase.specs.Packed.{decoded_bytes}
use Rattle.fdr_biphase.specs.Phases.{missing_place}
use Rattle.fdr_biphase.specs.Reading.{MissesLevel, ReadsLevels}
use Rattle.fdr_biphase.specs.declared.reader.LevelReader.{LevelReader}
use Rattle.fdr_biphase.proofs.CellLemmas.{have_cells, only_cells}
use Rattle.fdr_biphase.proofs.Struck.{bits_of_struck, both_fit, same_bits}
use Rattle.fdr_biphase.proofs.Texts.{missed_place, reads_none_missing}
use Rattle.fdr_biphase.proofs.Turned.{same_bits_turned, same_missing_turned}
use Rattle.fdr_pieces.specs.Pieces.{EndsInput, PullsPieces, before_last, last_piece}
use Rattle.fdr_pieces.specs.declared.pieces.InputEnd.{InputEnd}
use Rattle.fdr_pieces.specs.declared.pieces.InputEnd.TheVariants as input_end
use Rattle.fdr_top.specs.Coding.{HasEncoded, SinkState}
use Rattle.fdr_top.specs.Decode.{DecodesLevels, IsMissing}
use Rattle.fdr_top.specs.Encode.{EncodesInput, levels_text}
use Rattle.fdr_pieces.specs.Limits.{most_input_bytes}
use Rattle.fdr_top.specs.InputTexts.{WritesFront, WritesOfInput, answer_of}
use Rattle.fdr_top.specs.declared.encoding.Encoding.{Encoding}
use Rattle.fdr_top.specs.declared.outcome.Outcome.{Outcome}
use Rattle.fdr_top.specs.declared.outcome.Outcome.TheVariants as outcome
use Rattle.fdr_top.proofs.InputTexts.{all_pulled, all_taken, end_not_missing, end_too_long, line_begins, missing_answer}
use Rattle.fdr_top.proofs.InputTexts.{writes_all, writes_missing}

-- ---- levels of bits

pub encodes : (tells : Tells) (old new : State) (start now : Option (List ℕ)) (answer : Outcome)
    → WritesOfInput levels_text tells old new start now answer
    → (old.taken + most_input_bytes < new.taken → (answer ≡ outcome.TooLong) ⊎ (answer ≡ outcome.WriteFault)) → EncodesInput tells old new start now answer
encodes tells old new start now answer all too_long = record {
  encodes = all;
  too_long_always = too_long;
  cells = λ bytes. have_cells false (bits_of_bytes bytes);
  only = λ bytes. only_cells false (bits_of_bytes bytes);
}

-- all that was taken went out, or waits to
pub taken_emits : (e : Encoding) (old new : State) (pulled : List ℕ) (before mid : SinkState)
    → HasEncoded e (before_last most_input_bytes old new pulled ++ last_piece most_input_bytes old new pulled) before mid
    → Emits before.written mid.written [] e.text (levels_text (take most_input_bytes pulled))
taken_emits e old new pulled before mid had =
    subst (λ (xs : List ℕ). Emits before.written mid.written [] e.text (levels_text xs)) (all_taken old new pulled) had.emits

-- ---- bits of levels

decodes : (tells : Tells) (old new : State) (start now : Option (List ℕ)) (answer : Outcome) (all : WritesOfInput decoded_bytes tells old new start now answer)
    → ((at : ℕ) → answer ≡ outcome.CellFault at → IsMissing all.pulled at)
    → ((at : ℕ) → IsMissing all.pulled at → (answer ≡ outcome.CellFault at) ⊎ (answer ≡ outcome.WriteFault))
    → ((at : ℕ) → answer ≡ outcome.CellFault at → IsTrue tells.input → IsMissing old.input at)
    → ((at : ℕ) → IsTrue tells.input → IsMissing old.input at → (Rose old.input_faults new.input_faults → ⊥)
    → (answer ≡ outcome.CellFault at) ⊎ (answer ≡ outcome.WriteFault))
    → (old.taken + most_input_bytes < new.taken
    → (answer ≡ outcome.TooLong) ⊎ ((answer ≡ outcome.WriteFault) ⊎ ((at : ℕ) × (answer ≡ outcome.CellFault at))))
    → DecodesLevels tells old new start now answer
decodes tells old new start now answer all missing always of_line always_of_line too_long = record {
  decodes = all;
  missing = missing;
  missing_always = always;
  missing_of_line = of_line;
  missing_always_of_line = always_of_line;
  too_long_always = too_long;
  reads_back = bits_of_struck;
  both_fit = both_fit;
  same_bits = same_bits;
  turned = same_bits_turned;
  turned_missing = same_missing_turned;
}

-- a place that is missing isn't
none_is_missing : (bytes : List ℕ) (at : ℕ) → missing_place (bits_of_bytes (take most_input_bytes bytes)) ≡ None → IsMissing bytes at → ⊥
none_is_missing bytes at none found = let c : Some at ≡ None = sym found ∙ none in cc

-- the sink failed
pub decodes_failed : (tells : Tells) (old new : State) (start now : Option (List ℕ)) → WritesOfInput decoded_bytes tells old new start now outcome.WriteFault
    → DecodesLevels tells old new start now outcome.WriteFault
decodes_failed tells old new start now all = decodes tells old new start now outcome.WriteFault all
    (λ at e. absurd (cc)) (λ at found. inr refl) (λ at e told. absurd (cc)) (λ at told found quiet. inr refl) (λ many. inr (inl refl))

-- the input was pulled to its end, and all was written
pub decodes_all : (r : LevelReader) (decoded : List ℕ) (tells : Tells) (old new : State) (start now : Option (List ℕ)) (pulled : List ℕ) (end : InputEnd)
    → PullsPieces most_input_bytes tells old new pulled → EndsInput most_input_bytes tells new pulled end
    → (end ≡ input_end.Fault → Rose old.input_faults new.input_faults)
    → ReadsLevels r (bits_of_bytes (before_last most_input_bytes old new pulled ++ last_piece most_input_bytes old new pulled)) decoded
    → now ≡ followed_by start (decoded_bytes (take most_input_bytes pulled)) → DecodesLevels tells old new start now (answer_of end)
decodes_all r decoded tells old new start now pulled end pieces ends fault reads all =
    let none = subst (λ (xs : List ℕ). missing_place (bits_of_bytes xs) ≡ None) (all_taken old new pulled)
    (reads_none_missing r (before_last most_input_bytes old new pulled ++ last_piece most_input_bytes old new pulled) decoded reads) in
    decodes tells old new start now (answer_of end) (writes_all decoded_bytes tells old new start now pulled end pieces ends fault all)
    (λ at e. absurd (end_not_missing end at e))
    (λ at found. absurd (none_is_missing pulled at none found))
    (λ at e told. absurd (end_not_missing end at e))
    (λ at told found quiet. absurd (none_is_missing pulled at none
    (ap (λ (xs : List ℕ). missing_place (bits_of_bytes xs)) (all_pulled tells old new pulled end pieces.takes ends (λ e. quiet (fault e)) told) ∙ found)))
    (λ many. ⊎_elim (λ x. inl x) (λ x. inr (inl x)) (end_too_long tells old new pulled end pieces.takes ends many))

-- the place that an answer names
abbrev place_of : Outcome → Option ℕ
place_of (outcome.CellFault at) = Some at
place_of answer = None

same_place : (at other : ℕ) → outcome.CellFault at ≡ outcome.CellFault other → Some at ≡ Some other
same_place at other e = ap place_of e

-- and the answer that names it
abbrev fault_at : Option ℕ → Outcome
fault_at (Some at) = outcome.CellFault at
fault_at None = outcome.Done

same_fault : (at other : ℕ) → Some at ≡ Some other → outcome.CellFault at ≡ outcome.CellFault other
same_fault at other e = ap fault_at e

-- a place is missing, and the bits before it were written
pub decodes_missing : (r : LevelReader) (decoded : List ℕ) (at : ℕ) (tells : Tells) (old new : State) (start now : Option (List ℕ)) (pulled : List ℕ)
    → PullsPieces most_input_bytes tells old new pulled
    → MissesLevel r (bits_of_bytes (before_last most_input_bytes old new pulled ++ last_piece most_input_bytes old new pulled)) decoded at
    → ((more : List ℕ) → now ≡ followed_by start (decoded_bytes (take most_input_bytes pulled ++ more)))
    → ((more : List ℕ) → WritesFront (decoded_bytes (take most_input_bytes pulled ++ more)) start now)
    → DecodesLevels tells old new start now (outcome.CellFault at)
decodes_missing r decoded at tells old new start now pulled pieces misses all front =
    let bytes = before_last most_input_bytes old new pulled ++ last_piece most_input_bytes old new pulled in
    let place = λ (more : List ℕ). subst (λ (xs : List ℕ). missing_place (bits_of_bytes (xs ++ more)) ≡ Some at) (all_taken old new pulled)
    (missed_place r bytes more decoded at misses) in
    let here : IsMissing pulled at = ap (λ (xs : List ℕ). missing_place (bits_of_bytes xs)) (sym (append-nil (take most_input_bytes pulled))) ∙ place [] in
    let of_line : IsTrue tells.input → IsMissing old.input at = λ told.
    subst (λ (xs : List ℕ). missing_place (bits_of_bytes xs) ≡ Some at) (line_begins pulled new.input old.input (pieces.takes.input told))
    (place (take (most_input_bytes - length pulled) new.input)) in
    decodes tells old new start now (outcome.CellFault at)
    (writes_missing decoded_bytes tells old new start now pulled (outcome.CellFault at) pieces (missing_answer tells new pulled at)
    (λ more other. all more) front)
    (λ other e. here ∙ same_place at other e)
    (λ other found. inl (same_fault at other (sym here ∙ found)))
    (λ other e told. of_line told ∙ same_place at other e)
    (λ other told found quiet. inl (same_fault at other (sym (of_line told) ∙ found)))
    (λ many. inr (inr (at, refl)))
