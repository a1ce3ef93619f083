-- An input that is pulled to its end, and the text that is written of it.
use Rattle.std.proofs.Common.{◌≡◌, ◌≢◌, ◌⊎◌, ℕ, ◌+◌, ◌-◌, ◌<◌, List, [], ◌++◌, length, take, Option, ap, sym, refl, ◌∙◌, append-nil}
use Rattle.std.proofs.Common.{arith, inl, inr, subst}
use Rattle.std.specs.Prelude.{IsTrue}
use Rattle.std.proofs.lemmas.Bool.{cases_lt}
use Rattle.std.proofs.lemmas.List.{take_all, take-append-drop, take-append-le}
use Rattle.std.proofs.Math.Seq.{take-append-add}
use Rattle.fdr_io.specs.Faults.{Rose}
use Rattle.fdr_io.specs.Told.{followed_by}
use Rattle.fdr_io.specs.declared.Input.TheVariants as input
use Rattle.fdr_io.proofs.OutputSteps.{whole_is_part}
use Rattle.fdr_deck.specs.State.{State, Tells}
use Rattle.fdr_deck.specs.Pull.{TakesInput}
use Rattle.fdr_pieces.specs.Pieces.{EndsInput, PullsPieces, before_last, last_piece}
use Rattle.fdr_pieces.specs.declared.pieces.InputEnd.{InputEnd}
use Rattle.fdr_pieces.specs.declared.pieces.InputEnd.TheVariants as input_end
use Rattle.fdr_words.specs.Forms.{Form}
use Rattle.fdr_top.specs.Answers.{IsOwn, PullsBits, PullsInput}
use Rattle.fdr_top.specs.Coding.{SinkState, StopsWriting}
use Rattle.fdr_pieces.specs.Limits.{most_input_bytes}
use Rattle.fdr_top.specs.InputTexts.{AnswersEnd, WritesFront, WritesOfInput, answer_of}
use Rattle.fdr_top.specs.declared.outcome.Outcome.{Outcome}
use Rattle.fdr_top.specs.declared.outcome.Outcome.TheVariants as outcome

-- ---- what is pulled

-- what is taken of an input begins with what is taken of its first bytes
pub line_begins : (pulled left line : List ℕ) → line ≡ pulled ++ left
    → take most_input_bytes pulled ++ take (most_input_bytes - length pulled) left ≡ take most_input_bytes line
line_begins pulled left line split = elim (cases_lt most_input_bytes (length pulled)) [
  | inl many ↦
      let none : most_input_bytes - length pulled ≡ 0 = omega arith in
      ap (λ n. take most_input_bytes pulled ++ take n left) none ∙ append-nil (take most_input_bytes pulled)
      ∙ sym (take-append-le most_input_bytes pulled left (omega (arith, many))) ∙ ap (take most_input_bytes) (sym split)
  | inr few ↦
      let rest : length pulled + (most_input_bytes - length pulled) ≡ most_input_bytes = omega arith in
      ap (λ (xs : List ℕ). xs ++ take (most_input_bytes - length pulled) left) (take_all most_input_bytes pulled few)
      ∙ sym (take-append-add pulled left (most_input_bytes - length pulled)) ∙ ap (λ n. take n (pulled ++ left)) rest
      ∙ ap (take most_input_bytes) (sym split)
]

-- where no pull failed, all of the input that is taken was pulled
pub all_pulled : (tells : Tells) (old new : State) (pulled : List ℕ) (end : InputEnd) → TakesInput tells old new pulled
    → EndsInput most_input_bytes tells new pulled end
    → (end ≡ input_end.Fault → ⊥) → IsTrue tells.input → take most_input_bytes pulled ≡ take most_input_bytes old.input
all_pulled tells old new pulled input_end.End takes ends quiet told =
    ap (take most_input_bytes) (sym (append-nil pulled) ∙ ap (λ (xs : List ℕ). pulled ++ xs) (sym (ends.empty refl told)) ∙ sym (takes.input told))
all_pulled tells old new pulled input_end.Fault takes ends quiet told = absurd (quiet refl)
all_pulled tells old new pulled input_end.TooLong takes ends quiet told =
    let many = ends.many refl in
    sym (take-append-le most_input_bytes pulled new.input (omega (arith, many))) ∙ ap (take most_input_bytes) (sym (takes.input told))

-- what was taken
pub all_taken : (old new : State) (pulled : List ℕ)
    → before_last most_input_bytes old new pulled ++ last_piece most_input_bytes old new pulled ≡ take most_input_bytes pulled
all_taken old new pulled = take-append-drop (new.pulled_before - old.taken) (take most_input_bytes pulled)

-- ---- what is answered

pub ends_answer : (tells : Tells) (new : State) (pulled : List ℕ) (end : InputEnd) → EndsInput most_input_bytes tells new pulled end
    → AnswersEnd tells new pulled (answer_of end)
ends_answer tells new pulled input_end.End ends = record {
  done_within_limit = λ e. ends.end_within_limit refl;
  fault_within_limit = λ e. absurd (cc);
  many = λ e. absurd (cc);
  end = λ e. ends.empty refl;
}
ends_answer tells new pulled input_end.Fault ends = record {
  done_within_limit = λ e. absurd (cc);
  fault_within_limit = λ e. ends.fault_within_limit refl;
  many = λ e. absurd (cc);
  end = λ e. absurd (cc);
}
ends_answer tells new pulled input_end.TooLong ends = record {
  done_within_limit = λ e. absurd (cc);
  fault_within_limit = λ e. absurd (cc);
  many = λ e. ends.many refl;
  end = λ e. absurd (cc);
}

pub cut_answer : (tells : Tells) (new : State) (pulled : List ℕ) → AnswersEnd tells new pulled outcome.WriteFault
cut_answer tells new pulled = record {
  done_within_limit = λ e. absurd (cc);
  fault_within_limit = λ e. absurd (cc);
  many = λ e. absurd (cc);
  end = λ e. absurd (cc);
}

pub missing_answer : (tells : Tells) (new : State) (pulled : List ℕ) (at : ℕ) → AnswersEnd tells new pulled (outcome.CellFault at)
missing_answer tells new pulled at = record {
  done_within_limit = λ e. absurd (cc);
  fault_within_limit = λ e. absurd (cc);
  many = λ e. absurd (cc);
  end = λ e. absurd (cc);
}

-- where more came than is taken, and no place is missing
pub end_too_long : (tells : Tells) (old new : State) (pulled : List ℕ) (end : InputEnd) → TakesInput tells old new pulled
    → EndsInput most_input_bytes tells new pulled end → old.taken + most_input_bytes < new.taken
    → (answer_of end ≡ outcome.TooLong) ⊎ (answer_of end ≡ outcome.WriteFault)
end_too_long tells old new pulled input_end.End takes ends many = absurd (omega (arith, ends.end_within_limit refl, takes.taken, many))
end_too_long tells old new pulled input_end.Fault takes ends many = absurd (omega (arith, ends.fault_within_limit refl, takes.taken, many))
end_too_long tells old new pulled input_end.TooLong takes ends many = inl refl

-- each end of the input is an answer of a command that pulls it
pub end_own : (form : Form) (end : InputEnd) → PullsInput form → PullsBits form → IsOwn form (answer_of end)
end_own form input_end.End line bits = tt
end_own form input_end.Fault line bits = line
end_own form input_end.TooLong line bits = bits

pub end_fault : (end : InputEnd) → answer_of end ≡ outcome.ReadFault input.Line → end ≡ input_end.Fault
end_fault input_end.End e = absurd (cc)
end_fault input_end.Fault e = refl
end_fault input_end.TooLong e = absurd (cc)

pub end_not_write : (end : InputEnd) → answer_of end ≡ outcome.WriteFault → ⊥
end_not_write input_end.End e = cc
end_not_write input_end.Fault e = cc
end_not_write input_end.TooLong e = cc

pub end_not_missing : (end : InputEnd) (at : ℕ) → answer_of end ≡ outcome.CellFault at → ⊥
end_not_missing input_end.End at e = cc
end_not_missing input_end.Fault at e = cc
end_not_missing input_end.TooLong at e = cc

-- no end of the input is want of memory
pub end_not_memory : (end : InputEnd) → answer_of end ≡ outcome.NoMemory → ⊥
end_not_memory input_end.End e = cc
end_not_memory input_end.Fault e = cc
end_not_memory input_end.TooLong e = cc

-- ---- what is written

-- what an answer says of the input itself
abbrev pub writes : (text : List ℕ → List ℕ) (tells : Tells) (old new : State) (start now : Option (List ℕ)) (answer : Outcome) (pulled : List ℕ)
    → PullsPieces most_input_bytes tells old new pulled → AnswersEnd tells new pulled answer
    → (answer ≢ outcome.WriteFault → now ≡ followed_by start (text (take most_input_bytes pulled)))
    → WritesFront (text (take most_input_bytes pulled)) start now
    → (IsTrue tells.input → (Rose old.input_faults new.input_faults → ⊥) → WritesFront (text (take most_input_bytes old.input)) start now)
    → WritesOfInput text tells old new start now answer
writes text tells old new start now answer pulled pieces ends all part of_line = record {
  pulled = pulled;
  pieces = pieces;
  ends = ends;
  all = all;
  part = part;
  whole = λ done told.
      let line : pulled ≡ old.input =
      sym (append-nil pulled) ∙ ap (λ (xs : List ℕ). pulled ++ xs) (sym (ends.end done told)) ∙ sym (pieces.takes.input told) in
      all (λ e. let c : outcome.Done ≡ outcome.WriteFault = sym done ∙ e in cc)
      ∙ ap (λ (xs : List ℕ). followed_by start (text xs)) (take_all most_input_bytes pulled (ends.done_within_limit done) ∙ line);
  part_of_whole = of_line;
  too_long = λ e. omega (arith, pieces.takes.taken, ends.many e);
}

-- all was written
abbrev pub writes_all : (text : List ℕ → List ℕ) (tells : Tells) (old new : State) (start now : Option (List ℕ)) (pulled : List ℕ) (end : InputEnd)
    → PullsPieces most_input_bytes tells old new pulled → EndsInput most_input_bytes tells new pulled end
    → (end ≡ input_end.Fault → Rose old.input_faults new.input_faults)
    → now ≡ followed_by start (text (take most_input_bytes pulled)) → WritesOfInput text tells old new start now (answer_of end)
writes_all text tells old new start now pulled end pieces ends fault all =
    let part = whole_is_part start now (text (take most_input_bytes pulled)) all in
    writes text tells old new start now (answer_of end) pulled pieces (ends_answer tells new pulled end ends) (λ other. all) part
    (λ told quiet. subst (λ (xs : List ℕ). WritesFront (text xs) start now)
    (all_pulled tells old new pulled end pieces.takes ends (λ e. quiet (fault e)) told) part)

-- the sink failed once all was taken
abbrev pub writes_end : (text : List ℕ → List ℕ) (tells : Tells) (old new : State) (start now : Option (List ℕ)) (pulled : List ℕ) (end : InputEnd)
    → PullsPieces most_input_bytes tells old new pulled → EndsInput most_input_bytes tells new pulled end
    → (end ≡ input_end.Fault → Rose old.input_faults new.input_faults)
    → WritesFront (text (take most_input_bytes pulled)) start now → WritesOfInput text tells old new start now outcome.WriteFault
writes_end text tells old new start now pulled end pieces ends fault part =
    writes text tells old new start now outcome.WriteFault pulled pieces (cut_answer tells new pulled) (λ other. absurd (other refl)) part
    (λ told quiet. subst (λ (xs : List ℕ). WritesFront (text xs) start now)
    (all_pulled tells old new pulled end pieces.takes ends (λ e. quiet (fault e)) told) part)

-- the sink failed in between
abbrev pub writes_cut : (text : List ℕ → List ℕ) (tells : Tells) (old new : State) (before now : SinkState) (pulled : List ℕ)
    → PullsPieces most_input_bytes tells old new pulled
    → StopsWriting text (before_last most_input_bytes old new pulled ++ last_piece most_input_bytes old new pulled) before now
    → WritesOfInput text tells old new before.written now.written outcome.WriteFault
writes_cut text tells old new before now pulled pieces stops =
    let taken = all_taken old new pulled in
    let front = λ (more : List ℕ). subst (λ (xs : List ℕ). WritesFront (text (xs ++ more)) before.written now.written) taken (stops.part more) in
    writes text tells old new before.written now.written outcome.WriteFault pulled pieces (cut_answer tells new pulled) (λ other. absurd (other refl))
    (subst (λ (xs : List ℕ). WritesFront (text xs) before.written now.written) (append-nil (take most_input_bytes pulled)) (front []))
    (λ told quiet. subst (λ (xs : List ℕ). WritesFront (text xs) before.written now.written)
    (line_begins pulled new.input old.input (pieces.takes.input told)) (front (take (most_input_bytes - length pulled) new.input)))

-- a place is missing, so that the text is the same however the input goes on
abbrev pub writes_missing : (text : List ℕ → List ℕ) (tells : Tells) (old new : State) (start now : Option (List ℕ)) (pulled : List ℕ) (answer : Outcome)
    → PullsPieces most_input_bytes tells old new pulled → AnswersEnd tells new pulled answer
    → ((more : List ℕ) → (answer ≢ outcome.WriteFault → now ≡ followed_by start (text (take most_input_bytes pulled ++ more))))
    → ((more : List ℕ) → WritesFront (text (take most_input_bytes pulled ++ more)) start now)
    → WritesOfInput text tells old new start now answer
writes_missing text tells old new start now pulled answer pieces ends all front =
    let none = append-nil (take most_input_bytes pulled) in
    writes text tells old new start now answer pulled pieces ends
    (λ other. all [] other ∙ ap (λ (xs : List ℕ). followed_by start (text xs)) none)
    (subst (λ (xs : List ℕ). WritesFront (text xs) start now) none (front []))
    (λ told quiet. subst (λ (xs : List ℕ). WritesFront (text xs) start now)
    (line_begins pulled new.input old.input (pieces.takes.input told)) (front (take (most_input_bytes - length pulled) new.input)))
