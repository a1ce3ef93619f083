-- What commands mean that pull an input to its end.
use Rattle.std.proofs.Common.{◌≡◌, ◌≢◌, ⊎_elim, inl, inr, ℕ, ◌<◌, ◌≤◌, true, false, List, ◌++◌, length, take, IsTrue, refl, sym, ap, ◌∙◌, arith}
use Rattle.std.proofs.Common.{length-append, le-leb, le-ltb, lt-ltb}
use Rattle.std.proofs.lemmas.List.{append-nil, take-append-le}
use Rattle.fdr_io.specs.Faults.{Rose}
use Rattle.fdr_io.specs.Told.{followed_by}
use Rattle.fdr_io.specs.declared.Input.TheVariants as input
use Rattle.fdr_pieces.specs.Limits.{most_input_bytes}
use Rattle.fdr_words.specs.Forms.{Form}
use Rattle.fdr_load.specs.Supplies.{Supplied}
use Rattle.fdr_top.specs.Answers.{WritesText}
use Rattle.fdr_top.specs.InputTexts.{WritesOfInput}
use Rattle.fdr_top.specs.Runs.{WorkRun}
use Rattle.fdr_top.specs.declared.outcome.Outcome.{Outcome}
use Rattle.fdr_top.specs.declared.outcome.Outcome.TheVariants as outcome
use Rattle.fdr_top.specs.Meaning.{Effect, as_bits, bits_answer, stays, writes}
use Rattle.fdr_top.specs.Doing.{Becomes}
use Rattle.fdr_top.proofs.MeaningInputs.{MeansInput, came_cut, came_part, gave_cut, gave_part, rose_or}

-- ---- how bits end

pub ends_done : (bytes : List ℕ) → length bytes ≤ most_input_bytes → bits_answer (record { bytes = bytes; failed = false }) ≡ outcome.Done
ends_done bytes few = rw (le-ltb most_input_bytes (length bytes) few) refl

pub ends_long : (bytes : List ℕ) → most_input_bytes < length bytes → bits_answer (record { bytes = bytes; failed = false }) ≡ outcome.TooLong
ends_long bytes many = rw (lt-ltb most_input_bytes (length bytes) many) refl

pub ends_failed : (bytes : List ℕ) → length bytes ≤ most_input_bytes → bits_answer (record { bytes = bytes; failed = true }) ≡ outcome.ReadFault input.Line
ends_failed bytes few = rw (le-leb (length bytes) most_input_bytes few) refl

-- ---- a command that writes a text of bits

module _ (form : Form) (text : List ℕ → List ℕ) (ending : Supplied → Outcome) (r : WorkRun)
    (w : WritesOfInput text r.tells r.old r.new r.written_before r.written_now r.answer)
    (image : Becomes stays r.tells r.old r.new) where
  abbrev of_bits : Supplied → Effect
  of_bits came = writes (text (as_bits came)) (ending came)

  -- where the input is told, it is what was pulled and what is left
  told_input : IsTrue r.tells.input → r.old.input ≡ w.pulled ++ r.new.input
  told_input told = w.pieces.takes.input told

  -- all of the input was taken
  pub all_taken : r.answer ≡ outcome.Done → IsTrue r.tells.input → r.old.input ≡ w.pulled
  all_taken done told = told_input told ∙ ap (λ (x : List ℕ). w.pulled ++ x) (w.ends.end done told) ∙ append-nil w.pulled

  -- or more than is taken
  pub most_taken : r.answer ≡ outcome.TooLong → IsTrue r.tells.input → take most_input_bytes r.old.input ≡ take most_input_bytes w.pulled
  most_taken long told = ap (take most_input_bytes) (told_input told)
      ∙ take-append-le most_input_bytes w.pulled r.new.input (omega (arith, w.ends.many long))

  pub longer : r.answer ≡ outcome.TooLong → IsTrue r.tells.input → most_input_bytes < length r.old.input
  longer long told = omega (arith, w.ends.many long, length-append w.pulled r.new.input, ap length (told_input told))

  pub bits_ended : (a : Outcome) → r.answer ≡ a → a ≢ outcome.WriteFault → ending (record { bytes = w.pulled; failed = false }) ≡ a
      → (IsTrue r.tells.input → (ending (record { bytes = r.old.input; failed = false }) ≡ a)
      × (text (take most_input_bytes r.old.input) ≡ text (take most_input_bytes w.pulled)))
      → MeansInput form of_bits r
  bits_ended a e all ends told =
      let here : r.written_now ≡ followed_by r.written_before (text (take most_input_bytes w.pulled)) = w.all (λ f. all (sym e ∙ f)) in
      record {
        came = came_part w.pulled;
        given = gave_part r w.pulled w.pieces.takes;
        refines = inl (record { answer = e ∙ sym ends; text = here; image = image });
        all = λ line uncut disk. inl (record {
          answer = e ∙ sym (told line).0;
          text = here ∙ ap (followed_by r.written_before) (sym (told line).1);
          image = image;
        });
      }

  -- a read failed
  pub bits_failed : r.answer ≡ outcome.ReadFault input.Line → Rose r.old.input_faults r.new.input_faults
      → ending (record { bytes = w.pulled; failed = true }) ≡ outcome.ReadFault input.Line → MeansInput form of_bits r
  bits_failed e rose ends = record {
    came = came_cut w.pulled;
    given = gave_cut r w.pulled w.pieces.takes rose;
    refines = inl (record {
      answer = e ∙ sym ends;
      text = w.all (λ f. let c : outcome.ReadFault input.Line ≡ outcome.WriteFault = sym e ∙ f in cc);
      image = image;
    });
    all = λ line uncut disk. absurd (cc);
  }

  -- the output failed
  pub bits_cut : WritesText form → r.answer ≡ outcome.WriteFault → Rose r.sink_before r.sink_now → MeansInput form of_bits r
  bits_cut writing e rose = ⊎_elim
      (λ (failed : Rose r.old.input_faults r.new.input_faults). record {
        came = came_cut w.pulled;
        given = gave_cut r w.pulled w.pieces.takes failed;
        refines = inr (inl (writing, record { answer = e; step = refl; cause = rose; text = w.part; image = image }));
        all = λ line uncut disk. absurd (cc);
      })
      (λ (quiet : Rose r.old.input_faults r.new.input_faults → ⊥). record {
        came = came_part w.pulled;
        given = gave_part r w.pulled w.pieces.takes;
        refines = inr (inl (writing, record { answer = e; step = refl; cause = rose; text = w.part; image = image }));
        all = λ line uncut disk. inr (inl (writing, record { answer = e; step = refl; cause = rose; text = w.part_of_whole line quiet; image = image }));
      })
      (rose_or r.old.input_faults r.new.input_faults)
