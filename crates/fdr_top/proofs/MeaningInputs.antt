-- What came of the input.
use Rattle.std.proofs.Common.{◌≡◌, ◌⊎◌, ⊎_elim, inl, inr, ℕ, ◌+◌, ◌-◌, ◌<◌, ◌≤◌, true, false, List, [], ◌++◌, length, take, IsTrue, sym, ap, ◌∙◌, arith, ◌≢◌}
use Rattle.std.proofs.lemmas.Bool.{cases_lt}
use Rattle.std.proofs.lemmas.List.{append-nil, take-append-le, take_all}
use Rattle.std.proofs.Math.Seq.{take-append-add}
use Rattle.fdr_io.specs.Faults.{Rose, next_count}
use Rattle.fdr_deck.specs.State.{State, Tells}
use Rattle.fdr_deck.specs.Pull.{TakesInput}
use Rattle.fdr_words.specs.Forms.{Form}
use Rattle.fdr_load.specs.Supplies.{Supplied}
use Rattle.fdr_top.specs.Answers.{KeepsInputAndFaults}
use Rattle.fdr_top.specs.Runs.{WorkRun}
use Rattle.fdr_top.specs.declared.outcome.Outcome.TheVariants as outcome
use Rattle.fdr_top.specs.Meaning.{Effect}
use Rattle.fdr_top.specs.Doing.{GaveInput, Refines}

-- all of the input
abbrev pub came_all : WorkRun → Supplied
came_all r = record { bytes = r.old.input; failed = false }

-- what was pulled came, and then a read failed
abbrev pub came_cut : List ℕ → Supplied
came_cut pulled = record { bytes = pulled; failed = true }

-- what was pulled came, and no read failed
abbrev pub came_part : List ℕ → Supplied
came_part pulled = record { bytes = pulled; failed = false }

pub gave_part : (r : WorkRun) (pulled : List ℕ) → TakesInput r.tells r.old r.new pulled → GaveInput (came_part pulled) r
gave_part r pulled takes = record { takes = takes; cut = λ failed. absurd (cc) }

pub gave_cut : (r : WorkRun) (pulled : List ℕ) → TakesInput r.tells r.old r.new pulled → Rose r.old.input_faults r.new.input_faults
    → GaveInput (came_cut pulled) r
gave_cut r pulled takes rose = record { takes = takes; cut = λ failed. rose }

-- nothing was pulled
pub takes_none : (tells : Tells) (old new : State) → KeepsInputAndFaults old new → TakesInput tells old new []
takes_none tells old new keeps = record { taken = omega (arith, keeps.taken); input = λ told. sym keeps.input }

pub gave_none : (r : WorkRun) → KeepsInputAndFaults r.old r.new → GaveInput (came_part []) r
gave_none r keeps = gave_part r [] (takes_none r.tells r.old r.new keeps)

-- a count rose or it didn't
pub rose_or : (before now : ℕ) → Rose before now ⊎ (Rose before now → ⊥)
rose_or before now = ⊎_elim
    (λ (less : now < next_count before). inr (λ rose. omega (arith, less, rose)))
    (λ (rose : next_count before ≤ now). inl rose)
    (cases_lt now (next_count before))

-- the first n of bytes and more
pub take_more : (n : ℕ) (xs ys : List ℕ) → (more : List ℕ) × (take n (xs ++ ys) ≡ take n xs ++ more)
take_more n xs ys = ⊎_elim
    (λ (less : length xs < n). (
      take (n - length xs) ys,
      ap (λ (k : ℕ). take k (xs ++ ys)) (enough less) ∙ take-append-add xs ys (n - length xs)
          ∙ ap (λ (zs : List ℕ). zs ++ take (n - length xs) ys) (sym (take_all n xs (omega (arith, less)))),
    ))
    (λ (few : n ≤ length xs). ([], take-append-le n xs ys few ∙ sym (append-nil (take n xs))))
    (cases_lt (length xs) n)
  where
    enough : length xs < n → n ≡ length xs + (n - length xs)
    enough less = omega (arith, less)

-- what came of the input, and that the work refines its meaning by it, and by all of the input
pub record MeansInput (form : Form) (does : Supplied → Effect) (r : WorkRun) : Type 0 where
  pub came : Supplied
  pub given : GaveInput came r
  pub refines : Refines form (does came) r
  pub all : IsTrue r.tells.input → came.failed ≡ false → r.answer ≢ outcome.DiskFault → Refines form (does (came_all r)) r

-- it refines it by anything
unfoldable pub by_any : (form : Form) (does : Supplied → Effect) (r : WorkRun) (pulled : List ℕ) → TakesInput r.tells r.old r.new pulled
    → ((came : Supplied) → Refines form (does came) r) → MeansInput form does r
by_any form does r pulled takes refines = record {
  came = came_part pulled;
  given = gave_part r pulled takes;
  refines = refines (came_part pulled);
  all = λ told uncut disk. refines (came_all r);
}
