-- The answers where no image is opened.
use Rattle.std.proofs.Common.{◌≡◌, ◌⊎◌, inl, inr, ℕ, List, refl, subst}
use Rattle.fdr_io.specs.declared.Input.TheVariants as input
use Rattle.fdr_words.specs.Forms.{drill_image, list_image}
use Rattle.fdr_top.specs.Answers.{IsOwn}
use Rattle.fdr_top.specs.List.{RefusesOpening}
use Rattle.fdr_top.specs.declared.outcome.Outcome.{Outcome}
use Rattle.fdr_top.specs.declared.outcome.Outcome.TheVariants as outcome

pub shut_unwritten : (answer : Outcome) → RefusesOpening answer → answer ≡ outcome.WriteFault → ⊥
shut_unwritten answer shut e = subst RefusesOpening e shut

pub shut_unpulled : (answer : Outcome) → RefusesOpening answer → answer ≡ outcome.ReadFault input.Line → ⊥
shut_unpulled answer shut e = subst RefusesOpening e shut

-- each is an answer of the command, or memory ended
pub opening_own_list : (path image : List ℕ) (answer : Outcome) → RefusesOpening answer → (answer ≡ outcome.NoMemory) ⊎ IsOwn (list_image path image) answer
opening_own_list path image (outcome.ImageRefused why) shut = inr tt
opening_own_list path image (outcome.WordsDiffer words table) shut = inr tt
opening_own_list path image outcome.DiskFault shut = inr tt
opening_own_list path image outcome.NoMemory shut = inl refl
opening_own_list path image answer shut = absurd shut

pub opening_own_drill : (path image : List ℕ) (seed frames : ℕ) (answer : Outcome) → RefusesOpening answer
    → (answer ≡ outcome.NoMemory) ⊎ IsOwn (drill_image path image seed frames) answer
opening_own_drill path image seed frames (outcome.ImageRefused why) shut = inr tt
opening_own_drill path image seed frames (outcome.WordsDiffer words table) shut = inr tt
opening_own_drill path image seed frames outcome.DiskFault shut = inr tt
opening_own_drill path image seed frames outcome.NoMemory shut = inl refl
opening_own_drill path image seed frames answer shut = absurd shut
