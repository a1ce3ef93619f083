-- What was handed on, and where a call went well or failed.
use Rattle.std.proofs.Common.{◌≡◌, ℕ, List, Result, Ok, Err, sym, ◌∙◌}
use Rattle.std.specs.Prelude.{IsTrue, OnOk, OnErr}
use Rattle.fdr_deck.specs.State.{Tells}
use Rattle.fdr_recover.specs.Blocks.{Block}
use Rattle.fdr_recover.specs.Payloads.{TakesAll, TakesFront}

-- what follows where a call went well, of one fact and of two, and where it failed
pub ok_then : {T E : Type 0} (A B : Type 0) (r : Result T E) → (A → B) → OnOk r A → OnOk r B
ok_then A B (Ok x) follows holds = follows holds
ok_then A B (Err e) follows holds = tt

pub ok_both : {T E : Type 0} (A B C : Type 0) (r : Result T E) → (A → B → C) → OnOk r A → OnOk r B → OnOk r C
ok_both A B C (Ok x) follows one two = follows one two
ok_both A B C (Err e) follows one two = tt

pub err_then : {T E : Type 0} (A B : Type 0) (r : Result T E) → (A → B) → OnErr r A → OnErr r B
err_then A B (Ok x) follows holds = tt
err_then A B (Err e) follows holds = follows holds

-- the same blocks by another name
pub TakesAll-same : (tells : Tells) (whole other : List Block) (HasTaken : List Block → Type 0) → (IsTrue tells.bytes → whole ≡ other)
    → TakesAll tells whole HasTaken → TakesAll tells other HasTaken
TakesAll-same tells whole other HasTaken same taken = (taken.0, taken.1, taken.2, λ told. taken.3 told ∙ same told)

pub TakesFront-same : (tells : Tells) (whole other : List Block) (HasTaken : List Block → Type 0) → (IsTrue tells.bytes → whole ≡ other)
    → TakesFront tells whole HasTaken → TakesFront tells other HasTaken
TakesFront-same tells whole other HasTaken same taken =
    (taken.0, taken.1, λ told. let more = taken.2 told in (more.0, sym (same told) ∙ more.1))
