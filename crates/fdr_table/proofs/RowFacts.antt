-- Facts about the fields of a row.
use Rattle.std.proofs.Common.{◌≡◌, sym, ap, refl, ℕ, zero, suc, Bool, true, false, ◌&&◌, List, [], ◌∷◌, Option, Some, None, Result, Ok, Err}
use Rattle.std.specs.Prelude.{if◌then◌else◌, is_none, ok_or}
use Rattle.std.specs.Result.{IsErrAnd}
use Rattle.std.proofs.lemmas.Bool.{false≢true}
use Rattle.csv.specs.Records.{field_at}
use Rattle.fdr_table.specs.Fields.{is_name}
use Rattle.fdr_table.specs.Reading.{Row, field, row_kind, is_param, first_some, misnamed, param_misread, param_row}
use Rattle.fdr_table.specs.declared.fault.TableFault.{TableFault}
use Rattle.fdr_table.specs.declared.fault.TableFault.TheVariants as fault

pub field-some : (texts : Row) (i : ℕ) (x : List ℕ) → Some x ≡ field_at texts i → x ≡ field texts i
unfolding field_at field
field-some [] i x e = cc
field-some (f ∷ fs) zero x e = cc
field-some (f ∷ fs) (suc i) x e = unfold field in field-some fs i x e

pub field-none : (texts : Row) (i : ℕ) → None ≡ field_at texts i → [] ≡ field texts i
unfolding field_at field
field-none [] i e = refl
field-none (f ∷ fs) zero e = cc
field-none (f ∷ fs) (suc i) e = unfold field in field-none fs i e

pub ruleset fields = (field-some, field-none)

-- a value that was read, by the answer that says so
pub read-there : {A E : Type 0} (o p : Option A) (r : Result A E) (e : E) (x : A) → o ≡ p → r ≡ ok_or o e → r ≡ Ok x → p ≡ Some x
read-there None p r e x same is was = cc
read-there (Some y) p r e x same is was = cc

-- a value that wasn't read, by the answer that says so
pub read-none : {A E : Type 0} (o p : Option A) (r : Result A E) (e f : E) → o ≡ p → r ≡ ok_or o e → r ≡ Err f → (p ≡ None) × (e ≡ f)
read-none None p r e f same is was = (sym same, cc)
read-none (Some y) p r e f same is was = (cc, cc)

-- what the exit of a `?` answers
pub refusal : {T E : Type 0} (r : Result T E) (e : E) → IsErrAnd r (λ y. y ≡ e) → r ≡ Err e
refusal (Ok x) e is = absurd is
refusal (Err y) e is = ap Err is

-- a test that is never passed
pub not-true : (b : Bool) → (b ≡ true → false ≡ true) → b ≡ false
not-true true h = absurd (false≢true (h refl))
not-true false h = refl

unnamed : {A : Type 0} (k b : Bool) (m : Option TableFault) (x : A) → b ≡ false
    → (if k && is_none (first_some (m ∷ (if b then None else Some fault.Name) ∷ [])) then Some x else None) ≡ None
unnamed k true m x e = cc
unnamed true false None x e = refl
unnamed true false (Some f) x e = refl
unnamed false false m x e = refl

-- a texts whose name isn't one says no parameter
pub param-unnamed : (number : ℕ) (texts : Row) → is_name (field texts 1) ≡ false → param_row number texts ≡ None
unfolding param_row misnamed
param-unnamed number texts e = unnamed (is_param (row_kind texts)) (is_name (field texts 1)) (param_misread texts) _ e
