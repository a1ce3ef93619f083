-- The first row with a fault.
use Rattle.std.proofs.Common.{◌≡◌, ◌∙◌, ap, ℕ, ◌+◌, ◌<◌, ◌≤◌, ◌⊎◌, inl, inr, refl, sym, Result, Ok, Err, false, get_or, take, List, [], ◌∷◌, ◌++◌, length}
use Rattle.std.proofs.Common.{Option, Some, None, arith, zero-add, length-append}
use Rattle.std.specs.Prelude.{is_some, nat_lt, ok_or, option_map}
use Rattle.std.proofs.Math.Seq.{take-append_seam, get_or-append_seam}
use Rattle.std.proofs.lemmas.Bool.{cases_lt, le-ltb}
use Rattle.std.proofs.lemmas.List.{get_or_append_left, take-append-le}
use Rattle.fdr_table.specs.Answers.{refused}
use Rattle.fdr_table.specs.Bounds.{most_table_bytes}
use Rattle.fdr_table.specs.Reading.{Row, records_of}
use Rattle.fdr_table.specs.Faults.{table_bytes_fault, first_fault, row_fault}
use Rattle.fdr_table.specs.declared.fault.TableError.{TableError}
use Rattle.fdr_table.specs.declared.fault.TableError.TheVariants as error
use Rattle.fdr_table.specs.declared.fault.TableFault.{TableFault}
use Rattle.fdr_table.proofs.SearchFacts.{first_some-at, first_some-none}

-- the first row with a fault
abbrev pub fault-in : List Row → ℕ → Option TableFault
fault-in rows i = row_fault (take i rows) (get_or rows i [])

pub first-fault-at : (rows : List Row) (i : ℕ) (f : TableFault) → i < length rows → ((j : ℕ) → j < i → fault-in rows j ≡ None) → fault-in rows i ≡ Some f
    → first_fault rows ≡ Some (i, f)
first-fault-at [] i f lt before here = absurd (omega arith)
first-fault-at (r ∷ rest) i f lt before here =
    first_some-at (λ k. option_map (λ g. (k, g)) (fault-in (r ∷ rest) k)) 0 (length (r ∷ rest)) i (i, f) lt
    (λ j h. ap (λ k. option_map (λ g. (k, g)) (fault-in (r ∷ rest) k)) (zero-add j) ∙ ap (option_map (λ g. (j, g))) (before j h))
    (ap (λ k. option_map (λ g. (k, g)) (fault-in (r ∷ rest) k)) (zero-add i) ∙ ap (option_map (λ g. (i, g))) here)

pub first-fault-none : (rows : List Row) → 0 < length rows → ((j : ℕ) → j < length rows → fault-in rows j ≡ None) → first_fault rows ≡ None
first-fault-none [] lt none = absurd (omega arith)
first-fault-none (r ∷ rest) lt none =
    first_some-none (λ k. option_map (λ g. (k, g)) (fault-in (r ∷ rest) k)) 0 (length (r ∷ rest))
    (λ j h. ap (λ k. option_map (λ g. (k, g)) (fault-in (r ∷ rest) k)) (zero-add j) ∙ ap (option_map (λ g. (j, g))) (none j h))

no-fault-split : (above : List Row) (row : Row) → ((j : ℕ) → j < length above → fault-in above j ≡ None) → row_fault above row ≡ None
    → (i : ℕ) → (i < length above) ⊎ (length above ≤ i) → i < length above + 1 → fault-in (above ++ row ∷ []) i ≡ None
no-fault-split above row old here i (inl lt) short =
    rw (take-append-le i above (row ∷ []) (omega arith), get_or_append_left above (row ∷ []) [] i lt) (old i lt)
no-fault-split above row old here i (inr high) short =
    let e : i ≡ length above = omega arith in
    rw (e, take-append_seam above (row ∷ []), get_or-append_seam above row [] []) here

pub no-fault-push : (above : List Row) (row : Row) → ((j : ℕ) → j < length above → fault-in above j ≡ None) → row_fault above row ≡ None
    → (i : ℕ) → i < length (above ++ row ∷ []) → fault-in (above ++ row ∷ []) i ≡ None
no-fault-push above row old here i lt =
    let below : i < length above + 1 = omega (arith, length-append above (row ∷ [])) in
    no-fault-split above row old here i (cases_lt i (length above)) below

-- rows without faults and then one with a fault are refused there, whatever follows
pub first-fault-after : (above : List Row) (row : Row) (rest : List Row) (f : TableFault)
    → ((j : ℕ) → j < length above → fault-in above j ≡ None) → row_fault above row ≡ Some f
    → first_fault (above ++ row ∷ rest) ≡ Some (length above, f)
first-fault-after above row rest f none here =
    let lt : length above < length (above ++ row ∷ rest) = omega (arith, length-append above (row ∷ rest)) in
    first-fault-at (above ++ row ∷ rest) (length above) f lt
    (λ j h. rw (take-append-le j above (row ∷ rest) (omega arith), get_or_append_left above (row ∷ rest) [] j h) (none j h))
    (rw (take-append_seam above (row ∷ rest), get_or-append_seam above row rest []) here)

abbrev pub at-row : ℕ → TableFault → Option (ℕ × TableFault)
at-row i f = Some (i, f)

abbrev told : {X : Type 0} → Result X TableError → Option (ℕ × TableFault)
told (Ok x) = None
told (Err (error.Refused r)) = Some (r.row, r.fault)
told (Err error.NoMemory) = None

-- a refusal tells its row and its fault
pub same-refusal : {X : Type 0} (a b : ℕ) (f g : TableFault) (r : Result X TableError) → r ≡ Err (refused a f) → r ≡ Err (refused b g) → at-row a f ≡ at-row b g
same-refusal a b f g r e h = sym (ap told e) ∙ ap told h

-- a refusal for want of a frame
pub without-frame : {A T : Type 0} (o : Option A) (g : A → T) (p : Option T) (e : TableError) (a b : ℕ) (x f : TableFault) (r : Result T TableError)
    → p ≡ option_map g o → e ≡ refused a x → r ≡ ok_or p e → r ≡ Err (refused b f) → (is_some o ≡ false) × (at-row a x ≡ at-row b f)
without-frame None g p e a b x f r made told is same =
    (refl, same-refusal a b x f r (is ∙ ap (λ q. ok_or q e) made ∙ ap (λ q. Err q) told) same)
without-frame (Some y) g p e a b x f r made told is same = let ok = is ∙ ap (λ q. ok_or q e) made in cc

-- the fault of a table's bytes that aren't too many
pub fault-of-rows : (bytes : List ℕ) → length bytes ≤ most_table_bytes → table_bytes_fault bytes ≡ first_fault (records_of bytes)
unfolding table_bytes_fault
fault-of-rows bytes few =
    let small : nat_lt most_table_bytes (length bytes) ≡ false = le-ltb most_table_bytes (length bytes) few in
    rw small refl
