-- Facts about the rows above a row, and what they say.
use Rattle.std.proofs.Common.{◌≡◌, ◌∙◌, sym, ap, subst, refl, ℕ, ◌+◌, ◌<◌, All, Bool, true, false, ◌&&◌, List, [], ◌∷◌, ◌++◌, length, map, filter, Option}
use Rattle.std.proofs.Common.{Some, None, Result, arith, zero-add}
use Rattle.std.specs.Prelude.{◌≢◌, IfOk, ok_or, option_map, if◌then◌else◌, is_none, is_some, bytes_eq, filter_map, unwrap_or, position}
use Rattle.std.specs.List.{cons_option, enumerate_from, list_any}
use Rattle.std.proofs.lemmas.Bool.{false≢true}
use Rattle.std.proofs.lemmas.List.{length-map, map-append}
use Rattle.std.proofs.lemmas.List.Elements.{All-head, All-tail, filter-append, filter_map-append}
use Rattle.std.proofs.lemmas.List.Folds.{list_any-append}
use Rattle.fdr_table.specs.Fields.{is_name}
use Rattle.fdr_table.specs.Rows.{FrameRow, ParamRow, PlaceRow}
use Rattle.fdr_table.specs.Reading.{Row, field, row_kind, is_frame, is_param, is_place, first_some, frame_misread, param_misread, place_misread, misnamed}
use Rattle.fdr_table.specs.Reading.{frame_row, param_row, place_row, names_of, param_named, table_of}
use Rattle.fdr_table.specs.Faults.{has_name, param_count}
use Rattle.fdr_table.specs.DraftRows.{DraftRows}
use Rattle.fdr_table.specs.Draft.{IsDraft, index_named}
use Rattle.fdr_table.specs.declared.row.RowKind.TheVariants as kind
use Rattle.fdr_table.specs.declared.fault.TableFault.{TableFault}
use Rattle.fdr_table.specs.declared.fault.TableFault.TheVariants as fault
use Rattle.fdr_table.proofs.SearchFacts.{position-below, position-is_some, position-map, position-more, list_any-map}
use Rattle.fdr_lists.proofs.Numbered.{enumerate_from_push}
use Rattle.fdr_lists.proofs.Pairs.{AllPairs-nil}
use Rattle.fdr_table.specs.Ranges.{HaveOwnNames}

-- the field with the name
abbrev pub name_in : Row → List ℕ
name_in fields = field fields 1

-- a row that reads has no fault of its own
kept : {A : Type 0} (k : Bool) (m : Option TableFault) (x y : A) → (if k && is_none m then Some x else None) ≡ Some y → m ≡ None
kept true None x y e = refl
kept true (Some f) x y e = cc
kept false m x y e = cc

dropped : {A : Type 0} (k : Bool) (m : Option TableFault) (x : A) → k ≡ false → (if k && is_none m then Some x else None) ≡ None
dropped k m x e = rw e refl

held-value : {A : Type 0} (k : Bool) (m : Option TableFault) (x y : A) → (if k && is_none m then Some x else None) ≡ Some y → x ≡ y
held-value true None x y e = cc
held-value true (Some f) x y e = cc
held-value false m x y e = cc

pub frame_row-right : (row : Row) (f : FrameRow) → frame_row row ≡ Some f → frame_misread row ≡ None
unfolding frame_row
frame_row-right row f e = kept (is_frame (row_kind row)) (frame_misread row) _ f e

pub param_row-right : (n : ℕ) (row : Row) (p : ParamRow) → param_row n row ≡ Some p → first_some (param_misread row ∷ misnamed row ∷ []) ≡ None
unfolding param_row
param_row-right n row p e = kept (is_param (row_kind row)) (first_some (param_misread row ∷ misnamed row ∷ [])) _ p e

pub param_row-name : (n : ℕ) (row : Row) (p : ParamRow) → param_row n row ≡ Some p → name_in row ≡ p.name
unfolding param_row
param_row-name n row p e = ap (λ (q : ParamRow). q.name) (held-value (is_param (row_kind row)) (first_some (param_misread row ∷ misnamed row ∷ [])) _ p e)

-- a name that is wrong is all that is wrong with a row whose other fields read
name-wrong : {A : Type 0} (b k : Bool) (m : Option TableFault) (x : A) → k ≡ true → m ≡ None
    → (if k && is_none (first_some (m ∷ (if b then None else Some fault.Name) ∷ [])) then Some x else None) ≡ None
    → (if b then None else Some fault.Name) ≡ Some fault.Name
name-wrong false k m x right read e = refl
name-wrong true k m x right read e = let never = rw (right, read) at e in cc

pub param_row-misnamed : (n : ℕ) (row : Row) → row_kind row ≡ Some kind.Param → param_misread row ≡ None → param_row n row ≡ None
    → misnamed row ≡ Some fault.Name
unfolding param_row misnamed
param_row-misnamed n row k m e = name-wrong (is_name (name_in row)) (is_param (row_kind row)) (param_misread row) _ (ap is_param k) m e

pub place_row-right : (k n : ℕ) (row : Row) (l : PlaceRow) → place_row k n row ≡ Some l → place_misread row ≡ None
unfolding place_row
place_row-right k n row l e = kept (is_place (row_kind row)) (place_misread row) _ l e

pub place_row-param : (k n : ℕ) (row : Row) (l : PlaceRow) → place_row k n row ≡ Some l → k ≡ l.param
unfolding place_row
place_row-param k n row l e = ap (λ (q : PlaceRow). q.param) (held-value (is_place (row_kind row)) (place_misread row) _ l e)

-- rows of other kinds
pub frame_row-other : (row : Row) → is_frame (row_kind row) ≡ false → frame_row row ≡ None
unfolding frame_row
frame_row-other row e = dropped (is_frame (row_kind row)) (frame_misread row) _ e

pub param_row-other : (n : ℕ) (row : Row) → is_param (row_kind row) ≡ false → param_row n row ≡ None
unfolding param_row
param_row-other n row e = dropped (is_param (row_kind row)) (first_some (param_misread row ∷ misnamed row ∷ [])) _ e

pub place_row-other : (k n : ℕ) (row : Row) → is_place (row_kind row) ≡ false → place_row k n row ≡ None
unfolding place_row
place_row-other k n row e = dropped (is_place (row_kind row)) (place_misread row) _ e

numbered-push : {A : Type 0} (h : ℕ × Row → Option A) (above : List Row) (row : Row)
    → filter_map h (enumerate_from 0 (above ++ row ∷ [])) ≡ filter_map h (enumerate_from 0 above) ++ cons_option (h (length above, row)) []
numbered-push h above row =
    ap (filter_map h) (enumerate_from_push 0 above row ∙ ap (λ (k : ℕ). enumerate_from 0 above ++ (k, row) ∷ []) (zero-add (length above)))
    ∙ filter_map-append h (enumerate_from 0 above) ((length above, row) ∷ [])

-- the names of the rows
pub names-push : (above : List Row) (row : Row) → names_of (above ++ row ∷ []) ≡ names_of above ++ names_of (row ∷ [])
names-push above row =
    ap (map (λ (fields : Row). field fields 1)) (filter-append (λ (fields : Row). is_param (row_kind fields)) above (row ∷ []))
    ∙ map-append (λ (fields : Row). field fields 1) (filter (λ (fields : Row). is_param (row_kind fields)) above)
    (filter (λ (fields : Row). is_param (row_kind fields)) (row ∷ []))

pub has_name-push : (above : List Row) (row : Row) (q : List ℕ) → has_name above q ≡ true → has_name (above ++ row ∷ []) q ≡ true
has_name-push above row q e =
    rw (names-push above row) (list_any-append (λ other. bytes_eq other q) (names_of above) (names_of (row ∷ [])) ∙ rw e refl)

pub param_named-push : (above : List Row) (row : Row) (q : List ℕ) → has_name above q ≡ true → param_named (above ++ row ∷ []) q ≡ param_named above q
param_named-push above row q e =
    ap (λ (i : Option ℕ). unwrap_or i 0)
    (ap (position (λ other. bytes_eq other q)) (names-push above row) ∙ position-more (λ other. bytes_eq other q) (names_of above) (names_of (row ∷ [])) e)

-- a place's parameter is above it, so that further rows name the same
abbrev pub IsNamed : List Row → Row → Type 0
IsNamed rows row = is_place (row_kind row) ≡ true → has_name rows (name_in row) ≡ true

place-same : (above : List Row) (row : Row) (n : ℕ) (r : Row) (b : Bool) → is_place (row_kind r) ≡ b → IsNamed above r
    → place_row (param_named (above ++ row ∷ []) (field r 1)) n r ≡ place_row (param_named above (field r 1)) n r
place-same above row n r true e named = ap (λ (k : ℕ). place_row k n r) (param_named-push above row (field r 1) (named e))
place-same above row n r false e named =
    place_row-other (param_named (above ++ row ∷ []) (field r 1)) n r e ∙ sym (place_row-other (param_named above (field r 1)) n r e)

abbrev place-at : List Row → ℕ × Row → Option PlaceRow
place-at rows e = place_row (param_named rows (field e.1 1)) e.0 e.1

places-same : (above : List Row) (row : Row) (s : ℕ) (rows : List Row) → All (IsNamed above) rows
    → filter_map (place-at (above ++ row ∷ [])) (enumerate_from s rows) ≡ filter_map (place-at above) (enumerate_from s rows)
places-same above row s [] named = refl
places-same above row s (r ∷ rows) named =
    let here = place-same above row s r (is_place (row_kind r)) refl (All-head (IsNamed above) r rows named) in
    let rest = places-same above row (s + 1) rows (All-tail (IsNamed above) r rows named) in
    ap (λ (o : Option PlaceRow). cons_option o (filter_map (place-at (above ++ row ∷ [])) (enumerate_from (s + 1) rows))) here
    ∙ ap (cons_option (place-at above (s, r))) rest

pub params-push : (above : List Row) (row : Row) (d : DraftRows) → IsDraft above d
    → (table_of (above ++ row ∷ [])).params ≡ d.params ++ cons_option (param_row d.rows row) []
params-push above row d h = numbered-push (λ (e : ℕ × Row). param_row e.0 e.1) above row ∙ rw (h.params, h.rows) refl

pub places-push : (above : List Row) (row : Row) (d : DraftRows) → IsDraft above d
    → (table_of (above ++ row ∷ [])).places ≡ d.places ++ cons_option (place_row (param_named (above ++ row ∷ []) (name_in row)) d.rows row) []
places-push above row d h = numbered-push (place-at (above ++ row ∷ [])) above row ∙ rw (places-same above row 0 above h.named ∙ h.places, h.rows) refl

-- tests of a draft
abbrev named_as : List ℕ → ParamRow → Bool
named_as q p = bytes_eq p.name q

pub has_name-is : (above : List Row) (d : DraftRows) (q : List ℕ) → IsDraft above d → has_name above q ≡ is_some (index_named d.params q)
has_name-is above d q h =
    ap (list_any (λ other. bytes_eq other q)) h.names ∙ list_any-map (λ other. bytes_eq other q) (λ (p : ParamRow). p.name) d.params
    ∙ sym (position-is_some (named_as q) d.params)

pub param_named-is : (above : List Row) (d : DraftRows) (q : List ℕ) → IsDraft above d → param_named above q ≡ unwrap_or (index_named d.params q) 0
param_named-is above d q h =
    ap (λ (i : Option ℕ). unwrap_or i 0)
    (ap (position (λ other. bytes_eq other q)) h.names ∙ position-map (λ other. bytes_eq other q) (λ (p : ParamRow). p.name) d.params)

pub param_count-is : (above : List Row) (d : DraftRows) → IsDraft above d → param_count above ≡ length d.params
param_count-is above d h =
    sym (length-map (filter (λ (fields : Row). is_param (row_kind fields)) above) (λ (fields : Row). field fields 1))
    ∙ ap length h.names ∙ length-map d.params (λ (p : ParamRow). p.name)

-- the index that is found
pub index-below : (params : List ParamRow) (q : List ℕ) → is_some (index_named params q) ≡ true → unwrap_or (index_named params q) 0 < length params
index-below params q e = position-below (named_as q) params (sym (position-is_some (named_as q) params) ∙ e)

pub none-from : {A : Type 0} (o p : Option A) → o ≡ p → is_some o ≡ false → p ≡ None
none-from None p same e = sym same
none-from (Some a) p same e = absurd (false≢true (sym e))

-- no parameters have names of their own
no-names : HaveOwnNames []
no-names = record { allowed = λ i d lt. absurd (omega arith); different = AllPairs-nil (λ (p q : ParamRow). p.name ≢ q.name) }

-- the draft of no rows
pub no-rows : IsDraft [] (record { frame = None; params = []; places = []; rows = 0 })
no-rows = record {
  no_fault = λ i lt. absurd (omega arith);
  frame = refl;
  frame_there = refl;
  params = refl;
  names = refl;
  places = refl;
  count = refl;
  named = λ i d lt. absurd (omega arith);
  rows = refl;
  own_names = no-names;
  few_params = omega arith;
  few_places = omega arith;
}

pub some-row : (rows : List Row) (d : DraftRows) → IsDraft rows d → is_some d.frame ≡ true → 0 < length rows
some-row [] d h e = absurd (false≢true (h.frame_there ∙ e))
some-row (r ∷ rest) d h e = omega arith

-- what holds of a draft's table where there is a frame
pub if-there : {A T E : Type 0} (o : Option A) (f : A → T) (e : E) (r : Result T E) (Q : Type 0) → r ≡ ok_or (option_map f o) e → (is_some o ≡ true → Q)
    → IfOk r (λ t. Q)
if-there None f e r Q same q = subst (λ (x : Result _ _). IfOk x (λ t. Q)) (sym same) tt
if-there (Some a) f e r Q same q = subst (λ (x : Result _ _). IfOk x (λ t. Q)) (sym same) (q refl)

-- what holds of the table that is made of a draft
pub if-made : {A T E : Type 0} (o : Option A) (f : A → T) (e : E) (r : Result T E) (Q : T → Type 0) → r ≡ ok_or (option_map f o) e
    → ((a : A) → Q (f a)) → IfOk r Q
if-made None f e r Q same q = subst (λ (x : Result _ _). IfOk x Q) (sym same) tt
if-made (Some a) f e r Q same q = subst (λ (x : Result _ _). IfOk x Q) (sym same) (q a)
