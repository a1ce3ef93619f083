-- The fault of the next row, and the draft with one more row.
use Rattle.std.proofs.Common.{◌≡◌, ◌∙◌, sym, ap, refl, ℕ, ◌+◌, ◌<◌, All, Bool, true, false, ◌||◌, cond, List, [], ◌∷◌, ◌++◌, length, map, filter, Option}
use Rattle.std.proofs.Common.{Some, None, arith, append-nil, length-append, get_or, subst, zero, suc, rules}
use Rattle.std.specs.Prelude.{◌≢◌, if◌then◌else◌, IsTrue, bytes_eq, is_some, not, nat_le, unwrap_or}
use Rattle.std.specs.List.{cons_option, list_any}
use Rattle.std.specs.Option.{option_map_or}
use Rattle.std.proofs.lemmas.Bool.{false≢true, lt-leb}
use Rattle.std.proofs.lemmas.List.{map-append}
use Rattle.std.proofs.lemmas.List.Elements.{All-push, All-weaker, filter-append}
use Rattle.std.proofs.lemmas.List.Folds.{list_any-append}
use Rattle.std.proofs.lemmas.List.Quantifiers.{all_pairs_push}
use Rattle.std.specs.Cmp.Lexicographic.{bytes_decides}
use Rattle.fdr_table.specs.Fields.{is_name}
use Rattle.fdr_table.specs.Ranges.{HaveOwnNames}
use Rattle.fdr_table.specs.Rows.{FrameRow, ParamRow, PlaceRow}
use Rattle.fdr_table.specs.Reading.{Row, field, row_kind, is_frame, is_param, is_place, first_some, frame_misread, param_misread, place_misread, misnamed}
use Rattle.fdr_table.specs.Reading.{frame_row, param_row, place_row, names_of, param_named, table_of}
use Rattle.fdr_table.specs.Faults.{has_frame, kind_fault, place_count, row_fault, where_true}
use Rattle.fdr_table.specs.DraftRows.{DraftRows}
use Rattle.fdr_table.specs.Bounds.{most_params, most_places}
use Rattle.fdr_table.specs.Draft.{IsDraft, IsNextDraft, index_named, with_entry}
use Rattle.fdr_table.specs.declared.draft.Entry.TheVariants as entry
use Rattle.fdr_table.specs.declared.row.RowKind.{RowKind}
use Rattle.fdr_table.specs.declared.row.RowKind.TheVariants as kind
use Rattle.fdr_table.specs.declared.fault.TableFault.{TableFault}
use Rattle.fdr_table.specs.declared.fault.TableFault.TheVariants as fault
use Rattle.fdr_table.proofs.SearchFacts.{first_some-next, first_some-kept, position-is_some}
use Rattle.fdr_table.proofs.FaultFacts.{no-fault-push}
use Rattle.fdr_table.proofs.DraftFacts.{IsNamed, name_in, none-from, frame_row-right, frame_row-other, param_row-right, param_row-other, param_row-name}
use Rattle.fdr_table.proofs.DraftFacts.{place_row-right, place_row-other, has_name-is, has_name-push, names-push, param_count-is, param_named-is}
use Rattle.fdr_table.proofs.DraftFacts.{param_named-push, params-push, places-push}
use Rattle.std.proofs.Math.Bool.{or-false}

-- a row that reads has a right name
only-none : (y : Option TableFault) → first_some (y ∷ []) ≡ None → y ≡ None
only-none None e = refl
only-none (Some f) e = cc

pub named-right : (row : Row) → param_misread row ≡ None → first_some (param_misread row ∷ misnamed row ∷ []) ≡ None → misnamed row ≡ None
named-right row m e = only-none (misnamed row) (rw m at e)

-- a row's fault by its kind
by-kind : (above : List Row) (row : Row) (k : RowKind) → row_kind row ≡ Some k → row_fault above row ≡ kind_fault above row k
by-kind above row k e = ap (λ o. option_map_or (kind_fault above row) o (Some fault.Shape)) e

-- the faults of each kind, as tests of the draft
pub frame-fault : (d : DraftRows) (row : Row) → row_kind row ≡ Some kind.Frame → (above : List Row) → IsDraft above d
    → row_fault above row ≡ first_some (frame_misread row ∷ where_true (is_some d.frame) fault.TwoFrames ∷ [])
frame-fault d row k above h = by-kind above row kind.Frame k ∙ rw h.frame_there refl

abbrev param-faults : Option TableFault → Bool → Option TableFault → Bool → ℕ → Option TableFault
param-faults misread there named twice count = first_some (
    misread ∷ where_true (not there) fault.NoFrame ∷ named ∷ where_true twice fault.Twice ∷ where_true (nat_le most_params count) fault.Size ∷ [])

pub param-fault : (d : DraftRows) (row : Row) → row_kind row ≡ Some kind.Param → (above : List Row) → IsDraft above d
    → row_fault above row ≡ param-faults (param_misread row) (is_some d.frame) (misnamed row) (is_some (index_named d.params (name_in row))) (length d.params)
param-fault d row k above h = by-kind above row kind.Param k ∙ rw (h.frame_there, has_name-is above d (name_in row) h, param_count-is above d h) refl

abbrev place-faults : Option TableFault → Bool → Bool → ℕ → Option TableFault
place-faults misread there known count = first_some (
    misread ∷ where_true (not there) fault.NoFrame ∷ where_true (not known) fault.Unknown ∷ where_true (nat_le most_places count) fault.Size ∷ [])

pub place-fault : (d : DraftRows) (row : Row) → row_kind row ≡ Some kind.Place → (above : List Row) → IsDraft above d
    → row_fault above row ≡ place-faults (place_misread row) (is_some d.frame) (is_some (index_named d.params (name_in row))) (length d.places)
place-fault d row k above h = by-kind above row kind.Place k ∙ rw (h.frame_there, has_name-is above d (name_in row) h, h.count) refl

frame-kept : (above : List Row) (row : Row) (d : DraftRows) → IsDraft above d → is_frame (row_kind row) ≡ false
    → first_some (map frame_row (above ++ row ∷ [])) ≡ d.frame
frame-kept above row d h e = rw (map-append frame_row above (row ∷ []), frame_row-other row e) (first_some-kept (map frame_row above) ∙ h.frame)

has_frame-is : (above : List Row) (row : Row) (b : Bool) → is_frame (row_kind row) ≡ b → has_frame (above ++ row ∷ []) ≡ (has_frame above || (b || false))
has_frame-is above row b e = list_any-append (λ (fields : Row). is_frame (row_kind fields)) above (row ∷ []) ∙ rw e refl

has_frame-kept : (above : List Row) (row : Row) (d : DraftRows) → IsDraft above d → is_frame (row_kind row) ≡ false
    → has_frame (above ++ row ∷ []) ≡ is_some d.frame
has_frame-kept above row d h e = has_frame-is above row false e ∙ or-false (has_frame above) ∙ h.frame_there

names-kept : (above : List Row) (row : Row) (d : DraftRows) → IsDraft above d → is_param (row_kind row) ≡ false
    → names_of (above ++ row ∷ []) ≡ map (λ (p : ParamRow). p.name) d.params
names-kept above row d h e = names-push above row ∙ rw e (append-nil (names_of above)) ∙ h.names

params-kept : (above : List Row) (row : Row) (d : DraftRows) → IsDraft above d → is_param (row_kind row) ≡ false
    → (table_of (above ++ row ∷ [])).params ≡ d.params
params-kept above row d h e = params-push above row d h ∙ rw (param_row-other d.rows row e) (append-nil d.params)

places-kept : (above : List Row) (row : Row) (d : DraftRows) → IsDraft above d → is_place (row_kind row) ≡ false
    → (table_of (above ++ row ∷ [])).places ≡ d.places
places-kept above row d h e =
    places-push above row d h ∙ rw (place_row-other (param_named (above ++ row ∷ []) (name_in row)) d.rows row e) (append-nil d.places)

count-is : (above : List Row) (row : Row) (b : Bool) → is_place (row_kind row) ≡ b
    → place_count (above ++ row ∷ []) ≡ place_count above + length (cond b (row ∷ []) [])
count-is above row b e =
    ap length (filter-append (λ (fields : Row). is_place (row_kind fields)) above (row ∷ []))
    ∙ length-append (filter (λ (fields : Row). is_place (row_kind fields)) above) (filter (λ (fields : Row). is_place (row_kind fields)) (row ∷ []))
    ∙ ap (λ (b : Bool). place_count above + length (cond b (row ∷ []) [])) e

count-kept : (above : List Row) (row : Row) (d : DraftRows) → IsDraft above d → is_place (row_kind row) ≡ false
    → place_count (above ++ row ∷ []) ≡ length d.places
count-kept above row d h e = omega (arith, count-is above row false e, h.count)

named-push : (above : List Row) (row : Row) (d : DraftRows) → IsDraft above d → IsNamed (above ++ row ∷ []) row
    → All (IsNamed (above ++ row ∷ [])) (above ++ row ∷ [])
named-push above row d h new =
    All-push (IsNamed (above ++ row ∷ [])) above row
    (All-weaker (IsNamed above) (IsNamed (above ++ row ∷ [])) (λ r named e. has_name-push above row (field r 1) (named e)) above h.named) new

no-place : (above : List Row) (row : Row) → is_place (row_kind row) ≡ false → IsNamed above row
no-place above row e place = absurd (false≢true (sym e ∙ place))

rows-push : (above : List Row) (row : Row) (d : DraftRows) → IsDraft above d → length (above ++ row ∷ []) ≡ d.rows + 1
rows-push above row d h = omega (arith, length-append above (row ∷ []), h.rows)

-- ---- names of their own

-- a row with a right name
name-allowed : (row : Row) → misnamed row ≡ None → IsTrue (is_name (name_in row))
unfolding misnamed
name-allowed row e = go (is_name (name_in row)) e
  where
    go : (b : Bool) → (if b then None else Some fault.Name) ≡ None → IsTrue b
    go true h = search rules
    go false h = cc

-- a name that is not found is no parameter's
other-name : (params : List ParamRow) (name : List ℕ) (k : ℕ) (d : ParamRow) → list_any (λ (p : ParamRow). bytes_eq p.name name) params ≡ false
    → k < length params → (get_or params k d).name ≢ name
other-name [] name k d off lt = absurd (omega (arith, lt))
other-name (p ∷ ps) name zero d off lt =
    λ same. absurd (false≢true (sym off ∙ ap (λ (b : Bool). b || list_any (λ (q : ParamRow). bytes_eq q.name name) ps) ((bytes_decides p.name name).1 same)))
other-name (p ∷ ps) name (suc k) d off lt = other-name ps name k d (later (bytes_eq p.name name) _ off) (omega (arith, lt))
  where
    later : (b c : Bool) → (b || c) ≡ false → c ≡ false
    later true c h = cc
    later false c h = h

own-names-push : (params : List ParamRow) (p : ParamRow) → HaveOwnNames params → IsTrue (is_name p.name) → is_some (index_named params p.name) ≡ false
    → HaveOwnNames (params ++ p ∷ [])
own-names-push params p h allowed new =
    let off : list_any (λ (q : ParamRow). bytes_eq q.name p.name) params ≡ false =
    sym (position-is_some (λ (q : ParamRow). bytes_eq q.name p.name) params) ∙ new in
    record {
      allowed = All-push (λ (q : ParamRow). IsTrue (is_name q.name)) params p h.allowed allowed;
      different = all_pairs_push (λ (q r : ParamRow). q.name ≢ r.name) params p h.different (λ k d lt. other-name params p.name k d off lt);
    }

-- the draft with one more row
pub frame-next : (d : DraftRows) (row : Row) (f : FrameRow) → row_kind row ≡ Some kind.Frame → frame_row row ≡ Some f → is_some d.frame ≡ false
    → IsNextDraft d row (with_entry d (entry.Frame f))
frame-next d row f k e there above h =
    let no_frame : d.frame ≡ None = none-from d.frame d.frame refl there in
    let none = h.frame ∙ no_frame in
    let fault : row_fault above row ≡ None = frame-fault d row k above h ∙ rw (frame_row-right row f e, there) refl in
    record {
      no_fault = no-fault-push above row h.no_fault fault;
      frame = ap first_some (map-append frame_row above (row ∷ [])) ∙ first_some-next (map frame_row above) (frame_row row) none ∙ e;
      frame_there = has_frame-is above row true (ap is_frame k) ∙ ap (λ (b : Bool). b || true) (h.frame_there ∙ there);
      params = params-kept above row d h (ap is_param k);
      names = names-kept above row d h (ap is_param k);
      places = places-kept above row d h (ap is_place k);
      count = count-kept above row d h (ap is_place k);
      named = named-push above row d h (no-place (above ++ row ∷ []) row (ap is_place k));
      rows = rows-push above row d h;
      own_names = h.own_names;
      few_params = h.few_params;
      few_places = h.few_places;
    }

pub param-next : (d : DraftRows) (row : Row) (p : ParamRow) → row_kind row ≡ Some kind.Param → param_misread row ≡ None → param_row d.rows row ≡ Some p
    → is_some d.frame ≡ true
    → is_some (index_named d.params (name_in row)) ≡ false → length d.params < most_params → IsNextDraft d row (with_entry d (entry.Param p))
param-next d row p k m e there twice few above h =
    let named = named-right row m (param_row-right d.rows row p e) in
    let room : nat_le most_params (length d.params) ≡ false = lt-leb most_params (length d.params) few in
    let fault = param-fault d row k above h ∙ rw (m, there, named, twice, room) refl in
    record {
      no_fault = no-fault-push above row h.no_fault fault;
      frame = frame-kept above row d h (ap is_frame k);
      frame_there = has_frame-kept above row d h (ap is_frame k);
      params = params-push above row d h ∙ ap (λ (o : Option ParamRow). d.params ++ cons_option o []) e;
      names = names-push above row
          ∙ rw (k, h.names, param_row-name d.rows row p e) (sym (map-append (λ (q : ParamRow). q.name) d.params (p ∷ [])));
      places = places-kept above row d h (ap is_place k);
      count = count-kept above row d h (ap is_place k);
      named = named-push above row d h (no-place (above ++ row ∷ []) row (ap is_place k));
      rows = rows-push above row d h;
      own_names = own-names-push d.params p h.own_names
          (subst (λ (n : List ℕ). IsTrue (is_name n)) (param_row-name d.rows row p e) (name-allowed row named))
          (ap (λ (n : List ℕ). is_some (index_named d.params n)) (sym (param_row-name d.rows row p e)) ∙ twice);
      few_params = omega (arith, length-append d.params (p ∷ []), few);
      few_places = h.few_places;
    }

pub place-next : (d : DraftRows) (row : Row) (l : PlaceRow) → row_kind row ≡ Some kind.Place
    → place_row (unwrap_or (index_named d.params (name_in row)) 0) d.rows row ≡ Some l
    → is_some d.frame ≡ true → is_some (index_named d.params (name_in row)) ≡ true → length d.places < most_places
    → IsNextDraft d row (with_entry d (entry.Place l))
place-next d row l k e there known few above h =
    let name = has_name-is above d (name_in row) h ∙ known in
    let param = param_named-push above row (name_in row) name ∙ param_named-is above d (name_in row) h in
    let room : nat_le most_places (length d.places) ≡ false = lt-leb most_places (length d.places) few in
    let right = place_row-right (unwrap_or (index_named d.params (name_in row)) 0) d.rows row l e in
    let fault : row_fault above row ≡ None = place-fault d row k above h ∙ rw (right, there, known, room) refl in
    record {
      no_fault = no-fault-push above row h.no_fault fault;
      frame = frame-kept above row d h (ap is_frame k);
      frame_there = has_frame-kept above row d h (ap is_frame k);
      params = params-kept above row d h (ap is_param k);
      names = names-kept above row d h (ap is_param k);
      places = places-push above row d h ∙ rw (param, e) refl;
      count = omega (arith, count-is above row true (ap is_place k), h.count, length-append d.places (l ∷ []));
      named = named-push above row d h (λ place. has_name-push above row (name_in row) name);
      rows = rows-push above row d h;
      own_names = h.own_names;
      few_params = h.few_params;
      few_places = omega (arith, length-append d.places (l ∷ []), few);
    }

-- the first row is a frame row, so a draft with no frame has no rows
never-none : (m : Option TableFault) (f : TableFault) (rest : List (Option TableFault)) → first_some (m ∷ Some f ∷ rest) ≡ None → ⊥
never-none None f rest e = cc
never-none (Some g) f rest e = cc

first-is-frame : (row : Row) (k : Option RowKind) → row_kind row ≡ k → row_fault [] row ≡ None → is_frame (row_kind row) ≡ true
first-is-frame row None e none = let shape = ap (λ o. option_map_or (kind_fault [] row) o (Some fault.Shape)) e in cc
first-is-frame row (Some kind.Frame) e none = ap is_frame e
first-is-frame row (Some kind.Param) e none = absurd (never-none (param_misread row) fault.NoFrame _ (sym (by-kind [] row kind.Param e) ∙ none))
first-is-frame row (Some kind.Place) e none = absurd (never-none (place_misread row) fault.NoFrame _ (sym (by-kind [] row kind.Place e) ∙ none))

pub no-frame-no-rows : (rows : List Row) (d : DraftRows) → IsDraft rows d → is_some d.frame ≡ false → rows ≡ []
no-frame-no-rows [] d h e = refl
no-frame-no-rows (r ∷ rest) d h e =
    let first = first-is-frame r (row_kind r) refl (h.no_fault 0 (omega arith)) in
    let there = ap (λ (b : Bool). b || has_frame rest) first in
    absurd (false≢true (sym (h.frame_there ∙ e) ∙ there))
