-- The hits of a rule depend on no rows far before them.
use Rattle.std.proofs.Common.{◌≡◌, ⊎_elim, ℕ, zero, suc, ◌+◌, ◌-◌, ◌<◌, ◌≤◌, List, [], ◌∷◌, ◌++◌, length, map, take, drop}
use Rattle.std.proofs.Common.{Option, Some, None, refl, sym, ap, subst, ◌∙◌, arith, append_assoc, append-nil, length-append}
use Rattle.std.specs.Prelude.{Contains, ℤ, ◌==◌, if◌then◌else◌, nat_le, option_map, slice_get}
use Rattle.std.specs.List.{filter_map, cons_option, slice_index_or}
use Rattle.std.specs.Option.{option_map_or}
use Rattle.std.proofs.lemmas.Bool.{cases_Bool, cond-true, cond-false, eq-eqb, le-leb}
use Rattle.std.proofs.lemmas.List.{drop-drop, drop_at, get_or-append-add, length-map, length-take-le, map-append}
use Rattle.std.proofs.lemmas.List.Elements.{Contains-append_left, Contains-append_right, filter_map-append}
use Rattle.std.proofs.lemmas.Option.{slice_get-get_or}
use Rattle.circular_buffer.specs.Buffer.{keep_last}
use Rattle.fdr_lists.proofs.Pairs.{Contains-here}
use Rattle.fdr_recon.specs.declared.Row.{Row}
use Rattle.fdr_exceed.specs.Exceedances.{WatchStep, RowStep, compared, ended_before, ended_by, exceedance_of, exceedances, furthest, hit_at, hit_list}
use Rattle.fdr_exceed.specs.Exceedances.{hits_to, is_beyond, list_of_hits, least_hits, no_row, rows_since, spread, values_of}
use Rattle.fdr_exceed.specs.Lines.{exceed_text}
use Rattle.fdr_exceed.specs.declared.hits.HitList.{HitList}
use Rattle.fdr_exceed.specs.declared.rule.Rule.{Rule}
use Rattle.fdr_exceed.specs.declared.rule.RuleKind.{RuleKind}
use Rattle.fdr_exceed.specs.declared.rule.RuleKind.TheVariants as kind
use Rattle.fdr_exceed.proofs.Stepping.{rows_since-push, exceedances-push, lines_of_step}
use Rattle.fdr_laws.specs.Inside.{LiesInside, rows_compared, rows_of_rule}

-- ---- what is compared

some_compared : (rule : Rule) (k : RuleKind) → 1 ≤ rows_compared rule k
some_compared rule kind.Above = omega arith
some_compared rule kind.Below = omega arith
some_compared rule kind.Change = omega arith

last_behind : (a b : List ℤ) → 1 ≤ length b → slice_get (a ++ b) (length (a ++ b) - 1) ≡ slice_get b (length b - 1)
last_behind a [] some = absurd (omega (arith, some))
last_behind a (x ∷ xs) some =
    let b = x ∷ xs in
    let at : length (a ++ b) - 1 ≡ length a + (length b - 1) = omega (arith, length-append a b) in
    slice_get-get_or (a ++ b) (length (a ++ b) - 1) x (omega (arith, length-append a b))
    ∙ ap (λ k. Some (slice_index_or (a ++ b) k x)) at
    ∙ ap (λ y. Some y) (get_or-append-add a b (length b - 1) x)
    ∙ sym (slice_get-get_or b (length b - 1) x (omega arith))

kept_behind : (n : ℕ) (a b : List ℤ) → n ≤ length b → keep_last n (a ++ b) ≡ keep_last n b
kept_behind n a b within =
    let at : length (a ++ b) - n ≡ length a + (length b - n) = omega (arith, length-append a b) in
    ap (λ k. drop k (a ++ b)) at ∙ sym (drop-drop (length b - n) (length a) (a ++ b)) ∙ ap (drop (length b - n)) (drop_at a b (length a) refl)

compared_behind : (rule : Rule) (k : RuleKind) (a b : List ℤ) → rows_compared rule k ≤ length b → compared k rule.count (a ++ b) ≡ compared k rule.count b
compared_behind rule kind.Above a b within = last_behind a b within
compared_behind rule kind.Below a b within = last_behind a b within
compared_behind rule kind.Change a b within =
    let few : rule.count ≤ length b = omega arith in
    cond-true (nat_le rule.count (length (a ++ b))) _ _ (le-leb rule.count (length (a ++ b)) (omega (arith, length-append a b)))
    ∙ ap (λ xs. Some (spread xs)) (kept_behind rule.count a b few)
    ∙ sym (cond-true (nat_le rule.count (length b)) _ _ (le-leb rule.count (length b) few))

hit_behind : (rule : Rule) (a b : List ℤ) → rows_compared rule rule.kind ≤ length b → hit_at rule (a ++ b) ≡ hit_at rule b
unfolding hit_at
hit_behind rule a b within =
    ap (λ o. option_map_or (λ x. if is_beyond rule.kind rule.limit x then Some x else None) o None) (compared_behind rule rule.kind a b within)

-- ---- hits

take_behind : (a b : List ℤ) (n : ℕ) → take (length a + n) (a ++ b) ≡ a ++ take n b
take_behind [] b n = let e : 0 + n ≡ n = omega arith in ap (λ k. take k b) e
take_behind (x ∷ a) b n =
    let e : length (x ∷ a) + n ≡ suc (length a + n) = omega arith in
    ap (λ k. take k (x ∷ (a ++ b))) e ∙ ap (λ xs. x ∷ xs) (take_behind a b n)

same_hits : (o : Option ℤ) (hs others : List ℤ) (window k : ℕ) → length (option_map_or (λ x. x ∷ hs) o []) + window ≤ suc k
    → (length hs + window ≤ k → others ≡ hs) → option_map_or (λ x. x ∷ others) o [] ≡ option_map_or (λ x. x ∷ hs) o []
same_hits None hs others window k few same = refl
same_hits (Some x) hs others window k few same = ap (λ ys. x ∷ ys) (same (omega arith))

hits_behind : (rule : Rule) (a b : List ℤ) (n : ℕ) → n ≤ length b → length (hits_to rule b n) + rows_compared rule rule.kind ≤ n
    → hits_to rule (a ++ b) (length a + n) ≡ hits_to rule b n
unfolding hits_to
hits_behind rule a b zero within few = absurd (omega (arith, few, some_compared rule rule.kind))
hits_behind rule a b (suc k) within few =
    let next : length a + suc k ≡ suc (length a + k) = omega arith in
    let whole : take (suc (length a + k)) (a ++ b) ≡ a ++ take (suc k) b = ap (λ n. take n (a ++ b)) (sym next) ∙ take_behind a b (suc k) in
    let long : length (take (suc k) b) ≡ suc k = length-take-le (suc k) b within in
    ap (hits_to rule (a ++ b)) next
    ∙ ap (λ o. option_map_or (λ x. x ∷ hits_to rule (a ++ b) (length a + k)) o [])
    (ap (hit_at rule) whole ∙ hit_behind rule a (take (suc k) b) (omega (arith, few, long)))
    ∙ same_hits (hit_at rule (take (suc k) b)) (hits_to rule b k) (hits_to rule (a ++ b) (length a + k)) (rows_compared rule rule.kind) k few
    (λ fewer. hits_behind rule a b k (omega arith) fewer)

-- ---- the list of hits

list_behind : (rule : Rule) (a b : List Row) (hs : List ℤ) → length hs ≤ length b → list_of_hits rule (a ++ b) hs ≡ list_of_hits rule b hs
list_behind rule a b [] few = refl
list_behind rule a b (x ∷ xs) few =
    let at : length (a ++ b) - length (x ∷ xs) ≡ length a + (length b - length (x ∷ xs)) = omega (arith, length-append a b) in
    ap (λ (f : Row). Some (record { first = f; length = length (x ∷ xs); peak = furthest rule.kind (x ∷ xs) }))
    (ap (λ k. slice_index_or (a ++ b) k no_row) at ∙ get_or-append-add a b (length b - length (x ∷ xs)) no_row)

list_length : (rule : Rule) (rows : List Row) (hs : List ℤ) (e : HitList) → list_of_hits rule rows hs ≡ Some e → e.length ≡ length hs
list_length rule rows [] e is = absurd (cc)
list_length rule rows (x ∷ xs) e is =
    let same : record { first = slice_index_or rows (length rows - length (x ∷ xs)) no_row; length = length (x ∷ xs); peak = furthest rule.kind (x ∷ xs) }
    ≡ e = cc in
    ap (λ (l : HitList). l.length) (sym same)

exceedance_is : (rule : Rule) (l : Option HitList) (e : HitList) → exceedance_of rule l ≡ Some e → l ≡ Some e
exceedance_is rule None e is = absurd (cc)
exceedance_is rule (Some list) e is = ⊎_elim
    (λ enough. sym (cond-true (nat_le (least_hits rule rule.kind) list.length) (Some list) None enough) ∙ is)
    (λ short. absurd (let none = cond-false (nat_le (least_hits rule rule.kind) list.length) (Some list) None short in cc))
    (cases_Bool (nat_le (least_hits rule rule.kind) list.length))

ended_list : (rule : Rule) (o : Option ℤ) (l : Option HitList) (e : HitList) → option_map_or (λ x. None) o (exceedance_of rule l) ≡ Some e → l ≡ Some e
ended_list rule None l e is = exceedance_is rule l e is
ended_list rule (Some x) l e is = absurd (cc)

hit_list_behind : (rule : Rule) (a b : List Row) (e : HitList) → hit_list rule b ≡ Some e → e.length + rows_compared rule rule.kind ≤ length b
    → hit_list rule (a ++ b) ≡ hit_list rule b
unfolding hit_list
hit_list_behind rule a b e is few =
    let hs = hits_to rule (values_of b) (length b) in
    let size : e.length ≡ length hs = list_length rule b hs e is in
    let values : values_of (a ++ b) ≡ values_of a ++ values_of b = map-append (λ (r : Row). r.value) a b in
    let count : length (a ++ b) ≡ length (values_of a) + length b = omega (arith, length-append a b, length-map a (λ (r : Row). r.value)) in
    let long : length b ≤ length (values_of b) = omega (arith, length-map b (λ (r : Row). r.value)) in
    let same : hits_to rule (values_of (a ++ b)) (length (a ++ b)) ≡ hs =
    ap (λ vs. hits_to rule vs (length (a ++ b))) values
    ∙ ap (hits_to rule (values_of a ++ values_of b)) count
    ∙ hits_behind rule (values_of a) (values_of b) (length b) long (omega (arith, few, size)) in
    ap (list_of_hits rule (a ++ b)) same ∙ list_behind rule a b hs (omega (arith, few, size))

-- an exceedance ends behind other rows as it does without them
ended_behind : (rule : Rule) (a b : List Row) (r : Row) (e : HitList) → ended_before rule b r ≡ Some e
    → e.length + rows_compared rule rule.kind ≤ length b → ended_before rule (a ++ b) r ≡ Some e
unfolding ended_before
ended_behind rule a b r e is few =
    let list : hit_list rule b ≡ Some e = ended_list rule (hit_at rule (values_of (b ++ r ∷ []))) (hit_list rule b) e is in
    let values : values_of ((a ++ b) ++ r ∷ []) ≡ values_of a ++ values_of (b ++ r ∷ []) =
    ap values_of (append_assoc a b (r ∷ [])) ∙ map-append (λ (x : Row). x.value) a (b ++ r ∷ []) in
    let long : rows_compared rule rule.kind ≤ length (values_of (b ++ r ∷ [])) =
    omega (arith, few, length-map (b ++ r ∷ []) (λ (x : Row). x.value), length-append b (r ∷ [])) in
    ap (λ vs. option_map_or (λ x. None) (hit_at rule vs) (exceedance_of rule (hit_list rule (a ++ b)))) values
    ∙ ap (λ o. option_map_or (λ x. None) o (exceedance_of rule (hit_list rule (a ++ b)))) (hit_behind rule (values_of a) (values_of (b ++ r ∷ [])) long)
    ∙ ap (λ l. option_map_or (λ x. None) (hit_at rule (values_of (b ++ r ∷ []))) (exceedance_of rule l)) (hit_list_behind rule a b e list few)
    ∙ is

-- ---- steps

-- a rule's rows of a stretch go on with those of its parameter
pub rows_after : (rule : Rule) (before : List WatchStep) (rows : List Row) → rows_since rule (before ++ map RowStep rows)
    ≡ rows_since rule before ++ rows_of_rule rule rows
rows_after rule before [] = ap (rows_since rule) (append-nil before) ∙ sym (append-nil (rows_since rule before))
rows_after rule before (r ∷ rest) =
    let kept = rows_since rule before in
    ap (rows_since rule) (sym (append_assoc before (RowStep r ∷ []) (map RowStep rest)))
    ∙ rows_after rule (before ++ RowStep r ∷ []) rest
    ∙ ap (λ xs. xs ++ rows_of_rule rule rest) (rows_since-push rule before (RowStep r))
    ∙ ⊎_elim
    (λ own. ap (λ xs. xs ++ rows_of_rule rule rest) (cond-true (r.param == rule.param) (kept ++ r ∷ []) kept own)
    ∙ append_assoc kept (r ∷ []) (rows_of_rule rule rest)
    ∙ ap (λ xs. kept ++ xs) (sym (cond-true (r.param == rule.param) (r ∷ rows_of_rule rule rest) (rows_of_rule rule rest) own)))
    (λ other. ap (λ xs. xs ++ rows_of_rule rule rest) (cond-false (r.param == rule.param) (kept ++ r ∷ []) kept other)
    ∙ ap (λ xs. kept ++ xs) (sym (cond-false (r.param == rule.param) (r ∷ rows_of_rule rule rest) (rows_of_rule rule rest) other)))
    (cases_Bool (r.param == rule.param))

split_at : {X : Type 0} (xs : List X) (x : X) → Contains xs x → (before : List X) × (after : List X) × (xs ≡ before ++ x ∷ after)
split_at [] x h = absurd (let within : h.0 < 0 = h.1 in omega arith)
split_at (y ∷ ys) x (zero, within, is) = ([], ys, ap (λ z. z ∷ ys) is)
split_at (y ∷ ys) x (suc k, within, is) =
    let rest = split_at ys x (k, omega (arith, within), is) in
    (y ∷ rest.0, rest.1, ap (λ zs. y ∷ zs) rest.2)

pub kept_contains : {A B : Type 0} (f : A → Option B) (xs : List A) (x : A) (y : B) → Contains xs x → f x ≡ Some y → Contains (filter_map f xs) y
kept_contains f xs x y h is =
    let place = split_at xs x h in
    subst (λ zs. Contains (filter_map f zs) y) (sym place.2)
    (subst (λ zs. Contains zs y) (sym (filter_map-append f place.0 (x ∷ place.1)))
    (Contains-append_right (filter_map f place.0) (filter_map f (x ∷ place.1)) y
    (subst (λ o. Contains (cons_option o (filter_map f place.1)) y) (sym is) (Contains-here y (filter_map f place.1)))))

-- no line is taken back
lines_stay : (rules : List Rule) (steps more : List WatchStep) (line : List ℕ) → Contains (exceedances rules steps) line
    → Contains (exceedances rules (steps ++ more)) line
lines_stay rules steps [] line h = subst (λ xs. Contains (exceedances rules xs) line) (sym (append-nil steps)) h
lines_stay rules steps (s ∷ more) line h =
    subst (λ xs. Contains (exceedances rules xs) line) (append_assoc steps (s ∷ []) more)
    (lines_stay rules (steps ++ s ∷ []) more line
    (subst (λ xs. Contains xs line) (sym (exceedances-push rules steps s))
    (Contains-append_left (exceedances rules steps) (lines_of_step rules steps s) line h)))

pub listed_inside : (rules : List Rule) (rule : Rule) (before behind : List WatchStep) (rows : List Row) (r : Row) (e : HitList)
    → Contains rules rule → LiesInside rule rows r e
    → Contains (exceedances rules ((before ++ map RowStep rows) ++ RowStep r ∷ behind)) (exceed_text rule e)
listed_inside rules rule before behind rows r e is inside =
    let steps = before ++ map RowStep rows in
    let ended : ended_by rule (rows_since rule steps) (RowStep r) ≡ Some e =
    cond-true (r.param == rule.param) _ _ (eq-eqb r.param rule.param inside.own)
    ∙ ap (λ xs. ended_before rule xs r) (rows_after rule before rows)
    ∙ ended_behind rule (rows_since rule before) (rows_of_rule rule rows) r e inside.ends inside.begins in
    let here : Contains (lines_of_step rules steps (RowStep r)) (exceed_text rule e) =
    kept_contains (λ (x : Rule). option_map (exceed_text x) (ended_by x (rows_since x steps) (RowStep r))) rules rule (exceed_text rule e) is
    (ap (option_map (exceed_text rule)) ended) in
    subst (λ xs. Contains (exceedances rules xs) (exceed_text rule e)) (append_assoc steps (RowStep r ∷ []) behind)
    (lines_stay rules (steps ++ RowStep r ∷ []) behind (exceed_text rule e)
    (subst (λ xs. Contains xs (exceed_text rule e)) (sym (exceedances-push rules steps (RowStep r)))
    (Contains-append_right (exceedances rules steps) (lines_of_step rules steps (RowStep r)) (exceed_text rule e) here)))
