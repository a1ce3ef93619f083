-- A step given to the rules one after another.
use Rattle.std.proofs.Common.{◌≡◌, ◌≢◌, ◌∙◌, ap, sym, refl, subst, ℕ, zero, suc, ◌+◌, ◌-◌, ◌<◌, ◌≤◌, ⊎_elim, Bool, true, false, ◌==◌}
use Rattle.std.proofs.Common.{List, [], ◌∷◌}
use Rattle.std.proofs.Common.{◌++◌, length, map, take, drop, get_or, set, Option, Some, None, arith, add-zero, zero-add, append_assoc}
use Rattle.std.proofs.Common.{length-append, get_or-set_same, get_or-set_other}
use Rattle.std.specs.Prelude.{option_map, filter_map, if◌then◌else◌, All, IfSome}
use Rattle.std.specs.List.{cons_option, flat_map, range_with_len}
use Rattle.std.proofs.lemmas.Bool.{cases_lt, cond-true, cond-false}
use Rattle.std.proofs.lemmas.Bool.Decides.{nat_tests}
use Rattle.std.proofs.lemmas.Grind.{flat_map-append}
use Rattle.std.proofs.lemmas.List.{append-nil, take-append-le, get_or_append_left}
use Rattle.std.proofs.lemmas.List.Elements.{All-append, All-cons, All-nil, filter_map-append}
use Rattle.std.proofs.lemmas.Option.{get_or_from_slice_get, slice_get-get_or}
use Rattle.std.proofs.lemmas.List.Sums.{fold_push}
use Rattle.std.proofs.Math.Seq.{take-append_seam, get_or-append_seam}
use Rattle.circular_buffer.specs.Buffer.{Buffer, buffer, keep_last}
use Rattle.fdr_lists.proofs.Ranges.{range_suc, range_more}
use Rattle.fdr_recon.specs.declared.Row.{Row}
use Rattle.fdr_exceed.specs.declared.hits.HitList.{HitList}
use Rattle.fdr_exceed.specs.declared.hits.Hits.{Hits}
use Rattle.fdr_exceed.specs.declared.rule.Rule.{Rule}
use Rattle.fdr_exceed.specs.declared.watch.Exceedance.{Exceedance}
use Rattle.fdr_exceed.specs.Lines.{exceed_text}
use Rattle.fdr_exceed.specs.Exceedances.{WatchStep, RowStep, ResetStep, with_step, rows_since, ended_before, ended_by, lines_ended_by_step, exceedances}
use Rattle.fdr_exceed.specs.Watching.{rule_at, hits_of_rule, no_rule, no_hits, IsHits, IsWithinHits, AreHits, IsNextOf, due_of_rule, due_to, line_due}
use Rattle.fdr_exceed.specs.Watching.{with_ended}

-- one step more
pub rows_since-push : (rule : Rule) (steps : List WatchStep) (s : WatchStep) → rows_since rule (steps ++ s ∷ []) ≡ with_step rule (rows_since rule steps) s
unfolding rows_since
rows_since-push rule steps s = fold_push (with_step rule) [] steps s

-- the lines of the exceedances that a step after others ends
abbrev pub lines_of_step : List Rule → List WatchStep → WatchStep → List (List ℕ)
lines_of_step rules steps s = filter_map (λ (rule : Rule). option_map (exceed_text rule) (ended_by rule (rows_since rule steps) s)) rules

lines_before : (rules : List Rule) (steps : List WatchStep) (s : WatchStep) (i : ℕ) → i < length steps
    → lines_ended_by_step rules (steps ++ s ∷ []) i ≡ lines_ended_by_step rules steps i
unfolding lines_ended_by_step
lines_before rules steps s i within =
    ap (λ (xs : List WatchStep). filter_map (λ (rule : Rule). option_map (exceed_text rule) (ended_by rule (rows_since rule xs) (get_or
    (steps ++ s ∷ []) i ResetStep))) rules)
    (take-append-le i steps (s ∷ []) (omega arith))
    ∙ ap (λ (x : WatchStep). filter_map (λ (rule : Rule). option_map (exceed_text rule) (ended_by rule (rows_since rule (take i steps)) x)) rules)
    (get_or_append_left steps (s ∷ []) ResetStep i within)

lines_last : (rules : List Rule) (steps : List WatchStep) (s : WatchStep)
    → lines_ended_by_step rules (steps ++ s ∷ []) (length steps) ≡ lines_of_step rules steps s
unfolding lines_ended_by_step
lines_last rules steps s =
    ap (λ (xs : List WatchStep). filter_map (λ (rule : Rule). option_map (exceed_text rule)
    (ended_by rule (rows_since rule xs) (get_or (steps ++ s ∷ []) (length steps) ResetStep))) rules)
    (take-append_seam steps (s ∷ []))
    ∙ ap (λ (x : WatchStep). filter_map (λ (rule : Rule). option_map (exceed_text rule) (ended_by rule (rows_since rule steps) x)) rules)
    (get_or-append_seam steps s [] ResetStep)

flat_map_agree : (f g : ℕ → List (List ℕ)) (a n : ℕ) → ((i : ℕ) → a ≤ i → i < a + n → f i ≡ g i)
    → flat_map f (range_with_len a n) ≡ flat_map g (range_with_len a n)
flat_map_agree f g a zero same = refl
flat_map_agree f g a (suc n) same =
    ap (λ xs. xs ++ flat_map f (range_with_len (a + 1) n)) (same a (omega arith) (omega arith))
    ∙ ap (λ xs. g a ++ xs) (flat_map_agree f g (a + 1) n (λ i low high. same i (omega arith) (omega arith)))

pub exceedances-push : (rules : List Rule) (steps : List WatchStep) (s : WatchStep) →
    exceedances rules (steps ++ s ∷ []) ≡ exceedances rules steps ++ lines_of_step rules steps s
unfolding exceedances
exceedances-push rules steps s =
    let lines = lines_ended_by_step rules (steps ++ s ∷ []) in
    let n = length steps in
    let more : length (steps ++ s ∷ []) ≡ suc n = omega (arith, length-append steps (s ∷ [])) in
    ap (λ k. flat_map lines (range_with_len 0 k)) more
    ∙ ap (flat_map lines) (range_suc 0 n)
    ∙ flat_map-append lines (range_with_len 0 n) ((0 + n) ∷ [])
    ∙ ap (λ xs. xs ++ flat_map lines ((0 + n) ∷ [])) (flat_map_agree lines (lines_ended_by_step rules steps) 0 n
    (λ i low high. lines_before rules steps s i (omega arith)))
    ∙ ap (λ xs. flat_map (lines_ended_by_step rules steps) (range_with_len 0 n) ++ xs)
    (append-nil (lines (0 + n)) ∙ ap lines (zero-add n) ∙ lines_last rules steps s)

-- the lines are those of the exceedances that are due
kept_by : {B C : Type 0} (g : B → C) (o : Option B) (ys : List B) → map g (cons_option o ys) ≡ cons_option (option_map g o) (map g ys)
kept_by g None ys = refl
kept_by g (Some y) ys = refl

map_kept : {A B C : Type 0} (g : B → C) (h : A → Option B) (xs : List A) → map g (filter_map h xs) ≡ filter_map (λ x. option_map g (h x)) xs
map_kept g h [] = refl
map_kept g h (x ∷ xs) = kept_by g (h x) (filter_map h xs) ∙ ap (cons_option (option_map g (h x))) (map_kept g h xs)

filter_map_agree : {A B : Type 0} (f g : A → Option B) (xs : List A) → ((x : A) → f x ≡ g x) → filter_map f xs ≡ filter_map g xs
filter_map_agree f g [] same = refl
filter_map_agree f g (x ∷ xs) same = ap (λ o. cons_option o (filter_map f xs)) (same x) ∙ ap (cons_option (g x)) (filter_map_agree f g xs same)

-- the elements by their places
by_place : {B : Type 0} (f : Rule → Option B) (before rules : List Rule)
    → filter_map (λ k. f (rule_at (before ++ rules) k)) (range_with_len (length before) (length rules)) ≡ filter_map f rules
by_place f before [] = refl
by_place f before (r ∷ rest) =
    let here : rule_at (before ++ r ∷ rest) (length before) ≡ r = get_or-append_seam before r rest no_rule in
    let all : (before ++ r ∷ []) ++ rest ≡ before ++ r ∷ rest = append_assoc before (r ∷ []) rest in
    let more : length (before ++ r ∷ []) ≡ length before + 1 = omega (arith, length-append before (r ∷ [])) in
    ap (λ (x : Rule). cons_option (f x) (filter_map (λ k. f (rule_at (before ++ r ∷ rest) k)) (range_with_len (length before + 1) (length rest)))) here
    ∙ ap (cons_option (f r)) (ap (λ n. filter_map (λ k. f (rule_at (before ++ r ∷ rest) k)) (range_with_len n (length rest))) (sym more)
    ∙ ap (λ (xs : List Rule). filter_map (λ k. f (rule_at xs k)) (range_with_len (length (before ++ r ∷ [])) (length rest))) (sym all)
    ∙ by_place f (before ++ r ∷ []) rest)

text_of : (rules : List Rule) (k : ℕ) (o : Option HitList)
    → option_map (line_due rules) (option_map (λ (list : HitList). record { rule = k; list = list }) o) ≡ option_map (exceed_text (rule_at rules k)) o
text_of rules k None = refl
text_of rules k (Some list) = refl

line_of_due : (rules : List Rule) (steps : List WatchStep) (s : WatchStep) (k : ℕ) → option_map (line_due rules) (due_of_rule rules steps s k)
    ≡ option_map (exceed_text (rule_at rules k)) (ended_by (rule_at rules k) (rows_since (rule_at rules k) steps) s)
unfolding due_of_rule
line_of_due rules steps s k = text_of rules k (ended_by (rule_at rules k) (rows_since (rule_at rules k) steps) s)

-- the lines of a step are those of the exceedances that are due
pub due-lines : (rules : List Rule) (steps : List WatchStep) (s : WatchStep)
    → map (line_due rules) (due_to rules steps s (length rules)) ≡ lines_of_step rules steps s
due-lines rules steps s =
    map_kept (line_due rules) (due_of_rule rules steps s) (range_with_len 0 (length rules))
    ∙ filter_map_agree (λ k. option_map (line_due rules) (due_of_rule rules steps s k))
    (λ k. option_map (exceed_text (rule_at rules k)) (ended_by (rule_at rules k) (rows_since (rule_at rules k) steps) s)) (range_with_len 0 (length rules))
    (line_of_due rules steps s)
    ∙ by_place (λ (rule : Rule). option_map (exceed_text rule) (ended_by rule (rows_since rule steps) s)) [] rules

-- The step was given to the first n rules, which have ended these exceedances.
pub record IsGivenTo (rules : List Rule) (steps : List WatchStep) (s : WatchStep) (n : ℕ) (hits : List Hits) (due : List Exceedance) : Type 0 where
  pub done : (k : ℕ) → k < n → k < length rules → IsHits (rule_at rules k) (rows_since (rule_at rules k) (steps ++ s ∷ [])) (hits_of_rule hits k)
  pub rest : (k : ℕ) → n ≤ k → k < length rules → IsHits (rule_at rules k) (rows_since (rule_at rules k) steps) (hits_of_rule hits k)
  pub ended : due ≡ due_to rules steps s n

pub none-given : (rules : List Rule) (steps : List WatchStep) (s : WatchStep) (hits : List Hits) (due : List Exceedance) → AreHits rules steps hits → due ≡ []
    → IsGivenTo rules steps s 0 hits due
none-given rules steps s hits due are nothing = record {
  done = λ k low within. absurd (omega arith);
  rest = λ k low within. are k within;
  ended = nothing;
}

due_more : (rules : List Rule) (steps : List WatchStep) (s : WatchStep) (n : ℕ)
    → due_to rules steps s (n + 1) ≡ due_to rules steps s n ++ cons_option (due_of_rule rules steps s n) []
due_more rules steps s n =
    ap (filter_map (due_of_rule rules steps s)) (range_more 0 n)
    ∙ filter_map-append (due_of_rule rules steps s) (range_with_len 0 n) ((0 + n) ∷ [])
    ∙ ap (λ k. due_to rules steps s n ++ cons_option (due_of_rule rules steps s k) []) (zero-add n)

-- one rule more
pub one-given : (rules : List Rule) (steps : List WatchStep) (s : WatchStep) (n : ℕ) (hits : List Hits) (due : List Exceedance) (h : Hits)
    (o : Option HitList)
    → IsGivenTo rules steps s n hits due → n < length rules → length hits ≡ length rules
    → IsHits (rule_at rules n) (rows_since (rule_at rules n) (steps ++ s ∷ [])) h
    → o ≡ ended_by (rule_at rules n) (rows_since (rule_at rules n) steps) s
    → IsGivenTo rules steps s (n + 1) (set hits n h) (with_ended due n o)
unfolding due_of_rule
one-given rules steps s n hits due h o given within count now ended = record {
  done = λ k low inside. ⊎_elim
      (λ before. subst (IsHits (rule_at rules k) (rows_since (rule_at rules k) (steps ++ s ∷ [])))
      (sym (get_or-set_other hits n k h no_hits (omega arith))) (given.done k before inside))
      (λ here. let same : k ≡ n = omega arith in
      subst (λ j. IsHits (rule_at rules j) (rows_since (rule_at rules j) (steps ++ s ∷ [])) (hits_of_rule (set hits n h) j)) (sym same)
      (subst (IsHits (rule_at rules n) (rows_since (rule_at rules n) (steps ++ s ∷ [])))
      (sym (get_or-set_same hits n h no_hits (omega arith))) now))
      (cases_lt k n);
  rest = λ k low inside.
      subst (IsHits (rule_at rules k) (rows_since (rule_at rules k) steps)) (sym (get_or-set_other hits n k h no_hits (omega arith))) (given.rest k
      (omega arith) inside);
  ended = ap (λ d. with_ended d n o) given.ended
      ∙ ap (λ q. with_ended (due_to rules steps s n) n q) ended
      ∙ sym (due_more rules steps s n);
}

other_rows : (b : Bool) (rows : List Row) (r : Row) → b ≡ false → (if b then rows ++ r ∷ [] else rows) ≡ rows
other_rows b rows r isnt = cond-false _ _ _ isnt

no_param : (a b : ℕ) → b ≢ a → (a == b) ≡ false
no_param a b other = grind (arith, nat_tests)

-- the rows of a rule stay where a row is of another parameter
pub rows-other : (rules : List Rule) (steps : List WatchStep) (r : Row) (k : ℕ) → (rule_at rules k).param ≢ r.param
    → rows_since (rule_at rules k) (steps ++ RowStep r ∷ []) ≡ rows_since (rule_at rules k) steps
rows-other rules steps r k other =
    rows_since-push (rule_at rules k) steps (RowStep r)
    ∙ other_rows (r.param == (rule_at rules k).param) (rows_since (rule_at rules k) steps) r (no_param r.param (rule_at rules k).param other)

skip_due : (rules : List Rule) (steps : List WatchStep) (r : Row) (k : ℕ) → (rule_at rules k).param ≢ r.param → due_of_rule rules steps (RowStep r) k ≡ None
unfolding due_of_rule
skip_due rules steps r k other =
    ap (option_map (λ (list : HitList). record { rule = k; list = list })) (cond-false _ _ _ (no_param r.param (rule_at rules k).param other))

skip_all : (rules : List Rule) (steps : List WatchStep) (r : Row) (n d : ℕ) → ((k : ℕ) → n ≤ k → k < n + d → (rule_at rules k).param ≢ r.param)
    → due_to rules steps (RowStep r) (n + d) ≡ due_to rules steps (RowStep r) n
skip_all rules steps r n zero other = ap (due_to rules steps (RowStep r)) (add-zero n)
skip_all rules steps r n (suc d) other =
    let e : n + suc d ≡ n + d + 1 = omega arith in
    ap (due_to rules steps (RowStep r)) e ∙ due_more rules steps (RowStep r) (n + d)
    ∙ ap (λ (o : Option Exceedance). due_to rules steps (RowStep r) (n + d) ++ cons_option o []) (skip_due rules steps r (n + d) (other (n + d)
    (omega arith) (omega arith)))
    ∙ append-nil (due_to rules steps (RowStep r) (n + d))
    ∙ skip_all rules steps r n d (λ k low high. other k low (omega arith))

-- rules of other parameters are passed over
pub others-given : (rules : List Rule) (steps : List WatchStep) (r : Row) (n m : ℕ) (hits : List Hits) (due : List Exceedance) (param : ℕ)
    → IsGivenTo rules steps (RowStep r) n hits due → IsNextOf rules n param m → param ≡ r.param → IsGivenTo rules steps (RowStep r) m hits due
others-given rules steps r n m hits due param given next same =
    let other : (k : ℕ) → n ≤ k → k < m → (rule_at rules k).param ≢ r.param = λ k low high e. next.none k low high (e ∙ sym same) in
    let width : n + (m - n) ≡ m = omega (arith, next.from) in
    record {
      done = λ k low inside. ⊎_elim
          (λ before. given.done k before inside)
          (λ past. subst (λ (rows : List Row). IsHits (rule_at rules k) rows (hits_of_rule hits k)) (sym (rows-other rules steps r k (other k past low)))
          (given.rest k past inside))
          (cases_lt k n);
      rest = λ k low inside. given.rest k (omega (arith, low, next.from)) inside;
      ended = given.ended ∙ sym (ap (due_to rules steps (RowStep r)) (sym width)
          ∙ skip_all rules steps r n (m - n) (λ k low high. other k low (omega (arith, high, width))));
    }

-- every rule was given the step
pub all-given : (rules : List Rule) (steps : List WatchStep) (s : WatchStep) (n : ℕ) (hits : List Hits) (due : List Exceedance)
    → IsGivenTo rules steps s n hits due → n ≡ length rules → AreHits rules (steps ++ s ∷ []) hits × (due ≡ due_to rules steps s (length rules))
all-given rules steps s n hits due given all =
    (λ k within. given.done k (omega (arith, within, all)) within, given.ended ∙ ap (due_to rules steps s) all)

pub rows-before : (rule : Rule) → rows_since rule [] ≡ []
unfolding rows_since
rows-before rule = refl

-- what is read at a place
pub read-at : {X : Type 0} (xs : List X) (i : ℕ) (x d : X) → i < length xs → x ≡ get_or xs i x → x ≡ get_or xs i d
read-at xs i x d within at = sym (get_or_from_slice_get xs i x d (slice_get-get_or xs i x within ∙ ap Some (sym at)))

-- rule i is given the step
pub given-on : (rules : List Rule) (steps : List WatchStep) (s : WatchStep) (i : ℕ) (hits : List Hits) (due later : List Exceedance) (rule : Rule)
    (old new : Hits)
    (ended : Option HitList) → IsGivenTo rules steps s i hits due → i < length rules → length hits ≡ length rules → rule ≡ rule_at rules i
    → old ≡ hits_of_rule hits i
    → (IsHits rule (rows_since (rule_at rules i) steps) old → IsHits rule (with_step rule (rows_since (rule_at rules i) steps) s) new)
    → (IsHits rule (rows_since (rule_at rules i) steps) old → ended ≡ ended_by rule (rows_since (rule_at rules i) steps) s)
    → later ≡ with_ended due i ended
    → IsGivenTo rules steps s (i + 1) (set hits i new) later
given-on rules steps s i hits due later rule old new ended given within count rule_is old_is goes ends later_is =
    let rows = rows_since (rule_at rules i) steps in
    let at : IsHits rule rows old = subst (λ (q : Rule). IsHits q rows old) (sym rule_is)
    (subst (IsHits (rule_at rules i) rows) (sym old_is) (given.rest i (omega arith) within)) in
    let now : IsHits (rule_at rules i) (with_step (rule_at rules i) rows s) new =
    subst (λ (q : Rule). IsHits q (with_step q rows s) new) rule_is (goes at) in
    let is : ended ≡ ended_by (rule_at rules i) rows s = ends at ∙ ap (λ (q : Rule). ended_by q rows s) rule_is in
    subst (IsGivenTo rules steps s (i + 1) (set hits i new)) (sym later_is)
    (one-given rules steps s i hits due new ended given within count
    (subst (λ (xs : List Row). IsHits (rule_at rules i) xs new) (sym (rows_since-push (rule_at rules i) steps s)) now) is)

own_param : (a b : ℕ) → b ≡ a → (a == b) ≡ true
own_param a b same = grind (arith, nat_tests)

-- a row of the rule's parameter is one of its rows
pub row-goes : (rule : Rule) (r : Row) (old new : Hits) (rows : List Row) → rule.param ≡ r.param
    → (IsHits rule rows old → IsHits rule (rows ++ r ∷ []) new) → IsHits rule rows old → IsHits rule (with_step rule rows (RowStep r)) new
row-goes rule r old new rows same goes at =
    subst (λ (xs : List Row). IsHits rule xs new) (sym (cond-true _ (rows ++ r ∷ []) rows (own_param r.param rule.param same))) (goes at)

pub row-ends : (rule : Rule) (r : Row) (old : Hits) (ended : Option HitList) (rows : List Row) → rule.param ≡ r.param
    → (IsHits rule rows old → ended ≡ ended_before rule rows r) → IsHits rule rows old → ended ≡ ended_by rule rows (RowStep r)
row-ends rule r old ended rows same ends at =
    ends at ∙ sym (cond-true _ (ended_before rule rows r) None (own_param r.param rule.param same))

-- the rows of a rule with one of its parameter
pub rows-own : (rule : Rule) (steps : List WatchStep) (r : Row) → rule.param ≡ r.param
    → rows_since rule (steps ++ RowStep r ∷ []) ≡ rows_since rule steps ++ r ∷ []
rows-own rule steps r same =
    rows_since-push rule steps (RowStep r) ∙ cond-true _ (rows_since rule steps ++ r ∷ []) (rows_since rule steps) (own_param r.param rule.param same)

-- the exceedance that was added, where there was room
pub due-pushed : (due new : Buffer Exceedance) (k : ℕ) (ended : Option HitList) (list : HitList) → ended ≡ Some list → length due.items < due.capacity
    → new ≡ buffer (keep_last due.capacity (due.items ++ record { rule = k; list = list } ∷ [])) due.capacity → new.items ≡ with_ended due.items k ended
due-pushed due new k ended list is room pushed =
    let all : List Exceedance = due.items ++ record { rule = k; list = list } ∷ [] in
    let none : length all - due.capacity ≡ 0 = omega (arith, room, length-append due.items (record { rule = k; list = list } ∷ [])) in
    ap (λ (b : Buffer Exceedance). b.items) pushed ∙ ap (λ n. drop n all) none ∙ ap (with_ended due.items k) (sym is)

ended_few : (due : List Exceedance) (o : Option Exceedance) (n : ℕ) → length due ≤ n → length (due ++ cons_option o []) ≤ n + 1
ended_few due None n few = omega (arith, length-append due [])
ended_few due (Some e) n few = omega (arith, length-append due (e ∷ []))

pub with_ended-few : (due : List Exceedance) (k : ℕ) (o : Option HitList) (n : ℕ) → length due ≤ n → length (with_ended due k o) ≤ n + 1
with_ended-few due k o n few = ended_few due (option_map (λ (list : HitList). record { rule = k; list = list }) o) n few

abbrev pub IsOfRules : ℕ → Exceedance → Type 0
IsOfRules n e = e.rule < n

pub with_ended-inside : (due : List Exceedance) (k : ℕ) (o : Option HitList) (n : ℕ) → All (IsOfRules n) due → k < n → All (IsOfRules n) (with_ended due k o)
with_ended-inside due k None n inside within = All-append (IsOfRules n) due [] inside (All-nil (IsOfRules n))
with_ended-inside due k (Some list) n inside within =
    All-append (IsOfRules n) due (record { rule = k; list = list } ∷ []) inside
    (All-cons (IsOfRules n) (record { rule = k; list = list }) [] within (All-nil (IsOfRules n)))

more_within : (n : ℕ) (o : Option HitList) → IfSome o (λ (list : HitList). list.length ≤ n) → IfSome o (λ (list : HitList). list.length ≤ n + 1)
more_within n None few = tt
more_within n (Some list) few = omega (arith, few)

pub within-more : (n : ℕ) (hits : List Hits) → All (IsWithinHits n) hits → All (IsWithinHits (n + 1)) hits
within-more n hits all = λ k d inside. more_within n (get_or hits k d).list (all k d inside)

pub none-within : (n : ℕ) (h : Hits) → h.list ≡ None → IsWithinHits n h
none-within n h none = subst (λ (o : Option HitList). IfSome o (λ (list : HitList). list.length ≤ n)) (sym none) tt
