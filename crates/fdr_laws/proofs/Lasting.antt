-- Exceedances are the maximal lists of neighbouring hits, and there are no others.
use Rattle.std.proofs.Common.{◌≡◌, ◌∙◌, ap, sym, refl, subst, ℕ, zero, suc, ◌+◌, ◌-◌, ◌<◌, ◌≤◌, ⊎_elim, inl, inr, true, ◌==◌, nat_le}
use Rattle.std.proofs.Common.{List, [], ◌∷◌, ◌++◌, length, map, take, Option, Some, None, arith, append_assoc, append-nil, length-append, Contains, ◌↔◌, ◌⊎◌}
use Rattle.std.specs.Prelude.{ℤ, option_map, filter_map, slice_index_or, flat_map}
use Rattle.std.specs.List.{cons_option, range_with_len}
use Rattle.std.specs.Option.{option_map_or}
use Rattle.std.proofs.lemmas.Bool.{cases_Bool, cases_lt, cond-true, cond-false, eq-eqb}
use Rattle.std.proofs.lemmas.Bool.Decides.{nat_tests}
use Rattle.std.proofs.lemmas.Int.{ints}
use Rattle.std.proofs.lemmas.List.{length-map, map-append, take_all}
use Rattle.std.proofs.lemmas.List.Elements.{Contains-append_cases, Contains-append_left, Contains-append_right}
use Rattle.std.proofs.lemmas.List.FromFn.{get_or-range_with_len, length-range_with_len}
use Rattle.fdr_lists.proofs.Pairs.{Contains-here}
use Rattle.fdr_recon.specs.declared.Row.{Row}
use Rattle.fdr_exceed.specs.declared.hits.HitList.{HitList}
use Rattle.fdr_exceed.specs.declared.rule.Rule.{Rule}
use Rattle.fdr_exceed.specs.declared.rule.RuleKind.{RuleKind}
use Rattle.fdr_exceed.specs.declared.rule.RuleKind.TheVariants as kind
use Rattle.fdr_exceed.specs.Exceedances.{WatchStep, RowStep, ResetStep, ended_before, ended_by, exceedance_of, furthest, hit_at, hit_list, hits_to}
use Rattle.fdr_exceed.specs.Exceedances.{exceedances, least_hits, lines_ended_by_step, list_of_hits, no_row, rows_since, values_of}
use Rattle.fdr_exceed.specs.Lines.{exceed_text}
use Rattle.fdr_laws.specs.Maximal.{AreLastHits, BeginsStretch, EndsHits, IsExceedance, IsExceedanceLine, IsUpTo}
use Rattle.fdr_laws.specs.Inside.{rows_of_rule}
use Rattle.fdr_exceed.specs.Watching.{further}
use Rattle.fdr_exceed.proofs.Greatests.{greatest-cons, least-cons}
use Rattle.fdr_exceed.proofs.Stepping.{rows_since-push, rows-before}
use Rattle.fdr_laws.proofs.Insides.{kept_contains, rows_after}

furthest-cons : (k : RuleKind) (x y : ℤ) (ys : List ℤ) → furthest k (x ∷ y ∷ ys) ≡ further k x (furthest k (y ∷ ys))
furthest-cons kind.Above x y ys = greatest-cons x y ys
furthest-cons kind.Below x y ys = least-cons x y ys
furthest-cons kind.Change x y ys = greatest-cons x y ys

furthest-one : (k : RuleKind) (x : ℤ) → furthest k (x ∷ []) ≡ x
furthest-one kind.Above x = refl
furthest-one kind.Below x = refl
furthest-one kind.Change x = refl

-- ---- the hits that end with a value

-- What the rule compares at the neighbouring hits that end with the n-th value, and what it compares in front of them.
pub record AreHitsTo (rule : Rule) (values : List ℤ) (n : ℕ) (hs : List ℤ) : Type 0 where
  pub within : length hs ≤ n
  pub each : (k : ℕ) → n ≤ k + length hs → k < n → (x : ℤ) × (hit_at rule (take (k + 1) values) ≡ Some x) × IsUpTo rule.kind (furthest rule.kind hs) x
  pub front : (k : ℕ) → k + 1 + length hs ≡ n → hit_at rule (take (k + 1) values) ≡ None
  pub peak : 1 ≤ length hs → (k : ℕ) × (n ≤ k + length hs) × (k < n) × (hit_at rule (take (k + 1) values) ≡ Some (furthest rule.kind hs))

up_to_itself : (k : RuleKind) (x : ℤ) → IsUpTo k x x
up_to_itself kind.Above x = omega (arith, ints)
up_to_itself kind.Below x = omega (arith, ints)
up_to_itself kind.Change x = omega (arith, ints)

up_to_first : (k : RuleKind) (x y : ℤ) → IsUpTo k (further k x y) x
up_to_first kind.Above x y = grind (arith, ints)
up_to_first kind.Below x y = grind (arith, ints)
up_to_first kind.Change x y = grind (arith, ints)

up_to_further : (k : RuleKind) (x y z : ℤ) → IsUpTo k y z → IsUpTo k (further k x y) z
up_to_further kind.Above x y z up = grind (arith, ints, up)
up_to_further kind.Below x y z up = grind (arith, ints, up)
up_to_further kind.Change x y z up = grind (arith, ints, up)

one_of_two : (k : RuleKind) (x y : ℤ) → (further k x y ≡ x) ⊎ (further k x y ≡ y)
one_of_two kind.Above x y = grind (arith, ints)
one_of_two kind.Below x y = grind (arith, ints)
one_of_two kind.Change x y = grind (arith, ints)

both_up_to : (k : RuleKind) (x y : ℤ) → IsUpTo k x y → IsUpTo k y x → x ≡ y
both_up_to kind.Above x y a b = omega (arith, ints, a, b)
both_up_to kind.Below x y a b = omega (arith, ints, a, b)
both_up_to kind.Change x y a b = omega (arith, ints, a, b)

peak_of_more : (rule : Rule) (values : List ℤ) (n : ℕ) (x : ℤ) (hs : List ℤ) → AreHitsTo rule values n hs → hit_at rule (take (n + 1) values) ≡ Some x
    → (k : ℕ) × (n + 1 ≤ k + length (x ∷ hs)) × (k < n + 1) × (hit_at rule (take (k + 1) values) ≡ Some (furthest rule.kind (x ∷ hs)))
peak_of_more rule values n x [] had is =
    (n, omega arith, omega arith, is ∙ ap (λ (y : ℤ). Some y) (sym (furthest-one rule.kind x)))
peak_of_more rule values n x (y ∷ ys) had is = ⊎_elim
    (λ here. (n, omega arith, omega arith, is ∙ ap (λ (z : ℤ). Some z) (sym (furthest-cons rule.kind x y ys ∙ here))))
    (λ there. let p = had.peak (omega arith) in
    let low = p.1 in
    let high = p.2 in
    (p.0, omega (arith, low), omega (arith, high), p.3 ∙ ap (λ (z : ℤ). Some z) (sym (furthest-cons rule.kind x y ys ∙ there))))
    (one_of_two rule.kind x (furthest rule.kind (y ∷ ys)))

up_to_more : (rule : Rule) (x : ℤ) (hs : List ℤ) (z : ℤ) → 1 ≤ length hs → IsUpTo rule.kind (furthest rule.kind hs) z
    → IsUpTo rule.kind (furthest rule.kind (x ∷ hs)) z
up_to_more rule x [] z some up = absurd (omega (arith, some))
up_to_more rule x (y ∷ ys) z some up =
    subst (λ (p : ℤ). IsUpTo rule.kind p z) (sym (furthest-cons rule.kind x y ys)) (up_to_further rule.kind x (furthest rule.kind (y ∷ ys)) z up)

up_to_new : (rule : Rule) (x : ℤ) (hs : List ℤ) → IsUpTo rule.kind (furthest rule.kind (x ∷ hs)) x
up_to_new rule x [] = subst (λ (p : ℤ). IsUpTo rule.kind p x) (sym (furthest-one rule.kind x)) (up_to_itself rule.kind x)
up_to_new rule x (y ∷ ys) =
    subst (λ (p : ℤ). IsUpTo rule.kind p x) (sym (furthest-cons rule.kind x y ys)) (up_to_first rule.kind x (furthest rule.kind (y ∷ ys)))

hits_more : (rule : Rule) (values : List ℤ) (n : ℕ) (o : Option ℤ) (hs : List ℤ) → AreHitsTo rule values n hs → hit_at rule (take (n + 1) values) ≡ o
    → AreHitsTo rule values (n + 1) (option_map_or (λ x. x ∷ hs) o [])
hits_more rule values n None hs had is = record {
  within = omega arith;
  each = λ k low high. absurd (omega (arith, low, high));
  front = λ k at. let same : k ≡ n = omega (arith, at) in ap (λ m. hit_at rule (take (m + 1) values)) same ∙ is;
  peak = λ some. absurd (omega (arith, some));
}
hits_more rule values n (Some x) hs had is = record {
  within = omega (arith, had.within);
  each = λ k low high. ⊎_elim
      (λ before. let h = had.each k (omega (arith, low)) before in
      (h.0, h.1, up_to_more rule x hs h.0 (omega (arith, low, before)) h.2))
      (λ here. let same : k ≡ n = omega (arith, here, high) in
      (x, ap (λ m. hit_at rule (take (m + 1) values)) same ∙ is, up_to_new rule x hs))
      (cases_lt k n);
  front = λ k at. had.front k (omega (arith, at));
  peak = λ some. peak_of_more rule values n x hs had is;
}

hits_are : (rule : Rule) (values : List ℤ) (n : ℕ) → AreHitsTo rule values n (hits_to rule values n)
unfolding hits_to
hits_are rule values zero = record {
  within = omega arith;
  each = λ k low high. absurd (omega (arith, high));
  front = λ k at. absurd (omega (arith, at));
  peak = λ some. absurd (omega (arith, some));
}
hits_are rule values (suc n) =
    let more : n + 1 ≡ suc n = omega arith in
    subst (λ m. AreHitsTo rule values m (option_map_or (λ x. x ∷ hits_to rule values n) (hit_at rule (take (suc n) values)) [])) more
    (hits_more rule values n (hit_at rule (take (suc n) values)) (hits_to rule values n) (hits_are rule values n)
    (ap (λ m. hit_at rule (take m values)) more))

-- ---- the list of hits at the end of rows

pub some-same : (a b : HitList) → Some a ≡ Some b → a ≡ b
some-same a b is = cc

last_of : (rule : Rule) (rows : List Row) (hs : List ℤ) (list : HitList) → AreHitsTo rule (values_of rows) (length rows) hs
    → list_of_hits rule rows hs ≡ Some list → AreLastHits rule rows list
last_of rule rows [] list are is = absurd (cc)
last_of rule rows (x ∷ xs) list are is =
    subst (AreLastHits rule rows) (some-same _ list is) (record {
      some = omega arith;
      within = are.within;
      hits = are.each;
      front = are.front;
      first = refl;
      peak = are.peak (omega arith);
    })

-- the list of the hits at the end of rows
last-hits : (rule : Rule) (rows : List Row) (list : HitList) → hit_list rule rows ≡ Some list → AreLastHits rule rows list
unfolding hit_list
last-hits rule rows list is = last_of rule rows (hits_to rule (values_of rows) (length rows)) list (hits_are rule (values_of rows) (length rows)) is

hit_and_none : (o : Option ℤ) (x : ℤ) → o ≡ Some x → o ≡ None → ⊥
hit_and_none o x some none = absurd (cc)

not_shorter : (rule : Rule) (rows : List Row) (a b : HitList) → AreLastHits rule rows a → AreLastHits rule rows b → a.length < b.length → ⊥
not_shorter rule rows a b are have less =
    let n = length rows - a.length - 1 in
    let front = are.front n (omega (arith, less, have.within)) in
    let hit = have.hits n (omega (arith, less, have.within)) (omega (arith, less, have.within)) in
    hit_and_none (hit_at rule (take (n + 1) (values_of rows))) hit.0 hit.1 front

same_length : (rule : Rule) (rows : List Row) (a b : HitList) → AreLastHits rule rows a → AreLastHits rule rows b → a.length ≡ b.length
same_length rule rows a b are have = ⊎_elim
    (λ less. absurd (not_shorter rule rows a b are have less))
    (λ more. ⊎_elim
    (λ less. absurd (not_shorter rule rows b a have are less))
    (λ even. omega (arith, more, even))
    (cases_lt b.length a.length))
    (cases_lt a.length b.length)

some_is : (o : Option ℤ) (x y : ℤ) → o ≡ Some x → o ≡ Some y → x ≡ y
some_is o x y one other = cc

up_to_peak : (rule : Rule) (rows : List Row) (a b : HitList) → AreLastHits rule rows a → AreLastHits rule rows b → a.length ≡ b.length
    → IsUpTo rule.kind b.peak a.peak
up_to_peak rule rows a b are have same =
    let p = are.peak in
    let hit = have.hits p.0 (let low = p.1 in omega (arith, low, same)) p.2 in
    subst (IsUpTo rule.kind b.peak) (some_is (hit_at rule (take (p.0 + 1) (values_of rows))) hit.0 a.peak hit.1 p.3) hit.2

list_is : (a b : HitList) → a.first ≡ b.first → a.length ≡ b.length → a.peak ≡ b.peak → a ≡ b
list_is a b first same peak =
    ap (λ (r : Row). record { first = r; length = a.length; peak = a.peak }) first
    ∙ ap (λ (n : ℕ). record { first = b.first; length = n; peak = a.peak }) same
    ∙ ap (λ (x : ℤ). record { first = b.first; length = b.length; peak = x }) peak

only_one : (rule : Rule) (rows : List Row) (a b : HitList) → AreLastHits rule rows a → AreLastHits rule rows b → a ≡ b
only_one rule rows a b are have =
    let same = same_length rule rows a b are have in
    list_is a b (are.first ∙ ap (λ n. slice_index_or rows (length rows - n) no_row) same ∙ sym have.first) same
    (both_up_to rule.kind a.peak b.peak (up_to_peak rule rows b a have are (sym same)) (up_to_peak rule rows a b are have same))

by_list : (rule : Rule) (rows : List Row) (hs : List ℤ) (list : HitList) → AreHitsTo rule (values_of rows) (length rows) hs
    → AreLastHits rule rows list → list_of_hits rule rows hs ≡ Some list
by_list rule rows [] list are have =
    let n = length rows - 1 in
    let within = have.within in
    let some = have.some in
    let hit = have.hits n (omega (arith, within, some)) (omega (arith, within, some)) in
    absurd (hit_and_none (hit_at rule (take (n + 1) (values_of rows))) hit.0 hit.1 (are.front n (omega (arith, within, some))))
by_list rule rows (x ∷ xs) list are have =
    ap (λ (l : HitList). Some l) (only_one rule rows _ list (last_of rule rows (x ∷ xs) _ are refl) have)

last-is : (rule : Rule) (rows : List Row) (list : HitList) → AreLastHits rule rows list → hit_list rule rows ≡ Some list
unfolding hit_list
last-is rule rows list have = by_list rule rows (hits_to rule (values_of rows) (length rows)) list (hits_are rule (values_of rows) (length rows)) have

-- ---- what a step ends

enough_of : (rule : Rule) (o : Option HitList) (list : HitList) → exceedance_of rule o ≡ Some list → (o ≡ Some list) × (least_hits rule rule.kind ≤ list.length)
enough_of rule None list is = absurd (cc)
enough_of rule (Some a) list is = ⊎_elim
    (λ yes. let same = some-same a list (sym (cond-true (nat_le (least_hits rule rule.kind) a.length) (Some a) None yes) ∙ is) in (
      ap (λ (l : HitList). Some l) same,
      (let low : least_hits rule rule.kind ≤ a.length = grind (arith, nat_tests, yes) in
          subst (λ (l : HitList). least_hits rule rule.kind ≤ l.length) same low),
    ))
    (λ no. absurd (let e : None ≡ Some list = sym (cond-false (nat_le (least_hits rule rule.kind) a.length) (Some a) None no) ∙ is in cc))
    (cases_Bool (nat_le (least_hits rule rule.kind) a.length))

of_enough : (rule : Rule) (list : HitList) → least_hits rule rule.kind ≤ list.length → exceedance_of rule (Some list) ≡ Some list
of_enough rule list low =
    let yes : nat_le (least_hits rule rule.kind) list.length ≡ true = grind (arith, nat_tests, low) in
    cond-true (nat_le (least_hits rule rule.kind) list.length) (Some list) None yes

whole_values : (rows : List Row) (r : Row) → take (length rows + 1) (values_of (rows ++ r ∷ [])) ≡ values_of (rows ++ r ∷ [])
whole_values rows r =
    take_all (length rows + 1) (values_of (rows ++ r ∷ []))
    (omega (arith, length-map (rows ++ r ∷ []) (λ (q : Row). q.value), length-append rows (r ∷ [])))

-- What a step ends: the last hits of the rows, where no hit follows and they are enough.
pub record IsEnd (rule : Rule) (rows : List Row) (s : WatchStep) (list : HitList) : Type 0 where
  pub hits : AreLastHits rule rows list
  pub over : EndsHits rule rows s
  pub enough : least_hits rule rule.kind ≤ list.length

by_next : (rule : Rule) (rows : List Row) (list : HitList) (o : Option ℤ) (e : Option HitList) → option_map_or (λ x. None) o e ≡ Some list
    → (o ≡ None) × (e ≡ Some list)
by_next rule rows list None e is = (refl, is)
by_next rule rows list (Some x) e is = absurd (cc)

own_is : (a b : ℕ) → (a == b) ≡ true → a ≡ b
own_is a b same = grind (arith, nat_tests, same)

end_of : (rule : Rule) (rows : List Row) (s : WatchStep) (list : HitList) → ended_by rule rows s ≡ Some list → IsEnd rule rows s list
unfolding ended_before
end_of rule rows ResetStep list is =
    let e = enough_of rule (hit_list rule rows) list is in
    record { hits = last-hits rule rows list e.0; over = tt; enough = e.1 }
end_of rule rows (RowStep r) list is = ⊎_elim
    (λ own. let next = by_next rule rows list (hit_at rule (values_of (rows ++ r ∷ []))) (exceedance_of rule (hit_list rule rows))
    (sym (cond-true (r.param == rule.param) (ended_before rule rows r) None own) ∙ is) in
    let e = enough_of rule (hit_list rule rows) list next.1 in
    record {
      hits = last-hits rule rows list e.0;
      over = (own_is r.param rule.param own, ap (hit_at rule) (whole_values rows r) ∙ next.0);
      enough = e.1;
    })
    (λ other. absurd (let e : None ≡ Some list = sym (cond-false (r.param == rule.param) (ended_before rule rows r) None other) ∙ is in cc))
    (cases_Bool (r.param == rule.param))

of_end : (rule : Rule) (rows : List Row) (s : WatchStep) (list : HitList) → IsEnd rule rows s list → ended_by rule rows s ≡ Some list
unfolding ended_before
of_end rule rows ResetStep list end = ap (exceedance_of rule) (last-is rule rows list end.hits) ∙ of_enough rule list end.enough
of_end rule rows (RowStep r) list end =
    cond-true (r.param == rule.param) (ended_before rule rows r) None (eq-eqb r.param rule.param end.over.0)
    ∙ ap (λ (o : Option ℤ). option_map_or (λ x. None) o (exceedance_of rule (hit_list rule rows)))
    (sym (ap (hit_at rule) (whole_values rows r)) ∙ end.over.1)
    ∙ ap (exceedance_of rule) (last-is rule rows list end.hits) ∙ of_enough rule list end.enough

-- ---- the rows of a stretch

nothing_since : (rule : Rule) (before : List WatchStep) → BeginsStretch before → rows_since rule before ≡ []
nothing_since rule before begins = ⊎_elim
    (λ none. ap (rows_since rule) none ∙ rows-before rule)
    (λ reset. ap (rows_since rule) reset.1 ∙ rows_since-push rule reset.0 ResetStep)
    begins

-- the rows of a rule in the stretch that steps end in
rows_of_stretch : (rule : Rule) (steps before : List WatchStep) (rows : List Row) → steps ≡ before ++ map RowStep rows → BeginsStretch before
    → rows_since rule steps ≡ rows_of_rule rule rows
rows_of_stretch rule steps before rows is begins =
    ap (rows_since rule) is ∙ rows_after rule before rows ∙ ap (λ (xs : List Row). xs ++ rows_of_rule rule rows) (nothing_since rule before begins)

-- Steps are some, behind which a stretch begins, and then rows.
pub record Stretch (steps : List WatchStep) : Type 0 where
  pub before : List WatchStep
  pub rows : List Row
  pub is : steps ≡ before ++ map RowStep rows
  pub begins : BeginsStretch before

stretch_on : (before : List WatchStep) (rows : List Row) (rest : List WatchStep) → BeginsStretch before → Stretch ((before ++ map RowStep rows) ++ rest)
stretch_on before rows [] begins = record { before = before; rows = rows; is = append-nil (before ++ map RowStep rows); begins = begins }
stretch_on before rows (RowStep r ∷ rest) begins =
    let more : before ++ map RowStep (rows ++ r ∷ []) ≡ (before ++ map RowStep rows) ++ RowStep r ∷ [] =
    ap (λ (xs : List WatchStep). before ++ xs) (map-append RowStep rows (r ∷ [])) ∙ sym (append_assoc before (map RowStep rows) (RowStep r ∷ [])) in
    subst Stretch (ap (λ (xs : List WatchStep). xs ++ rest) more ∙ append_assoc (before ++ map RowStep rows) (RowStep r ∷ []) rest)
    (stretch_on before (rows ++ r ∷ []) rest begins)
stretch_on before rows (ResetStep ∷ rest) begins =
    let done = before ++ map RowStep rows in
    subst Stretch
    (ap (λ (xs : List WatchStep). xs ++ rest) (append-nil (done ++ ResetStep ∷ [])) ∙ append_assoc done (ResetStep ∷ []) rest)
    (stretch_on (done ++ ResetStep ∷ []) [] rest (inr (done, refl)))

stretch_of : (steps : List WatchStep) → Stretch steps
stretch_of steps = stretch_on [] [] steps (inl refl)

-- a step ends an exceedance exactly where a maximal list of hits ends there
pub ended-is : (rule : Rule) (steps : List WatchStep) (i : ℕ) (list : HitList)
    → (ended_by rule (rows_since rule (take i steps)) (slice_index_or steps i ResetStep) ≡ Some list) ↔ IsExceedance rule steps i list
ended-is rule steps i list = (
  (λ is. let cut = stretch_of (take i steps) in
      let rows = rows_of_stretch rule (take i steps) cut.before cut.rows cut.is cut.begins in
      let end = end_of rule (rows_of_rule rule cut.rows) (slice_index_or steps i ResetStep) list
      (ap (λ (xs : List Row). ended_by rule xs (slice_index_or steps i ResetStep)) (sym rows) ∙ is) in
      record { before = cut.before; rows = cut.rows; stretch = cut.is; begins = cut.begins; hits = end.hits; over = end.over; enough = end.enough }),
  (λ e. ap (λ (xs : List Row). ended_by rule xs (slice_index_or steps i ResetStep))
      (rows_of_stretch rule (take i steps) e.before e.rows e.stretch e.begins)
      ∙ of_end rule (rows_of_rule rule e.rows) (slice_index_or steps i ResetStep) list (record { hits = e.hits; over = e.over; enough = e.enough })),
)

-- ---- the lines

only_of : {A : Type 0} (a x : A) → Contains (a ∷ []) x → a ≡ x
only_of a x (zero, within, is) = is
only_of a x (suc k, within, is) = absurd (omega (arith, within))

same_text : (a b : List ℕ) → Some a ≡ Some b → a ≡ b
same_text a b is = cc

in_range : (n i : ℕ) → Contains (range_with_len 0 n) i → i < n
in_range n i h =
    let within : h.0 < n = (let low = h.1 in omega (arith, low, length-range_with_len 0 n)) in
    let is : 0 + h.0 ≡ i = sym (get_or-range_with_len 0 n h.0 i within) ∙ h.2 in
    omega (arith, within, is)

range_has : (n i : ℕ) → i < n → Contains (range_with_len 0 n) i
range_has n i within = (i, omega (arith, within, length-range_with_len 0 n), (let is = get_or-range_with_len 0 n i i within in omega (arith, is)))

by_kept : {A B : Type 0} (f : A → Option B) (x : A) (xs : List A) (y : B) (o : Option B) → f x ≡ o
    → (Contains (filter_map f xs) y → (z : A) × Contains xs z × (f z ≡ Some y)) → Contains (cons_option o (filter_map f xs)) y
    → (z : A) × Contains (x ∷ xs) z × (f z ≡ Some y)
by_kept f x xs y None is rest h = let r = rest h in (r.0, Contains-append_right (x ∷ []) xs r.0 r.1, r.2)
by_kept {B = B} f x xs y (Some v) is rest h = ⊎_elim
    (λ one. (x, Contains-here x xs, is ∙ ap (λ (w : B). Some w) (only_of v y one)))
    (λ more. let r = rest more in (r.0, Contains-append_right (x ∷ []) xs r.0 r.1, r.2))
    (Contains-append_cases (v ∷ []) (filter_map f xs) y h)

-- what is kept is of one of the elements
in_kept : {A B : Type 0} (f : A → Option B) (xs : List A) (y : B) → Contains (filter_map f xs) y → (x : A) × Contains xs x × (f x ≡ Some y)
in_kept f [] y h = absurd (let within : h.0 < 0 = h.1 in omega (arith, within))
in_kept f (x ∷ xs) y h = by_kept f x xs y (f x) refl (in_kept f xs y) h

in_each : {A B : Type 0} (f : A → List B) (xs : List A) (y : B) → Contains (flat_map f xs) y → (x : A) × Contains xs x × Contains (f x) y
in_each f [] y h = absurd (let within : h.0 < 0 = h.1 in omega (arith, within))
in_each f (x ∷ xs) y h = ⊎_elim
    (λ one. (x, Contains-here x xs, one))
    (λ more. let r = in_each f xs y more in (r.0, Contains-append_right (x ∷ []) xs r.0 r.1, r.2))
    (Contains-append_cases (f x) (flat_map f xs) y h)

each_in : {A B : Type 0} (f : A → List B) (xs : List A) (x : A) (y : B) → Contains xs x → Contains (f x) y → Contains (flat_map f xs) y
each_in f [] x y h one = absurd (let within : h.0 < 0 = h.1 in omega (arith, within))
each_in f (a ∷ xs) x y h one = ⊎_elim
    (λ here. Contains-append_left (f a) (flat_map f xs) y (subst (λ b. Contains (f b) y) (sym (only_of a x here)) one))
    (λ more. Contains-append_right (f a) (flat_map f xs) y (each_in f xs x y more one))
    (Contains-append_cases (a ∷ []) xs x h)

text_is : (rule : Rule) (o : Option HitList) (line : List ℕ) → option_map (exceed_text rule) o ≡ Some line
    → (list : HitList) × (o ≡ Some list) × (line ≡ exceed_text rule list)
text_is rule None line is = absurd (cc)
text_is rule (Some list) line is = (list, refl, sym (same_text (exceed_text rule list) line is))

-- the lines of exceedances are those of the maximal lists of hits
pub lines-are : (rules : List Rule) (steps : List WatchStep) (line : List ℕ) → Contains (exceedances rules steps) line ↔ IsExceedanceLine rules steps line
unfolding exceedances lines_ended_by_step
lines-are rules steps line = (
  (λ h. let at = in_each (lines_ended_by_step rules steps) (range_with_len 0 (length steps)) line h in
      let i = at.0 in
      let step = slice_index_or steps i ResetStep in
      let one = in_kept (λ (rule : Rule). option_map (exceed_text rule) (ended_by rule (rows_since rule (take i steps)) step)) rules line at.2 in
      let text = text_is one.0 (ended_by one.0 (rows_since one.0 (take i steps)) step) line one.2 in
      record {
        rule = one.0;
        list = text.0;
        place = i;
        one = one.1;
        within = in_range (length steps) i at.1;
        is = (ended-is one.0 steps i text.0).0 text.1;
        text = text.2;
      }),
  (λ l. let i = l.place in
      let step = slice_index_or steps i ResetStep in
      each_in (lines_ended_by_step rules steps) (range_with_len 0 (length steps)) i line (range_has (length steps) i l.within)
      (kept_contains (λ (rule : Rule). option_map (exceed_text rule) (ended_by rule (rows_since rule (take i steps)) step)) rules l.rule line l.one
      (ap (option_map (exceed_text l.rule)) ((ended-is l.rule steps i l.list).1 l.is) ∙ ap (λ (t : List ℕ). Some t) (sym l.text)))),
)
