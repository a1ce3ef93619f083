-- One row more of a rule's parameter.
use Rattle.std.proofs.Common.{◌≡◌, ◌∙◌, ap, refl, ℕ, zero, suc, ◌+◌, ◌-◌, ◌<◌, ◌≤◌, List, [], ◌∷◌, ◌++◌, length}
use Rattle.std.proofs.Common.{take, get_or}
use Rattle.std.proofs.Common.{Option, Some, None, arith, length-append}
use Rattle.std.specs.Prelude.{ℤ}
use Rattle.std.specs.Option.{option_map_or}
use Rattle.std.proofs.lemmas.List.{take-append-le, take_all, length-map, map-append, get_or_append_left}
use Rattle.std.proofs.Math.Seq.{get_or-append_seam}
use Rattle.fdr_recon.specs.declared.Row.{Row}
use Rattle.fdr_exceed.specs.declared.hits.HitList.{HitList}
use Rattle.fdr_exceed.specs.declared.rule.Rule.{Rule}
use Rattle.fdr_exceed.specs.declared.rule.RuleKind.{RuleKind}
use Rattle.fdr_exceed.specs.declared.rule.RuleKind.TheVariants as kind
use Rattle.fdr_exceed.specs.Exceedances.{ended_before, exceedance_of, furthest, hit_at, hits_to, values_of, no_row, list_of_hits, hit_list}
use Rattle.fdr_exceed.specs.Watching.{further, one_longer}
use Rattle.fdr_exceed.proofs.Greatests.{greatest-cons, least-cons}

-- the hits that end with a value don't depend on later ones
hits_to-more : (rule : Rule) (values more : List ℤ) (n : ℕ) → n ≤ length values → hits_to rule (values ++ more) n ≡ hits_to rule values n
unfolding hits_to
hits_to-more rule values more zero within = refl
hits_to-more rule values more (suc n) within =
    ap (λ (xs : List ℤ). option_map_or (λ x. x ∷ hits_to rule (values ++ more) n) (hit_at rule xs) []) (take-append-le (suc n) values more within)
    ∙ ap (λ (hs : List ℤ). option_map_or (λ x. x ∷ hs) (hit_at rule (take (suc n) values)) []) (hits_to-more rule values more n (omega arith))

added_few : (o : Option ℤ) (hs : List ℤ) (n : ℕ) → length hs ≤ n → length (option_map_or (λ x. x ∷ hs) o []) ≤ suc n
added_few None hs n few = omega arith
added_few (Some x) hs n few = omega arith

hits_to-few : (rule : Rule) (values : List ℤ) (n : ℕ) → length (hits_to rule values n) ≤ n
unfolding hits_to
hits_to-few rule values zero = omega arith
hits_to-few rule values (suc n) = added_few (hit_at rule (take (suc n) values)) (hits_to rule values n) n (hits_to-few rule values n)

furthest-cons : (k : RuleKind) (x y : ℤ) (ys : List ℤ) → furthest k (x ∷ y ∷ ys) ≡ further k x (furthest k (y ∷ ys))
furthest-cons kind.Above x y ys = greatest-cons x y ys
furthest-cons kind.Below x y ys = least-cons x y ys
furthest-cons kind.Change x y ys = greatest-cons x y ys

furthest-one : (k : RuleKind) (x : ℤ) → furthest k (x ∷ []) ≡ x
furthest-one kind.Above x = refl
furthest-one kind.Below x = refl
furthest-one kind.Change x = refl

abbrev made : RuleKind → Row → ℕ → ℤ → Option HitList
made k first n peak = Some (record { first = first; length = n; peak = peak })

-- a hit more
list_more : (rule : Rule) (rows : List Row) (r : Row) (x : ℤ) (hs : List ℤ) → length hs ≤ length rows
    → list_of_hits rule (rows ++ r ∷ []) (x ∷ hs) ≡ Some (one_longer rule.kind (list_of_hits rule rows hs) r x)
list_more rule rows r x [] few =
    let last : length (rows ++ r ∷ []) - length (x ∷ []) ≡ length rows = omega (arith, length-append rows (r ∷ [])) in
    let first : get_or (rows ++ r ∷ []) (length (rows ++ r ∷ []) - length (x ∷ [])) no_row ≡ r =
    ap (λ n. get_or (rows ++ r ∷ []) n no_row) last ∙ get_or-append_seam rows r [] no_row in
    let one : length (x ∷ []) ≡ 1 = omega arith in
    ap (λ f. made rule.kind f (length (x ∷ [])) (furthest rule.kind (x ∷ []))) first
    ∙ ap (λ n. made rule.kind r n (furthest rule.kind (x ∷ []))) one
    ∙ ap (made rule.kind r 1) (furthest-one rule.kind x)
list_more rule rows r x (y ∷ ys) few =
    let back : length (rows ++ r ∷ []) - length (x ∷ y ∷ ys) ≡ length rows - length (y ∷ ys) = omega (arith, length-append rows (r ∷ [])) in
    let within : length rows - length (y ∷ ys) < length rows = omega arith in
    let first : get_or (rows ++ r ∷ []) (length (rows ++ r ∷ []) - length (x ∷ y ∷ ys)) no_row ≡ get_or rows (length rows - length (y ∷ ys)) no_row =
    ap (λ n. get_or (rows ++ r ∷ []) n no_row) back ∙ get_or_append_left rows (r ∷ []) no_row (length rows - length (y ∷ ys)) within in
    let more : length (x ∷ y ∷ ys) ≡ length (y ∷ ys) + 1 = omega arith in
    ap (λ f. made rule.kind f (length (x ∷ y ∷ ys)) (furthest rule.kind (x ∷ y ∷ ys))) first
    ∙ ap (λ n. made rule.kind (get_or rows (length rows - length (y ∷ ys)) no_row) n (furthest rule.kind (x ∷ y ∷ ys))) more
    ∙ ap (made rule.kind (get_or rows (length rows - length (y ∷ ys)) no_row) (length (y ∷ ys) + 1)) (furthest-cons rule.kind x y ys)

by_hit : (rule : Rule) (rows : List Row) (r : Row) (o : Option ℤ) (hs : List ℤ) → length hs ≤ length rows
    → list_of_hits rule (rows ++ r ∷ []) (option_map_or (λ x. x ∷ hs) o [])
    ≡ option_map_or (λ x. Some (one_longer rule.kind (list_of_hits rule rows hs) r x)) o None
by_hit rule rows r None hs few = refl
by_hit rule rows r (Some x) hs few = list_more rule rows r x hs few

-- the list of hits that ends with one row more
pub hit_list-push : (rule : Rule) (rows : List Row) (r : Row) → hit_list rule (rows ++ r ∷ [])
    ≡ option_map_or (λ x. Some (one_longer rule.kind (hit_list rule rows) r x)) (hit_at rule (values_of (rows ++ r ∷ []))) None
unfolding hit_list hits_to
hit_list-push rule rows r =
    let values = values_of rows in
    let all = values_of (rows ++ r ∷ []) in
    let pushed : all ≡ values ++ r.value ∷ [] = map-append (λ (q : Row). q.value) rows (r ∷ []) in
    let count : length values ≡ length rows = length-map rows (λ (q : Row). q.value) in
    let more : length (rows ++ r ∷ []) ≡ suc (length rows) = omega (arith, length-append rows (r ∷ [])) in
    let whole : take (suc (length rows)) all ≡ all = take_all (suc (length rows)) all (omega (
      arith,
      ap length pushed,
      length-append values
          (r.value ∷ []),
      count,
    )) in
    let hits : hits_to rule all (length rows) ≡ hits_to rule values (length rows) =
    ap (λ (vs : List ℤ). hits_to rule vs (length rows)) pushed ∙ hits_to-more rule values (r.value ∷ []) (length rows) (omega (arith, count)) in
    let few : length (hits_to rule values (length rows)) ≤ length rows = hits_to-few rule values (length rows) in
    ap (λ n. list_of_hits rule (rows ++ r ∷ []) (hits_to rule all n)) more
    ∙ ap (λ (vs : List ℤ). list_of_hits rule (rows ++ r ∷ []) (option_map_or (λ x. x ∷ hits_to rule all (length rows)) (hit_at rule vs) [])) whole
    ∙ ap (λ (hs : List ℤ). list_of_hits rule (rows ++ r ∷ []) (option_map_or (λ x. x ∷ hs) (hit_at rule all) [])) hits
    ∙ by_hit rule rows r (hit_at rule all) (hits_to rule values (length rows)) few

-- no row has no list
pub hit_list-none : (rule : Rule) → hit_list rule [] ≡ None
unfolding hit_list hits_to
hit_list-none rule = refl

pub values-push : (rows : List Row) (r : Row) → values_of (rows ++ r ∷ []) ≡ values_of rows ++ r.value ∷ []
values-push rows r = map-append (λ (q : Row). q.value) rows (r ∷ [])

hit_of : (rule : Rule) (rows : List Row) (r : Row) (o : Option ℤ) → hit_at rule (values_of rows ++ r.value ∷ []) ≡ o
    → hit_at rule (values_of (rows ++ r ∷ [])) ≡ o
hit_of rule rows r o is = ap (hit_at rule) (values-push rows r) ∙ is

-- the row is a hit
pub list-hit : (rule : Rule) (rows : List Row) (r : Row) (x : ℤ) → hit_at rule (values_of rows ++ r.value ∷ []) ≡ Some x
    → hit_list rule (rows ++ r ∷ []) ≡ Some (one_longer rule.kind (hit_list rule rows) r x)
list-hit rule rows r x is =
    hit_list-push rule rows r
    ∙ ap (λ (o : Option ℤ). option_map_or (λ y. Some (one_longer rule.kind (hit_list rule rows) r y)) o None) (hit_of rule rows r (Some x) is)

pub ended-hit : (rule : Rule) (rows : List Row) (r : Row) (x : ℤ) → hit_at rule (values_of rows ++ r.value ∷ []) ≡ Some x → ended_before rule rows r ≡ None
unfolding ended_before
ended-hit rule rows r x is =
    ap (λ (o : Option ℤ). option_map_or (λ y. None) o (exceedance_of rule (hit_list rule rows))) (hit_of rule rows r (Some x) is)

-- it is none
pub list-none : (rule : Rule) (rows : List Row) (r : Row) → hit_at rule (values_of rows ++ r.value ∷ []) ≡ None → hit_list rule (rows ++ r ∷ []) ≡ None
list-none rule rows r is =
    hit_list-push rule rows r
    ∙ ap (λ (o : Option ℤ). option_map_or (λ y. Some (one_longer rule.kind (hit_list rule rows) r y)) o None) (hit_of rule rows r None is)

pub ended-none : (rule : Rule) (rows : List Row) (r : Row) → hit_at rule (values_of rows ++ r.value ∷ []) ≡ None
    → ended_before rule rows r ≡ exceedance_of rule (hit_list rule rows)
unfolding ended_before
ended-none rule rows r is =
    ap (λ (o : Option ℤ). option_map_or (λ y. None) o (exceedance_of rule (hit_list rule rows))) (hit_of rule rows r None is)
