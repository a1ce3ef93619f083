-- Facts about parameters that are found by their names.
use Rattle.std.proofs.Common.{◌≡◌, ◌∙◌, sym, ap, subst, refl, ℕ, Bool, true, false, cond, List, [], ◌∷◌, ◌++◌, length, Option, Some, None, Vec, Global}
use Rattle.std.specs.Prelude.{bytes_eq}
use Rattle.std.specs.Cmp.Lexicographic.{bytes_decides, nat_list_eq_equiv}
use Rattle.std.specs.HashMap.{HashMap, Updates, get_by}
use Rattle.std.specs.List.{list_any}
use Rattle.std.specs.Map.{AreApart, IsKeyTest, KeepsOthers, lookup}
use Rattle.fdr_table.specs.Rows.{ParamRow}
use Rattle.fdr_table.specs.Draft.{index_named}
use Rattle.fdr_table.proofs.DraftFacts.{none-from}
use Rattle.fdr_table.proofs.SearchFacts.{position-more, position-push, position-is_some}

abbrev pub Key : Type 0
Key = Vec ℕ Global

abbrev pub same_key : Key → Key → Bool
same_key x y = bytes_eq x.items y.items

others : {X : Type 0} (test other : Key → Bool) (old new : List (Key × X)) → KeepsOthers same_key test old new → IsKeyTest same_key other → AreApart test other
    → lookup other new ≡ lookup other old
unfolding KeepsOthers
others test other old new h is apart = h other is apart

apart : (bs cs ks : List ℕ) → bytes_eq bs cs ≡ false → bytes_eq bs ks ≡ true → bytes_eq cs ks ≡ false
apart bs cs ks n y = nat_list_eq_equiv.symm cs ks ∙ sym (nat_list_eq_equiv.congr bs ks cs y) ∙ n

-- what a look-up gives after a name was put in
after-insert : {X S : Type 0} (m n : HashMap Key X S) (key : Key) (x : X) (name : List ℕ) (b : Bool) → Updates same_key m n key (Some x)
    → bytes_eq key.items name ≡ b
    → get_by (λ k. bytes_eq name k.items) n ≡ cond b (Some x) (get_by (λ k. bytes_eq name k.items) m)
after-insert m n key x name true h e = subst (λ (bs : List ℕ). get_by (λ k. bytes_eq bs k.items) n ≡ Some x) ((bytes_decides key.items name).0 e) h.1
after-insert m n key x name false h e =
    others (same_key key) (λ k. bytes_eq name k.items) m.entries n.entries h.3
    (λ k l. nat_list_eq_equiv.congr name k.items l.items) (λ k. apart key.items name k.items e)

-- where a name is after one more parameter
index-push : (params : List ParamRow) (p : ParamRow) (name : List ℕ) (b c : Bool) → index_named params p.name ≡ None → bytes_eq p.name name ≡ b
    → list_any (λ (q : ParamRow). bytes_eq q.name name) params ≡ c
    → index_named (params ++ p ∷ []) name ≡ cond b (Some (length params)) (index_named params name)
index-push params p name true c fresh e found =
    let same = (bytes_decides p.name name).0 e in
    let none = subst (λ (bs : List ℕ). index_named params bs ≡ None) same fresh in
    position-push (λ (q : ParamRow). bytes_eq q.name name) params p none ∙ ap (λ (b : Bool). cond b (Some (length params)) None) e
index-push params p name false true fresh e found = position-more (λ (q : ParamRow). bytes_eq q.name name) params (p ∷ []) found
index-push params p name false false fresh e found =
    let none = none-from (index_named params name) (index_named params name) refl (position-is_some (λ (q : ParamRow). bytes_eq q.name name) params ∙ found) in
    position-push (λ (q : ParamRow). bytes_eq q.name name) params p none ∙ ap (λ (b : Bool). cond b (Some (length params)) None) e ∙ sym none

pub still-by-name : {S : Type 0} (m n : HashMap Key ℕ S) (params : List ParamRow) (p : ParamRow) (key : Key)
    → ((name : List ℕ) → get_by (λ k. bytes_eq name k.items) m ≡ index_named params name)
    → index_named params p.name ≡ None → key.items ≡ p.name → Updates same_key m n key (Some (length params))
    → (name : List ℕ) → get_by (λ k. bytes_eq name k.items) n ≡ index_named (params ++ p ∷ []) name
still-by-name m n params p key old fresh same h name =
    after-insert m n key (length params) name (bytes_eq key.items name) h refl
    ∙ ap (λ (bs : List ℕ). cond (bytes_eq bs name) (Some (length params)) (get_by (λ k. bytes_eq name k.items) m)) same
    ∙ ap (λ (o : Option ℕ). cond (bytes_eq p.name name) (Some (length params)) o) (old name)
    ∙ sym (index-push params p name (bytes_eq p.name name) (list_any (λ (q : ParamRow). bytes_eq q.name name) params) fresh refl refl)
