use Rattle.std.proofs.Common.{rules, ◌≡◌, ◌++◌, ◌∷◌, [], List, map, decimal, arith, ap, sym, ◌∙◌, ℕ, zero-add}
use Rattle.std.specs.List.{range_with_len}
use Rattle.std.proofs.lemmas.List.FromFn.{map-range_with_len_more}
use Rattle.fdr_listing.proofs.numbers.whole_texts.Goals as goal

pub loop-n-preserved : goal.loop-n-preserved
loop-n-preserved c =
    let more : c.push.new.self.items ≡ c.loop-n.texts.items ++ decimal c.loop-n.n ∷ [] = search rules in
    more ∙ ap (λ (xs : List (List ℕ)). xs ++ decimal c.loop-n.n ∷ []) c.loop-n.invariant
    ∙ sym (map-range_with_len_more decimal 0 c.loop-n.n c.loop-n.n (zero-add c.loop-n.n))

pub returns : goal.returns
returns c =
    let all : c.loop-n.n ≡ 4096 = omega (arith, c.loop-n.auto.n-end, c.loop-n-test.false) in
    c.loop-n.invariant ∙ ap (λ (n : ℕ). map decimal (range_with_len 0 n)) all
