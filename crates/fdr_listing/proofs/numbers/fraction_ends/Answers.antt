use Rattle.std.proofs.Common.{rules, ◌≡◌, ◌^◌, ◌++◌, ◌∷◌, [], List, map, arith, ap, sym, ◌∙◌, ℕ, zero-add}
use Rattle.std.specs.List.{range_with_len}
use Rattle.std.proofs.lemmas.List.FromFn.{map-range_with_len_more}
use Rattle.fdr_listing.specs.Numbers.{fraction_end}
use Rattle.fdr_listing.proofs.numbers.fraction_ends.Goals as goal

pub loop-n-preserved : goal.loop-n-preserved
loop-n-preserved c =
    let d = c.args.digits in
    let more : c.push.new.self.items ≡ c.loop-n.ends.items ++ fraction_end d c.loop-n.n ∷ [] = search rules in
    record {
      so_far = more ∙ ap (λ (xs : List (List ℕ)). xs ++ fraction_end d c.loop-n.n ∷ []) c.loop-n.invariant.so_far
          ∙ sym (map-range_with_len_more (fraction_end d) 0 c.loop-n.n c.loop-n.n (zero-add c.loop-n.n));
      within = omega (arith, c.loop-n-test.true);
    }

pub returns : goal.returns
returns c =
    let all : c.loop-n.n ≡ 10 ^ c.args.digits =
    omega (arith, c.loop-n.invariant.within, c.loop-n-test.false, c.requires.unit) in
    c.loop-n.invariant.so_far ∙ ap (λ (n : ℕ). map (fraction_end c.args.digits) (range_with_len 0 n)) all
