use Rattle.std.proofs.Common.{rules, arith, ◌≡◌, ◌^◌, ◌++◌, ◌∷◌, [], List, ap, sym, ◌∙◌, ℕ, zero-add}
use Rattle.std.proofs.Math.Nat.{one-le-pow}
use Rattle.std.proofs.lemmas.List.FromFn.{map-range_with_len_more}
use Rattle.fdr_listing.specs.Numbers.{ReadyFractions, ready_fractions}
use Rattle.fdr_listing.proofs.numbers.all_fractions.Goals as goal

pub new-unit-requires : goal.new-unit-requires
new-unit-requires c =
    let power = one-le-pow c.from.result 10 (omega arith) in
    omega (arith, c.pow-unit.ensures, power)

pub loop-digits-preserved : goal.loop-digits-preserved
loop-digits-preserved c =
    let d = c.loop-digits.digits in
    let unit : c.new-unit.result ≡ 10 ^ d = c.new-unit.ensures ∙ c.pow-unit.ensures ∙ ap (λ n. 10 ^ n) c.from.ensures in
    let pushed : ReadyFractions = record { unit = c.new-unit.result; ends = c.in_ok-ends.ends.items } in
    let ready : pushed ≡ ready_fractions d =
    ap (λ (n : ℕ). record { unit = n; ends = c.in_ok-ends.ends.items }) unit
    ∙ ap (λ (xs : List (List ℕ)). record { unit = 10 ^ d; ends = xs }) c.in_ok-ends.ensures in
    let more : c.push.new.self.items ≡ c.loop-digits.all.items ++ pushed ∷ [] = search rules in
    more ∙ ap (λ (x : ReadyFractions). c.loop-digits.all.items ++ x ∷ []) ready
    ∙ ap (λ (xs : List ReadyFractions). xs ++ ready_fractions d ∷ []) c.loop-digits.invariant
    ∙ sym (map-range_with_len_more ready_fractions 0 d d (zero-add d))
