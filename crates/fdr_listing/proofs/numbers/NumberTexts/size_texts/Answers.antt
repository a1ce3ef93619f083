use Rattle.std.proofs.Common.{◌≡◌, ◌/◌, ◌%◌, ◌^◌, ◌<◌, ◌*◌, decimal, length, ap, arith, subst, sym, ◌∙◌}
use Rattle.std.proofs.Math.Nat.{one-le-pow}
use Rattle.std.proofs.lemmas.List.FromFn.{length-map-range_with_len}
use Rattle.std.proofs.lemmas.Nat.{div_below, mod_below}
use Rattle.fdr_listing.specs.Numbers.{ReadyFractions, fraction_end}
use Rattle.fdr_listing.proofs.Sizes.{ready_text, size_made}
use Rattle.fdr_listing.proofs.numbers.NumberTexts.size_texts.Goals as goal

pub index-requires-2 : goal.index-requires-2
index-requires-2 c =
    let ready = c.fractions.view_is ∙ c.in_ok-fractions.ensures.fractions in
    let unit : c.fractions.inside.unit ≡ 10 ^ c.args.decimals = ap (λ (f : ReadyFractions). f.unit) ready in
    let long : length c.fractions.inside.ends.items ≡ 10 ^ c.args.decimals = ap (λ (f : ReadyFractions). length f.ends) ready
    ∙ length-map-range_with_len (fraction_end c.args.decimals) 0 (10 ^ c.args.decimals) in
    let some : 0 < c.fractions.inside.unit = rw unit (one-le-pow c.args.decimals 10 (omega arith)) in
    let rest = mod_below c.args.size c.fractions.inside.unit some in
    omega (arith, unit, long, rest)

pub returns : goal.returns
returns c =
    let n = c.args.size in
    let d = c.args.decimals in
    let ready = c.fractions.view_is ∙ c.in_ok-fractions.ensures.fractions in
    let unit : c.fractions.inside.unit ≡ 10 ^ d = ap (λ (f : ReadyFractions). f.unit) ready in
    let some : 0 < c.fractions.inside.unit = rw unit (one-le-pow d 10 (omega arith)) in
    let below : n < 4096 * c.fractions.inside.unit = subst (λ u. n < 4096 * u) (sym unit) c.in_ok-fractions.ensures.within in
    let quotient : c.split-whole.result.0 ≡ n / c.fractions.inside.unit = c.split-whole.ensures.quotient in
    let rest : c.split-whole.result.1 ≡ n % c.fractions.inside.unit = c.split-whole.ensures.rest in
    let whole : c.index.result.now ≡ decimal (n / 10 ^ d) =
    ready_text decimal c.self.inside.whole.items 4096 c.split-whole.result.0 c.index.result.now c.self.invariant.whole_numbers
    (omega (arith, quotient, div_below n c.fractions.inside.unit 4096 some below)) c.index.ensures
    ∙ ap decimal (quotient ∙ ap (λ u. n / u) unit) in
    let end : c.index-2.result.now ≡ fraction_end d (n % 10 ^ d) =
    ready_text (fraction_end d) c.fractions.inside.ends.items (10 ^ d) c.split-whole.result.1 c.index-2.result.now
    (ap (λ (f : ReadyFractions). f.ends) ready)
    (omega (arith, rest, unit, mod_below n c.fractions.inside.unit some)) c.index-2.ensures
    ∙ ap (fraction_end d) (rest ∙ ap (λ u. n % u) unit) in
    size_made c.index.result.now c.index-2.result.now n d whole end
