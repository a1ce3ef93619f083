use Rattle.std.proofs.Common.{arith, ◌≡◌, ◌≤◌, ◌-◌, ◌++◌, ◌∙◌, ap, List, ℕ, length}
use Rattle.std.specs.Fmt.{decimal}
use Rattle.std.proofs.lemmas.Fmt.{length-decimal-le}
use Rattle.std.proofs.lemmas.Grind.{common_steps}
use Rattle.fdr_listing.proofs.LineParts.{fraction_made}
use Rattle.fdr_listing.proofs.text.add_fraction.Goals as goal

pub overflow_sub-zeros : goal.overflow_sub-zeros
overflow_sub-zeros c =
    let digits : length (decimal c.args.n) ≤ c.args.decimals = length-decimal-le c.args.decimals c.args.n (omega arith) c.requires.below (omega arith) in
    omega arith

pub add_number-requires : goal.add_number-requires
add_number-requires c =
    let digits : length (decimal c.args.n) ≤ c.args.decimals = length-decimal-le c.args.decimals c.args.n (omega arith) c.requires.below (omega arith) in
    omega arith

pub add-requires-2 : goal.add-requires-2
add-requires-2 c =
    let digits : length (decimal c.args.n) ≤ c.args.decimals = length-decimal-le c.args.decimals c.args.n (omega arith) c.requires.below (omega arith) in
    grind (arith, common_steps)

pub returns-clause-length : goal.returns-clause-length
returns-clause-length c =
    let digits : length (decimal c.args.n) ≤ c.args.decimals = length-decimal-le c.args.decimals c.args.n (omega arith) c.requires.below (omega arith) in
    grind (arith, common_steps)

pub returns-clause-appended : goal.returns-clause-appended
returns-clause-appended c =
    let n = c.args.n in
    let d = c.args.decimals in
    let number : c.add_number.new.self ≡ decimal n = c.add_number.ensures.appended ∙ ap (λ (xs : List ℕ). xs ++ decimal n) c.new-digits.ensures.empty in
    let zeros : c.from.result - length c.bytes.result.now ≡ d - length (decimal n) =
    ap (λ k. k - length c.bytes.result.now) c.from.ensures ∙ ap (λ (xs : List ℕ). d - length xs) (c.bytes.ensures.content ∙ number) in
    fraction_made c.args.line.now c.add.new.self c.add_zeros.new.line c.add-2.new.self c.bytes-2.result.now n d _ (omega arith) c.add.ensures.appended
    zeros c.add_zeros.ensures.appended (c.bytes-2.ensures.content ∙ number) c.add-2.ensures.appended
