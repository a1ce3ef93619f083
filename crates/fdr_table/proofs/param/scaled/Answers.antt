use Rattle.std.proofs.Common.{◌≡◌, ◌∙◌, sym, ap, refl, arith, pos, ℤ, ◌*ℤ◌, FitsSigned, w64, to_z, of_z}
use Rattle.std.specs.Int.{int_div_euclid}
use Rattle.std.proofs.lemmas.Int.{ints, to_z-of_z}
use Rattle.fdr_table.proofs.ValueFacts.{IsWithin, product-within, quotient-of-one, quotient-within}
use Rattle.fdr_table.proofs.param.scaled.Goals as goal

-- a product of a raw number and a numerator fits
fits : (z : ℤ) → IsWithin 4294967296000000000 z → FitsSigned w64 z
fits z h = omega (arith, ints, h.0, h.1)

pub overflow_mul-product : goal.overflow_mul-product
overflow_mul-product c =
    let within = product-within c.args.raw c.args.num 4294967296 1000000000 (c.requires.raw_low, c.requires.raw_high)
    (c.requires.num_low, c.requires.num_high) in
    rw (to_z-of_z w64 c.args.raw c.ranges.raw, to_z-of_z w64 c.args.num c.ranges.num) (fits (c.args.raw *ℤ c.args.num) within)

-- the code computes the product
is-product : (raw num : ℤ) → FitsSigned w64 raw → FitsSigned w64 num → IsWithin 4294967296000000000 (raw *ℤ num)
    → to_z w64 (of_z w64 (to_z w64 (of_z w64 raw) *ℤ to_z w64 (of_z w64 num))) ≡ raw *ℤ num
is-product raw num raw_fits num_fits within =
    rw (to_z-of_z w64 raw raw_fits, to_z-of_z w64 num num_fits) (to_z-of_z w64 (raw *ℤ num) (fits (raw *ℤ num) within))

pub returns-then-den-eq1 : goal.returns-then-den-eq1
returns-then-den-eq1 c =
    let within = product-within c.args.raw c.args.num 4294967296 1000000000 (c.requires.raw_low, c.requires.raw_high)
    (c.requires.num_low, c.requires.num_high) in
    let one : c.args.den ≡ pos 1 = omega (arith, ints) in
    let is = is-product c.args.raw c.args.num c.ranges.raw c.ranges.num within in
    rw is (record {
      exactly = sym (quotient-of-one (c.args.raw *ℤ c.args.num)) ∙ ap (int_div_euclid (c.args.raw *ℤ c.args.num)) (sym one);
      low = within.0;
      high = within.1;
    })

pub returns : goal.returns
returns c =
    let within = product-within c.args.raw c.args.num 4294967296 1000000000 (c.requires.raw_low, c.requires.raw_high)
    (c.requires.num_low, c.requires.num_high) in
    let rounded = rw (is-product c.args.raw c.args.num c.ranges.raw c.ranges.num within, to_z-of_z w64 c.args.den c.ranges.den) at c.quotient.ensures in
    let quotient = int_div_euclid (c.args.raw *ℤ c.args.num) c.args.den in
    let size = quotient-within (c.args.raw *ℤ c.args.num) c.args.den 4294967296000000000 within c.requires.den_low in
    let exactly = ap (λ (z : ℤ). to_z w64 (of_z w64 z)) rounded ∙ to_z-of_z w64 quotient (fits quotient size) in
    rw exactly (record { exactly = refl; low = size.0; high = size.1 })
