-- Parts that have all bits of a raw value make it up.
use Rattle.std.proofs.Common.{◌≡◌, ℕ, ◌+◌, ◌*◌, ◌/◌, ◌%◌, ◌^◌, ◌<◌, ◌≤◌, List, [], ◌∷◌, sum_by, ap, arith}
use Rattle.std.specs.List.{All}
use Rattle.std.proofs.lemmas.Nat.{mul-le, pow-add, mod-pow-add}
use Rattle.std.proofs.lemmas.List.Elements.{All-head, All-tail}
use Rattle.std.proofs.lemmas.List.Sums.{sum_by-cons}
use Rattle.fdr_layout.specs.Samples.{Part}
use Rattle.fdr_recon.specs.Kept.{FillUp}

-- bits of parts at their place
abbrev pub placed_bits : (Part → ℕ) → Part → ℕ
placed_bits bits p = bits p * 2 ^ p.shift

one_more : (n w low : ℕ) → n < 2 ^ w → n * 2 ^ low + 2 ^ low ≤ 2 ^ (low + w)
one_more n w low fits =
    let most : (n + 1) * 2 ^ low ≤ 2 ^ w * 2 ^ low = mul-le (n + 1) (2 ^ low) (2 ^ w) (2 ^ low) (omega arith) (omega arith) in
    let power : 2 ^ (w + low) ≡ 2 ^ w * 2 ^ low = pow-add 2 w low in
    let order : 2 ^ (low + w) ≡ 2 ^ (w + low) = ap (λ k. 2 ^ k) (omega arith) in
    omega (arith, most, power, order)

-- what bits make up is below 2 to the power of where they end
pub filled_below : (bits : Part → ℕ) (low high : ℕ) (parts : List Part) → FillUp low high parts → All (λ (p : Part). bits p < 2 ^ p.width) parts →
    sum_by (placed_bits bits) parts + 2 ^ low ≤ 2 ^ high
filled_below bits low high [] fill fit =
    let same : 2 ^ low ≡ 2 ^ high = ap (λ k. 2 ^ k) fill in
    omega (arith, same)
filled_below bits low high (p ∷ parts) fill fit =
    let here = All-head (λ (q : Part). bits q < 2 ^ q.width) p parts fit in
    let rest = filled_below bits (low + p.width) high parts fill.1 (All-tail (λ (q : Part). bits q < 2 ^ q.width) p parts fit) in
    let place : bits p * 2 ^ p.shift ≡ bits p * 2 ^ low = ap (λ k. bits p * 2 ^ k) fill.0 in
    omega (arith, sum_by-cons (placed_bits bits) p parts, place, one_more (bits p) p.width low here, rest)

-- the piece of a raw value that a part has
abbrev pub piece : ℕ → Part → ℕ
piece raw p = raw / 2 ^ p.shift % 2 ^ p.width

-- the pieces of a raw value make up its bits between their ends
pub filled_pieces : (raw low high : ℕ) (parts : List Part) → FillUp low high parts → sum_by (placed_bits (piece raw)) parts + raw % 2 ^ low ≡ raw % 2 ^ high
filled_pieces raw low high [] fill =
    let same : raw % 2 ^ low ≡ raw % 2 ^ high = ap (λ k. raw % 2 ^ k) fill in
    omega (arith, same)
filled_pieces raw low high (p ∷ parts) fill =
    let rest = filled_pieces raw (low + p.width) high parts fill.1 in
    let place : piece raw p * 2 ^ p.shift ≡ raw / 2 ^ low % 2 ^ p.width * 2 ^ low = ap (λ k. raw / 2 ^ k % 2 ^ p.width * 2 ^ k) fill.0 in
    let split : raw % 2 ^ (p.width + low) ≡ raw / 2 ^ low % 2 ^ p.width * 2 ^ low + raw % 2 ^ low = mod-pow-add raw p.width low in
    let order : raw % 2 ^ (low + p.width) ≡ raw % 2 ^ (p.width + low) = ap (λ k. raw % 2 ^ k) (omega arith) in
    omega (arith, sum_by-cons (placed_bits (piece raw)) p parts, place, split, order, rest)
