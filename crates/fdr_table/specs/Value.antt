-- The value of a raw number.
use Rattle.std.specs.Prelude.{ℕ, ◌-◌, ◌^◌, ℤ, pos, ◌+ℤ◌, ◌-ℤ◌, ◌*ℤ◌, if◌then◌else◌, ◌&&◌, nat_le}
use Rattle.std.specs.Int.{int_div_euclid}
use Rattle.fdr_table.specs.Rows.{ParamRow}

-- a raw number with its sign: as two's complement of the parameter's width where the parameter is signed
abbrev pub signed_of : ParamRow → ℕ → ℤ
signed_of p raw = if p.signed && nat_le (2 ^ (p.width - 1)) raw then pos raw -ℤ pos (2 ^ p.width) else pos raw

-- the value of a raw number of a parameter, in units of 10^-decimals: offset + floor(raw × num / den), where den is above 0
unfoldable pub value_of : ParamRow → ℕ → ℤ
value_of p raw = p.offset +ℤ int_div_euclid (signed_of p raw *ℤ p.num) p.den
