-- What makes the values of a parameter without numbers below 0.
use Rattle.std.specs.Prelude.{ℕ, ◌+◌, ◌-◌, ◌*◌, ◌^◌, ◌<◌, ◌≤◌, ◌≡◌, pos, neg_ℤ, ◌+ℤ◌, ◌≤ℤ◌, if◌then◌else◌}
use Rattle.fdr_divisor.specs.Reach.{IsInReach}
use Rattle.fdr_table.specs.Rows.{ParamRow}
use Rattle.fdr_recon.specs.declared.scale.SmallScale.{SmallScale}

-- half of how many raw numbers of a parameter there are, where half of them stand for what is below 0; and else 0
abbrev pub half_range : ParamRow → ℕ
half_range p = if p.signed then 2 ^ (p.width - 1) else 0

-- The numbers make the values of the parameter without any number below 0 on the way. With `half` added, and cut to the
-- parameter's width, the raw numbers come in the order of what they stand for, from 0 on. With `rise` added, that times `num`
-- counts from a multiple of `den` on, which `offset` makes up for.
pub record IsSmallScale (p : ParamRow) (s : SmallScale) : Type 0 where
  pub some_bits : 1 ≤ p.width
  pub half : s.half ≡ half_range p
  pub mask : s.mask + 1 ≡ 2 ^ p.width
  pub num : p.num ≡ pos s.num
  pub den : p.den ≡ pos s.den
  pub some_den : 0 < s.den
  pub steps : ℕ
  pub rise : s.half * s.num + s.rise ≡ steps * s.den
  pub offset : s.offset +ℤ pos steps ≡ p.offset
  pub offset_low : neg_ℤ (pos (2 ^ 62 + 2 ^ 50)) ≤ℤ s.offset
  pub offset_high : s.offset ≤ℤ pos (2 ^ 50)
  pub within_reach : IsInReach s.den (s.mask * s.num + s.rise)
