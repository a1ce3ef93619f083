-- Exceedances of five rows, worked out by hand.
use Rattle.std.proofs.Common.{◌≡◌, ap, refl, List, [], ◌∷◌, Some, None, arith}
use Rattle.std.specs.Prelude.{ℕ, ℤ, pos}
use Rattle.fdr_recon.specs.declared.Row.{Row}
use Rattle.fdr_exceed.specs.declared.hits.HitList.{HitList}
use Rattle.fdr_exceed.specs.declared.rule.Rule.{Rule}
use Rattle.fdr_exceed.specs.declared.rule.RuleKind.{RuleKind}
use Rattle.fdr_exceed.specs.declared.rule.RuleKind.TheVariants as kind
use Rattle.fdr_exceed.specs.Exceedances.{WatchStep, RowStep, ResetStep, ended_before, hit_at, hit_list, hits_to, rows_since, spread}
use Rattle.fdr_laws.specs.Maximal.{IsExceedance}
use Rattle.fdr_laws.proofs.Lasting.{ended-is, some-same}

row : ℕ → ℤ → Row
row counter value = record { counter = counter; subframe = 1; word = 10; param = 0; value = value }

rule : RuleKind → ℕ → Rule
rule k count = record { name = []; param = 0; decimals = 0; kind = k; limit = pos 4; count = count }

-- the values 5, 7, 9, 3 and 8, and the end of the stretch
steps : List WatchStep
steps =
    RowStep (row 0 (pos 5)) ∷ RowStep (row 1 (pos 7)) ∷ RowStep (row 2 (pos 9)) ∷ RowStep (row 3 (pos 3)) ∷ RowStep (row 4 (pos 8)) ∷ ResetStep ∷ []

-- over 4 twice at least: 5, 7 and 9, which 3 ends
above-4 : IsExceedance (rule kind.Above 2) steps 3 (record { first = row 0 (pos 5); length = 3; peak = pos 9 })
unfolding row rule steps rows_since ended_before hit_list hits_to hit_at spread
above-4 = (ended-is (rule kind.Above 2) steps 3 (record { first = row 0 (pos 5); length = 3; peak = pos 9 })).0 refl

-- below 4 once: 3, which 8 ends
below-4 : IsExceedance (rule kind.Below 1) steps 4 (record { first = row 3 (pos 3); length = 1; peak = pos 3 })
unfolding row rule steps rows_since ended_before hit_list hits_to hit_at spread
below-4 = (ended-is (rule kind.Below 1) steps 4 (record { first = row 3 (pos 3); length = 1; peak = pos 3 })).0 refl

-- more than 4 apart within two rows: from 9 to 3 and from 3 to 8, which the end ends
change-4 : IsExceedance (rule kind.Change 2) steps 5 (record { first = row 3 (pos 3); length = 2; peak = pos 6 })
unfolding row rule steps rows_since ended_before hit_list hits_to hit_at spread
change-4 = (ended-is (rule kind.Change 2) steps 5 (record { first = row 3 (pos 3); length = 2; peak = pos 6 })).0 refl

same_length : (a b : HitList) → Some a ≡ Some b → a.length ≡ b.length
same_length a b is = ap (λ (list : HitList). list.length) (some-same a b is)

not_some : (list : HitList) → None ≡ Some list → ⊥
not_some list is = absurd (cc)

-- 7 and 9 alone are none, since 5 in front of them is a hit
no-shorter : IsExceedance (rule kind.Above 2) steps 3 (record { first = row 1 (pos 7); length = 2; peak = pos 9 }) → ⊥
unfolding row rule steps rows_since ended_before hit_list hits_to hit_at spread
no-shorter e =
    let two : HitList = record { first = row 1 (pos 7); length = 2; peak = pos 9 } in
    let same : 3 ≡ 2 = same_length (record { first = row 0 (pos 5); length = 3; peak = pos 9 }) two ((ended-is (rule kind.Above 2) steps 3 two).1 e) in
    absurd (omega (arith, same))

-- 8 alone is none, since one hit isn't enough
no-one : IsExceedance (rule kind.Above 2) steps 5 (record { first = row 4 (pos 8); length = 1; peak = pos 8 }) → ⊥
unfolding row rule steps rows_since ended_before hit_list hits_to hit_at spread
no-one e =
    let one : HitList = record { first = row 4 (pos 8); length = 1; peak = pos 8 } in
    not_some one ((ended-is (rule kind.Above 2) steps 5 one).1 e)
