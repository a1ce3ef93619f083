-- The side that leads, and the other.
use Rattle.std.proofs.Common.{◌≡◌, ⊎_elim, ℕ, ◌+◌, ◌≤◌, true, false, length, refl, sym, ◌∙◌, ap, subst, arith, Some}
use Rattle.std.specs.Prelude.{nat_lt}
use Rattle.std.proofs.lemmas.Bool.{cases_lt}
use Rattle.std.proofs.lemmas.Bool.Decides.{nat_tests}
use Rattle.fdr_slot.specs.Limits.{IsInLimits}
use Rattle.fdr_recover.specs.Images.{next_of}
use Rattle.fdr_recover.specs.ImageHeader.{image_fault_of, header_in}
use Rattle.fdr_twin.specs.declared.side.Side.{Side}
use Rattle.fdr_twin.specs.declared.side.Side.TheVariants.{First, Second}
use Rattle.fdr_twin.specs.Pair.{Pair, disk_on, other_side}
use Rattle.fdr_recorder.specs.NewBlocks.{next_in}
use Rattle.fdr_pair.specs.Brought.{leader_by, next_unless_fault, missing_blocks}
use Rattle.fdr_pair.specs.Alike.{AreAlike, HaveOneHeader, lead_on, follower_on, lead_image, follower_image}
use Rattle.fdr_pair.proofs.BroughtRuns.{missing_count}

-- the number of a side, of one number for each
number_on : ℕ → ℕ → Side → ℕ
number_on first second First = first
number_on first second Second = second

by_order : (first second : ℕ) → number_on first second (other_side (leader_by (Some first) (Some second)))
    ≤ number_on first second (leader_by (Some first) (Some second))
unfolding number_on
by_order first second = ⊎_elim
    (λ less.
    let test : nat_lt first second ≡ true = grind (arith, nat_tests) in
    let is : leader_by (Some first) (Some second) ≡ Second = rw test refl in
    subst (λ (s : Side). number_on first second (other_side s) ≤ number_on first second s) (sym is) (omega (arith, less)))
    (λ no.
    let test : nat_lt first second ≡ false = grind (arith, nat_tests) in
    let is : leader_by (Some first) (Some second) ≡ First = rw test refl in
    subst (λ (s : Side). number_on first second (other_side s) ≤ number_on first second s) (sym is) (omega (arith, no)))
    (cases_lt first second)

number_of : (p : Pair) (side : Side) → number_on (next_in p.first.held) (next_in p.second.held) side ≡ next_in (disk_on side p).held
unfolding number_on
number_of p First = refl
number_of p Second = refl

module _ (words : ℕ) (p : Pair) (one : HaveOneHeader words p) where
  lead_is : lead_on p ≡ leader_by (Some (next_in p.first.held)) (Some (next_in p.second.held))
  lead_is = ap (λ f. leader_by (next_unless_fault f p.first.held) (next_unless_fault (image_fault_of p.second.held) p.second.held)) one.first
      ∙ ap (λ f. leader_by (Some (next_in p.first.held)) (next_unless_fault f p.second.held)) one.second

  -- the other side's next number isn't above the lead's
  pub follower_below : next_in (follower_image p) ≤ next_in (lead_image p)
  follower_below =
      let a = next_in p.first.held in
      let b = next_in p.second.held in
      let least = subst (λ (s : Side). number_on a b (other_side s) ≤ number_on a b s) (sym lead_is) (by_order a b) in
      omega (arith, least, number_of p (lead_on p), number_of p (follower_on p))

  header_as_first : (side : Side) → header_in (disk_on side p).held ≡ header_in p.first.held
  header_as_first First = refl
  header_as_first Second = one.same

  -- both images have one header
  pub one_header : header_in (follower_image p) ≡ header_in (lead_image p)
  one_header = header_as_first (follower_on p) ∙ sym (header_as_first (lead_on p))

-- the brought run has as many blocks more as the lead has numbers more
pub brought_next : (words : ℕ) (p : Pair) → AreAlike words p → IsInLimits (header_in (lead_image p))
    → next_in (follower_image p) + length (missing_blocks (header_in (lead_image p)) (lead_image p) (follower_image p)) ≡ next_in (lead_image p)
brought_next words p alike limits =
    let same : next_of (header_in (follower_image p)) (follower_image p) ≡ next_of (header_in (lead_image p)) (follower_image p) =
    ap (λ h. next_of h (follower_image p)) (one_header words p alike.header) in
    let long = missing_count (header_in (lead_image p)) (lead_image p) (follower_image p) limits alike.near
    (omega (arith, follower_below words p alike.header, same)) in
    omega (arith, long, same)
