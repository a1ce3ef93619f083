-- What both images are to each other, by what a start of a recording on two disks found.
use Rattle.std.proofs.Common.{◌≡◌, ℕ, ◌≤◌, List, Bool, true, false, Option, Some, None, refl, sym, ◌∙◌, ap, subst, arith}
use Rattle.std.specs.Prelude.{IsTrue, nat_lt, if◌then◌else◌}
use Rattle.std.proofs.lemmas.Bool.Decides.{nat_tests}
use Rattle.fdr_deck.specs.State.{Tells}
use Rattle.fdr_deck.specs.Disk.{KeepsDisk}
use Rattle.fdr_slot.specs.declared.image.Header.{Header}
use Rattle.fdr_slot.specs.declared.image.ImageFault.{ImageFault}
use Rattle.fdr_recover.specs.Images.{recovered_run, next_of}
use Rattle.fdr_recover.specs.ImageHeader.{image_fault_of, header_in}
use Rattle.fdr_recover.specs.Payloads.{run_in}
use Rattle.fdr_recover.specs.declared.run.Found.{Found}
use Rattle.fdr_twin.specs.declared.side.Side.{Side}
use Rattle.fdr_twin.specs.declared.side.Side.TheVariants.{First, Second}
use Rattle.fdr_twin.specs.Pair.{Pair, other_side, disk_on, seen}
use Rattle.fdr_pair.specs.PairWork.{IsSameContent}
use Rattle.fdr_pair.specs.Opening.{OnLiving, IsHeaderOn}
use Rattle.fdr_pair.specs.Brought.{leader_by, next_unless_fault, IsFarBehind}
use Rattle.fdr_pair.specs.Differ.{IsLeastDifference}
use Rattle.fdr_pair.specs.Alike.{AreAlike, HaveOneHeader, HaveDifferentBlocks, IsSideFarBehind, IsLeastDifferent, IsFollowerFar, lead_on}
use Rattle.fdr_pair.specs.SideRuns.{IsRunOn, LooksAtBoth, IsLeastBetween, AreRunsOfBoth, AreFoundRuns, IsRefusalOfBoth, IsRunsRefusal}
use Rattle.fdr_pair.specs.Joining.{found_on, lead_by_found, AreBothJoined, AreNotJoined}
use Rattle.fdr_pair.specs.declared.open.LivingSides.{LivingSides}
use Rattle.fdr_pair.specs.declared.open.LivingSides.TheVariants.{Both, OnlyFirst, OnlySecond}
use Rattle.fdr_pair.specs.declared.open.Opened.{Opened}
use Rattle.fdr_pair.specs.declared.join.Joined.{Joined}
use Rattle.fdr_pair.specs.declared.outcome.PairOutcome.TheVariants as outcome
use Rattle.fdr_pair.specs.declared.runs.SideRuns.{SideRuns}
use Rattle.fdr_pair.specs.declared.runs.SideRuns.TheVariants as runs
use Rattle.fdr_pair.proofs.StartSteps.{HasOpened, HasFoundRuns}

-- ---- images with one header

pub header_of_side : (words : ℕ) (p : Pair) (side : Side) → HaveOneHeader words p → header_in (disk_on side p).held ≡ header_in p.first.held
header_of_side words p First one = refl
header_of_side words p Second one = one.same

pub no_fault_of_side : (words : ℕ) (p : Pair) (side : Side) → HaveOneHeader words p → image_fault_of (disk_on side p).held ≡ None
no_fault_of_side words p First one = one.first
no_fault_of_side words p Second one = one.second

-- of two runs the one of the side that leads has no smaller next number
greater_by : (first second : Found) (b : Bool) → nat_lt first.next second.next ≡ b
    → (found_on (other_side (if b then Second else First)) first second).next ≤ (found_on (if b then Second else First) first second).next
greater_by first second true is = grind (arith, nat_tests)
greater_by first second false is = grind (arith, nat_tests)

pub lead_not_less : (first second : Found)
    → (found_on (other_side (lead_by_found first second)) first second).next ≤ (found_on (lead_by_found first second) first second).next
lead_not_less first second = greater_by first second (nat_lt first.next second.next) refl

-- ---- the disks, over the calls that look at them

-- the disks were opened
module _ (tells : Tells) (words : ℕ) (o : Opened) (p q : Pair) (opened : HasOpened tells words o p q) where
  pub opened_disk : (side : Side) → KeepsDisk (seen side p) (seen side q)
  opened_disk First = opened.first.disk
  opened_disk Second = opened.second.disk

  pub opened_held : (side : Side) → (disk_on side q).held ≡ (disk_on side p).held
  opened_held side = (opened_disk side).held

  pub opened_header : (side : Side) → o.living ≡ Both → IsHeaderOn tells o.header side p q
  opened_header First both = (subst (λ (s : LivingSides). OnLiving s (λ (side : Side). IsHeaderOn tells o.header side p q)) both opened.header).0
  opened_header Second both = (subst (λ (s : LivingSides). OnLiving s (λ (side : Side). IsHeaderOn tells o.header side p q)) both opened.header).1

  -- where neither side failed, both have this header
  pub one_header : IsTrue tells.bytes → o.living ≡ Both → HaveOneHeader words p
  one_header told both =
      let first = opened_header First both in
      let second = opened_header Second both in
      record {
        first = first.no_fault told;
        second = second.no_fault told;
        same = sym (second.read told) ∙ first.read told;
        count = ap (λ (h : Header). h.words) (sym (first.read told)) ∙ opened.words;
        version = ap (λ (h : Header). h.version) (sym (first.read told)) ∙ opened.version;
      }

  pub header_is : (side : Side) → IsTrue tells.bytes → o.living ≡ Both → header_in (disk_on side p).held ≡ o.header
  header_is side told both = sym ((opened_header side both).read told)

-- both disks were looked at
pub looked_content_of : (tells : Tells) (side : Side) (p q : Pair) → LooksAtBoth tells p q → IsSameContent (disk_on side p) (disk_on side q)
looked_content_of tells First p q looks = looks.first
looked_content_of tells Second p q looks = looks.second

-- ---- the side that leads, and blocks that differ

-- Both images at entry have this header, and later the disks hold what they held.
module _ (words : ℕ) (h : Header) (p q : Pair) (one : HaveOneHeader words p) (is : header_in p.first.held ≡ h)
    (held : (side : Side) → (disk_on side q).held ≡ (disk_on side p).held) where
  header_at : (side : Side) → header_in (disk_on side p).held ≡ h
  header_at side = header_of_side words p side one ∙ is

  next_at : (tells : Tells) (side : Side) (found : Found) → IsTrue tells.bytes → IsRunOn tells h side found q
      → next_unless_fault (image_fault_of (disk_on side p).held) (disk_on side p).held ≡ Some found.next
  next_at tells side found told run =
      let next : next_of (header_in (disk_on side p).held) (disk_on side p).held ≡ found.next =
      ap (λ (k : Header). next_of k (disk_on side p).held) (header_at side) ∙ ap (λ (l : List ℕ). next_of h l) (sym (held side))
      ∙ sym (run.run told).next in
      ap (λ (f : Option ImageFault). next_unless_fault f (disk_on side p).held) (no_fault_of_side words p side one)
      ∙ ap (λ (n : ℕ). let x : Option ℕ = Some n in x) next

  -- the side leads that leads by the runs that were found
  pub leads : (tells : Tells) (first second : Found) → IsTrue tells.bytes → IsRunOn tells h First first q → IsRunOn tells h Second second q
      → lead_on p ≡ lead_by_found first second
  leads tells first second told one_run other_run =
      ap (λ (n : Option ℕ). leader_by n (next_unless_fault (image_fault_of p.second.held) p.second.held)) (next_at tells First first told one_run)
      ∙ ap (λ (n : Option ℕ). leader_by (Some first.next) n) (next_at tells Second second told other_run)

  least_at : (least : Option ℕ) → IsLeastBetween h q least → IsLeastDifferent p least
  least_at least between =
      let run_at : (side : Side) → recovered_run h (disk_on side q).held ≡ run_in (disk_on side p).held = λ side.
      ap (λ (l : List ℕ). recovered_run h l) (held side) ∙ ap (λ (k : Header). recovered_run k (disk_on side p).held) (sym (header_at side)) in
      subst (λ b. IsLeastDifference (run_in p.first.held) b least) (run_at Second)
      (subst (λ a. IsLeastDifference a (recovered_run h q.second.held) least) (run_at First) between)

  -- the least number at which blocks differ
  pub differ_at : (seq : ℕ) → IsLeastBetween h q (Some seq) → HaveDifferentBlocks words p seq
  differ_at seq between = record { header = one; blocks = least_at (Some seq) between }

  module _ (r : Pair) (held_then : (side : Side) → (disk_on side r).held ≡ (disk_on side p).held) (lead : Side) (is_lead : lead_on p ≡ lead)
      (none : IsLeastBetween h q None) where
    far_to : IsFollowerFar p → IsFarBehind h (disk_on lead r).held (disk_on (other_side lead) r).held
    far_to far =
        let by_lead = subst (λ (s : Side). IsFarBehind (header_in (disk_on s p).held) (disk_on s p).held (disk_on (other_side s) p).held) is_lead far in
        let by_header = subst (λ (k : Header). IsFarBehind k (disk_on lead p).held (disk_on (other_side lead) p).held) (header_at lead) by_lead in
        subst (λ (l : List ℕ). IsFarBehind h (disk_on lead r).held l) (sym (held_then (other_side lead)))
        (subst (λ (l : List ℕ). IsFarBehind h l (disk_on (other_side lead) p).held) (sym (held_then lead)) by_header)

    far_from : IsFarBehind h (disk_on lead r).held (disk_on (other_side lead) r).held → IsFollowerFar p
    far_from far =
        let by_held = subst (λ (l : List ℕ). IsFarBehind h (disk_on lead p).held l) (held_then (other_side lead))
        (subst (λ (l : List ℕ). IsFarBehind h l (disk_on (other_side lead) r).held) (held_then lead) far) in
        let by_header = subst (λ (k : Header). IsFarBehind k (disk_on lead p).held (disk_on (other_side lead) p).held) (sym (header_at lead)) by_held in
        subst (λ (s : Side). IsFarBehind (header_in (disk_on s p).held) (disk_on s p).held (disk_on (other_side s) p).held) (sym is_lead) by_header

    -- no block differs, and the side that follows isn't too far behind
    pub alike_at : (IsFarBehind h (disk_on lead r).held (disk_on (other_side lead) r).held → ⊥) → AreAlike words p
    alike_at near = record { header = one; blocks = least_at None none; near = λ far. near (far_to far) }

    -- the side that follows is too far behind
    pub far_at : (s : Side) → s ≡ other_side lead → IsFarBehind h (disk_on lead r).held (disk_on (other_side lead) r).held → IsSideFarBehind words p s
    far_at s side far = record {
      header = one;
      blocks = least_at None none;
      side = side ∙ ap other_side (sym is_lead);
      far = far_from far;
    }

-- ---- by the steps of a start

-- runs of both sides were found only where neither had failed
pub both_found : (tells : Tells) (h : Header) (s : LivingSides) (first second : Found) (p q : Pair)
    → AreFoundRuns tells h s (runs.Both first second) p q → (s ≡ Both) × AreRunsOfBoth tells h (runs.Both first second) p q
both_found tells h Both first second p q is = (refl, is)
both_found tells h OnlyFirst first second p q is = absurd is
both_found tells h OnlySecond first second p q is = absurd is

-- blocks differ only where neither had failed
pub both_refused : (tells : Tells) (h : Header) (s : LivingSides) (seq : ℕ) (p q : Pair) → IsRunsRefusal tells h s (outcome.BlocksDiffer seq) p q
    → (s ≡ Both) × IsRefusalOfBoth tells h (outcome.BlocksDiffer seq) p q
both_refused tells h Both seq p q is = (refl, is)
both_refused tells h OnlyFirst seq p q is = let no : outcome.BlocksDiffer seq ≡ outcome.DiskFault = is.0 in absurd (cc)
both_refused tells h OnlySecond seq p q is = let no : outcome.BlocksDiffer seq ≡ outcome.DiskFault = is.0 in absurd (cc)

-- the headers were read
module _ (tells : Tells) (words : ℕ) (o : Opened) (p0 p1 p2 : Pair) (opened : HasOpened tells words o p0 p1) (told : IsTrue tells.bytes) where
  -- and the runs of both sides weren't found, since blocks differ
  pub differs : (seq : ℕ) → IsRunsRefusal tells o.header o.living (outcome.BlocksDiffer seq) p1 p2 → HaveDifferentBlocks words p0 seq
  differs seq refused =
      let both = both_refused tells o.header o.living seq p1 p2 refused in
      differ_at words o.header p0 p1 (one_header tells words o p0 p1 opened told both.0) (header_is tells words o p0 p1 opened First told both.0)
      (opened_held tells words o p0 p1 opened) seq (both.1.1 told)

  -- and the runs of both sides were found
  module _ (first second : Found) (found : HasFoundRuns tells o (runs.Both first second) p1 p2) where
    living_both : o.living ≡ Both
    living_both = (both_found tells o.header o.living first second p1 p2 found.runs).0

    found_both : AreRunsOfBoth tells o.header (runs.Both first second) p1 p2
    found_both = (both_found tells o.header o.living first second p1 p2 found.runs).1

    pub one_header_found : HaveOneHeader words p0
    one_header_found = one_header tells words o p0 p1 opened told living_both

    pub found_held : (side : Side) → (disk_on side p2).held ≡ (disk_on side p0).held
    found_held side = (looked_content_of tells side p1 p2 found.looks).held ∙ opened_held tells words o p0 p1 opened side

    pub lead_found : lead_on p0 ≡ lead_by_found first second
    lead_found = leads words o.header p0 p1 one_header_found (header_is tells words o p0 p1 opened First told living_both)
        (opened_held tells words o p0 p1 opened) tells first second told found_both.0 found_both.1

    pub alike : (IsFarBehind o.header (disk_on (lead_by_found first second) p2).held (disk_on (other_side (lead_by_found first second)) p2).held → ⊥)
        → AreAlike words p0
    alike near = alike_at words o.header p0 p1 one_header_found (header_is tells words o p0 p1 opened First told living_both)
        (opened_held tells words o p0 p1 opened) p2 found_held (lead_by_found first second) lead_found (found_both.3 told) near

    pub alike_joined : (j : Joined) (p3 : Pair) → AreBothJoined tells o.header first second j p2 p3 → AreAlike words p0
    alike_joined j p3 joined = alike (joined.near told)

    far : (s : Side) → s ≡ other_side (lead_by_found first second)
        → IsFarBehind o.header (disk_on (lead_by_found first second) p2).held (disk_on (other_side (lead_by_found first second)) p2).held
        → IsSideFarBehind words p0 s
    far s side is = far_at words o.header p0 p1 one_header_found (header_is tells words o p0 p1 opened First told living_both)
        (opened_held tells words o p0 p1 opened) p2 found_held (lead_by_found first second) lead_found (found_both.3 told) s side is

  -- and the sides weren't joined, since one is too far behind
  pub side_far : (found : SideRuns) (s : Side) (p3 : Pair) → HasFoundRuns tells o found p1 p2
      → AreNotJoined tells o.header found (outcome.FarBehind s) p2 p3 → IsSideFarBehind words p0 s
  side_far (runs.Both first second) s p3 found refused = far first second found s refused.cause.0 (refused.cause.3 told)
  side_far (runs.Alone side run) s p3 found refused = absurd refused
