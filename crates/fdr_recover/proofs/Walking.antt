-- Down by number from the greatest, until a slot doesn't hold the number wanted.
use Rattle.std.proofs.Common.{◌≡◌, ◌⊎◌, inl, inr, ⊎_elim, ℕ, zero, suc, ◌+◌, ◌-◌, ◌%◌, ◌<◌, ◌≤◌, length, Bool, false, Option, Some, None, refl, sym, ap, ◌∙◌}
use Rattle.std.proofs.Common.{subst, arith, add-zero}
use Rattle.std.specs.Prelude.{◌↔◌, IsTrue, IsSome}
use Rattle.std.proofs.Math.Nat.{add-mod_left}
use Rattle.std.proofs.lemmas.Bool.{cases_lt}
use Rattle.fdr_recover.specs.Blocks.{Block, Slots, standing_block, run_below}
use Rattle.fdr_recover.proofs.Standing.{standing_block-stands}
use Rattle.fdr_recover.proofs.Runs.{run_below-none, length-run_below}
use Rattle.fdr_lists.proofs.Options.{some_is, some_or_none}

-- all blocks from the first on, below the next, are in their slots
pub record AllStand (n : ℕ) (slots : Slots) (first next : ℕ) : Type 0 where
  pub each : (number : ℕ) → first ≤ number → number < next → IsSome (standing_block n slots number)

pub AllStand-more : (n : ℕ) (slots : Slots) (first next : ℕ) → 0 < first → AllStand n slots first next → IsSome (standing_block n slots (first - 1))
    → AllStand n slots (first - 1) next
AllStand-more n slots first next some all here = record {
  each =
      λ number from below. ⊎_elim (λ later. all.each number later below) (λ same. subst (λ k. IsSome (standing_block n slots k)) (sym same) here)
      (parts number from);
}
  where
    parts : (number : ℕ) → first - 1 ≤ number → (first ≤ number) ⊎ (number ≡ first - 1)
    parts number from = ⊎_elim (λ less. inr (omega arith)) (λ more. inl more) (cases_lt number first)

length_walked : (n : ℕ) (slots : Slots) (first k : ℕ) → AllStand n slots first (first + k)
    → length (run_below n slots (first + k)) ≡ k + length (run_below n slots first)
length_walked n slots first zero all = rw add-zero (omega arith)
length_walked n slots first (suc k) all =
    let front : AllStand n slots first (first + k) = record { each = λ number from below. all.each number from (omega arith) } in
    let last = some_is (standing_block n slots (first + k)) (all.each (first + k) (omega arith) (omega arith)) in
    let more = length-run_below n slots (first + k) last.0 last.1 in
    let rest = length_walked n slots first k front in
    let next : first + suc k ≡ suc (first + k) = omega arith in
    ap (λ m. length (run_below n slots m)) next ∙ omega (arith, more, rest)

-- the walk ended where a block wasn't in its slot
pub walked_down : (n : ℕ) (slots : Slots) (first next : ℕ) → first ≤ next → AllStand n slots first next → length (run_below n slots first) ≡ 0
    → first + length (run_below n slots next) ≡ next
walked_down n slots first next order all stops =
    let whole : first + (next - first) ≡ next = omega arith in
    let count = length_walked n slots first (next - first) (subst (AllStand n slots first) (sym whole) all) in
    let here : length (run_below n slots next) ≡ length (run_below n slots (first + (next - first))) = ap (λ m. length (run_below n slots m)) (sym whole) in
    omega (arith, here, count)

pub stops_at : (n : ℕ) (slots : Slots) (first : ℕ) → 0 < first → standing_block n slots (first - 1) ≡ None → length (run_below n slots first) ≡ 0
stops_at n slots first some none =
    let whole : first ≡ suc (first - 1) = omega arith in
    ap (λ m. length (run_below n slots m)) whole ∙ ap length (run_below-none n slots (first - 1) none)

-- one slot holds one block
same_block : (slots : Slots) (i j : ℕ) (a b : Block) → i ≡ j → slots i ≡ Some a → slots j ≡ Some b → a.number ≡ b.number
same_block slots i j a b same one two =
    let found : Some a ≡ Some b = sym one ∙ ap slots same ∙ two in
    let block : a ≡ b = cc in
    ap (λ (x : Block). x.number) block

-- n numbers further down another block would be in the same slot
pub stops_after_all : (n : ℕ) (slots : Slots) (first next : ℕ) → 0 < n → 0 < first → first + n ≡ next → AllStand n slots first next
    → standing_block n slots (first - 1) ≡ None
stops_after_all n slots first next room some whole all = ⊎_elim
    (λ none. none)
    (λ held. let top = some_is (standing_block n slots (next - 1)) (all.each (next - 1) (omega arith) (omega arith)) in
    let low = standing_block-stands n slots (first - 1) held.0 held.1 in
    let high = standing_block-stands n slots (next - 1) top.0 top.1 in
    let apart : next - 1 ≡ n + (first - 1) = omega arith in
    let turn : (n + (first - 1)) % n ≡ (first - 1) % n = add-mod_left n (first - 1) in
    let slot : top.0.number % n ≡ held.0.number % n = rw (high.0, apart, turn, low.0) refl in
    let same = same_block slots (top.0.number % n) (held.0.number % n) top.0 held.0 slot high.1 low.1 in
    absurd (omega (arith, same, low.0, high.0)))
    (some_or_none (standing_block n slots (first - 1)))

-- n numbers down from the next, or at 0
pub stops_below : (n : ℕ) (slots : Slots) (first next : ℕ) → 0 < n → first ≤ next - n → next - n ≤ first → AllStand n slots first next
    → length (run_below n slots first) ≡ 0
stops_below n slots first next room down up all = ⊎_elim
    (λ some. stops_at n slots first some (stops_after_all n slots first next room some (omega arith) all))
    (λ none. let zero_first : first ≡ 0 = omega arith in ap (λ k. length (run_below n slots k)) zero_first)
    (cases_lt 0 first)

-- what a test says that looked for a number
pub not_there : (o : Option Block) (answer : Bool) → answer ≡ false → IsTrue answer ↔ IsSome o → o ≡ None
not_there None answer denied tells = refl
not_there (Some b) answer denied tells = absurd (let is = tells.1 refl in cc)
