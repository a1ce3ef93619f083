-- The brought run ends as the lead's does.
use Rattle.std.proofs.Common.{◌≡◌, ◌≢◌, ⊎_elim, ℕ, zero, suc, ◌+◌, ◌-◌, ◌<◌, ◌≤◌, List, [], ◌∷◌, ◌++◌, length, drop, refl, sym, ap, subst, ◌∙◌, arith}
use Rattle.std.proofs.Common.{append-nil, length-append}
use Rattle.std.specs.Prelude.{nat_le}
use Rattle.std.proofs.lemmas.Bool.{cases_lt, cases_eq, cond-true, cond-false, le-leb, lt-leb}
use Rattle.std.proofs.lemmas.List.Elements.{All-nil, All-cons}
use Rattle.fdr_slot.specs.declared.image.Header.{Header}
use Rattle.fdr_slot.specs.Limits.{IsInLimits}
use Rattle.fdr_recover.specs.Blocks.{Block, AreNumberedFrom, IsNextOfBlocks, IsRun, StandsInSlot}
use Rattle.fdr_recover.specs.Images.{block_in, next_of, recovered_run, session_at, session_of_slot}
use Rattle.fdr_recover.specs.Stretches.{last_session}
use Rattle.fdr_recover.proofs.BlockLemmas.{next_of-is_next, recovered_run-is_recovered}
use Rattle.fdr_recover.proofs.Nexts.{IsNext-one}
use Rattle.fdr_recover.proofs.Sessions.{last_session-at, last_session-none}
use Rattle.fdr_pair.specs.Brought.{blocks_not_below, brought_run, first_of, missing_blocks}
use Rattle.fdr_pair.proofs.BroughtRuns.{in_run, missing_count}
use Rattle.fdr_top.proofs.SessionLemmas.{last_session-drop}
use Rattle.fdr_laws.specs.Sides.{AreInStep}

-- of blocks with numbers in a row those from a number on are the last ones
not_below_drop : (number first : ℕ) (blocks : List Block) → first ≤ number → AreNumberedFrom first blocks
    → blocks_not_below number blocks ≡ drop (number - first) blocks
not_below_drop number first [] low numbered = none (number - first)
  where
    none : (n : ℕ) → [] ≡ drop {A = Block} n []
    none zero = refl
    none (suc n) = refl
not_below_drop number first (b ∷ bs) low numbered = ⊎_elim
    (λ (later : first < number).
    let at : number - first ≡ suc (number - (first + 1)) = omega arith in
    cond-false (nat_le number b.number) _ _ (lt-leb number b.number (omega (arith, numbered.0)))
    ∙ not_below_drop number (first + 1) bs (omega arith) numbered.1 ∙ ap (λ n. drop n (b ∷ bs)) (sym at))
    (λ (here : number ≤ first).
    let at : number - first ≡ 0 = omega arith in
    all_from number first (b ∷ bs) here numbered ∙ ap (λ n. drop n (b ∷ bs)) (sym at))
    (cases_lt first number)
  where
    all_from : (number first : ℕ) (blocks : List Block) → number ≤ first → AreNumberedFrom first blocks → blocks_not_below number blocks ≡ blocks
    all_from number first [] low numbered = refl
    all_from number first (b ∷ bs) low numbered =
        cond-true (nat_le number b.number) _ _ (le-leb number b.number (omega (arith, numbered.0)))
        ∙ ap (λ (l : List Block). b ∷ l) (all_from number (first + 1) bs (omega arith) numbered.1)

-- the last block of two lists is that of the second
last_behind : (xs ys : List Block) → 0 < length ys → last_session (xs ++ ys) ≡ last_session ys
last_behind [] ys some = refl
last_behind (x ∷ []) [] some = absurd (omega (arith, some))
last_behind (x ∷ []) (y ∷ ys) some = refl
last_behind (x ∷ z ∷ xs) ys some = last_behind (z ∷ xs) ys some

module _ (h : Header) (lead follower : List ℕ) (limits : IsInLimits h) (step : AreInStep h lead follower) where
  count : next_of h follower + length (missing_blocks h lead follower) ≡ next_of h lead
  count = missing_count h lead follower limits step.near step.below

  -- where blocks are missing, the last of them is the lead's last
  some_missing : 0 < length (missing_blocks h lead follower) → last_session (brought_run h lead follower) ≡ last_session (recovered_run h lead)
  some_missing some =
      let run = recovered_run h lead in
      let is_run = (recovered_run-is_recovered h lead limits).is_run in
      let ends : is_run.first + length run ≡ next_of h lead = IsNext-one h.slots (block_in h lead) _ _ is_run.next (next_of-is_next h lead limits) in
      let low : first_of h lead ≤ next_of h follower = ⊎_elim (λ far. absurd (step.near far)) (λ is. is) (cases_lt (next_of h follower) (first_of h lead)) in
      let least : is_run.first ≤ next_of h follower = omega (arith, ends, low) in
      let dropped : missing_blocks h lead follower ≡ drop (next_of h follower - is_run.first) run = not_below_drop
      (next_of h follower) is_run.first run least is_run.numbered in
      last_behind (recovered_run h follower) (missing_blocks h lead follower) some
      ∙ ap last_session dropped
      ∙ last_session-drop (next_of h follower - is_run.first) run (omega (arith, some, ap length dropped))

  -- a run isn't empty where the next number is above 0
  has_block : (image : List ℕ) → 0 < next_of h image → first_of h image ≤ next_of h image - 1
  has_block image some =
      let b = (next_of-is_next h image limits).stands some in
      let one : IsRun h.slots (block_in h image) (b.0 ∷ []) = record {
        first = b.0.number;
        numbered = (refl, tt);
        stand = All-cons (StandsInSlot h.slots (block_in h image)) b.0 [] b.1.0 (All-nil (StandsInSlot h.slots (block_in h image)));
        next = subst (λ n. IsNextOfBlocks h.slots (block_in h image) n) (sym b.1.1) (next_of-is_next h image limits);
      } in
      let long : 1 ≤ length (recovered_run h image) = (recovered_run-is_recovered h image limits).longest (b.0 ∷ []) one in
      omega arith

  -- where none is missing, both runs end with one block
  none_missing : length (missing_blocks h lead follower) ≤ 0 → 0 < next_of h lead
      → last_session (recovered_run h follower) ≡ last_session (recovered_run h lead)
  none_missing none some =
      let same : next_of h follower ≡ next_of h lead = omega (arith, count) in
      let number = next_of h lead - 1 in
      let top : next_of h follower - 1 ≡ number = omega arith in
      let here = in_run h lead number limits (has_block lead some) (omega arith) in
      let there = in_run h follower number limits (let low = has_block follower (omega (arith, same)) in omega (arith, low, top)) (omega (arith, same)) in
      let mine : last_session (recovered_run h lead) ≡ here.0.session =
      last_session-at h lead (next_of h lead) some ∙ ap session_of_slot here.1.1.1 in
      let others : last_session (recovered_run h follower) ≡ there.0.session =
      last_session-at h follower (next_of h follower) (omega (arith, same)) ∙ ap (session_at h follower) top ∙ ap session_of_slot there.1.1.1 in
      ⊎_elim
      (λ is. others ∙ sym is ∙ sym mine)
      (λ (differ : here.0.session ≢ there.0.session). absurd (step.blocks number (record {
        one = here.0;
        other = there.0;
        in_first = here.1.1.0;
        in_second = there.1.1.0;
        number_of_one = here.1.0;
        number_of_other = there.1.0;
        differ = λ is. differ (ap (λ (b : Block). b.session) is);
      })))
      (cases_eq here.0.session there.0.session)

  pub brought_session : last_session (brought_run h lead follower) ≡ last_session (recovered_run h lead)
  brought_session = ⊎_elim
      (λ (some : 0 < length (missing_blocks h lead follower)). some_missing some)
      (λ (none : length (missing_blocks h lead follower) ≤ 0).
      let plain : brought_run h lead follower ≡ recovered_run h follower =
      ap (λ xs. recovered_run h follower ++ xs) (is_nil (missing_blocks h lead follower) none) ∙ append-nil (recovered_run h follower) in
      ap last_session plain ∙ ⊎_elim
      (λ (more : 0 < next_of h lead). none_missing none more)
      (λ (no : next_of h lead ≤ 0). last_session-none h follower (next_of h follower) (omega (arith, count))
      ∙ sym (last_session-none h lead (next_of h lead) (omega arith)))
      (cases_lt 0 (next_of h lead)))
      (cases_lt 0 (length (missing_blocks h lead follower)))
    where
      is_nil : (xs : List Block) → length xs ≤ 0 → xs ≡ []
      is_nil [] none = refl
      is_nil (x ∷ xs) none = absurd (omega arith)

  pub brought_some : 0 < length (brought_run h lead follower) → 0 < length (recovered_run h lead)
  brought_some some = ⊎_elim
      (λ (more : 0 < next_of h lead). let low = has_block lead more in omega arith)
      (λ (no : next_of h lead ≤ 0).
      let short = run_short h follower limits in
      omega (arith, some, count, short, length-append (recovered_run h follower) (missing_blocks h lead follower)))
      (cases_lt 0 (next_of h lead))
    where
      run_short : (h : Header) (image : List ℕ) → IsInLimits h → length (recovered_run h image) ≤ next_of h image
      run_short h image limits =
          let is_run = (recovered_run-is_recovered h image limits).is_run in
          let ends : is_run.first + length (recovered_run h image) ≡ next_of h image = IsNext-one h.slots (block_in h image) _ _ is_run.next
          (next_of-is_next h image limits) in
          omega (arith, ends)
