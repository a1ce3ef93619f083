-- The blocks of two images with the same numbers.
use Rattle.std.proofs.Common.{◌≡◌, ◌≢◌, ◌⊎◌, inl, inr, ⊎_elim, ℕ, ◌+◌, ◌<◌, ◌≤◌, List, length, take, refl, sym, ◌∙◌, ap, arith, length-take}
use Rattle.std.proofs.Common.{Option, Some, None, min, max}
use Rattle.std.specs.Prelude.{◌↔◌}
use Rattle.std.proofs.lemmas.Bool.{cases_lt}
use Rattle.fdr_slot.specs.declared.image.Header.{Header}
use Rattle.fdr_slot.specs.Limits.{IsInLimits}
use Rattle.fdr_recover.specs.Blocks.{Block}
use Rattle.fdr_recover.specs.Images.{block_numbered, payload_of, payload_at, session_of_slot, session_at, recovered_run}
use Rattle.fdr_recover.proofs.Standing.{standing_block-stands}
use Rattle.fdr_recover.specs.Images.{block_in}
use Rattle.fdr_recover.specs.declared.run.Found.{Found}
use Rattle.fdr_pair.specs.Brought.{first_of}
use Rattle.fdr_pair.specs.Differ.{DifferAt, IsLeastDifference, HasFound}
use Rattle.fdr_pair.proofs.BroughtRuns.{of_run, in_run}

some_or_none : (o : Option Block) → (o ≡ None) ⊎ ((b : Block) × (o ≡ Some b))
some_or_none None = inl refl
some_or_none (Some b) = inr (b, refl)

-- What was read of a block with a number: its payload at the front of a buffer, and its session.
pub record IsRead (h : Header) (image : List ℕ) (number len which : ℕ) (buf : List ℕ) : Type 0 where
  pub payload : take len buf ≡ payload_at h image number
  pub session : which ≡ session_at h image number
  pub none : (len ≡ 0) ↔ (block_numbered h image number ≡ None)
  pub room : len ≤ length buf

numbered : (h : Header) (image : List ℕ) (number : ℕ) (b : Block) → block_numbered h image number ≡ Some b → b.number ≡ number
unfolding block_numbered
numbered h image number b is = (standing_block-stands h.slots (block_in h image) number b is).0

same_block : (a b : Block) → a.number ≡ b.number → a.session ≡ b.session → a.payload ≡ b.payload → a ≡ b
same_block a b number session payload =
    ap (λ (n : ℕ). let x : Block = record { number = n; session = a.session; payload = a.payload } in x) number
    ∙ ap (λ (s : ℕ). let x : Block = record { number = b.number; session = s; payload = a.payload } in x) session
    ∙ ap (λ (l : List ℕ). let x : Block = record { number = b.number; session = b.session; payload = l } in x) payload

module _ (h : Header) (a b : List ℕ) (number la lb sa sb : ℕ) (xa xb : List ℕ) (one : IsRead h a number la sa xa) (other : IsRead h b number lb sb xb) where
  len_same : take la xa ≡ take lb xb → la ≡ lb
  len_same payload = omega (arith, ap length payload, length-take la xa, length-take lb xb, one.room, other.room)

  -- two blocks that were read alike
  module _ (x y : Block) (x_is : block_numbered h a number ≡ Some x) (y_is : block_numbered h b number ≡ Some y) where
    number_alike : x.number ≡ y.number
    number_alike = numbered h a number x x_is ∙ sym (numbered h b number y y_is)

    session_alike : sa ≡ sb → x.session ≡ y.session
    session_alike session = sym (ap session_of_slot x_is) ∙ sym one.session ∙ session ∙ other.session ∙ ap session_of_slot y_is

    payload_alike : take la xa ≡ take lb xb → x.payload ≡ y.payload
    payload_alike payload = sym (ap payload_of x_is) ∙ sym one.payload ∙ payload ∙ other.payload ∙ ap payload_of y_is

    block_alike : sa ≡ sb → take la xa ≡ take lb xb → block_numbered h a number ≡ block_numbered h b number
    block_alike session payload = x_is ∙ ap Some (same_block x y number_alike (session_alike session) (payload_alike payload)) ∙ sym y_is

  -- what was read alike is the same
  pub read_same : sa ≡ sb → take la xa ≡ take lb xb → block_numbered h a number ≡ block_numbered h b number
  read_same session payload = ⊎_elim
      (λ none. none ∙ sym (other.none.0 (sym (len_same payload) ∙ one.none.1 none)))
      (λ some. ⊎_elim
      (λ none. absurd (let here = one.none.0 (len_same payload ∙ other.none.1 none) in let there = some.1 in cc))
      (λ more. block_alike some.0 more.0 some.1 more.1 session payload)
      (some_or_none (block_numbered h b number)))
      (some_or_none (block_numbered h a number))

  -- what is the same is read alike
  pub same_session : block_numbered h a number ≡ block_numbered h b number → sa ≡ sb
  same_session same = one.session ∙ ap session_of_slot same ∙ sym other.session

  pub same_payload : block_numbered h a number ≡ block_numbered h b number → take la xa ≡ take lb xb
  same_payload same = one.payload ∙ ap payload_of same ∙ sym other.payload

-- Two images have the same block, or none, of each of the numbers from `from` on, below `to`.
abbrev pub AreAlike : Header → List ℕ → List ℕ → ℕ → ℕ → Type 0
AreAlike h a b from to = (number : ℕ) → from ≤ number → number < to → block_numbered h a number ≡ block_numbered h b number

pub alike_none : (h : Header) (a b : List ℕ) (from to : ℕ) → to ≤ from → AreAlike h a b from to
alike_none h a b from to none number low high = absurd (omega (arith, none, low, high))

pub alike_more : (h : Header) (a b : List ℕ) (from number : ℕ) → AreAlike h a b from number
    → block_numbered h a number ≡ block_numbered h b number → AreAlike h a b from (number + 1)
alike_more h a b from number alike same k low high = ⊎_elim
    (λ earlier. alike k low earlier)
    (λ here. let is : number ≡ k = omega (arith, here, high) in
    ap (block_numbered h a) (sym is) ∙ same ∙ ap (block_numbered h b) is)
    (cases_lt k number)

-- two images that hold what these hold have the same block too
pub alike_held : (h : Header) (a b x y : List ℕ) (number : ℕ) → x ≡ a → y ≡ b → block_numbered h x number ≡ block_numbered h y number
    → block_numbered h a number ≡ block_numbered h b number
alike_held h a b x y number one other same =
    ap (λ (l : List ℕ). block_numbered h l number) (sym one) ∙ same ∙ ap (λ (l : List ℕ). block_numbered h l number) other

module _ (h : Header) (a b : List ℕ) (limits : IsInLimits h) (found other : Found) (one : HasFound h found a) (two : HasFound h other b) where
  first_a : found.first ≡ first_of h a
  first_a = omega (arith, one.first, one.next)

  first_b : other.first ≡ first_of h b
  first_b = omega (arith, two.first, two.next)

  -- the runs don't differ at such a number
  no_difference : (from to number : ℕ) → from ≡ max found.first other.first → AreAlike h a b from to → DifferAt (recovered_run h a) (recovered_run h b) number
      → number < to → ⊥
  no_difference from to number is_from alike differ high =
      let x = of_run h a differ.one number limits differ.in_first differ.number_of_one in
      let y = of_run h b differ.other number limits differ.in_second differ.number_of_other in
      let same = alike number (omega (arith, is_from, x.low, y.low, first_a, first_b)) high in
      let found : Some differ.one ≡ Some differ.other = sym x.there ∙ same ∙ y.there in
      differ.differ (cc)

  pub least_none : (from to end : ℕ) → from ≡ max found.first other.first → end ≡ min found.next other.next → end ≤ to
      → AreAlike h a b from to → IsLeastDifference (recovered_run h a) (recovered_run h b) None
  least_none from to end is_from is_end long alike number differ =
      let x = of_run h a differ.one number limits differ.in_first differ.number_of_one in
      let y = of_run h b differ.other number limits differ.in_second differ.number_of_other in
      no_difference from to number is_from alike differ (omega (arith, is_end, long, x.high, y.high, one.next, two.next))

  pub least_some : (from number : ℕ) → from ≡ max found.first other.first → from ≤ number → number < min found.next other.next
      → AreAlike h a b from number → block_numbered h a number ≢ block_numbered h b number
      → IsLeastDifference (recovered_run h a) (recovered_run h b) (Some number)
  least_some from number is_from low high alike other_block =
      let x = in_run h a number limits (omega (arith, is_from, low, first_a)) (omega (arith, high, one.next)) in
      let y = in_run h b number limits (omega (arith, is_from, low, first_b)) (omega (arith, high, two.next)) in (
        record {
          one = x.0;
          other = y.0;
          in_first = x.1.1.0;
          in_second = y.1.1.0;
          number_of_one = x.1.0;
          number_of_other = y.1.0;
          differ = λ same. other_block (x.1.1.1 ∙ ap Some same ∙ sym y.1.1.1);
        },
        λ k differ. ⊎_elim
            (λ earlier. absurd (no_difference from number k is_from alike differ earlier))
            (λ is. is)
            (cases_lt k number),
      )
