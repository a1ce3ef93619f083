-- What is made of what is kept.
use Rattle.std.proofs.Common.{◌≡◌, ℕ, ◌+◌, ◌-◌, ◌*◌, ◌/◌, ◌%◌, ◌^◌, ◌<◌, ◌≤◌, Bool, true, false, List, [], length, map, subst, ap, sym, ◌∙◌, ⊎_elim, ◌⊎◌}
use Rattle.std.proofs.Common.{Some, None, arith}
use Rattle.std.proofs.Common.{lit≤}
use Rattle.std.specs.Prelude.{◌&&◌, ◌==◌, not, nat_le, slice_index, ℤ}
use Rattle.std.proofs.lemmas.Bool.{and_left, and_right, and_from, le-leb, lt-leb, cond-true, cond-false, cases_lt}
use Rattle.std.specs.List.{All, slice_index_or}
use Rattle.std.proofs.lemmas.Nat.{mod_below, pow_pos}
use Rattle.std.proofs.Math.Nat.{pow-le-pow_right}
use Rattle.std.proofs.lemmas.List.{length-map, get_or-map, get_or_past}
use Rattle.std.proofs.lemmas.Option.{get_or_from_slice_get}
use Rattle.fdr_table.specs.Rows.{ParamRow}
use Rattle.fdr_check.specs.Occurrences.{cycle_of}
use Rattle.fdr_layout.specs.declared.parts.Sample.{Sample as ListedSample}
use Rattle.fdr_layout.specs.Listed.{numbered_parts, sample_in}
use Rattle.fdr_layout.specs.Samples.{Part, Sample, first_at}
use Rattle.fdr_layout.specs.SlotParts.{Laid, SlotPart, parts_of_sample, plain_parts}
use Rattle.fdr_layout.proofs.Drafting.{plain_again}
use Rattle.fdr_recon.specs.declared.Row.{Row}
use Rattle.fdr_recon.specs.Rows.{counter_place, reach, param_at, no_param}
use Rattle.fdr_recon.specs.Kept.{RebuildKept, kept_counter, kept_cycle, kept_bits, kept_raw, kept_value, kept_row, kept_samples, is_next}
use Rattle.fdr_recon.specs.Kept.{EndsInCycle, IsSampleOf}
use Rattle.fdr_recon.proofs.FilledValues.{filled_below}
use Rattle.fdr_recon.proofs.KeptWords.{cycle_of_slot}

pub is_next-not : (k : RebuildKept) (adjacent : Bool) (words : List ℕ) → (adjacent ≡ false) ⊎ ((length k.words == 0) ≡ true) → is_next k adjacent words ≡ false
unfolding is_next
is_next-not k adjacent words why =
    and_left _ _
    (⊎_elim (λ (apart : adjacent ≡ false). and_left _ _ apart) (λ (empty : (length k.words == 0) ≡ true). and_right adjacent _ (ap not empty)) why)

pub is_next-counter : (k : RebuildKept) (adjacent : Bool) (words : List ℕ) (counter before : ℕ) → adjacent ≡ true → (length k.words == 0) ≡ false →
    counter ≡ slice_index words (counter_place k.frame) → before ≡ kept_counter k 0 → (counter == (before + 1) % 4096) ≡ is_next k adjacent words
unfolding is_next
is_next-counter k adjacent words counter before near more counter_is before_is =
    ap (λ n. n == (before + 1) % 4096) counter_is
    ∙ ap (λ n. slice_index words (counter_place k.frame) == (n + 1) % 4096) before_is
    ∙ ap (λ b. b && (slice_index words (counter_place k.frame) == (kept_counter k 0 + 1) % 4096))
    (sym (and_from adjacent (not (length k.words == 0)) near (ap not more)))

pub kept_samples-empty : (k : RebuildKept) → (length k.words == 0) ≡ true → kept_samples k ≡ []
unfolding kept_samples
kept_samples-empty k empty = cond-true _ _ _ empty

pub kept_samples-here : (k : RebuildKept) → (length k.words == 0) ≡ false → kept_samples k ≡ slice_index_or k.laid.cycles (kept_cycle k) []
unfolding kept_samples
kept_samples-here k more = cond-false _ _ _ more

-- what holds of each list holds of the one at a place, where it holds of none at all
pub held_at : {X : Type 0} (P : List X → Type 0) (lists : List (List X)) (n : ℕ) → All P lists → P [] → P (slice_index_or lists n [])
held_at P lists n all none =
    ⊎_elim
    (λ (within : n < length lists). all n [] within)
    (λ (past : length lists ≤ n). subst P (sym (get_or_past lists n [] past)) none)
    (cases_lt n (length lists))

pub kept_row-none : (k : RebuildKept) (s : Sample) (d : ℕ) → d ≡ reach k.frame.words s.parts → k.joined < d → kept_row k s ≡ None
unfolding kept_row
kept_row-none k s d d_is far =
    cond-false _ _ _ (ap (λ n. nat_le n k.joined) (sym d_is) ∙ lt-leb d k.joined far)

pub kept_row-some : (k : RebuildKept) (s : Sample) (w first d counter param : ℕ) (value : ℤ) → w ≡ k.frame.words → first ≡ first_at s.parts / 12
    → d ≡ reach k.frame.words s.parts →
    d ≤ k.joined → counter ≡ kept_counter k d → param ≡ s.param → value ≡ kept_value k s →
    kept_row k s ≡ Some (record { counter = counter; subframe = first / w % 4 + 1; word = first % w + 1; param = param; value = value })
unfolding kept_row
kept_row-some k s w first d counter param value w_is first_is d_is near counter_is param_is value_is =
    let row : ℕ → ℕ → ℕ → ℕ → ℤ → Row = λ counter w first param value. record {
      counter = counter;
      subframe = first / w % 4 + 1;
      word = first % w + 1;
      param = param;
      value = value;
    } in
    cond-true _ _ _ (ap (λ n. nat_le n k.joined) (sym d_is) ∙ le-leb d k.joined near)
    ∙ ap (λ n. Some (row n k.frame.words (first_at s.parts / 12) s.param (kept_value k s))) (sym (counter_is ∙ ap (kept_counter k) d_is))
    ∙ ap (λ n. Some (row counter n (first_at s.parts / 12) s.param (kept_value k s))) (sym w_is)
    ∙ ap (λ n. Some (row counter w n s.param (kept_value k s))) (sym first_is)
    ∙ ap (λ n. Some (row counter w first n (kept_value k s))) (sym param_is)
    ∙ ap (λ z. Some (row counter w first param z)) (sym value_is)

-- how far a sample reaches back, by the cycle that it ends in and the slot of its earliest part
pub reach_is : (s : Sample) (w v cycle first d : ℕ) → w ≡ v → EndsInCycle v cycle s → first ≡ first_at s.parts / 12
    → d ≡ cycle - first / (4 * w) → d ≡ reach v s.parts
reach_is s w v cycle first d w_is ends first_is d_is =
    d_is ∙ ap (λ n. cycle - first / (4 * n)) w_is ∙ ap (λ n. cycle - n / (4 * v)) first_is
    ∙ ap (λ n. cycle - n) (cycle_of_slot v (first_at s.parts))
    ∙ ap (λ n. n - cycle_of v (first_at s.parts)) (sym ends.last)

kept_bits-fit : (k : RebuildKept) (cycle : ℕ) (p : Part) → kept_bits k cycle p < 2 ^ p.width
unfolding kept_bits
kept_bits-fit k cycle p = mod_below _ (2 ^ p.width) (pow_pos p.width)

-- the raw value of a sample has no more bits than its parameter's field
pub kept_raw-below : (k : RebuildKept) (cycle : ℕ) (s : Sample) (h : IsSampleOf k.params s) → kept_raw k cycle s.parts < 2 ^ h.param.width
unfolding kept_raw
kept_raw-below k cycle s h =
    let fit : All (λ (p : Part). kept_bits k cycle p < 2 ^ p.width) s.parts = λ i d l. kept_bits-fit k cycle (slice_index_or s.parts i d) in
    let below = filled_below (kept_bits k cycle) 0 h.param.width s.parts h.parts fit in
    omega (arith, below)

-- and fits 32 bits
pub kept_raw-small : (k : RebuildKept) (cycle : ℕ) (s : Sample) → IsSampleOf k.params s → kept_raw k cycle s.parts < 2 ^ 32
kept_raw-small k cycle s h =
    let power : 2 ^ h.param.width ≤ 2 ^ 32 = pow-le-pow_right {n = 2} (lit≤ tt) h.narrow in
    omega (arith, kept_raw-below k cycle s h, power)

-- the parameter of a sample
pub param_at-sample : (params : List ParamRow) (s : Sample) (h : IsSampleOf params s) → param_at params s.param ≡ h.param
unfolding param_at
param_at-sample params s h = get_or_from_slice_get params s.param h.param no_param h.found

-- what holds of listed samples
pub listed_samples_hold : (P : Sample → Type 0) (l : Laid) (es : List ListedSample) → All P (map (sample_in l) es)
    → All (λ (e : ListedSample). P (sample_in l e)) es
listed_samples_hold P l es all = λ i d within.
    let long : length (map (sample_in l) es) ≡ length es = length-map es (sample_in l) in
    subst P (get_or-map (sample_in l) es i d (sample_in l d) within) (all i (sample_in l d) (omega (arith, long, within)))

-- the parts that are found under the number of a listed sample
pub parts_of_listed : (l k : Laid) (e : ListedSample) (parts : List SlotPart) → l ≡ k
    → parts ≡ parts_of_sample e.number (numbered_parts l e.number) → plain_parts parts ≡ (sample_in k e).parts
parts_of_listed l k e parts laid own =
    ap plain_parts own ∙ plain_again e.number (numbered_parts l e.number) ∙ ap (λ (x : Laid). numbered_parts x e.number) laid
