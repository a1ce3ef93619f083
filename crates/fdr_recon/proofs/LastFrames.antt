-- Rows depend on the last sixteen frames alone.
use Rattle.std.proofs.Common.{◌≡◌, ℕ, ◌+◌, ◌-◌, ◌*◌, ◌/◌, ◌%◌, ◌^◌, ◌<◌, ◌≤◌, Bool, false, List, [], ◌∷◌, ◌++◌, length, map, refl, ap, sym, ◌∙◌, arith, Some}
use Rattle.std.proofs.Common.{None}
use Rattle.std.specs.Prelude.{nat_le, ◌&&◌, if◌then◌else◌, slice_index}
use Rattle.std.specs.List.{All, range_with_len, list_all, slice_index_or}
use Rattle.std.proofs.lemmas.List.{get_or_append_left}
use Rattle.std.proofs.lemmas.List.Elements.{All-head, All-tail}
use Rattle.std.proofs.lemmas.List.FromFn.{length-range_with_len, get_or-range_with_len}
use Rattle.std.proofs.lemmas.Nat.{mod_below}
use Rattle.fdr_table.specs.Rows.{FrameRow, TableRows}
use Rattle.fdr_check.specs.Occurrences.{cycle_of}
use Rattle.fdr_layout.specs.Samples.{Part, Sample, ending_in, first_at}
use Rattle.fdr_layout.proofs.Ending.{EndsIn}
use Rattle.fdr_layout.proofs.Endings.{ending_in_ends}
use Rattle.fdr_recon.specs.Rows.{ReadFrame, frame_at, are_linked, are_joined, counter_in, cycle_of_frame, reach, bits_of, raw_of_parts, row_with, row_of}
use Rattle.fdr_recon.specs.Rows.{rows_looked_at}
use Rattle.fdr_recon.specs.Past.{read_frame}
use Rattle.fdr_lists.proofs.Sums.{sum_by-agree}
use Rattle.fdr_lists.proofs.Filters.{map-agree}

list_all-agree : {X : Type 0} (p q : X → Bool) (xs : List X) → All (λ x. p x ≡ q x) xs → list_all p xs ≡ list_all q xs
list_all-agree p q [] same = refl
list_all-agree p q (x ∷ xs) same =
    ap (λ b. b && list_all p xs) (All-head (λ y. p y ≡ q y) x xs same) ∙ ap (λ b. q x && b) (list_all-agree p q xs (All-tail (λ y. p y ≡ q y) x xs same))

-- The frames from e = 0 to e = d before frame i of one list and before frame j of another are the same.
pub record AreSame (xs ys : List ReadFrame) (i j d : ℕ) : Type 0 where
  pub frames : (e : ℕ) → e ≤ d → frame_at xs (i - e) ≡ frame_at ys (j - e)
  pub room : (e : ℕ) → e ≤ d → nat_le e i ≡ nat_le e j

pub are_joined-same : (f : FrameRow) (xs ys : List ReadFrame) (i j d : ℕ) → AreSame xs ys i j d → are_joined f xs i d ≡ are_joined f ys j d
unfolding are_joined
are_joined-same f xs ys i j d same =
    let left : ℕ → Bool = λ e. are_linked f (frame_at xs (i - (e + 1))) (frame_at xs (i - e)) in
    let right : ℕ → Bool = λ e. are_linked f (frame_at ys (j - (e + 1))) (frame_at ys (j - e)) in
    let links : All (λ e. left e ≡ right e) (range_with_len 0 d) =
    λ k n within.
    let e = slice_index_or (range_with_len 0 d) k n in
    let low : k < d = omega (arith, length-range_with_len 0 d) in
    let is : e ≡ 0 + k = get_or-range_with_len 0 d k n low in
    ap (λ r. are_linked f r (frame_at xs (i - e))) (same.frames (e + 1) (omega (arith, is)))
    ∙ ap (λ r. are_linked f (frame_at ys (j - (e + 1))) r) (same.frames e (omega (arith, is))) in
    ap (λ b. b && list_all left (range_with_len 0 d)) (same.room d (omega arith))
    ∙ ap (λ b. nat_le d j && b) (list_all-agree left right (range_with_len 0 d) links)

last_same : (xs ys : List ReadFrame) (i j d : ℕ) → AreSame xs ys i j d → frame_at xs i ≡ frame_at ys j
last_same xs ys i j d same =
    let here : i - 0 ≡ i = omega arith in
    let there : j - 0 ≡ j = omega arith in
    ap (frame_at xs) (sym here) ∙ same.frames 0 (omega arith) ∙ ap (frame_at ys) there

raw_of-same : (w : ℕ) (xs ys : List ReadFrame) (i j cycle : ℕ) (s : Sample) → EndsIn w cycle s → AreSame xs ys i j (reach w s.parts) →
    raw_of_parts w xs i cycle s.parts ≡ raw_of_parts w ys j cycle s.parts
unfolding raw_of_parts
raw_of-same w xs ys i j cycle s ends same =
    sum_by-agree (λ (p : Part). bits_of w xs i cycle p * 2 ^ p.shift) (λ (p : Part). bits_of w ys j cycle p * 2 ^ p.shift) s.parts
    (λ k d within.
    let p = slice_index_or s.parts k d in
    let low : cycle_of w (first_at s.parts) ≤ cycle_of w p.at = ends.low k d within in
    let back : cycle - cycle_of w p.at ≤ reach w s.parts = omega (arith, ends.last) in
    ap (λ (r : ReadFrame). slice_index r.words (p.at / 12 % (4 * w)) / 2 ^ (p.at % 12) % 2 ^ p.width * 2 ^ p.shift)
    (same.frames (cycle - cycle_of w p.at) back))

-- the row of a sample depends on the frames back to its earliest part
pub row_of-same : (t : TableRows) (xs ys : List ReadFrame) (i j : ℕ) (s : Sample) → EndsIn t.frame.words (cycle_of_frame t.frame (frame_at xs i).words) s →
    AreSame xs ys i j (reach t.frame.words s.parts) → row_of t xs i s ≡ row_of t ys j s
unfolding row_of
row_of-same t xs ys i j s ends same =
    let w = t.frame.words in
    let d = reach w s.parts in
    let cycle = cycle_of_frame t.frame (frame_at xs i).words in
    let last : cycle ≡ cycle_of_frame t.frame (frame_at ys j).words = ap (λ (r : ReadFrame). cycle_of_frame t.frame r.words) (last_same xs ys i j d same) in
    let counter = counter_in t.frame (frame_at ys (j - d)).words in
    let raw = raw_of-same w xs ys i j cycle s ends same in
    ap (λ b. if b then Some (row_with t s (counter_in t.frame (frame_at xs (i - d)).words) (raw_of_parts w xs i cycle s.parts)) else None)
    (are_joined-same t.frame xs ys i j d same)
    ∙ ap (λ (r : ReadFrame). if are_joined t.frame ys j d then Some (row_with t s (counter_in t.frame r.words) (raw_of_parts w xs i cycle s.parts)) else None)
    (same.frames d (omega arith))
    ∙ ap (λ n. if are_joined t.frame ys j d then Some (row_with t s counter n) else None) raw
    ∙ ap (λ c. if are_joined t.frame ys j d then Some (row_with t s counter (raw_of_parts w ys j c s.parts)) else None) last

-- the rows of a frame depend on it and the fifteen frames before it
pub rows_looked_at-same : (t : TableRows) (xs ys : List ReadFrame) (i j : ℕ) → 0 < t.frame.words → AreSame xs ys i j 15
    → rows_looked_at t xs i ≡ rows_looked_at t ys j
unfolding rows_looked_at
rows_looked_at-same t xs ys i j some same =
    let w = t.frame.words in
    let cycle = cycle_of_frame t.frame (frame_at xs i).words in
    let few : cycle < 16 = mod_below _ 16 (omega arith) in
    let last : cycle ≡ cycle_of_frame t.frame (frame_at ys j).words = ap (λ (r : ReadFrame). cycle_of_frame t.frame r.words) (last_same xs ys i j 15 same) in
    let each : All (λ (s : Sample). row_of t xs i s ≡ row_of t ys j s) (ending_in t cycle) =
    λ k d within.
    let s = slice_index_or (ending_in t cycle) k d in
    let ends : EndsIn w cycle s = ending_in_ends t cycle some k d within in
    let near : reach w s.parts ≤ 15 = omega (arith, ends.last) in
    row_of-same t xs ys i j s ends (record { frames = λ e low. same.frames e (omega arith); room = λ e low. same.room e (omega arith) }) in
    map-agree (row_of t xs i) (row_of t ys j) (ending_in t cycle) each ∙ ap (λ c. map (row_of t ys j) (ending_in t c)) last

-- further frames change no rows
pub rows_looked_at-append : (t : TableRows) (past more : List ReadFrame) (i : ℕ) → 0 < t.frame.words → i < length past →
    rows_looked_at t (past ++ more) i ≡ rows_looked_at t past i
rows_looked_at-append t past more i some within =
    rows_looked_at-same t (past ++ more) past i i some
    (record { frames = λ e low. get_or_append_left past more (read_frame false []) (i - e) (omega arith); room = λ e low. refl })
