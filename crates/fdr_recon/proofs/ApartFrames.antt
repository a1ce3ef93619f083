-- A frame that isn't adjacent looks back at nothing: rows of it and of the frames after it are the same without those before it.
use Rattle.std.proofs.Common.{◌≡◌, ℕ, zero, suc, ◌+◌, ◌-◌, ◌<◌, ◌≤◌, Bool, true, false, List, [], ◌∷◌, ◌++◌, length, map, min, refl, ap, sym, ◌∙◌}
use Rattle.std.proofs.Common.{arith, length-append, ⊎_elim}
use Rattle.std.specs.Prelude.{nat_le, nat_lt, if◌then◌else◌}
use Rattle.std.specs.List.{All, slice_index_or}
use Rattle.std.proofs.lemmas.Bool.{and_left, cases_lt, cond-false, le-leb, lt-leb, lt-ltb}
use Rattle.std.proofs.lemmas.List.{get_or-append-add}
use Rattle.std.proofs.lemmas.Nat.{mod_below}
use Rattle.fdr_table.specs.Rows.{FrameRow, TableRows}
use Rattle.fdr_layout.specs.Samples.{Sample, ending_in}
use Rattle.fdr_layout.proofs.Ending.{EndsIn}
use Rattle.fdr_layout.proofs.Endings.{ending_in_ends}
use Rattle.fdr_recon.specs.Rows.{ReadFrame, frame_at, are_linked, are_joined, cycle_of_frame, reach, row_of, rows_looked_at}
use Rattle.fdr_recon.specs.Kept.{RebuildKept}
use Rattle.fdr_recon.specs.Past.{RepresentsRebuild, BeginsApart, joined_count, is_linked_at, read_frame}
use Rattle.fdr_recon.proofs.JoinedFrames.{are_joined-count, joined_count-le}
use Rattle.fdr_recon.proofs.LastFrames.{row_of-same}
use Rattle.fdr_lists.proofs.Filters.{map-agree}

-- ---- frames from one on that isn't adjacent

frame_at-behind : (earlier frames : List ReadFrame) (i : ℕ) → frame_at (earlier ++ frames) (length earlier + i) ≡ frame_at frames i
frame_at-behind earlier frames i = get_or-append-add earlier frames i (read_frame false [])

first_apart : (frames : List ReadFrame) → BeginsApart frames → (frame_at frames 0).adjacent ≡ false
first_apart [] apart = refl
first_apart (r ∷ frames) apart = apart

joined_count-none : (f : FrameRow) (frames : List ReadFrame) (i : ℕ) → (frame_at frames i).adjacent ≡ false → joined_count f frames i ≡ 0
unfolding joined_count are_linked
joined_count-none f frames zero apart = refl
joined_count-none f frames (suc i) apart = cond-false _ _ _ (and_left _ _ apart)

-- as many frames are joined with each as without those before
joined_count-apart : (f : FrameRow) (earlier frames : List ReadFrame) (i : ℕ) → BeginsApart frames
    → joined_count f (earlier ++ frames) (length earlier + i) ≡ joined_count f frames i
unfolding joined_count
joined_count-apart f earlier frames zero apart =
    joined_count-none f (earlier ++ frames) (length earlier + 0)
    (ap (λ (r : ReadFrame). r.adjacent) (frame_at-behind earlier frames 0) ∙ first_apart frames apart)
joined_count-apart f earlier frames (suc i) apart =
    let all = earlier ++ frames in
    let n = length earlier in
    let later : n + suc i ≡ suc (n + i) = omega arith in
    let next : frame_at all (suc (n + i)) ≡ frame_at frames (suc i) = ap (frame_at all) (sym later) ∙ frame_at-behind earlier frames (suc i) in
    ap (joined_count f all) later
    ∙ ap (λ r. if are_linked f r (frame_at all (suc (n + i))) then suc (joined_count f all (n + i)) else 0) (frame_at-behind earlier frames i)
    ∙ ap (λ r. if are_linked f (frame_at frames i) r then suc (joined_count f all (n + i)) else 0) next
    ∙ ap (λ k. if are_linked f (frame_at frames i) (frame_at frames (suc i)) then suc k else 0) (joined_count-apart f earlier frames i apart)

are_joined-apart : (f : FrameRow) (earlier frames : List ReadFrame) (i d : ℕ) → BeginsApart frames
    → are_joined f (earlier ++ frames) (length earlier + i) d ≡ are_joined f frames i d
are_joined-apart f earlier frames i d apart =
    are_joined-count f (earlier ++ frames) (length earlier + i) d
    ∙ ap (nat_le d) (joined_count-apart f earlier frames i apart)
    ∙ sym (are_joined-count f frames i d)

row_of-apart : (t : TableRows) (earlier frames : List ReadFrame) (i : ℕ) (s : Sample) → BeginsApart frames
    → EndsIn t.frame.words (cycle_of_frame t.frame (frame_at frames i).words) s → row_of t (earlier ++ frames) (length earlier + i) s ≡ row_of t frames i s
unfolding row_of
row_of-apart t earlier frames i s apart ends =
    let all = earlier ++ frames in
    let n = length earlier in
    let d = reach t.frame.words s.parts in
    ⊎_elim
    (λ (far : i < d).
    let few = joined_count-le t.frame frames i in
    let not_joined : are_joined t.frame frames i d ≡ false = are_joined-count t.frame frames i d ∙ lt-leb d (joined_count t.frame frames i) (omega arith) in
    cond-false _ _ _ (are_joined-apart t.frame earlier frames i d apart ∙ not_joined) ∙ sym (cond-false _ _ _ not_joined))
    (λ (near : d ≤ i).
    sym (row_of-same t frames all i (n + i) s ends (record {
      frames = λ e low.
          let back : n + i - e ≡ n + (i - e) = omega arith in
          sym (ap (frame_at all) back ∙ frame_at-behind earlier frames (i - e));
      room = λ e low. le-leb e i (omega arith) ∙ sym (le-leb e (n + i) (omega arith));
    })))
    (cases_lt i d)

-- the rows of each frame are the same as without those before
pub rows_looked_at-apart : (t : TableRows) (earlier frames : List ReadFrame) (i : ℕ) → 0 < t.frame.words → BeginsApart frames
    → rows_looked_at t (earlier ++ frames) (length earlier + i) ≡ rows_looked_at t frames i
unfolding rows_looked_at
rows_looked_at-apart t earlier frames i some apart =
    let all = earlier ++ frames in
    let n = length earlier in
    let cycle = cycle_of_frame t.frame (frame_at frames i).words in
    let each : All (λ (s : Sample). row_of t all (n + i) s ≡ row_of t frames i s) (ending_in t cycle) =
    λ k d within. row_of-apart t earlier frames i (slice_index_or (ending_in t cycle) k d) apart (ending_in_ends t cycle some k d within) in
    ap (λ (r : ReadFrame). map (row_of t all (n + i)) (ending_in t (cycle_of_frame t.frame r.words))) (frame_at-behind earlier frames i)
    ∙ map-agree (row_of t all (n + i)) (row_of t frames i) (ending_in t cycle) each

-- so are those of the last
pub last_rows-apart : (t : TableRows) (earlier frames : List ReadFrame) → 0 < t.frame.words → BeginsApart frames → 0 < length frames
    → rows_looked_at t (earlier ++ frames) (length (earlier ++ frames) - 1) ≡ rows_looked_at t frames (length frames - 1)
last_rows-apart t earlier frames some apart more =
    let last : length (earlier ++ frames) - 1 ≡ length earlier + (length frames - 1) = omega (arith, length-append earlier frames) in
    ap (rows_looked_at t (earlier ++ frames)) last ∙ rows_looked_at-apart t earlier frames (length frames - 1) some apart

-- ---- whether the last frame is linked

some_capped : (b : Bool) (n : ℕ) → nat_lt 0 (min 15 (if b then suc n else 0)) ≡ b
some_capped true n = lt-ltb 0 (min 15 (suc n)) (omega arith)
some_capped false n = refl

some_joined : (f : FrameRow) (frames : List ReadFrame) (i : ℕ) → nat_lt 0 (min 15 (joined_count f frames i)) ≡ is_linked_at f frames i
unfolding joined_count
some_joined f frames zero = refl
some_joined f frames (suc i) = some_capped (are_linked f (frame_at frames i) (frame_at frames (suc i))) (joined_count f frames i)

-- a frame is linked where some frame is joined with it
pub linked-stands : (k : RebuildKept) (t : TableRows) (past : List ReadFrame) → RepresentsRebuild k t past
    → nat_lt 0 k.joined ≡ is_linked_at t.frame past (length past - 1)
linked-stands k t past s = ap (nat_lt 0) s.joined ∙ some_joined t.frame past (length past - 1)
