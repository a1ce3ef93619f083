-- How many frames in a row are joined.
use Rattle.std.proofs.Common.{◌≡◌, ℕ, zero, suc, ◌+◌, ◌-◌, ◌<◌, ◌≤◌, Bool, true, false, List, [], ◌∷◌, ◌++◌, length, refl, ap, sym, ◌∙◌, arith}
use Rattle.std.specs.Prelude.{◌&&◌, nat_le, if◌then◌else◌}
use Rattle.std.specs.List.{list_all, range_with_len}
use Rattle.std.proofs.lemmas.Bool.{cond_both, and_left, and_from, le-leb, lt-leb}
use Rattle.std.proofs.lemmas.List.{get_or_append_left, get_or_at}
use Rattle.fdr_table.specs.Rows.{FrameRow}
use Rattle.fdr_recon.specs.Rows.{ReadFrame, frame_at, are_linked, are_joined}
use Rattle.fdr_recon.specs.Past.{joined_count, read_frame}
use Rattle.fdr_lists.proofs.Filters.{list_all_same}
use Rattle.std.proofs.Math.Dec.{leb-suc-suc}

-- a test of each number of a range that begins one later
list_all-range_shifted : (p : ℕ → Bool) (a n : ℕ) → list_all p (range_with_len (suc a) n) ≡ list_all (λ e. p (suc e)) (range_with_len a n)
list_all-range_shifted p a zero = refl
list_all-range_shifted p a (suc n) =
    let later : suc a + 1 ≡ suc (a + 1) = omega arith in
    ap (λ x. p (suc a) && list_all p (range_with_len x n)) later ∙ ap (λ x. p (suc a) && x) (list_all-range_shifted p (a + 1) n)

and_swap : (a b c : Bool) → (a && (b && c)) ≡ (b && (a && c))
and_swap true b c = refl
and_swap false true c = refl
and_swap false false c = refl

count_more : (b : Bool) (d n : ℕ) → (b && nat_le d n) ≡ nat_le (suc d) (if b then suc n else 0)
count_more true d n = sym (leb-suc-suc d n)
count_more false d n = sym (lt-leb (suc d) 0 (omega arith))

-- whether the frame e before frame i is linked to the one before it
link : FrameRow → List ReadFrame → ℕ → ℕ → Bool
link f frames i e = are_linked f (frame_at frames (i - (e + 1))) (frame_at frames (i - e))

link-suc : (f : FrameRow) (frames : List ReadFrame) (i e : ℕ) → link f frames (suc i) (suc e) ≡ link f frames i e
unfolding link
link-suc f frames i e =
    let earlier : suc i - (suc e + 1) ≡ i - (e + 1) = omega arith in
    let later : suc i - suc e ≡ i - e = omega arith in
    ap (λ x. are_linked f (frame_at frames x) (frame_at frames (suc i - suc e))) earlier
    ∙ ap (λ x. are_linked f (frame_at frames (i - (e + 1))) (frame_at frames x)) later

link-zero : (f : FrameRow) (frames : List ReadFrame) (i : ℕ) → link f frames (suc i) 0 ≡ are_linked f (frame_at frames i) (frame_at frames (suc i))
unfolding link
link-zero f frames i =
    let earlier : suc i - (0 + 1) ≡ i = omega arith in
    let later : suc i - 0 ≡ suc i = omega arith in
    ap (λ x. are_linked f (frame_at frames x) (frame_at frames (suc i - 0))) earlier ∙ ap (λ x. are_linked f (frame_at frames i) (frame_at frames x)) later

-- each of the d frames before frame i is linked to the next, where d are joined with it
all_linked : FrameRow → List ReadFrame → ℕ → ℕ → Bool
all_linked f frames i d = nat_le d i && list_all (link f frames i) (range_with_len 0 d)

all_linked-suc : (f : FrameRow) (frames : List ReadFrame) (i d : ℕ) →
    all_linked f frames (suc i) (suc d) ≡ (are_linked f (frame_at frames i) (frame_at frames (suc i)) && all_linked f frames i d)
unfolding all_linked
all_linked-suc f frames i d =
    let rest : list_all (link f frames (suc i)) (range_with_len 1 d) ≡ list_all (link f frames i) (range_with_len 0 d) =
    list_all-range_shifted (link f frames (suc i)) 0 d
    ∙ list_all_same (λ e. link f frames (suc i) (suc e)) (link f frames i) (range_with_len 0 d) (link-suc f frames i) in
    ap (λ b. b && (link f frames (suc i) 0 && list_all (link f frames (suc i)) (range_with_len 1 d))) (leb-suc-suc d i)
    ∙ ap (λ b. nat_le d i && (b && list_all (link f frames (suc i)) (range_with_len 1 d))) (link-zero f frames i)
    ∙ ap (λ b. nat_le d i && (are_linked f (frame_at frames i) (frame_at frames (suc i)) && b)) rest
    ∙ and_swap (nat_le d i) (are_linked f (frame_at frames i) (frame_at frames (suc i))) (list_all (link f frames i) (range_with_len 0 d))

all_linked-count : (f : FrameRow) (frames : List ReadFrame) (i d : ℕ) → all_linked f frames i d ≡ nat_le d (joined_count f frames i)
unfolding all_linked joined_count
all_linked-count f frames i zero = and_from (nat_le 0 i) true (le-leb 0 i (omega arith)) refl ∙ sym (le-leb 0 (joined_count f frames i) (omega arith))
all_linked-count f frames zero (suc d) =
    and_left (nat_le (suc d) 0) (list_all (link f frames 0) (range_with_len 0 (suc d))) (lt-leb (suc d) 0 (omega arith)) ∙ sym (lt-leb (suc d) 0 (omega arith))
all_linked-count f frames (suc i) (suc d) =
    let linked = are_linked f (frame_at frames i) (frame_at frames (suc i)) in
    all_linked-suc f frames i d ∙ ap (λ b. linked && b) (all_linked-count f frames i d) ∙ count_more linked d (joined_count f frames i)

-- frame i is joined with as many frames before it as the count says
pub are_joined-count : (f : FrameRow) (frames : List ReadFrame) (i d : ℕ) → are_joined f frames i d ≡ nat_le d (joined_count f frames i)
unfolding are_joined link all_linked
are_joined-count f frames i d = all_linked-count f frames i d

-- the frames before a further one are the same
pub frame_at-append : (frames : List ReadFrame) (r : ReadFrame) (i : ℕ) → i < length frames → frame_at (frames ++ r ∷ []) i ≡ frame_at frames i
frame_at-append frames r i within = get_or_append_left frames (r ∷ []) (read_frame false []) i within

pub joined_count-append : (f : FrameRow) (frames : List ReadFrame) (r : ReadFrame) (i : ℕ) → i < length frames →
    joined_count f (frames ++ r ∷ []) i ≡ joined_count f frames i
unfolding joined_count
joined_count-append f frames r zero within = refl
joined_count-append f frames r (suc i) within =
    let later : frame_at (frames ++ r ∷ []) (suc i) ≡ frame_at frames (suc i) = frame_at-append frames r (suc i) within in
    let earlier : frame_at (frames ++ r ∷ []) i ≡ frame_at frames i = frame_at-append frames r i (omega arith) in
    let before = joined_count-append f frames r i (omega arith) in
    ap (λ x. if are_linked f x (frame_at (frames ++ r ∷ []) (suc i)) then suc (joined_count f (frames ++ r ∷ []) i) else 0) earlier
    ∙ ap (λ x. if are_linked f (frame_at frames i) x then suc (joined_count f (frames ++ r ∷ []) i) else 0) later
    ∙ ap (λ n. if are_linked f (frame_at frames i) (frame_at frames (suc i)) then suc n else 0) before

-- no frame is joined with more frames than there are before it
pub joined_count-le : (f : FrameRow) (frames : List ReadFrame) (i : ℕ) → joined_count f frames i ≤ i
unfolding joined_count
joined_count-le f frames zero = omega arith
joined_count-le f frames (suc i) =
    cond_both (are_linked f (frame_at frames i) (frame_at frames (suc i))) (suc (joined_count f frames i)) 0 (λ (n : ℕ). n ≤ suc i)
    (λ _. let before = joined_count-le f frames i in omega arith) (λ _. omega arith)

-- a further frame is joined with one frame more than the frame before it, or with none
pub joined_count-push : (f : FrameRow) (frames : List ReadFrame) (r : ReadFrame) (m : ℕ) → length frames ≡ suc m →
    joined_count f (frames ++ r ∷ []) (suc m) ≡ (if are_linked f (frame_at frames m) r then suc (joined_count f frames m) else 0)
unfolding joined_count
joined_count-push f frames r m len =
    let within : m < length frames = omega arith in
    let last : frame_at (frames ++ r ∷ []) (suc m) ≡ r = get_or_at frames r [] (read_frame false []) (suc m) len in
    ap (λ x. if are_linked f x (frame_at (frames ++ r ∷ []) (suc m)) then suc (joined_count f (frames ++ r ∷ []) m) else 0) (frame_at-append frames r m within)
    ∙ ap (λ x. if are_linked f (frame_at frames m) x then suc (joined_count f (frames ++ r ∷ []) m) else 0) last
    ∙ ap (λ n. if are_linked f (frame_at frames m) r then suc n else 0) (joined_count-append f frames r m within)
