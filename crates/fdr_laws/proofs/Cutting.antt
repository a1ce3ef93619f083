-- The frames and the rows of bits that are cut in two.
use Rattle.std.proofs.Common.{◌≡◌, ◌⊎◌, inl, inr, ⊎_elim, ℕ, zero, suc, ◌+◌, ◌-◌, ◌*◌, ◌/◌, ◌%◌, ◌^◌, ◌<◌, ◌≤◌, Bool, true, false, List, [], ◌∷◌, ◌++◌}
use Rattle.std.proofs.Common.{length, get_or}
use Rattle.std.proofs.Common.{map, Option, Some, None, refl, sym, ap, subst, ◌∙◌, arith, append-nil, length-append}
use Rattle.std.specs.Prelude.{All, AllPairs, Contains, filter, nat_le, ◌&&◌, ◌||◌, ◌==◌, if◌then◌else◌, slice_index}
use Rattle.std.specs.List.{range_with_len, list_any, list_all, filter_map, slice_index_or}
use Rattle.std.proofs.lemmas.Bool.{cases_Bool, cases_lt, le-leb, lt-leb, ne_eqb, eq-eqb, eqb-true, and_left, cond-true, cond-false}
use Rattle.std.proofs.Math.Bool.{or-false}
use Rattle.std.proofs.lemmas.List.{get_or-map, get_or-append-add, get_or_append_left, get_or_at, length-map, map-append}
use Rattle.std.proofs.lemmas.List.Elements.{All-nil, All-cons, All-head, All-tail, All-append, All-map, All-contains, All-weaker, Contains-append_left}
use Rattle.std.proofs.lemmas.List.Elements.{Contains-append_right, Contains-append_cases, Contains-push_cases, filter-append}
use Rattle.std.proofs.lemmas.List.Folds.{list_any_none, list_any-append}
use Rattle.std.proofs.lemmas.List.Kept.{AllPairs-cons, AllPairs-filter}
use Rattle.fdr_lists.proofs.Filters.{filter_none, map-agree}
use Rattle.fdr_lists.proofs.Pairs.{AllPairs-nil, AllPairs-head, AllPairs-tail, Contains-here}
use Rattle.fdr_lists.proofs.Ranges.{map-range-agree}
use Rattle.fdr_lists.proofs.Sums.{sum_by-agree}
use Rattle.fdr_bits.specs.Bits.{bits_in, word_at}
use Rattle.fdr_bits.proofs.AppendLemmas.{word_at_append_left, word_at_append_right}
use Rattle.fdr_check.specs.Occurrences.{cycle_of}
use Rattle.fdr_layout.specs.Samples.{Part, Sample, ending_in}
use Rattle.fdr_layout.proofs.Ending.{EndsIn}
use Rattle.fdr_layout.proofs.Endings.{ending_in_ends}
use Rattle.fdr_sync.specs.Accepted.{accepted_frames}
use Rattle.fdr_sync.specs.Frames.{IsFramePosition}
use Rattle.fdr_sync.proofs.AcceptedLemmas.{are_accepted, only_accepted}
use Rattle.fdr_sync.proofs.FrameLemmas.{frame_within}
use Rattle.fdr_sync.proofs.SameLemmas.{frame_append_left, frame_append_right}
use Rattle.fdr_table.specs.Rows.{FrameRow, TableRows}
use Rattle.fdr_recon.specs.Past.{is_linked_at, read_frame}
use Rattle.fdr_recon.specs.Rows.{ReadFrame, frame_at, are_linked, are_joined, counter_in, cycle_of_frame, reach, bits_of, raw_of_parts, row_with, row_of}
use Rattle.fdr_recon.specs.Rows.{rows_looked_at, rows_of_frame}
use Rattle.fdr_recon.proofs.LastFrames.{row_of-same}
use Rattle.fdr_readout.specs.Listing.{frame_words, frame_read, accepted_to, is_frame_linked, rows_at}
use Rattle.fdr_readout.specs.Survival.{AreAmong}
use Rattle.fdr_readout.proofs.SoFarLemmas.{filter_all}
use Rattle.fdr_frame.specs.WordCount.{IsWordCount}
use Rattle.fdr_sync.proofs.FrameSteps.{word_count_some}
use Rattle.fdr_laws.specs.Cuts.{moved, IsCleanCut, KeepsRows}

-- ---- lists

AllPairs_join : {X : Type 0} (R : X → X → Type 0) (xs ys : List X) → AllPairs R xs → AllPairs R ys → All (λ x. All (R x) ys) xs → AllPairs R (xs ++ ys)
AllPairs_join R [] ys first second across = second
AllPairs_join R (x ∷ xs) ys first second across =
    AllPairs-cons R x (xs ++ ys)
    (All-append (R x) xs ys (AllPairs-head R x xs first) (All-head (λ z. All (R z) ys) x xs across))
    (AllPairs_join R xs ys (AllPairs-tail R x xs first) second (All-tail (λ z. All (R z) ys) x xs across))

apart_moved : (n w : ℕ) (xs : List ℕ) → AllPairs (λ earlier later. earlier + 48 * w ≤ later) xs
    → AllPairs (λ earlier later. earlier + 48 * w ≤ later) (moved n xs)
apart_moved n w [] apart = AllPairs-nil (λ earlier later. earlier + 48 * w ≤ later)
apart_moved n w (x ∷ xs) apart =
    let R : ℕ → ℕ → Type 0 = λ earlier later. earlier + 48 * w ≤ later in
    AllPairs-cons R (n + x) (moved n xs)
    (All-map (R (n + x)) (λ p. n + p) xs (All-weaker (R x) (λ y. n + x + 48 * w ≤ n + y) (λ y h. omega arith) xs (AllPairs-head R x xs apart)))
    (apart_moved n w xs (AllPairs-tail R x xs apart))

pub Contains_moved : (n : ℕ) (xs : List ℕ) (x : ℕ) → Contains xs x → Contains (moved n xs) (n + x)
Contains_moved n xs x h =
    let within : h.0 < length xs = h.1 in
    (h.0, omega (arith, length-map xs (λ p. n + p)), get_or-map (λ p. n + p) xs h.0 x (n + x) within ∙ ap (λ p. n + p) h.2)

le_moved : (n x p : ℕ) → nat_le (n + x) (n + p) ≡ nat_le x p
le_moved n x p = ⊎_elim
    (λ (late : p < x). lt-leb (n + x) (n + p) (omega arith) ∙ sym (lt-leb x p late))
    (λ (early : x ≤ p). le-leb (n + x) (n + p) (omega arith) ∙ sym (le-leb x p early))
    (cases_lt p x)

filter_moved : (n p : ℕ) (xs : List ℕ) → filter (λ x. nat_le x (n + p)) (moved n xs) ≡ moved n (filter (λ x. nat_le x p) xs)
filter_moved n p [] = refl
filter_moved n p (x ∷ xs) = ⊎_elim
    (λ yes. let both : nat_le (n + x) (n + p) ≡ true = le_moved n x p ∙ yes in rw (yes, both) (ap (λ ys. (n + x) ∷ ys) (filter_moved n p xs)))
    (λ no. let both : nat_le (n + x) (n + p) ≡ false = le_moved n x p ∙ no in rw (no, both) (filter_moved n p xs))
    (cases_Bool (nat_le x p))

ends_moved : (n w a x : ℕ) → (n + x + 48 * w == n + a) ≡ (x + 48 * w == a)
ends_moved n w a x = ⊎_elim
    (λ yes. let at : x + 48 * w ≡ a = eqb-true (x + 48 * w) a yes in eq-eqb (n + x + 48 * w) (n + a) (omega arith) ∙ sym yes)
    (λ no. ne_eqb (n + x + 48 * w) (n + a) (λ at. let e : x + 48 * w ≡ a = omega arith in let wrong : true ≡ false = sym (eq-eqb (x + 48 * w) a e) ∙ no in
    absurd (cc)) ∙ sym no)
    (cases_Bool (x + 48 * w == a))

any_moved : (n w a : ℕ) (xs : List ℕ) → list_any (λ x. x + 48 * w == n + a) (moved n xs) ≡ list_any (λ x. x + 48 * w == a) xs
any_moved n w a [] = refl
any_moved n w a (x ∷ xs) =
    ap (λ b. b || list_any (λ x. x + 48 * w == n + a) (moved n xs)) (ends_moved n w a x)
    ∙ ap (λ b. (x + 48 * w == a) || b) (any_moved n w a xs)

All_filter : {X : Type 0} (P : X → Type 0) (f : X → Bool) (xs : List X) → All P xs → All P (filter f xs)
All_filter P f [] all = All-nil P
All_filter P f (x ∷ xs) all = ⊎_elim
    (λ yes. subst (All P) (sym (cond-true (f x) _ _ yes)) (All-cons P x (filter f xs) (All-head P x xs all) (All_filter P f xs (All-tail P x xs all))))
    (λ no. subst (All P) (sym (cond-false (f x) _ _ no)) (All_filter P f xs (All-tail P x xs all)))
    (cases_Bool (f x))

filter_keeps : (f : ℕ → Bool) (xs : List ℕ) (x : ℕ) → Contains xs x → f x ≡ true → Contains (filter f xs) x
filter_keeps f [] x h holds = absurd (let none : h.0 < 0 = h.1 in omega arith)
filter_keeps f (y ∷ ys) x h holds = ⊎_elim
    (λ here.
    let is : y ≡ x = ⊎_elim (λ none. absurd (let low : none.0 < 0 = none.1 in omega arith)) (λ e. e) (Contains-push_cases [] y x here) in
    subst (λ l. Contains l x) (sym (cond-true (f y) _ _ (ap f is ∙ holds))) (subst (Contains (y ∷ filter f ys)) is (Contains-here y (filter f ys))))
    (λ there. ⊎_elim
    (λ passes. subst (λ l. Contains l x) (sym (cond-true (f y) _ _ passes))
    (Contains-append_right (y ∷ []) (filter f ys) x (filter_keeps f ys x there holds)))
    (λ fails. subst (λ l. Contains l x) (sym (cond-false (f y) _ _ fails)) (filter_keeps f ys x there holds))
    (cases_Bool (f y)))
    (Contains-append_cases (y ∷ []) ys x h)

-- ---- the frames

module _ (w : ℕ) (a b : List ℕ) (some : 0 < w) (clean : IsCleanCut w a b) where
  -- the frames of the first part end before the cut
  ends_before : All (λ x. x + 48 * w ≤ bits_in a) (accepted_frames a w)
  ends_before = All-weaker (IsFramePosition a w) (λ x. x + 48 * w ≤ bits_in a) (λ x h. frame_within a w x h) (accepted_frames a w)
      (are_accepted a w).positions

  pub cut_accepted : accepted_frames (a ++ b) w ≡ accepted_frames a w ++ moved (bits_in a) (accepted_frames b w)
  cut_accepted =
      let n = bits_in a in
      let A = accepted_frames a w in
      let B = accepted_frames b w in
      let P : ℕ → Type 0 = IsFramePosition (a ++ b) w in
      let R : ℕ → ℕ → Type 0 = λ earlier later. earlier + 48 * w ≤ later in
      let one = are_accepted a w in
      let two = are_accepted b w in
      sym (only_accepted (a ++ b) w (A ++ moved n B) (record {
        positions = All-append P A (moved n B)
            (All-weaker (IsFramePosition a w) P (λ x h. frame_append_left a b w x some (frame_within a w x h) ∙ h) A one.positions)
            (All-map P (λ p. n + p) B
            (All-weaker (IsFramePosition b w) (λ x. P (n + x)) (λ x h. frame_append_right a b w x some (frame_within b w x h) ∙ h) B two.positions));
        apart = AllPairs_join R A (moved n B) one.apart (apart_moved n w B two.apart)
            (All-weaker (λ x. x + 48 * w ≤ n) (λ x. All (R x) (moved n B))
            (λ x before. All-map (R x) (λ p. n + p) B (λ k d within. omega (arith, before))) A ends_before);
        others = λ p here. ⊎_elim
            (λ (early : p < n). ⊎_elim
            (λ (reaches : n < p + 48 * w). absurd (clean p early reaches here))
            (λ (fits : p + 48 * w ≤ n). ⊎_elim
            (λ listed. inl (Contains-append_left A (moved n B) p listed))
            (λ inside. inr (inside.0, Contains-append_left A (moved n B) inside.0 inside.1, inside.2, inside.3))
            (one.others p (sym (frame_append_left a b w p some fits) ∙ here)))
            (cases_lt n (p + 48 * w)))
            (λ (late : n ≤ p).
            let q = p - n in
            let at : n + q ≡ p = omega arith in
            let there : IsFramePosition (a ++ b) w (n + q) = subst P (sym at) here in
            let fits : q + 48 * w ≤ bits_in b = omega (arith, frame_within (a ++ b) w (n + q) there, length-append a b) in
            ⊎_elim
            (λ listed. inl (Contains-append_right A (moved n B) p (subst (Contains (moved n B)) at (Contains_moved n B q listed))))
            (λ inside. inr (
              n + inside.0,
              Contains-append_right A (moved n B) (n + inside.0) (Contains_moved n B inside.0 inside.1),
              omega (arith, inside.2),
              omega (arith, inside.3),
            ))
            (two.others q (sym (frame_append_right a b w q some fits) ∙ there)))
            (cases_lt p n);
      }))

  -- ---- the frames as they are read

  before_cut : (p : ℕ) → Contains (accepted_frames a w) p → p + 48 * w ≤ bits_in a
  before_cut p h = All-contains (λ x. x + 48 * w ≤ bits_in a) (accepted_frames a w) p ends_before h

  to_first : (p : ℕ) → Contains (accepted_frames a w) p → accepted_to (a ++ b) w p ≡ accepted_to a w p
  to_first p h =
      let n = bits_in a in
      let A = accepted_frames a w in
      let B = accepted_frames b w in
      let test = λ (x : ℕ). nat_le x p in
      let late : All (λ x. nat_le x p ≡ false) (moved n B) =
      All-map (λ x. nat_le x p ≡ false) (λ x. n + x) B (λ k d within. lt-leb _ p (omega (arith, before_cut p h, some))) in
      ap (filter test) cut_accepted ∙ filter-append test A (moved n B)
      ∙ ap (λ (ys : List ℕ). filter test A ++ ys) (filter_none test (moved n B) late) ∙ append-nil (filter test A)

  to_second : (p : ℕ) → accepted_to (a ++ b) w (bits_in a + p) ≡ accepted_frames a w ++ moved (bits_in a) (accepted_to b w p)
  to_second p =
      let n = bits_in a in
      let A = accepted_frames a w in
      let B = accepted_frames b w in
      let test = λ (x : ℕ). nat_le x (n + p) in
      let early : All (λ x. nat_le x (n + p) ≡ true) A =
      All-weaker (λ x. x + 48 * w ≤ n) (λ x. nat_le x (n + p) ≡ true) (λ x h. le-leb x (n + p) (omega arith)) A ends_before in
      ap (filter test) cut_accepted ∙ filter-append test A (moved n B)
      ∙ ap (λ (ys : List ℕ). ys ++ filter test (moved n B)) (filter_all test A early)
      ∙ ap (λ (ys : List ℕ). A ++ ys) (filter_moved n p B)

  any_of_whole : (x : ℕ) → list_any (λ y. y + 48 * w == x) (accepted_frames (a ++ b) w)
      ≡ (list_any (λ y. y + 48 * w == x) (accepted_frames a w) || list_any (λ y. y + 48 * w == x) (moved (bits_in a) (accepted_frames b w)))
  any_of_whole x =
      ap (list_any (λ y. y + 48 * w == x)) cut_accepted
      ∙ list_any-append (λ y. y + 48 * w == x) (accepted_frames a w) (moved (bits_in a) (accepted_frames b w))

  read_first : (x : ℕ) → x + 48 * w ≤ bits_in a → frame_read (a ++ b) w x ≡ frame_read a w x
  unfolding frame_read frame_words
  read_first x fits =
      let n = bits_in a in
      let B = accepted_frames b w in
      let test = λ (y : ℕ). y + 48 * w == x in
      let none : list_any test (moved n B) ≡ false = list_any_none test (moved n B)
      (All-map (λ y. (y + 48 * w == x) ≡ false) (λ y. n + y) B (λ k d within. ne_eqb _ x (λ e. omega (arith, some)))) in
      ap (λ adjacent. read_frame adjacent (map (λ k. word_at (a ++ b) (x + 12 * k)) (range_with_len 0 (4 * w))))
      (any_of_whole x ∙ ap (λ r. list_any test (accepted_frames a w) || r) none ∙ or-false (list_any test (accepted_frames a w)))
      ∙ ap (read_frame (list_any test (accepted_frames a w)))
      (map-range-agree (λ k. word_at (a ++ b) (x + 12 * k)) (λ k. word_at a (x + 12 * k)) 0 (4 * w)
      (λ k low high. word_at_append_left a b (x + 12 * k) (omega arith)))

  words_second : (x : ℕ) → (frame_read (a ++ b) w (bits_in a + x)).words ≡ (frame_read b w x).words
  unfolding frame_read frame_words
  words_second x =
      map-range-agree (λ k. word_at (a ++ b) (bits_in a + x + 12 * k)) (λ k. word_at b (x + 12 * k)) 0 (4 * w)
      (λ k low high. let place : bits_in a + x + 12 * k ≡ bits_in a + (x + 12 * k) = omega arith in
      ap (word_at (a ++ b)) place ∙ word_at_append_right a b (x + 12 * k))

  adjacent_second : (x : ℕ) → 0 < x → (frame_read (a ++ b) w (bits_in a + x)).adjacent ≡ (frame_read b w x).adjacent
  unfolding frame_read
  adjacent_second x later =
      let n = bits_in a in
      let A = accepted_frames a w in
      let B = accepted_frames b w in
      let test = λ (y : ℕ). y + 48 * w == n + x in
      let none : list_any test A ≡ false = list_any_none test A
      (All-weaker (λ y. y + 48 * w ≤ n) (λ y. (y + 48 * w == n + x) ≡ false) (λ y h. ne_eqb (y + 48 * w) (n + x) (λ e. omega arith)) A ends_before) in
      any_of_whole (n + x) ∙ ap (λ r. r || list_any test (moved n B)) none ∙ any_moved n w x B

  read_second : (x : ℕ) → 0 < x → frame_read (a ++ b) w (bits_in a + x) ≡ frame_read b w x
  read_second x later =
      ap (λ adjacent. read_frame adjacent (frame_read (a ++ b) w (bits_in a + x)).words) (adjacent_second x later)
      ∙ ap (read_frame (frame_read b w x).adjacent) (words_second x)

-- ---- rows of frames that differ in whether the first is adjacent

-- Up to frame i two lists have the same frames, but for whether the first is adjacent to one before it.
record AreAlikeTo (g f : List ReadFrame) (i : ℕ) : Type 0 where
  words : (j : ℕ) → j ≤ i → (frame_at g j).words ≡ (frame_at f j).words
  later : (j : ℕ) → 0 < j → j ≤ i → frame_at g j ≡ frame_at f j

all_agree : (p q : ℕ → Bool) (a n : ℕ) → ((e : ℕ) → a ≤ e → e < a + n → p e ≡ q e) → list_all p (range_with_len a n) ≡ list_all q (range_with_len a n)
all_agree p q a zero same = refl
all_agree p q a (suc n) same =
    ap (λ x. x && list_all p (range_with_len (a + 1) n)) (same a (omega arith) (omega arith))
    ∙ ap (λ x. q a && x) (all_agree p q (a + 1) n (λ e low high. same e (omega arith) (omega arith)))

linked_words : (f : FrameRow) (r s l : ReadFrame) → r.words ≡ s.words → are_linked f r l ≡ are_linked f s l
unfolding are_linked
linked_words f r s l same = ap (λ ws. l.adjacent && (counter_in f l.words == (counter_in f ws + 1) % 4096)) same

joined_alike : (row : FrameRow) (g f : List ReadFrame) (i d : ℕ) → AreAlikeTo g f i → d ≤ i → are_joined row g i d ≡ are_joined row f i d
unfolding are_joined
joined_alike row g f i d alike near =
    ap (λ b. nat_le d i && b) (all_agree (λ e. are_linked row (frame_at g (i - (e + 1))) (frame_at g (i - e)))
    (λ e. are_linked row (frame_at f (i - (e + 1))) (frame_at f (i - e))) 0 d (λ e low high.
    linked_words row (frame_at g (i - (e + 1))) (frame_at f (i - (e + 1))) (frame_at g (i - e)) (alike.words (i - (e + 1)) (omega arith))
    ∙ ap (are_linked row (frame_at f (i - (e + 1)))) (alike.later (i - e) (omega arith) (omega arith))))

raw_alike : (w : ℕ) (g f : List ReadFrame) (i cycle : ℕ) (parts : List Part) → AreAlikeTo g f i
    → raw_of_parts w g i cycle parts ≡ raw_of_parts w f i cycle parts
unfolding raw_of_parts
raw_alike w g f i cycle parts alike =
    sum_by-agree (λ (p : Part). bits_of w g i cycle p * 2 ^ p.shift) (λ (p : Part). bits_of w f i cycle p * 2 ^ p.shift) parts
    (λ k d within.
    let p = slice_index_or parts k d in
    ap (λ ws. slice_index ws (p.at / 12 % (4 * w)) / 2 ^ (p.at % 12) % 2 ^ p.width * 2 ^ p.shift)
    (alike.words (i - (cycle - cycle_of w p.at)) (omega arith)))

row_alike : (t : TableRows) (g f : List ReadFrame) (i : ℕ) (s : Sample) → AreAlikeTo g f i → reach t.frame.words s.parts ≤ i → row_of t g i s ≡ row_of t f i s
unfolding row_of
row_alike t g f i s alike near =
    let w = t.frame.words in
    let d = reach w s.parts in
    let cycle = cycle_of_frame t.frame (frame_at g i).words in
    let counter = counter_in t.frame (frame_at f (i - d)).words in
    ap (λ b. if b then Some (row_with t s (counter_in t.frame (frame_at g (i - d)).words) (raw_of_parts w g i cycle s.parts)) else None)
    (joined_alike t.frame g f i d alike near)
    ∙ ap (λ ws. if are_joined t.frame f i d then Some (row_with t s (counter_in t.frame ws) (raw_of_parts w g i cycle s.parts)) else None)
    (alike.words (i - d) (omega arith))
    ∙ ap (λ n. if are_joined t.frame f i d then Some (row_with t s counter n) else None) (raw_alike w g f i cycle s.parts alike)
    ∙ ap (λ ws. if are_joined t.frame f i d then Some (row_with t s counter (raw_of_parts w f i (cycle_of_frame t.frame ws) s.parts)) else None)
    (alike.words i (omega arith))

-- a row that would begin before the first frame isn't listed
row_below : (t : TableRows) (f : List ReadFrame) (i : ℕ) (s : Sample) → i < reach t.frame.words s.parts → row_of t f i s ≡ None
unfolding row_of are_joined
row_below t f i s far = cond-false _ _ _ (and_left _ _ (lt-leb (reach t.frame.words s.parts) i far))

more : {X : Type 0} (xs : List X) (y : X) (ys : List X) → AreAmong xs ys → AreAmong xs (y ∷ ys)
more [] y ys among = tt
more (x ∷ xs) y ys among = inr among

among_step : {Y : Type 0} (o q : Option Y) (os qs : List (Option Y)) → (o ≡ None) ⊎ (q ≡ o)
    → AreAmong (filter_map (λ (r : Option Y). r) os) (filter_map (λ (r : Option Y). r) qs)
    → AreAmong (filter_map (λ (r : Option Y). r) (o ∷ os)) (filter_map (λ (r : Option Y). r) (q ∷ qs))
among_step None None os qs one rest = rest
among_step None (Some y) os qs one rest = more (filter_map (λ r. r) os) y (filter_map (λ r. r) qs) rest
among_step (Some x) None os qs one rest = absurd (⊎_elim (λ none. cc) (λ same. cc) one)
among_step (Some x) (Some y) os qs one rest = inl (⊎_elim (λ none. absurd (cc)) (λ same. cc) one, rest)

among_each : {S Y : Type 0} (p q : S → Option Y) (xs : List S) → All (λ s. (p s ≡ None) ⊎ (q s ≡ p s)) xs
    → AreAmong (filter_map (λ (r : Option Y). r) (map p xs)) (filter_map (λ (r : Option Y). r) (map q xs))
among_each p q [] each = tt
among_each p q (x ∷ xs) each =
    among_step (p x) (q x) (map p xs) (map q xs) (All-head (λ s. (p s ≡ None) ⊎ (q s ≡ p s)) x xs each)
    (among_each p q xs (All-tail (λ s. (p s ≡ None) ⊎ (q s ≡ p s)) x xs each))

-- Behind other frames a frame has the rows that it has without them, and perhaps others that begin in those.
rows_behind : (t : TableRows) (e g f : List ReadFrame) (i : ℕ) → 0 < t.frame.words → AreAlikeTo g f i
    → AreAmong (rows_of_frame t f i) (rows_of_frame t (e ++ g) (length e + i))
unfolding rows_of_frame rows_looked_at
rows_behind t e g f i some alike =
    let w = t.frame.words in
    let whole = e ++ g in
    let n = length e in
    let behind : (j : ℕ) → frame_at whole (n + j) ≡ frame_at g j = λ j. get_or-append-add e g j (read_frame false []) in
    let cycle = cycle_of_frame t.frame (frame_at f i).words in
    let last : cycle_of_frame t.frame (frame_at whole (n + i)).words ≡ cycle =
    ap (λ (r : ReadFrame). cycle_of_frame t.frame r.words) (behind i) ∙ ap (cycle_of_frame t.frame) (alike.words i (omega arith)) in
    let each : All (λ (s : Sample). (row_of t f i s ≡ None) ⊎ (row_of t whole (n + i) s ≡ row_of t f i s)) (ending_in t cycle) =
    λ k d within.
    let s = slice_index_or (ending_in t cycle) k d in
    let ends : EndsIn w cycle s = ending_in_ends t cycle some k d within in
    let back = reach w s.parts in
    ⊎_elim
    (λ (far : i < back). inl (row_below t f i s far))
    (λ (near : back ≤ i). inr (row_of-same t whole g (n + i) i s (subst (λ c. EndsIn w c s) (sym last) ends) (record {
      frames = λ k low. let at : n + i - k ≡ n + (i - k) = omega arith in ap (frame_at whole) at ∙ behind (i - k);
      room = λ k low. le-leb k (n + i) (omega arith) ∙ sym (le-leb k i (omega arith));
    }) ∙ row_alike t g f i s alike near))
    (cases_lt i back) in
    subst (λ c. AreAmong (filter_map (λ r. r) (map (row_of t f i) (ending_in t cycle))) (filter_map (λ r. r) (map (row_of t whole (n + i)) (ending_in t c))))
    (sym last) (among_each (row_of t f i) (row_of t whole (n + i)) (ending_in t cycle) each)

and_no : (x y : Bool) → y ≡ false → (x && y) ≡ false
and_no true y is = is
and_no false y is = refl

one_fails : (p : ℕ → Bool) (a n e : ℕ) → a ≤ e → e < a + n → p e ≡ false → list_all p (range_with_len a n) ≡ false
one_fails p a zero e low high fails = absurd (omega arith)
one_fails p a (suc n) e low high fails = ⊎_elim
    (λ (later : a < e). and_no (p a) _ (one_fails p (a + 1) n e (omega arith) (omega arith) fails))
    (λ (here : e ≤ a). let is : a ≡ e = omega arith in and_left _ _ (ap p is ∙ fails))
    (cases_lt a e)

-- no frame before the first of these is linked to it
abbrev AreParted : FrameRow → List ReadFrame → List ReadFrame → Type 0
AreParted row e g = 0 < length e → are_linked row (frame_at e (length e - 1)) (frame_at g 0) ≡ false

-- so none is joined with it
parted_joined : (row : FrameRow) (e g : List ReadFrame) (i d : ℕ) → AreParted row e g → i < d → are_joined row (e ++ g) (length e + i) d ≡ false
unfolding are_joined
parted_joined row e g i d parted far = ⊎_elim
    (λ (some : 0 < length e).
    let whole = e ++ g in
    let n = length e in
    let earlier : n + i - (i + 1) ≡ n - 1 = omega arith in
    let later : n + i - i ≡ n + 0 = omega arith in
    and_no (nat_le d (n + i)) _ (one_fails (λ k. are_linked row (frame_at whole (n + i - (k + 1))) (frame_at whole (n + i - k))) 0 d i (omega arith)
    (omega arith)
    (ap (λ k. are_linked row (frame_at whole k) (frame_at whole (n + i - i))) earlier
    ∙ ap (λ k. are_linked row (frame_at whole (n - 1)) (frame_at whole k)) later
    ∙ ap (λ r. are_linked row r (frame_at whole (n + 0))) (get_or_append_left e g (read_frame false []) (n - 1) (omega arith))
    ∙ ap (are_linked row (frame_at e (n - 1))) (get_or-append-add e g 0 (read_frame false []))
    ∙ parted some)))
    (λ (none : length e ≤ 0). and_left _ _ (lt-leb d (length e + i) (omega arith)))
    (cases_lt 0 (length e))

parted_row : (t : TableRows) (e g : List ReadFrame) (i : ℕ) (s : Sample) → AreParted t.frame e g → i < reach t.frame.words s.parts
    → row_of t (e ++ g) (length e + i) s ≡ None
unfolding row_of
parted_row t e g i s parted far = cond-false _ _ _ (parted_joined t.frame e g i (reach t.frame.words s.parts) parted far)

-- Behind frames that aren't linked to it, a frame has the rows that it has without them.
rows_parted : (t : TableRows) (e g f : List ReadFrame) (i : ℕ) → 0 < t.frame.words → AreAlikeTo g f i → AreParted t.frame e g
    → rows_of_frame t (e ++ g) (length e + i) ≡ rows_of_frame t f i
unfolding rows_of_frame rows_looked_at
rows_parted t e g f i some alike parted =
    let w = t.frame.words in
    let whole = e ++ g in
    let n = length e in
    let behind : (j : ℕ) → frame_at whole (n + j) ≡ frame_at g j = λ j. get_or-append-add e g j (read_frame false []) in
    let cycle = cycle_of_frame t.frame (frame_at f i).words in
    let last : cycle_of_frame t.frame (frame_at whole (n + i)).words ≡ cycle =
    ap (λ (r : ReadFrame). cycle_of_frame t.frame r.words) (behind i) ∙ ap (cycle_of_frame t.frame) (alike.words i (omega arith)) in
    let each : All (λ (s : Sample). row_of t whole (n + i) s ≡ row_of t f i s) (ending_in t cycle) =
    λ k d within.
    let s = slice_index_or (ending_in t cycle) k d in
    let ends : EndsIn w cycle s = ending_in_ends t cycle some k d within in
    let back = reach w s.parts in
    ⊎_elim
    (λ (far : i < back). parted_row t e g i s parted far ∙ sym (row_below t f i s far))
    (λ (near : back ≤ i). row_of-same t whole g (n + i) i s (subst (λ c. EndsIn w c s) (sym last) ends) (record {
      frames = λ k low. let at : n + i - k ≡ n + (i - k) = omega arith in ap (frame_at whole) at ∙ behind (i - k);
      room = λ k low. le-leb k (n + i) (omega arith) ∙ sym (le-leb k i (omega arith));
    }) ∙ row_alike t g f i s alike near)
    (cases_lt i back) in
    ap (λ c. filter_map (λ r. r) (map (row_of t whole (n + i)) (ending_in t c))) last
    ∙ ap (filter_map (λ r. r)) (map-agree (row_of t whole (n + i)) (row_of t f i) (ending_in t cycle) each)

contains_some : (xs : List ℕ) (p : ℕ) → Contains xs p → 0 < length xs
contains_some xs p h = let within : h.0 < length xs = h.1 in omega arith

one_of_one : (x p : ℕ) → Contains (x ∷ []) p → x ≡ p
one_of_one x p here = ⊎_elim (λ none. absurd (let low : none.0 < 0 = none.1 in omega arith)) (λ e. e) (Contains-push_cases [] x p here)

-- ---- the rows of the parts

module _ (t : TableRows) (a b : List ℕ) (some : 0 < t.frame.words) (clean : IsCleanCut t.frame.words a b) where
  rows_first : (p : ℕ) → Contains (accepted_frames a t.frame.words) p → rows_at t (a ++ b) p ≡ rows_at t a p
  unfolding rows_at
  rows_first p h =
      let w = t.frame.words in
      let to = accepted_to a w p in
      let same : All (λ x. frame_read (a ++ b) w x ≡ frame_read a w x) to =
      All-weaker (λ x. x + 48 * w ≤ bits_in a) (λ x. frame_read (a ++ b) w x ≡ frame_read a w x) (λ x fits. read_first w a b some clean x fits) to
      (All_filter (λ x. x + 48 * w ≤ bits_in a) (λ x. nat_le x p) (accepted_frames a w) (ends_before w a b some clean)) in
      ap (λ (xs : List ℕ). rows_of_frame t (map (frame_read (a ++ b) w) xs) (length xs - 1)) (to_first w a b some clean p h)
      ∙ ap (λ (fs : List ReadFrame). rows_of_frame t fs (length to - 1)) (map-agree (frame_read (a ++ b) w) (frame_read a w) to same)

  -- A frame of the second part as it is seen in the whole, behind the frames of the first.
  record SeenBehind (p : ℕ) : Type 0 where
    e : List ReadFrame
    g : List ReadFrame
    f : List ReadFrame
    i : ℕ
    alike : AreAlikeTo g f i
    alone : rows_at t b p ≡ rows_of_frame t f i
    behind : rows_at t (a ++ b) (bits_in a + p) ≡ rows_of_frame t (e ++ g) (length e + i)
    earlier : e ≡ map (frame_read (a ++ b) t.frame.words) (accepted_frames a t.frame.words)
    first : frame_at g 0 ≡ frame_read (a ++ b) t.frame.words (bits_in a + get_or (accepted_to b t.frame.words p) 0 0)

  seen_behind : (p : ℕ) → Contains (accepted_frames b t.frame.words) p → SeenBehind p
  unfolding rows_at
  seen_behind p h =
      let w = t.frame.words in
      let n = bits_in a in
      let A = accepted_frames a w in
      let to = accepted_to b w p in
      let f = map (frame_read b w) to in
      let g = map (frame_read (a ++ b) w) (moved n to) in
      let e = map (frame_read (a ++ b) w) A in
      let R : ℕ → ℕ → Type 0 = λ earlier later. earlier + 48 * w ≤ later in
      let apart : AllPairs R to = AllPairs-filter R (λ x. nat_le x p) (accepted_frames b w) (are_accepted b w).apart in
      let long : 0 < length to = contains_some to p (filter_keeps (λ x. nat_le x p) (accepted_frames b w) p h (le-leb p p (omega arith))) in
      let i = length to - 1 in
      let place : (j : ℕ) → j ≤ i → get_or (moved n to) j 0 ≡ n + get_or to j 0 = λ j low. get_or-map (λ x. n + x) to j 0 0 (omega arith) in
      let of_g : (j : ℕ) → j ≤ i → frame_at g j ≡ frame_read (a ++ b) w (n + get_or to j 0) = λ j low.
      get_or-map (frame_read (a ++ b) w) (moved n to) j 0 (read_frame false []) (omega (arith, length-map to (λ x. n + x)))
      ∙ ap (frame_read (a ++ b) w) (place j low) in
      let of_f : (j : ℕ) → j ≤ i → frame_at f j ≡ frame_read b w (get_or to j 0) = λ j low. get_or-map (frame_read b w) to j 0 (read_frame false [])
      (omega arith) in
      let whole : accepted_to (a ++ b) w (n + p) ≡ A ++ moved n to = to_second w a b some clean p in
      let last : length (A ++ moved n to) - 1 ≡ length e + i =
      omega (arith, length-append A (moved n to), length-map to (λ x. n + x), length-map A (frame_read (a ++ b) w)) in
      record {
        e = e;
        g = g;
        f = f;
        i = i;
        alike = record {
          words = λ j low. ap (λ (r : ReadFrame). r.words) (of_g j low) ∙ words_second w a b some clean (get_or to j 0)
              ∙ sym (ap (λ (r : ReadFrame). r.words) (of_f j low));
          later = λ j behind low.
              let after : get_or to 0 0 + 48 * w ≤ get_or to j 0 = apart 0 j 0 behind (omega arith) in
              of_g j low ∙ read_second w a b some clean (get_or to j 0) (omega (arith, some)) ∙ sym (of_f j low);
        };
        alone = refl;
        behind = ap (λ (xs : List ℕ). rows_of_frame t (map (frame_read (a ++ b) w) xs) (length xs - 1)) whole
            ∙ ap (rows_of_frame t (map (frame_read (a ++ b) w) (A ++ moved n to))) last
            ∙ ap (λ (fs : List ReadFrame). rows_of_frame t fs (length e + i)) (map-append (frame_read (a ++ b) w) A (moved n to));
        earlier = refl;
        first = of_g 0 (omega arith);
      }

  rows_second : (p : ℕ) → Contains (accepted_frames b t.frame.words) p → AreAmong (rows_at t b p) (rows_at t (a ++ b) (bits_in a + p))
  rows_second p h =
      let s = seen_behind p h in
      subst (λ xs. AreAmong xs (rows_at t (a ++ b) (bits_in a + p))) (sym s.alone)
      (subst (AreAmong (rows_of_frame t s.f s.i)) (sym s.behind) (rows_behind t s.e s.g s.f s.i some s.alike))

  -- ---- where the first frame of the second part isn't linked

  module _ (x : ℕ) (rest : List ℕ) (is : accepted_frames b t.frame.words ≡ x ∷ rest)
      (unlinked : is_frame_linked t (a ++ b) (bits_in a + x) ≡ false) where
    later_ones : All (λ y. x + 48 * t.frame.words ≤ y) rest
    later_ones =
        let R : ℕ → ℕ → Type 0 = λ earlier later. earlier + 48 * t.frame.words ≤ later in
        AllPairs-head R x rest (subst (AllPairs R) is (are_accepted b t.frame.words).apart)

    to_own : accepted_to b t.frame.words x ≡ x ∷ []
    to_own =
        let test = λ (y : ℕ). nat_le y x in
        let late : All (λ y. nat_le y x ≡ false) rest =
        All-weaker (λ y. x + 48 * t.frame.words ≤ y) (λ y. nat_le y x ≡ false) (λ y h. lt-leb y x (omega (arith, some))) rest later_ones in
        ap (filter test) is ∙ cond-true (nat_le x x) _ _ (le-leb x x (omega arith)) ∙ ap (λ ys. x ∷ ys) (filter_none test rest late)

    parted_at : (m : ℕ) → length (accepted_frames a t.frame.words) ≡ suc m
        → are_linked t.frame (frame_at (map (frame_read (a ++ b) t.frame.words) (accepted_frames a t.frame.words)) m)
        (frame_read (a ++ b) t.frame.words (bits_in a + x)) ≡ false
    unfolding is_frame_linked
    parted_at m long =
        let w = t.frame.words in
        let A = accepted_frames a w in
        let y = bits_in a + x in
        let read = frame_read (a ++ b) w in
        let to : accepted_to (a ++ b) w y ≡ A ++ y ∷ [] = to_second w a b some clean x ∙ ap (λ ys. A ++ moved (bits_in a) ys) to_own in
        let last : length (A ++ y ∷ []) - 1 ≡ suc m = omega (arith, length-append A (y ∷ []), long) in
        let sizes : length (map read A) ≡ suc m = length-map A read ∙ long in
        let linked : is_linked_at t.frame (map read (A ++ y ∷ [])) (suc m) ≡ false =
        sym (ap (λ (xs : List ℕ). is_linked_at t.frame (map read xs) (length xs - 1)) to ∙ ap (is_linked_at t.frame (map read (A ++ y ∷ []))) last)
        ∙ unlinked in
        let all : map read (A ++ y ∷ []) ≡ map read A ++ read y ∷ [] = map-append read A (y ∷ []) in
        sym (ap (λ fs. are_linked t.frame (frame_at fs m) (frame_at fs (suc m))) all
        ∙ ap (λ r. are_linked t.frame r (frame_at (map read A ++ read y ∷ []) (suc m)))
        (get_or_append_left (map read A) (read y ∷ []) (read_frame false []) m (omega (arith, sizes)))
        ∙ ap (are_linked t.frame (frame_at (map read A) m)) (get_or_at (map read A) (read y) [] (read_frame false []) (suc m) sizes))
        ∙ linked

    first_to : (p : ℕ) → Contains (accepted_frames b t.frame.words) p → get_or (accepted_to b t.frame.words p) 0 0 ≡ x
    first_to p h =
        let low : x ≤ p = ⊎_elim
        (λ here. let same : x ≡ p = one_of_one x p here in omega arith)
        (λ there. let behind = All-contains (λ y. x + 48 * t.frame.words ≤ y) rest p later_ones there in omega arith)
        (Contains-append_cases (x ∷ []) rest p (subst (λ xs. Contains xs p) is h)) in
        ap (λ xs. get_or (filter (λ y. nat_le y p) xs) 0 0) is
        ∙ ap (λ xs. get_or xs 0 0) (cond-true (nat_le x p) _ _ (le-leb x p low))

    pub rows_same : (p : ℕ) → Contains (accepted_frames b t.frame.words) p → rows_at t (a ++ b) (bits_in a + p) ≡ rows_at t b p
    rows_same p h =
        let w = t.frame.words in
        let s = seen_behind p h in
        let A = accepted_frames a w in
        let read = frame_read (a ++ b) w in
        let first : frame_at s.g 0 ≡ read (bits_in a + x) = s.first ∙ ap (λ k. read (bits_in a + k)) (first_to p h) in
        let parted : AreParted t.frame s.e s.g = λ more.
        let size : length s.e ≡ length A = ap length s.earlier ∙ length-map A read in
        let next : length A ≡ suc (length s.e - 1) = omega (arith, size, more) in
        ap (λ es. are_linked t.frame (frame_at es (length s.e - 1)) (frame_at s.g 0)) s.earlier
        ∙ ap (are_linked t.frame (frame_at (map read A) (length s.e - 1))) first
        ∙ parted_at (length s.e - 1) next in
        s.behind ∙ rows_parted t s.e s.g s.f s.i some s.alike parted ∙ sym s.alone

  pub keeps_rows : KeepsRows t a b
  keeps_rows = record { frames = cut_accepted t.frame.words a b some clean; first = rows_first; second = rows_second; unlinked = rows_same }

pub cuts_keep : (t : TableRows) (a b : List ℕ) → IsWordCount t.frame.words → IsCleanCut t.frame.words a b → KeepsRows t a b
cuts_keep t a b count clean = keeps_rows t a b (word_count_some t.frame.words count) clean
