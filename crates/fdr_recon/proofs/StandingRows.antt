-- The rows of a value that stands for a past.
use Rattle.std.proofs.Common.{◌≡◌, ℕ, suc, ◌+◌, ◌-◌, ◌*◌, ◌/◌, ◌%◌, ◌^◌, ◌<◌, ◌≤◌, true, false, List, [], ◌∷◌, length, map, min, refl, ap, sym, ◌∙◌, subst}
use Rattle.std.proofs.Common.{arith, ⊎_elim, length-drop, Some, None}
use Rattle.std.specs.Prelude.{nat_le, if◌then◌else◌, slice_index, slice_get, option_map, ℤ}
use Rattle.std.specs.List.{range_with_len, slice_index_or}
use Rattle.std.proofs.lemmas.Bool.{le-leb, lt-leb, leb-true, leb-false, ne_eqb, eq-eqb, cond-true, cond-false, cases_Bool}
use Rattle.std.proofs.lemmas.List.{length-map}
use Rattle.std.proofs.lemmas.List.FromFn.{get_or-map-range_with_len}
use Rattle.std.proofs.lemmas.Option.{slice_get-map, slice_get_within, get_or_from_slice_get, none-some}
use Rattle.std.proofs.lemmas.Nat.{mod_below}
use Rattle.fdr_table.specs.Rows.{FrameRow, TableRows}
use Rattle.fdr_layout.proofs.Ending.{EndsIn}
use Rattle.fdr_layout.proofs.Endings.{ending_in_ends}
use Rattle.fdr_table.specs.Value.{value_of}
use Rattle.fdr_frame.specs.Slots.{subframe_of, word_of}
use Rattle.fdr_check.specs.Occurrences.{cycle_of}
use Rattle.fdr_layout.specs.Samples.{Part, Sample, ending_in, first_at, last_at}
use Rattle.fdr_layout.specs.SlotParts.{Laid}
use Rattle.fdr_recon.specs.declared.Row.{Row}
use Rattle.fdr_recon.specs.Rows.{ReadFrame, frame_at, are_joined, counter_in, cycle_of_frame, reach, bits_of, raw_of_parts, param_at, row_with, row_of}
use Rattle.fdr_recon.specs.Rows.{rows_looked_at}
use Rattle.fdr_recon.specs.Kept.{RebuildKept, kept_word, kept_counter, kept_cycle, kept_bits, kept_raw, kept_value, kept_row, kept_samples}
use Rattle.fdr_recon.specs.Past.{RepresentsRebuild, joined_count}
use Rattle.fdr_recon.proofs.JoinedFrames.{are_joined-count, joined_count-le}
use Rattle.fdr_recon.proofs.FrameWords.{words_of, length-words_of}
use Rattle.fdr_recon.proofs.Standing.{kept_word-stands, kept_counter-stands, kept_cycle-stands}
use Rattle.fdr_lists.proofs.Sums.{sum_by-agree}

-- the bits of a part that is few enough frames before frame i, the last
kept_bits-stands : (k : RebuildKept) (t : TableRows) (past : List ReadFrame) (i cycle : ℕ) (p : Part) → RepresentsRebuild k t past → length past ≡ suc i →
    cycle - cycle_of t.frame.words p.at ≤ i → cycle < 16 → kept_bits k cycle p ≡ bits_of t.frame.words past i cycle p
unfolding kept_bits
kept_bits-stands k t past i cycle p s len reached few =
    let w = t.frame.words in
    let w_is : k.frame.words ≡ w = ap (λ (f : FrameRow). f.words) s.frame in
    let back = cycle - cycle_of w p.at in
    let count : length past ≡ (i - back) + back + 1 = omega arith in
    let low : back < 16 = omega arith in
    let word : kept_word k back (p.at / 12 % (4 * w)) ≡ slice_index (frame_at past (i - back)).words (p.at / 12 % (4 * w)) =
    kept_word-stands k t past (i - back) back (p.at / 12 % (4 * w)) s count low in
    let P : ℕ → Type 0 = λ v. kept_word k (cycle - cycle_of v p.at) (p.at / 12 % (4 * v)) / 2 ^ (p.at % 12) % 2 ^ p.width ≡ bits_of w past i cycle p in
    subst P (sym w_is) (ap (λ n. n / 2 ^ (p.at % 12) % 2 ^ p.width) word)

kept_raw-stands : (k : RebuildKept) (t : TableRows) (past : List ReadFrame) (i cycle : ℕ) (s : Sample) → RepresentsRebuild k t past → length past ≡ suc i →
    cycle < 16 → EndsIn t.frame.words cycle s → reach t.frame.words s.parts ≤ i →
    kept_raw k cycle s.parts ≡ raw_of_parts t.frame.words past i cycle s.parts
unfolding kept_raw raw_of_parts
kept_raw-stands k t past i cycle s st len few ends reached =
    let w = t.frame.words in
    sum_by-agree (λ (p : Part). kept_bits k cycle p * 2 ^ p.shift) (λ (p : Part). bits_of w past i cycle p * 2 ^ p.shift) s.parts
    (λ j d within.
    let p = slice_index_or s.parts j d in
    let low : cycle_of w (first_at s.parts) ≤ cycle_of w p.at = ends.low j d within in
    let back : cycle - cycle_of w p.at ≤ i = omega (arith, ends.last) in
    ap (λ n. n * 2 ^ p.shift) (kept_bits-stands k t past i cycle p st len back few))

-- the row of a sample that ends in the last frame's cycle
pub kept_row-stands : (k : RebuildKept) (t : TableRows) (past : List ReadFrame) (i : ℕ) (s : Sample) → RepresentsRebuild k t past → length past ≡ suc i
    → EndsIn t.frame.words (cycle_of_frame t.frame (frame_at past i).words) s →
    kept_row k s ≡ row_of t past i s
unfolding kept_row kept_value row_of row_with
kept_row-stands k t past i s st len ends =
    let w = t.frame.words in
    let d = reach w s.parts in
    let w_is : k.frame.words ≡ w = ap (λ (f : FrameRow). f.words) st.frame in
    let cycle = cycle_of_frame t.frame (frame_at past i).words in
    let few : cycle < 16 = mod_below _ 16 (omega arith) in
    let last_cycle : cycle_of w (last_at s.parts) ≡ cycle = ends.last in
    let row : ℕ → ℤ → Row = λ counter value. record {
      counter = counter;
      subframe = subframe_of w (first_at s.parts / 12);
      word = word_of w (first_at s.parts / 12);
      param = s.param;
      value = value;
    } in
    let last : length past - 1 ≡ i = omega arith in
    let joined : k.joined ≡ min 15 (joined_count t.frame past i) = st.joined ∙ ap (λ n. min 15 (joined_count t.frame past n)) last in
    let P : ℕ → Type 0 = λ v. (if nat_le (reach v s.parts) k.joined
    then Some (record {
      counter = kept_counter k (reach v s.parts);
      subframe = subframe_of v (first_at s.parts / 12);
      word = word_of v (first_at s.parts / 12);
      param = s.param;
      value = kept_value k s;
    })
    else None) ≡ row_of t past i s in
    let listed : nat_le d k.joined ≡ true → P w = λ yes.
    let near : d ≤ k.joined = leb-true d k.joined yes in
    let below = joined_count-le t.frame past i in
    let both : are_joined t.frame past i d ≡ true = are_joined-count t.frame past i d ∙ le-leb d (joined_count t.frame past i) (omega arith) in
    let counter : kept_counter k d ≡ counter_in t.frame (frame_at past (i - d)).words = kept_counter-stands k t past (i - d) d st (omega arith) (omega arith) in
    let raw : kept_raw k (kept_cycle k) s.parts ≡ raw_of_parts w past i cycle s.parts =
    ap (λ c. kept_raw k c s.parts) (kept_cycle-stands k t past i st len) ∙ kept_raw-stands k t past i cycle s st len few ends (omega arith) in
    let value : kept_value k s ≡ value_of (param_at t.params s.param) (raw_of_parts w past i cycle s.parts) =
    ap (λ ps. value_of (param_at ps s.param) (kept_raw k (kept_cycle k) s.parts)) st.params ∙ ap (value_of (param_at t.params s.param)) raw in
    cond-true _ _ _ yes
    ∙ ap (λ n. Some (row n (kept_value k s))) counter
    ∙ ap (λ z. Some (row (counter_in t.frame (frame_at past (i - d)).words) z)) value
    ∙ sym (cond-true _ _ _ both)
    in
    let unlisted : nat_le d k.joined ≡ false → P w = λ no.
    let far : k.joined < d = leb-false d k.joined no in
    let neither : are_joined t.frame past i d ≡ false = are_joined-count t.frame past i d ∙ lt-leb d (joined_count t.frame past i) (omega arith) in
    cond-false _ _ _ no ∙ sym (cond-false _ _ _ neither) in
    subst P (sym w_is) (⊎_elim listed unlisted (cases_Bool (nat_le d k.joined)))

-- no sample is looked at before the first frame
pub kept_samples-none : (k : RebuildKept) (t : TableRows) → RepresentsRebuild k t [] → kept_samples k ≡ []
unfolding kept_samples
kept_samples-none k t s =
    let none : length k.words ≡ 0 = ap length s.words ∙ omega (arith, length-drop (length (words_of []) - 64 * t.frame.words) (words_of [])) in
    cond-true _ _ _ (eq-eqb (length k.words) 0 none)

-- those that end in the last frame's cycle
pub kept_samples-stands : (k : RebuildKept) (t : TableRows) (past : List ReadFrame) (i : ℕ) → RepresentsRebuild k t past → length past ≡ suc i
    → 0 < t.frame.words →
    kept_samples k ≡ ending_in t (cycle_of_frame t.frame (frame_at past i).words)
unfolding kept_samples
kept_samples-stands k t past i s len some =
    let w = t.frame.words in
    let cycle = cycle_of_frame t.frame (frame_at past i).words in
    let xs = words_of past in
    let all_words : length xs ≡ 4 * w * suc i = length-words_of w past s.frames ∙ ap (λ n. 4 * w * n) len in
    let count : length k.words ≡ length xs - (length xs - 64 * w) = ap length s.words ∙ length-drop (length xs - 64 * w) xs in
    let more : 0 < length k.words = omega arith in
    let few : cycle < 16 = mod_below _ 16 (omega arith) in
    cond-false _ _ _ (ne_eqb (length k.words) 0 (λ e. omega arith))
    ∙ ap (λ (l : Laid). slice_index_or l.cycles (kept_cycle k) []) s.laid
    ∙ ap (λ c. slice_index_or (map (ending_in t) (range_with_len 0 16)) c []) (kept_cycle-stands k t past i s len)
    ∙ get_or-map-range_with_len (ending_in t) 0 16 cycle cycle [] few (omega arith)

-- what is looked at is as many rows as there are samples
pub rows-stands : (k : RebuildKept) (t : TableRows) (past : List ReadFrame) → RepresentsRebuild k t past → 0 < k.frame.words → 0 < length past →
    length (kept_samples k) ≡ length (rows_looked_at t past (length past - 1))
unfolding rows_looked_at
rows-stands k t [] s some frames = absurd (omega arith)
rows-stands k t (first ∷ past) s some frames =
    let last : length (first ∷ past) - 1 ≡ length past = omega arith in
    let here = ending_in t (cycle_of_frame t.frame (frame_at (first ∷ past) (length past)).words) in
    ap length (kept_samples-stands k t (first ∷ past) (length past) s refl (subst (λ n. 0 < n) (ap (λ (f : FrameRow). f.words) s.frame) some))
    ∙ sym (length-map here (row_of t (first ∷ past) (length past)))
    ∙ ap (λ n. length (rows_looked_at t (first ∷ past) n)) (sym last)

-- the row of the sample that is looked at
pub row-stands : (k : RebuildKept) (t : TableRows) (past : List ReadFrame) (i : ℕ) (s : Sample) → RepresentsRebuild k t past → 0 < k.frame.words →
    slice_get (kept_samples k) i ≡ Some s → slice_get (rows_looked_at t past (length past - 1)) i ≡ Some (kept_row k s)
unfolding rows_looked_at
row-stands k t [] i s st some looked =
    let none : None ≡ Some s = ap (λ xs. slice_get xs i) (sym (kept_samples-none k t st)) ∙ looked in
    absurd (none-some s none)
row-stands k t (first ∷ past) i s st some looked =
    let frames = first ∷ past in
    let m = length past in
    let cycle = cycle_of_frame t.frame (frame_at frames m).words in
    let last : length frames - 1 ≡ m = omega arith in
    let some_words : 0 < t.frame.words = subst (λ n. 0 < n) (ap (λ (f : FrameRow). f.words) st.frame) some in
    let here : slice_get (ending_in t cycle) i ≡ Some s = ap (λ xs. slice_get xs i) (sym (kept_samples-stands k t frames m st refl some_words)) ∙ looked in
    let within : i < length (ending_in t cycle) = slice_get_within (ending_in t cycle) i s here in
    let is : slice_index_or (ending_in t cycle) i s ≡ s = get_or_from_slice_get (ending_in t cycle) i s s here in
    let Ends : Sample → Type 0 = EndsIn t.frame.words cycle in
    ap (λ n. slice_get (rows_looked_at t frames n) i) last
    ∙ slice_get-map (row_of t frames m) (ending_in t cycle) i
    ∙ ap (option_map (row_of t frames m)) here
    ∙ ap Some (sym (kept_row-stands k t frames m s st refl (subst Ends is (ending_in_ends t cycle some_words i s within))))
