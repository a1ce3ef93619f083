-- The steps of a surviving run.
use Rattle.std.proofs.Common.{◌≡◌, ℕ, zero, suc, ◌+◌, ◌-◌, ◌*◌, ◌%◌, ◌<◌, ◌≤◌, true, List, [], ◌∷◌, ◌++◌, length, map, refl, sym, ap, subst, ◌∙◌, arith}
use Rattle.std.proofs.Common.{append_assoc, append-nil, length-append}
use Rattle.std.specs.Prelude.{Contains, if◌then◌else◌}
use Rattle.std.specs.List.{flat_map, range_with_len, list_all}
use Rattle.std.proofs.lemmas.Bool.{and_parts}
use Rattle.std.proofs.lemmas.List.{get_or-map, get_or_append_left, get_or-append-add, map-append}
use Rattle.std.proofs.lemmas.List.Concat.{flat_map-append}
use Rattle.std.proofs.lemmas.List.FromFn.{length-map-range_with_len, get_or-map-range_with_len}
use Rattle.fdr_bus.specs.declared.BusRecord.{BusRecord}
use Rattle.fdr_check.specs.Soundness.{IsSound}
use Rattle.fdr_recover.specs.Blocks.{Block}
use Rattle.fdr_recover.specs.Payloads.{payloads_of}
use Rattle.fdr_sync.specs.Accepted.{accepted_frames}
use Rattle.fdr_table.specs.Ranges.{IsInRange}
use Rattle.fdr_table.specs.Rows.{TableRows}
use Rattle.fdr_recon.specs.Past.{is_linked_at}
use Rattle.fdr_recon.specs.Rows.{ReadFrame, frame_at, are_linked, are_joined}
use Rattle.fdr_exceed.specs.Exceedances.{WatchStep, RowStep, ResetStep, exceedances}
use Rattle.fdr_exceed.specs.Lines.{exceed_text}
use Rattle.fdr_exceed.specs.declared.hits.HitList.{HitList}
use Rattle.fdr_exceed.specs.declared.rule.Rule.{Rule}
use Rattle.fdr_readout.specs.Listing.{frame_read, is_frame_linked, rows_at}
use Rattle.fdr_readout.specs.SampledRows.{sampled_rows}
use Rattle.fdr_readout.specs.Survival.{AreListed, Survives, frames_from}
use Rattle.fdr_readout.proofs.RunFrames.{run_reached, accepted_to_run}
use Rattle.fdr_readout.proofs.SoundTables.{sound_recordable}
use Rattle.fdr_readout.proofs.Surviving.{surviving_run_listed}
use Rattle.fdr_top.specs.Exceed.{frame_steps, part_steps, steps_of_bits, steps_of_blocks}
use Rattle.fdr_top.specs.Sessions.{sessions_of}
use Rattle.fdr_laws.specs.Inside.{LiesInRun, rows_sampled_in}
use Rattle.fdr_laws.proofs.Exceeding.{all_at}
use Rattle.fdr_laws.proofs.Insides.{listed_inside}

range_split : (a n d : ℕ) → range_with_len a (n + d) ≡ range_with_len a n ++ range_with_len (a + n) d
range_split a zero d =
    let one : zero + d ≡ d = omega arith in
    let two : a ≡ a + zero = omega arith in
    ap (range_with_len a) one ∙ ap (λ k. range_with_len k d) two
range_split a (suc n) d =
    let one : suc n + d ≡ suc (n + d) = omega arith in
    let two : a + 1 + n ≡ a + suc n = omega arith in
    ap (range_with_len a) one ∙ ap (λ xs. a ∷ xs) (range_split (a + 1) n d ∙ ap (λ k. range_with_len (a + 1) n ++ range_with_len k d) two)

module _ (t : TableRows) (records : List BusRecord) (b : List ℕ) (q j m : ℕ) (range : IsInRange t) (sound : IsSound t)
    (survives : Survives t records b q j m) where
  run_listed : AreListed t records b q j m
  run_listed = surviving_run_listed t records b q j m range sound survives

  -- frame x of the run among all that are read, behind so many before it
  read_behind : (before behind : List ℕ) (x k : ℕ) → x < k →
      frame_at (map (frame_read b t.frame.words) (before ++ frames_from t.frame.words q k ++ behind)) (length before + x)
      ≡ frame_read b t.frame.words (q + 48 * t.frame.words * x)
  read_behind before behind x k early =
      let w = t.frame.words in
      let run = frames_from w q k in
      let count : length run ≡ k = length-map-range_with_len (λ i. q + 48 * w * i) 0 k in
      let front : length before + x < length (before ++ run) = omega (arith, length-append before run, count) in
      get_or-map (frame_read b w) (before ++ run ++ behind) (length before + x) 0 _ (omega (arith, front, length-append (before ++ run) behind))
      ∙ ap (frame_read b w) (get_or_append_left (before ++ run) behind 0 (length before + x) front
      ∙ get_or-append-add before run x 0 ∙ get_or-map-range_with_len (λ i. q + 48 * w * i) 0 k x x 0 early (omega arith))

  -- each frame of the run is linked to the one before it in the run
  linked_next : (i : ℕ) → suc i < m → are_linked t.frame (frame_read b t.frame.words (q + 48 * t.frame.words * i))
      (frame_read b t.frame.words (q + 48 * t.frame.words * suc i)) ≡ true
  unfolding are_joined
  linked_next i early =
      let w = t.frame.words in
      let row = run_listed.accepted in
      let F = map (frame_read b w) (accepted_frames b w) in
      let n = length row.before in
      let links : list_all (λ e. are_linked t.frame (frame_at (map (frame_read b w) (accepted_frames b w)) (length row.before + (m - 1) - (e + 1)))
      (frame_at (map (frame_read b w) (accepted_frames b w)) (length row.before + (m - 1) - e))) (range_with_len 0 (m - 1))
      ≡ true = (and_parts _ _ row.joined).1 in
      let e = m - 1 - suc i in
      let link = all_at _ 0 (m - 1) links e (omega arith) (omega arith) in
      let earlier : n + (m - 1) - (e + 1) ≡ n + i = omega arith in
      let later : n + (m - 1) - e ≡ n + suc i = omega arith in
      let at : (x : ℕ) → x < m → frame_at F (n + x) ≡ frame_read b w (q + 48 * w * x) = λ x low.
      ap (λ xs. frame_at (map (frame_read b w) xs) (n + x)) row.accepted ∙ read_behind row.before row.behind x m low in
      sym (ap (λ k. are_linked t.frame (frame_at F k) (frame_at F (n + (m - 1) - e))) earlier
      ∙ ap (λ k. are_linked t.frame (frame_at F (n + i)) (frame_at F k)) later
      ∙ ap (λ r. are_linked t.frame r (frame_at F (n + suc i))) (at i (omega arith))
      ∙ ap (are_linked t.frame (frame_read b w (q + 48 * w * i))) (at (suc i) early))
      ∙ link

  linked_at : (f : List ReadFrame) (n : ℕ) → 0 < n → is_linked_at t.frame f n ≡ are_linked t.frame (frame_at f (n - 1)) (frame_at f n)
  linked_at f zero some = absurd (omega arith)
  linked_at f (suc n) some = let at : n ≡ suc n - 1 = omega arith in ap (λ k. are_linked t.frame (frame_at f k) (frame_at f (suc n))) at

  later_linked : (i : ℕ) → suc i < m → is_frame_linked t b (q + 48 * t.frame.words * suc i) ≡ true
  unfolding is_frame_linked
  later_linked i early =
      let w = t.frame.words in
      let h = sound_recordable t range sound in
      let frames = (run_reached t records b q j m h survives).frames in
      let n = length frames in
      let to = frames ++ frames_from w q (suc i + 1) in
      let run : length (frames_from w q (suc i + 1)) ≡ suc i + 1 = length-map-range_with_len (λ k. q + 48 * w * k) 0 (suc i + 1) in
      let last : length to - 1 ≡ n + suc i = omega (arith, length-append frames (frames_from w q (suc i + 1)), run) in
      let F = map (frame_read b w) to in
      let back : n + suc i - 1 ≡ n + i = omega arith in
      let at : (x : ℕ) → x < suc i + 1 → frame_at F (n + x) ≡ frame_read b w (q + 48 * w * x) = λ x low.
      ap (λ xs. frame_at (map (frame_read b w) xs) (n + x)) (sym (append-nil to)) ∙ read_behind frames [] x (suc i + 1) low in
      ap (λ (xs : List ℕ). is_linked_at t.frame (map (frame_read b w) xs) (length xs - 1)) (accepted_to_run t records b q j m h survives (suc i) early)
      ∙ ap (is_linked_at t.frame F) last
      ∙ linked_at F (n + suc i) (omega arith)
      ∙ ap (λ k. are_linked t.frame (frame_at F k) (frame_at F (n + suc i))) back
      ∙ ap (λ r. are_linked t.frame r (frame_at F (n + suc i))) (at i (omega arith))
      ∙ ap (are_linked t.frame (frame_read b w (q + 48 * w * i))) (at (suc i) (omega arith))
      ∙ linked_next i early

  -- the rows of a frame whose superframe begins in the run
  own_rows : (i : ℕ) → i < m → (j + i) % 16 ≤ i → rows_at t b (q + 48 * t.frame.words * i) ≡ sampled_rows t records (j + i)
  own_rows i early begun = run_listed.all_rows i early begun

  steps_from : (s i d : ℕ) → (j + s) % 16 ≤ s → s ≤ i → suc i + d ≤ m →
      flat_map (frame_steps t b) (map (λ k. q + 48 * t.frame.words * k) (range_with_len (suc i) d))
      ≡ map RowStep (flat_map (λ k. sampled_rows t records (j + k)) (range_with_len (suc i) d))
  steps_from s i zero begun from within = refl
  steps_from s i (suc d) begun from within =
      let w = t.frame.words in
      let at = λ (k : ℕ). q + 48 * w * k in
      let next : suc i + 1 ≡ suc (suc i) = omega arith in
      let sampled = λ (k : ℕ). sampled_rows t records (j + k) in
      let rest : flat_map (frame_steps t b) (map at (range_with_len (suc i + 1) d)) ≡ map RowStep (flat_map sampled (range_with_len (suc i + 1) d)) =
      ap (λ k. flat_map (frame_steps t b) (map at (range_with_len k d))) next ∙ steps_from s (suc i) d begun (omega arith) (omega arith)
      ∙ ap (λ k. map RowStep (flat_map sampled (range_with_len k d))) (sym next) in
      ap (λ l. ((if l then [] else ResetStep ∷ []) ++ map RowStep (rows_at t b (at (suc i)))) ++ flat_map (frame_steps t b)
      (map at (range_with_len (suc i + 1) d)))
      (later_linked i (omega arith))
      ∙ ap (λ rs. map RowStep rs ++ flat_map (frame_steps t b) (map at (range_with_len (suc i + 1) d))) (own_rows (suc i) (omega arith) (omega arith))
      ∙ ap (λ xs. map RowStep (sampled (suc i)) ++ xs) rest
      ∙ sym (map-append RowStep (sampled (suc i)) (flat_map sampled (range_with_len (suc i + 1) d)))

  -- the steps of the bits have the sampled rows of these frames together
  pub run_steps : (s d : ℕ) → (j + s) % 16 ≤ s → s + suc d ≡ m →
      (before : List WatchStep) × (behind : List WatchStep)
      × (steps_of_bits t b ≡ (before ++ map RowStep (flat_map (λ k. sampled_rows t records (j + k)) (range_with_len s (suc d)))) ++ behind)
  unfolding steps_of_bits
  run_steps s d begun all =
      let w = t.frame.words in
      let f = frame_steps t b in
      let at = λ (k : ℕ). q + 48 * w * k in
      let sampled = λ (k : ℕ). sampled_rows t records (j + k) in
      let row = run_listed.accepted in
      let split : frames_from w q m ≡ map at (range_with_len 0 s) ++ map at (range_with_len s (suc d)) =
      ap (λ k. map at (range_with_len 0 k)) (sym all) ∙ ap (map at) (range_split 0 s (suc d))
      ∙ map-append at (range_with_len 0 s) (range_with_len (0 + s) (suc d))
      ∙ ap (λ k. map at (range_with_len 0 s) ++ map at (range_with_len k (suc d))) (let z : 0 + s ≡ s = omega arith in z) in
      let reset : List WatchStep = if is_frame_linked t b (at s) then [] else ResetStep ∷ [] in
      let front = flat_map f row.before ++ flat_map f (map at (range_with_len 0 s)) in
      let one : s + 1 ≡ suc s = omega arith in
      let rest : flat_map f (map at (range_with_len (s + 1) d)) ≡ map RowStep (flat_map sampled (range_with_len (s + 1) d)) =
      ap (λ k. flat_map f (map at (range_with_len k d))) one ∙ steps_from s s d begun (omega arith) (omega arith)
      ∙ ap (λ k. map RowStep (flat_map sampled (range_with_len k d))) (sym one) in
      let run : flat_map f (map at (range_with_len s (suc d))) ≡ reset ++ map RowStep (flat_map sampled (range_with_len s (suc d))) =
      ap (λ rs. (reset ++ map RowStep rs) ++ flat_map f (map at (range_with_len (s + 1) d))) (own_rows s (omega arith) begun)
      ∙ ap (λ xs. (reset ++ map RowStep (sampled s)) ++ xs) rest
      ∙ append_assoc reset (map RowStep (sampled s)) (map RowStep (flat_map sampled (range_with_len (s + 1) d)))
      ∙ ap (λ xs. reset ++ xs) (sym (map-append RowStep (sampled s) (flat_map sampled (range_with_len (s + 1) d)))) in (
        front ++ reset,
        flat_map f row.behind,
        ap (flat_map f) row.accepted
            ∙ flat_map-append f (row.before ++ frames_from w q m) row.behind
            ∙ ap (λ xs. xs ++ flat_map f row.behind) (flat_map-append f row.before (frames_from w q m)
            ∙ ap (λ xs. flat_map f row.before ++ flat_map f xs) split
            ∙ ap (λ xs. flat_map f row.before ++ xs) (flat_map-append f (map at (range_with_len 0 s)) (map at (range_with_len s (suc d))))
            ∙ sym (append_assoc (flat_map f row.before) (flat_map f (map at (range_with_len 0 s))) (flat_map f (map at (range_with_len s (suc d)))))
            ∙ ap (λ xs. front ++ xs) run
            ∙ sym (append_assoc front reset (map RowStep (flat_map sampled (range_with_len s (suc d)))))),
      )

-- ---- exceedances in it

shifted : (t : TableRows) (records : List BusRecord) (j s n : ℕ) → flat_map (λ k. sampled_rows t records (j + k)) (range_with_len s n)
    ≡ rows_sampled_in t records (j + s) n
shifted t records j s zero = refl
shifted t records j s (suc n) =
    let at : j + (s + 1) ≡ j + s + 1 = omega arith in
    ap (λ xs. sampled_rows t records (j + s) ++ xs) (shifted t records j (s + 1) n ∙ ap (λ k. flat_map (sampled_rows t records) (range_with_len k n)) at)

regroup : {X : Type 0} (a b c d e f : List X) → (a ++ ((b ++ (c ++ d)) ++ e)) ++ f ≡ ((a ++ b) ++ c) ++ (d ++ (e ++ f))
regroup [] [] [] d e f = append_assoc d e f
regroup [] [] (x ∷ c) d e f = ap (λ xs. x ∷ xs) (regroup [] [] c d e f)
regroup [] (x ∷ b) c d e f = ap (λ xs. x ∷ xs) (regroup [] b c d e f)
regroup (x ∷ a) b c d e f = ap (λ xs. x ∷ xs) (regroup a b c d e f)

pub listed_in_run : (rules : List Rule) (rule : Rule) (t : TableRows) (records : List BusRecord) (b : List ℕ) (q j m : ℕ) (e : HitList)
    (before behind : List WatchStep) → IsInRange t → IsSound t → Contains rules rule → Survives t records b q j m → LiesInRun t records rule j m e
    → Contains (exceedances rules ((before ++ steps_of_bits t b) ++ behind)) (exceed_text rule e)
listed_in_run rules rule t records b q j m e before behind range sound is survives lies =
    let s = lies.from - j in
    let d = j + m - lies.from - 1 in
    let at : j + s ≡ lies.from = omega (arith, lies.low) in
    let count : suc d ≡ j + m - lies.from = omega (arith, lies.high) in
    let begun : (j + s) % 16 ≤ s = subst (λ k. k % 16 ≤ s) (sym at) lies.begun in
    let run = run_steps t records b q j m range sound survives s d begun (omega (arith, lies.low, lies.high)) in
    let rows : flat_map (λ k. sampled_rows t records (j + k)) (range_with_len s (suc d)) ≡ lies.rows ++ lies.next ∷ lies.more =
    shifted t records j s (suc d) ∙ ap (λ k. rows_sampled_in t records k (suc d)) at ∙ ap (rows_sampled_in t records lies.from) count ∙ lies.split in
    let steps : map RowStep (flat_map (λ k. sampled_rows t records (j + k)) (range_with_len s (suc d)))
    ≡ map RowStep lies.rows ++ (RowStep lies.next ∷ map RowStep lies.more) =
    ap (map RowStep) rows ∙ map-append RowStep lies.rows (lies.next ∷ lies.more) in
    let whole : (before ++ steps_of_bits t b) ++ behind
    ≡ ((before ++ run.0) ++ map RowStep lies.rows) ++ RowStep lies.next ∷ (map RowStep lies.more ++ (run.1 ++ behind)) =
    ap (λ xs. (before ++ xs) ++ behind) (run.2 ∙ ap (λ xs. (run.0 ++ xs) ++ run.1) steps)
    ∙ regroup before run.0 (map RowStep lies.rows) (RowStep lies.next ∷ map RowStep lies.more) run.1 behind in
    subst (λ xs. Contains (exceedances rules xs) (exceed_text rule e)) (sym whole)
    (listed_inside rules rule (before ++ run.0) (map RowStep lies.more ++ (run.1 ++ behind)) lies.rows lies.next e is lies.inside)

pub listed_in_blocks : (rules : List Rule) (rule : Rule) (t : TableRows) (records : List BusRecord) (blocks session : List Block)
    (earlier later : List (List Block)) (q j m : ℕ) (e : HitList) → IsInRange t → IsSound t → Contains rules rule
    → sessions_of blocks ≡ earlier ++ session ∷ later → Survives t records (payloads_of session) q j m → LiesInRun t records rule j m e
    → Contains (exceedances rules (steps_of_blocks t 2 blocks)) (exceed_text rule e)
unfolding steps_of_blocks
listed_in_blocks rules rule t records blocks session earlier later q j m e range sound is cut survives lies =
    let f = part_steps t in
    let P = flat_map f earlier in
    let S = f session in
    let L = flat_map f later in
    let whole : flat_map f (sessions_of blocks) ++ ResetStep ∷ [] ≡ (P ++ S) ++ (L ++ ResetStep ∷ []) =
    ap (λ xs. xs ++ ResetStep ∷ []) (ap (flat_map f) cut ∙ flat_map-append f earlier (session ∷ later) ∙ sym (append_assoc P S L))
    ∙ append_assoc (P ++ S) L (ResetStep ∷ []) in
    subst (λ xs. Contains (exceedances rules xs) (exceed_text rule e)) (sym whole)
    (listed_in_run rules rule t records (payloads_of session) q j m e P (L ++ ResetStep ∷ []) range sound is survives lies)
