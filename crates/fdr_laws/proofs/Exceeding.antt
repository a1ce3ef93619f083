-- The exceedances in a recording's bits.
use Rattle.std.proofs.Common.{◌≡◌, ◌⊎◌, inl, inr, ⊎_elim, ℕ, zero, suc, ◌+◌, ◌-◌, ◌*◌, ◌<◌, ◌≤◌, Bool, true, false, List, [], ◌∷◌, ◌++◌, length, map}
use Rattle.std.proofs.Common.{Option, None, refl, sym, ap, subst, ◌∙◌, arith, append_assoc, append-nil, length-append}
use Rattle.std.specs.Prelude.{option_map, if◌then◌else◌}
use Rattle.std.specs.List.{flat_map, range_with_len, filter_map, cons_option, list_all}
use Rattle.std.proofs.lemmas.Bool.{and_parts, cases_lt}
use Rattle.std.proofs.lemmas.List.{get_or-map, map-append}
use Rattle.std.proofs.lemmas.List.Concat.{flat_map-append}
use Rattle.std.proofs.lemmas.List.FromFn.{length-map-range_with_len, get_or-map-range_with_len, map-range_with_len_more}
use Rattle.fdr_bus.specs.declared.BusRecord.{BusRecord}
use Rattle.fdr_check.specs.Soundness.{IsSound}
use Rattle.fdr_recover.specs.Blocks.{Block}
use Rattle.fdr_recover.specs.Payloads.{payloads_of}
use Rattle.fdr_sampler.specs.Stream.{stream_of}
use Rattle.fdr_sync.specs.Accepted.{accepted_frames}
use Rattle.fdr_sync.proofs.ChoiceLemmas.{accepted_none}
use Rattle.fdr_table.specs.Ranges.{IsInRange}
use Rattle.fdr_table.specs.Rows.{TableRows}
use Rattle.fdr_recon.specs.declared.Row.{Row}
use Rattle.fdr_recon.specs.Past.{is_linked_at, read_frame}
use Rattle.fdr_recon.specs.Rows.{frame_at, are_linked, are_joined}
use Rattle.fdr_exceed.specs.Exceedances.{WatchStep, RowStep, ResetStep, exceedances, rows_since, with_step, ended_by, hit_list, hits_to}
use Rattle.fdr_exceed.specs.Lines.{exceed_text}
use Rattle.fdr_exceed.specs.declared.rule.Rule.{Rule}
use Rattle.fdr_exceed.proofs.Stepping.{rows_since-push, exceedances-push, lines_of_step}
use Rattle.fdr_readout.specs.Listing.{accepted_to, frame_read, is_frame_linked, rows_at}
use Rattle.fdr_readout.specs.SampledRows.{sampled_rows, whole_frames}
use Rattle.fdr_readout.specs.Survival.{AreListed, frames_from}
use Rattle.fdr_readout.proofs.Recordable.{IsRecordable}
use Rattle.fdr_readout.proofs.SoFarLemmas.{accepted_to_next}
use Rattle.fdr_readout.proofs.SoundTables.{sound_recordable}
use Rattle.fdr_readout.proofs.StreamFrames.{frame_place, frame_places, some_words, none_behind, next_frame, frames_so_far}
use Rattle.fdr_readout.proofs.Surviving.{surviving_run_listed, survives_itself}
use Rattle.fdr_top.specs.Exceed.{frame_steps, part_steps, steps_of_bits, steps_of_blocks, exceedances_of_blocks, text_of_lines}
use Rattle.fdr_top.specs.Sessions.{sessions_of}
use Rattle.fdr_slot.specs.Limits.{IsInLimits}
use Rattle.fdr_recover.specs.Images.{recovered_run}
use Rattle.fdr_recorder.specs.Past.{RecordingPast, all_blocks}
use Rattle.fdr_laws.specs.Sides.{HoldsRecording}
use Rattle.fdr_laws.proofs.Siding.{payloads_of_all, side_lists_back}
use Rattle.fdr_laws.specs.Exceeded.{all_sampled_rows, exceedances_of_sessions, sampled_exceedances}

-- ---- steps behind the end of a stretch

filter_map_agree : {A B : Type 0} (f g : A → Option B) (xs : List A) → ((x : A) → f x ≡ g x) → filter_map f xs ≡ filter_map g xs
filter_map_agree f g [] same = refl
filter_map_agree f g (x ∷ xs) same = ap (λ o. cons_option o (filter_map f xs)) (same x) ∙ ap (cons_option (g x)) (filter_map_agree f g xs same)

abbrev nothing : {A B : Type 0} → A → Option B
nothing x = None

filter_map_none : {A B : Type 0} (xs : List A) → filter_map (nothing {A = A} {B = B}) xs ≡ []
filter_map_none [] = refl
filter_map_none (x ∷ xs) = filter_map_none xs

-- These steps behind others end what they end by themselves.
record IsApart (rules : List Rule) (before steps : List WatchStep) : Type 0 where
  rows : (rule : Rule) → rows_since rule (before ++ steps) ≡ rows_since rule steps
  lines : exceedances rules (before ++ steps) ≡ exceedances rules before ++ exceedances rules steps

no_lines : (rules : List Rule) → exceedances rules [] ≡ []
unfolding exceedances
no_lines rules = refl

apart_none : (rules : List Rule) (steps : List WatchStep) → IsApart rules (steps ++ ResetStep ∷ []) []
unfolding rows_since
apart_none rules steps = record {
  rows = λ rule. ap (rows_since rule) (append-nil (steps ++ ResetStep ∷ [])) ∙ rows_since-push rule steps ResetStep;
  lines = ap (exceedances rules) (append-nil (steps ++ ResetStep ∷ [])) ∙ sym (append-nil (exceedances rules (steps ++ ResetStep ∷ [])))
      ∙ ap (λ xs. exceedances rules (steps ++ ResetStep ∷ []) ++ xs) (sym (no_lines rules));
}

apart_more : (rules : List Rule) (before steps : List WatchStep) (s : WatchStep) → IsApart rules before steps → IsApart rules before (steps ++ s ∷ [])
apart_more rules before steps s apart =
    let one : before ++ (steps ++ s ∷ []) ≡ (before ++ steps) ++ s ∷ [] = sym (append_assoc before steps (s ∷ [])) in
    let same : lines_of_step rules (before ++ steps) s ≡ lines_of_step rules steps s =
    filter_map_agree (λ (rule : Rule). option_map (exceed_text rule) (ended_by rule (rows_since rule (before ++ steps)) s))
    (λ (rule : Rule). option_map (exceed_text rule) (ended_by rule (rows_since rule steps) s)) rules
    (λ rule. ap (λ rows. option_map (exceed_text rule) (ended_by rule rows s)) (apart.rows rule)) in
    record {
      rows = λ rule. ap (rows_since rule) one ∙ rows_since-push rule (before ++ steps) s ∙ ap (λ rows. with_step rule rows s) (apart.rows rule)
          ∙ sym (rows_since-push rule steps s);
      lines = ap (exceedances rules) one ∙ exceedances-push rules (before ++ steps) s
          ∙ ap (λ xs. xs ++ lines_of_step rules (before ++ steps) s) apart.lines
          ∙ append_assoc (exceedances rules before) (exceedances rules steps) (lines_of_step rules (before ++ steps) s)
          ∙ ap (λ xs. exceedances rules before ++ (exceedances rules steps ++ xs)) same
          ∙ ap (λ xs. exceedances rules before ++ xs) (sym (exceedances-push rules steps s));
    }

apart_all : (rules : List Rule) (before steps more : List WatchStep) → IsApart rules before steps → IsApart rules before (steps ++ more)
apart_all rules before steps [] apart = subst (IsApart rules before) (sym (append-nil steps)) apart
apart_all rules before steps (s ∷ more) apart =
    subst (IsApart rules before) (append_assoc steps (s ∷ []) more) (apart_all rules before (steps ++ s ∷ []) more (apart_more rules before steps s apart))

-- where a stretch ends, the steps behind it end what they end by themselves
pub exceedances_apart : (rules : List Rule) (steps more : List WatchStep)
    → exceedances rules ((steps ++ ResetStep ∷ []) ++ more) ≡ exceedances rules (steps ++ ResetStep ∷ []) ++ exceedances rules more
exceedances_apart rules steps more = (apart_all rules (steps ++ ResetStep ∷ []) [] more (apart_none rules steps)).lines

-- a stretch without rows has no exceedances
none_in_none : (rules : List Rule) → exceedances rules (ResetStep ∷ []) ≡ []
unfolding rows_since hit_list hits_to
none_in_none rules =
    exceedances-push rules [] ResetStep
    ∙ ap (λ xs. xs ++ lines_of_step rules [] ResetStep) (no_lines rules)
    ∙ filter_map_agree (λ (rule : Rule). option_map (exceed_text rule) (ended_by rule (rows_since rule []) ResetStep)) nothing rules (λ rule. refl)
    ∙ filter_map_none rules

-- ---- the steps of a recording's bits

pub all_at : (p : ℕ → Bool) (a n : ℕ) → list_all p (range_with_len a n) ≡ true → (e : ℕ) → a ≤ e → e < a + n → p e ≡ true
all_at p a zero all e low high = absurd (omega arith)
all_at p a (suc n) all e low high =
    let parts = and_parts (p a) (list_all p (range_with_len (a + 1) n)) all in
    ⊎_elim
    (λ (later : a < e). all_at p (a + 1) n parts.1 e (omega arith) (omega arith))
    (λ (here : e ≤ a). let is : a ≡ e = omega arith in ap p (sym is) ∙ parts.0)
    (cases_lt a e)

module _ (t : TableRows) (records : List BusRecord) (range : IsInRange t) (sound : IsSound t) where
  recordable : IsRecordable t
  recordable = sound_recordable t range sound

  places : accepted_frames (stream_of t records) t.frame.words ≡ frame_places t.frame.words (whole_frames t records)
  places =
      let w = t.frame.words in
      let m = whole_frames t records in
      (frames_so_far t records recordable m (omega arith)).all
      ∙ ap (λ xs. frame_places w m ++ xs) (accepted_none (stream_of t records) w (frame_place w m) (none_behind t records recordable))
      ∙ append-nil (frame_places w m)

  listed : 1 ≤ whole_frames t records → AreListed t records (stream_of t records) 0 0 (whole_frames t records)
  listed some = surviving_run_listed t records (stream_of t records) 0 0 (whole_frames t records) range sound
      (survives_itself t records (whole_frames t records) range sound some (omega arith))

  rows : (i : ℕ) → i < whole_frames t records → rows_at t (stream_of t records) (frame_place t.frame.words i) ≡ sampled_rows t records i
  rows i early =
      let w = t.frame.words in
      let at : 48 * w * i ≡ 0 + 48 * w * i = omega arith in
      let same : 0 + i ≡ i = omega arith in
      ap (rows_at t (stream_of t records)) at ∙ (listed (omega arith)).all_rows i early (omega arith) ∙ ap (sampled_rows t records) same

  -- frame k as it is read
  read_at : (n k : ℕ) → k < n → frame_at (map (frame_read (stream_of t records) t.frame.words) (frame_places t.frame.words n)) k
      ≡ frame_read (stream_of t records) t.frame.words (frame_place t.frame.words k)
  read_at n k early =
      let w = t.frame.words in
      let count : length (frame_places w n) ≡ n = length-map-range_with_len (frame_place w) 0 n in
      get_or-map (frame_read (stream_of t records) w) (frame_places w n) k 0 (read_frame false []) (omega arith)
      ∙ ap (frame_read (stream_of t records) w) (get_or-map-range_with_len (frame_place w) 0 n k k 0 early (omega arith))

  linked_in_a_row : (i : ℕ) → suc i < whole_frames t records →
      are_linked t.frame (frame_read (stream_of t records) t.frame.words (frame_place t.frame.words i))
      (frame_read (stream_of t records) t.frame.words (frame_place t.frame.words (suc i))) ≡ true
  unfolding are_joined
  linked_in_a_row i early =
      let w = t.frame.words in
      let b = stream_of t records in
      let m = whole_frames t records in
      let row = (listed (omega arith)).accepted in
      let run : length (frames_from w 0 m) ≡ m = length-map-range_with_len (λ k. 0 + 48 * w * k) 0 m in
      let all : length (frame_places w m) ≡ m = length-map-range_with_len (frame_place w) 0 m in
      let sizes : length row.before + m + length row.behind ≡ m = omega (
        arith,
        ap length (sym row.accepted ∙ places),
        length-append (row.before ++ frames_from w 0 m) row.behind,
        length-append row.before (frames_from w 0 m),
        run,
        all,
      ) in
      let links : list_all (λ e. are_linked t.frame (frame_at (map (frame_read b w) (accepted_frames b w)) (length row.before + (m - 1) - (e + 1)))
      (frame_at (map (frame_read b w) (accepted_frames b w)) (length row.before + (m - 1) - e))) (range_with_len 0 (m - 1))
      ≡ true = (and_parts _ _ row.joined).1 in
      let e = m - 1 - suc i in
      let link = all_at _ 0 (m - 1) links e (omega arith) (omega arith) in
      let earlier : length row.before + (m - 1) - (e + 1) ≡ i = omega (arith, sizes) in
      let later : length row.before + (m - 1) - e ≡ suc i = omega (arith, sizes) in
      let at : (k : ℕ) → k < m → frame_at (map (frame_read b w) (accepted_frames b w)) k ≡ frame_read b w (frame_place w k) = λ k low.
      ap (λ xs. frame_at (map (frame_read b w) xs) k) places ∙ read_at m k low in
      sym (ap (λ k. are_linked t.frame (frame_at (map (frame_read b w) (accepted_frames b w)) k)
      (frame_at (map (frame_read b w) (accepted_frames b w)) (length row.before + (m - 1) - e))) earlier
      ∙ ap (λ k. are_linked t.frame (frame_at (map (frame_read b w) (accepted_frames b w)) i) (frame_at (map (frame_read b w) (accepted_frames b w)) k)) later
      ∙ ap (λ r. are_linked t.frame r (frame_at (map (frame_read b w) (accepted_frames b w)) (suc i))) (at i (omega arith))
      ∙ ap (are_linked t.frame (frame_read b w (frame_place w i))) (at (suc i) early))
      ∙ link

  to_frame : (i : ℕ) → i < whole_frames t records → accepted_to (stream_of t records) t.frame.words (frame_place t.frame.words i)
      ≡ frame_places t.frame.words (i + 1)
  to_frame i early =
      let w = t.frame.words in
      let p = frame_place w i in
      accepted_to_next (stream_of t records) w p p (frame_places w i) (some_words t records recordable) (frames_so_far t records recordable i (omega arith))
      (next_frame t records recordable i early)
      ∙ sym (map-range_with_len_more (frame_place w) 0 i i (omega arith))

  is_linked : (i : ℕ) → i < whole_frames t records → is_frame_linked t (stream_of t records) (frame_place t.frame.words i)
      ≡ is_linked_at t.frame (map (frame_read (stream_of t records) t.frame.words) (frame_places t.frame.words (i + 1))) i
  unfolding is_frame_linked
  is_linked i early =
      let w = t.frame.words in
      let b = stream_of t records in
      let last : length (frame_places w (i + 1)) - 1 ≡ i = omega (arith, length-map-range_with_len (frame_place w) 0 (i + 1)) in
      ap (λ (xs : List ℕ). is_linked_at t.frame (map (frame_read b w) xs) (length xs - 1)) (to_frame i early)
      ∙ ap (is_linked_at t.frame (map (frame_read b w) (frame_places w (i + 1)))) last

  first_unlinked : 0 < whole_frames t records → is_frame_linked t (stream_of t records) (frame_place t.frame.words 0) ≡ false
  first_unlinked some = is_linked 0 some

  others_linked : (i : ℕ) → suc i < whole_frames t records → is_frame_linked t (stream_of t records) (frame_place t.frame.words (suc i)) ≡ true
  others_linked i early =
      let w = t.frame.words in
      let b = stream_of t records in
      is_linked (suc i) early
      ∙ ap (λ r. are_linked t.frame r (frame_at (map (frame_read b w) (frame_places w (suc i + 1))) (suc i))) (read_at (suc i + 1) i (omega arith))
      ∙ ap (are_linked t.frame (frame_read b w (frame_place w i))) (read_at (suc i + 1) (suc i) (omega arith))
      ∙ linked_in_a_row i early

  later_steps : (i : ℕ) → suc i < whole_frames t records → frame_steps t (stream_of t records) (frame_place t.frame.words (suc i))
      ≡ map RowStep (sampled_rows t records (suc i))
  later_steps i early =
      let b = stream_of t records in
      let p = frame_place t.frame.words (suc i) in
      ap (λ l. (if l then [] else ResetStep ∷ []) ++ map RowStep (rows_at t b p)) (others_linked i early)
      ∙ ap (map RowStep) (rows (suc i) early)

  steps_from : (i d : ℕ) → suc i + d ≡ whole_frames t records →
      flat_map (frame_steps t (stream_of t records)) (map (frame_place t.frame.words) (range_with_len (suc i) d))
      ≡ map RowStep (flat_map (sampled_rows t records) (range_with_len (suc i) d))
  steps_from i zero is = refl
  steps_from i (suc d) is =
      let b = stream_of t records in
      let w = t.frame.words in
      let next : suc i + 1 ≡ suc (suc i) = omega arith in
      ap (λ xs. xs ++ flat_map (frame_steps t b) (map (frame_place w) (range_with_len (suc i + 1) d))) (later_steps i (omega arith))
      ∙ ap (λ k. map RowStep (sampled_rows t records (suc i)) ++ flat_map (frame_steps t b) (map (frame_place w) (range_with_len k d))) next
      ∙ ap (λ xs. map RowStep (sampled_rows t records (suc i)) ++ xs) (steps_from (suc i) d (omega arith))
      ∙ sym (map-append RowStep (sampled_rows t records (suc i)) (flat_map (sampled_rows t records) (range_with_len (suc (suc i)) d)))
      ∙ ap (λ k. map RowStep (sampled_rows t records (suc i) ++ flat_map (sampled_rows t records) (range_with_len k d))) (sym next)

  first_steps : 0 < whole_frames t records → frame_steps t (stream_of t records) (frame_place t.frame.words 0)
      ≡ ResetStep ∷ map RowStep (sampled_rows t records 0)
  first_steps some =
      let b = stream_of t records in
      let p = frame_place t.frame.words 0 in
      ap (λ l. (if l then [] else ResetStep ∷ []) ++ map RowStep (rows_at t b p)) (first_unlinked some)
      ∙ ap (λ rs. ResetStep ∷ map RowStep rs) (rows 0 some)

  steps_of_frames : (m : ℕ) → whole_frames t records ≡ suc m →
      flat_map (frame_steps t (stream_of t records)) (frame_places t.frame.words (suc m))
      ≡ ResetStep ∷ map RowStep (flat_map (sampled_rows t records) (range_with_len 0 (suc m)))
  steps_of_frames m is =
      let b = stream_of t records in
      let w = t.frame.words in
      ap (λ xs. xs ++ flat_map (frame_steps t b) (map (frame_place w) (range_with_len 1 m))) (first_steps (omega arith))
      ∙ ap (λ xs. (ResetStep ∷ map RowStep (sampled_rows t records 0)) ++ xs) (steps_from 0 m (omega arith))
      ∙ ap (λ xs. ResetStep ∷ xs) (sym (map-append RowStep (sampled_rows t records 0) (flat_map (sampled_rows t records) (range_with_len 1 m))))

  -- the steps of a recording's bits: none, or the beginning of a stretch and its sampled rows
  pub steps_of_recording : ((steps_of_bits t (stream_of t records) ≡ []) × (all_sampled_rows t records ≡ []))
      ⊎ (steps_of_bits t (stream_of t records) ≡ ResetStep ∷ map RowStep (all_sampled_rows t records))
  unfolding steps_of_bits all_sampled_rows
  steps_of_recording =
      let b = stream_of t records in
      let w = t.frame.words in
      let by : (m : ℕ) → whole_frames t records ≡ m → ((flat_map (frame_steps t b) (frame_places w (whole_frames t records)) ≡ [])
      × (flat_map (sampled_rows t records) (range_with_len 0 (whole_frames t records)) ≡ []))
      ⊎ (flat_map (frame_steps t b) (frame_places w (whole_frames t records))
      ≡ ResetStep ∷ map RowStep (flat_map (sampled_rows t records) (range_with_len 0 (whole_frames t records)))) = steps_by in
      ⊎_elim
      (λ none. inl (ap (flat_map (frame_steps t b)) places ∙ none.0, none.1))
      (λ some. inr (ap (flat_map (frame_steps t b)) places ∙ some))
      (by (whole_frames t records) refl)
    where
      steps_by : (m : ℕ) → whole_frames t records ≡ m → ((flat_map (frame_steps t (stream_of t records)) (frame_places t.frame.words (whole_frames t records))
          ≡ [])
          × (flat_map (sampled_rows t records) (range_with_len 0 (whole_frames t records)) ≡ []))
          ⊎ (flat_map (frame_steps t (stream_of t records)) (frame_places t.frame.words (whole_frames t records))
          ≡ ResetStep ∷ map RowStep (flat_map (sampled_rows t records) (range_with_len 0 (whole_frames t records))))
      steps_by zero is = inl (
        ap (λ k. flat_map (frame_steps t (stream_of t records)) (frame_places t.frame.words k)) is,
        ap (λ k. flat_map (sampled_rows t records) (range_with_len 0 k)) is,
      )
      steps_by (suc m) is = inr (
          ap (λ k. flat_map (frame_steps t (stream_of t records)) (frame_places t.frame.words k)) is
          ∙ steps_of_frames m is
          ∙ ap (λ k. ResetStep ∷ map RowStep (flat_map (sampled_rows t records) (range_with_len 0 k))) (sym is)
          )

-- ---- the exceedances

-- behind the steps of earlier sessions
session_lines : (rules : List Rule) (front session : List WatchStep) (rows : List Row)
    → ((session ≡ []) × (rows ≡ [])) ⊎ (session ≡ ResetStep ∷ map RowStep rows)
    → exceedances rules ((front ++ session) ++ ResetStep ∷ []) ≡ exceedances rules (front ++ ResetStep ∷ []) ++ exceedances rules
    (map RowStep rows ++ ResetStep ∷ [])
session_lines rules front session rows (inl none) =
    ap (λ xs. exceedances rules ((front ++ xs) ++ ResetStep ∷ [])) none.0
    ∙ ap (λ xs. exceedances rules (xs ++ ResetStep ∷ [])) (append-nil front)
    ∙ sym (append-nil (exceedances rules (front ++ ResetStep ∷ [])))
    ∙ ap (λ xs. exceedances rules (front ++ ResetStep ∷ []) ++ xs) (sym (none_in_none rules))
    ∙ ap (λ rs. exceedances rules (front ++ ResetStep ∷ []) ++ exceedances rules (map RowStep rs ++ ResetStep ∷ [])) (sym none.1)
session_lines rules front session rows (inr some) =
    let cut : (front ++ (ResetStep ∷ map RowStep rows)) ++ ResetStep ∷ [] ≡ (front ++ ResetStep ∷ []) ++ (map RowStep rows ++ ResetStep ∷ []) =
    append_assoc front (ResetStep ∷ map RowStep rows) (ResetStep ∷ []) ∙ sym (append_assoc front (ResetStep ∷ []) (map RowStep rows ++ ResetStep ∷ [])) in
    ap (λ xs. exceedances rules ((front ++ xs) ++ ResetStep ∷ [])) some
    ∙ ap (exceedances rules) cut
    ∙ exceedances_apart rules front (map RowStep rows ++ ResetStep ∷ [])

pub exceeds_sampled : (rules : List Rule) (t : TableRows) (records : List BusRecord) (blocks session : List Block) (earlier : List (List Block))
    → IsInRange t → IsSound t → sessions_of blocks ≡ earlier ++ session ∷ [] → payloads_of session ≡ stream_of t records
    → exceedances_of_blocks rules t 2 blocks ≡ exceedances_of_sessions rules t earlier ++ sampled_exceedances rules t records
unfolding exceedances_of_blocks steps_of_blocks
exceeds_sampled rules t records blocks session earlier range sound cut bytes =
    let front = flat_map (part_steps t) earlier in
    let last : part_steps t session ≡ steps_of_bits t (stream_of t records) = ap (steps_of_bits t) bytes in
    let steps : flat_map (part_steps t) (sessions_of blocks) ≡ front ++ steps_of_bits t (stream_of t records) =
    ap (flat_map (part_steps t)) cut ∙ flat_map-append (part_steps t) earlier (session ∷ [])
    ∙ ap (λ xs. front ++ xs) (append-nil (part_steps t session) ∙ last) in
    ap (λ xs. text_of_lines (exceedances rules (xs ++ ResetStep ∷ []))) steps
    ∙ ap text_of_lines (session_lines rules front (steps_of_bits t (stream_of t records)) (all_sampled_rows t records)
    (steps_of_recording t records range sound))
    ∙ flat_map-append (λ (line : List ℕ). line) (exceedances rules (front ++ ResetStep ∷ []))
    (exceedances rules (map RowStep (all_sampled_rows t records) ++ ResetStep ∷ []))

-- where an image holds a recording
pub exceeds_held : (rules : List Rule) (past : RecordingPast) (run : List Block) (image : List ℕ) → IsInRange past.table → IsSound past.table
    → IsInLimits past.header → HoldsRecording past run image → (earlier : List (List Block))
    × (sessions_of (recovered_run past.header image) ≡ earlier ++ all_blocks past ∷ [])
    × (exceedances_of_blocks rules past.table 2 (recovered_run past.header image)
    ≡ exceedances_of_sessions rules past.table earlier ++ sampled_exceedances rules past.table past.records)
exceeds_held rules past run image range sound limits holds =
    let back = side_lists_back past run image range sound limits holds in (
      back.last.0,
      back.last.1,
      exceeds_sampled rules past.table past.records (recovered_run past.header image) (all_blocks past) back.last.0 range sound back.last.1
          (payloads_of_all past limits),
    )
