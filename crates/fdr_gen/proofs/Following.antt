-- The records of a generated trace may follow one another.
use Rattle.std.proofs.Common.{◌≡◌, ℕ, zero, suc, ◌+◌, ◌*◌, ◌<◌, ◌≤◌, true, false, List, [], ◌∷◌, ◌++◌, Some, length, take, map, refl, sym, ap, subst, ◌∙◌}
use Rattle.std.proofs.Common.{append_assoc, arith}
use Rattle.std.specs.Prelude.{◌||◌}
use Rattle.std.specs.List.{All, slice_get, enumerate_from, flat_map, range_with_len}
use Rattle.std.proofs.lemmas.List.{take-append-le, length_push}
use Rattle.std.proofs.lemmas.List.Elements.{All-nil, All-cons, All-head, All-tail, All-append, All-take, All-map, All-weaker}
use Rattle.std.proofs.lemmas.List.Folds.{list_any-append, list_any_none}
use Rattle.std.proofs.lemmas.Option.{slice_get_within, get_or_from_slice_get}
use Rattle.fdr_lists.proofs.Pieces.{All-flat_map-range}
use Rattle.fdr_bus.specs.declared.BusRecord.{BusRecord}
use Rattle.fdr_bus.specs.Records.{has_end, is_end, last_time, time_after}
use Rattle.fdr_table.specs.Rows.{TableRows}
use Rattle.fdr_gen.specs.Draws.{drawn}
use Rattle.fdr_gen.specs.Trace.{Sender, sender_of, word_record, end_record, second_records, words_of, generated_trace, MayFollow, most_frames}
use Rattle.fdr_bus.proofs.TraceLemmas.{Rises}

rises_at : (before : ℕ) (rs : List BusRecord) (n : ℕ) (r : BusRecord) → Rises before rs → slice_get rs n ≡ Some r
    → time_after before (take n rs) ≤ r.time
rises_at before [] n r rises got = absurd (cc)
rises_at before (q ∷ rs) zero r rises got =
    let e : q ≡ r = (cc) in subst (λ (x : BusRecord). before ≤ x.time) e rises.0
rises_at before (q ∷ rs) (suc n) r rises got = rises_at q.time rs n r rises.1 got

-- records of one time
rises_level : (before top : ℕ) (rs others : List BusRecord) → All (λ (r : BusRecord). r.time ≡ top) rs → before ≤ top
    → ((b : ℕ) → b ≤ top → Rises b others) → Rises before (rs ++ others)
rises_level before top [] others all low next = next before low
rises_level before top (r ∷ rs) others all low next =
    let time : r.time ≡ top = All-head (λ (r : BusRecord). r.time ≡ top) r rs all in
    let up : before ≤ r.time = omega arith in
    let still : r.time ≤ top = omega arith in
    (up, rises_level r.time top rs others (All-tail (λ (r : BusRecord). r.time ≡ top) r rs all) still next)

rises_seconds : (f : ℕ → List BusRecord) (a n before : ℕ) (others : List BusRecord)
    → ((x : ℕ) → All (λ (r : BusRecord). r.time ≡ x * 1000000) (f x)) → before ≤ a * 1000000
    → ((b : ℕ) → b ≤ (a + n) * 1000000 → Rises b others) → Rises before (flat_map f (range_with_len a n) ++ others)
rises_seconds f a zero before others times low next = next before (omega arith)
rises_seconds f a (suc n) before others times low next =
    let later : (b : ℕ) → b ≤ (a + 1 + n) * 1000000 → Rises b others = λ b h. next b (omega arith) in
    subst (Rises before) (sym (append_assoc (f a) (flat_map f (range_with_len (a + 1) n)) others))
    (rises_level before (a * 1000000) (f a) (flat_map f (range_with_len (a + 1) n) ++ others) (times a) low
    (λ b h. rises_seconds f (a + 1) n b others times (omega arith) later))

All-any : {X : Type 0} (P : X → Type 0) (xs : List X) → ((x : X) → P x) → All P xs
All-any P xs h = λ k d _. h _

second_times : (senders : List Sender) (seed second : ℕ)
    → All (λ (r : BusRecord). r.time ≡ second * 1000000) (second_records senders seed second)
second_times senders seed second =
    let made : ℕ × Sender → BusRecord = λ e. word_record second e.1 (drawn seed (second * length senders + e.0)) in
    All-map (λ (r : BusRecord). r.time ≡ second * 1000000) made (enumerate_from 0 senders)
    (All-any (λ e. (made e).time ≡ second * 1000000) (enumerate_from 0 senders) (λ e. refl))

-- each word is in time, and none is an end
words_in_time : (senders : List Sender) (seed frames : ℕ) → frames ≤ most_frames
    → All (λ (r : BusRecord). r.time ≤ last_time) (words_of senders seed frames)
words_in_time senders seed frames few =
    All-flat_map-range (λ (r : BusRecord). r.time ≤ last_time) (second_records senders seed) 0 (4 * frames)
    (λ second from to. All-weaker (λ (r : BusRecord). r.time ≡ second * 1000000) (λ (r : BusRecord). r.time ≤ last_time)
    (λ r e. omega arith) (second_records senders seed second) (second_times senders seed second))

no_end : (senders : List Sender) (seed frames : ℕ) → All (λ (r : BusRecord). is_end r ≡ false) (words_of senders seed frames)
no_end senders seed frames =
    All-flat_map-range (λ (r : BusRecord). is_end r ≡ false) (second_records senders seed) 0 (4 * frames)
    (λ second from to.
    let made : ℕ × Sender → BusRecord = λ e. word_record second e.1 (drawn seed (second * length senders + e.0)) in
    All-map (λ (r : BusRecord). is_end r ≡ false) made (enumerate_from 0 senders)
    (All-any (λ e. is_end (made e) ≡ false) (enumerate_from 0 senders) (λ e. refl)))

words_rise : (senders : List Sender) (seed frames : ℕ) → Rises 0 (words_of senders seed frames ++ end_record frames ∷ [])
words_rise senders seed frames =
    rises_seconds (second_records senders seed) 0 (4 * frames) 0 (end_record frames ∷ []) (second_times senders seed) (omega arith)
    (λ b h. let le : b ≤ 4000000 * frames = omega arith in (le, tt))

-- no record of a generated trace comes before the one before it
pub trace_rises : (t : TableRows) (seed frames : ℕ) → Rises 0 (generated_trace t seed frames)
unfolding generated_trace
trace_rises t seed frames = words_rise (map sender_of t.params) seed frames

pub trace_follows : (t : TableRows) (seed frames n : ℕ) (r : BusRecord) → frames ≤ most_frames
    → slice_get (generated_trace t seed frames) n ≡ Some r → MayFollow (take n (generated_trace t seed frames)) r
unfolding generated_trace
trace_follows t seed frames n r few got =
    let senders = map sender_of t.params in
    let words = words_of senders seed frames in
    let all = words ++ end_record frames ∷ [] in
    let inside : n < length all = slice_get_within all n r got in
    let most : n ≤ length words = omega (arith, length_push words (end_record frames)) in
    let late : (end_record frames).time ≤ last_time = omega arith in
    let in_time : All (λ (q : BusRecord). q.time ≤ last_time) all =
    All-append (λ (q : BusRecord). q.time ≤ last_time) words (end_record frames ∷ []) (words_in_time senders seed frames few)
    (All-cons (λ (q : BusRecord). q.time ≤ last_time) (end_record frames) [] late (All-nil (λ (q : BusRecord). q.time ≤ last_time))) in
    record {
      order = rises_at 0 all n r (words_rise senders seed frames) got;
      in_time = subst (λ (q : BusRecord). q.time ≤ last_time) (get_or_from_slice_get all n r r got) (in_time n r inside);
      unended = ap has_end (take-append-le n words (end_record frames ∷ []) most)
          ∙ list_any_none is_end (take n words) (All-take (λ (q : BusRecord). is_end q ≡ false) n words (no_end senders seed frames));
    }

pub trace_ends : (t : TableRows) (seed frames : ℕ) → has_end (generated_trace t seed frames) ≡ true
unfolding generated_trace
trace_ends t seed frames =
    let words = words_of (map sender_of t.params) seed frames in
    list_any-append is_end words (end_record frames ∷ [])
    ∙ ap (λ b. b || true) (list_any_none is_end words (no_end (map sender_of t.params) seed frames))
