-- The records of a generated trace by their numbers.
use Rattle.std.proofs.Common.{◌≡◌, ℕ, zero, suc, ◌+◌, ◌*◌, ◌<◌, ◌≤◌, Bool, true, false, List, [], ◌∷◌, ◌++◌, Some, length, get_or, map, refl, sym, ap, ◌∙◌}
use Rattle.std.proofs.Common.{arith}
use Rattle.std.specs.Prelude.{if◌then◌else◌, option_map}
use Rattle.std.specs.List.{slice_get, enumerate_from, flat_map, range_with_len}
use Rattle.std.proofs.lemmas.List.{length-append, length-map, length_push, get_or_append_left, get_or-append-add, get_or_push}
use Rattle.std.proofs.lemmas.List.FromFn.{length-enumerate_from, get_or-enumerate_from}
use Rattle.std.proofs.lemmas.Option.{slice_get-get_or, slice_get-map, slice_get_within, get_or_from_slice_get}
use Rattle.fdr_bus.specs.declared.BusRecord.{BusRecord}
use Rattle.fdr_bus.specs.declared.RecordKind.TheVariants.{Word, End}
use Rattle.fdr_table.specs.Rows.{TableRows}
use Rattle.fdr_gen.specs.Draws.{drawn, next_state, state_after, upper_half}
use Rattle.fdr_gen.specs.Trace.{Sender, sender_of, word_record, end_record, second_records, words_of, bus_word_of, generated_trace}
use Rattle.fdr_gen.specs.Past.{GeneratorPast, GeneratorKept, IsGeneratorKept, RepresentsGenerator, words_given, generator_with_record}
use Rattle.std.proofs.Math.Arith.{digits_lt}

-- records by their fields
abbrev pub record_end : ℕ → BusRecord
record_end time = record { kind = End; bus = 0; word = 0; time = time }

abbrev pub record_word : ℕ → ℕ → ℕ → BusRecord
record_word bus word time = record { kind = Word; bus = bus; word = word; time = time }

-- lists of one length, joined
length-pieces : {A : Type 0} (f : ℕ → List A) (p : ℕ) → ((x : ℕ) → length (f x) ≡ p) → (a n : ℕ)
    → length (flat_map f (range_with_len a n)) ≡ n * p
length-pieces f p each a zero = let e : 0 ≡ 0 * p = omega arith in e
length-pieces f p each a (suc n) =
    omega (arith, length-append (f a) (flat_map f (range_with_len (a + 1) n)), each a, length-pieces f p each (a + 1) n)

get_or-pieces : {A : Type 0} (f : ℕ → List A) (p : ℕ) → ((x : ℕ) → length (f x) ≡ p) → (a n j i : ℕ) (d : A)
    → j < n → i < p → get_or (flat_map f (range_with_len a n)) (j * p + i) d ≡ get_or (f (a + j)) i d
get_or-pieces f p each a zero j i d low inside = absurd (omega arith)
get_or-pieces f p each a (suc n) zero i d low inside =
    let at : 0 * p + i ≡ i = omega arith in
    let here : a ≡ a + 0 = omega arith in
    let short : i < length (f a) = omega (arith, each a) in
    let rest = flat_map f (range_with_len (a + 1) n) in
    ap (λ k. get_or (f a ++ rest) k d) at ∙ get_or_append_left (f a) rest d i short ∙ ap (λ x. get_or (f x) i d) here
get_or-pieces f p each a (suc n) (suc j) i d low inside =
    let at : suc j * p + i ≡ length (f a) + (j * p + i) = omega (arith, each a) in
    let there : a + 1 + j ≡ a + suc j = omega arith in
    let rest = flat_map f (range_with_len (a + 1) n) in
    ap (λ k. get_or (f a ++ rest) k d) at ∙ get_or-append-add (f a) rest (j * p + i) d
    ∙ get_or-pieces f p each (a + 1) n j i d (omega arith) inside ∙ ap (λ x. get_or (f x) i d) there

length-second : (senders : List Sender) (seed second : ℕ) → length (second_records senders seed second) ≡ length senders
length-second senders seed second = length-map _ _ ∙ length-enumerate_from 0 senders

length-words : (senders : List Sender) (seed frames : ℕ) → length (words_of senders seed frames) ≡ 4 * frames * length senders
length-words senders seed frames =
    length-pieces (second_records senders seed) (length senders) (length-second senders seed) 0 (4 * frames)

-- the record of a sender in its second
second_at : (senders : List Sender) (seed second i : ℕ) (s : Sender) → slice_get senders i ≡ Some s
    → slice_get (second_records senders seed second) i ≡ Some (word_record second s (drawn seed (second * length senders + i)))
second_at senders seed second i s got =
    let record_of : ℕ × Sender → BusRecord = λ e. word_record second e.1 (drawn seed (second * length senders + e.0)) in
    let inside : i < length senders = slice_get_within senders i s got in
    let within : i < length (enumerate_from 0 senders) = omega (arith, length-enumerate_from 0 senders) in
    let first : 0 + i ≡ i = omega arith in
    slice_get-map record_of (enumerate_from 0 senders) i
    ∙ ap (option_map record_of) (slice_get-get_or (enumerate_from 0 senders) i (0, s) within)
    ∙ ap (λ e. Some (record_of e)) (get_or-enumerate_from 0 senders i (0, s) inside)
    ∙ ap (λ n. Some (record_of (n, get_or senders i s))) first
    ∙ ap (λ x. Some (record_of (i, x))) (get_or_from_slice_get senders i s s got)

word_at : (senders : List Sender) (seed frames j i : ℕ) (s : Sender) → j < 4 * frames → slice_get senders i ≡ Some s
    → slice_get (words_of senders seed frames ++ end_record frames ∷ []) (j * length senders + i)
    ≡ Some (word_record j s (drawn seed (j * length senders + i)))
word_at senders seed frames j i s low got =
    let inside : i < length senders = slice_get_within senders i s got in
    let k = j * length senders + i in
    let r = word_record j s (drawn seed k) in
    let words = words_of senders seed frames in
    let within : k < length words = omega (arith, length-words senders seed frames, digits_lt low inside) in
    let whole : k < length (words ++ end_record frames ∷ []) = omega (arith, length_push words (end_record frames)) in
    let first : 0 + j ≡ j = omega arith in
    slice_get-get_or (words ++ end_record frames ∷ []) k r whole
    ∙ ap (λ x. Some x) (get_or_append_left words (end_record frames ∷ []) r k within
    ∙ get_or-pieces (second_records senders seed) (length senders) (length-second senders seed) 0 (4 * frames) j i r low inside
    ∙ ap (λ n. get_or (second_records senders seed n) i r) first
    ∙ get_or_from_slice_get (second_records senders seed j) i r r (second_at senders seed j i s got))

pub length-trace : (t : TableRows) (seed frames : ℕ)
    → length (generated_trace t seed frames) ≡ 4 * frames * length (map sender_of t.params) + 1
unfolding generated_trace
length-trace t seed frames =
    omega (arith, length_push (words_of (map sender_of t.params) seed frames) (end_record frames), length-words (map sender_of t.params) seed frames)

trace_end : (t : TableRows) (seed frames : ℕ)
    → slice_get (generated_trace t seed frames) (4 * frames * length (map sender_of t.params)) ≡ Some (end_record frames)
unfolding generated_trace
trace_end t seed frames =
    let words = words_of (map sender_of t.params) seed frames in
    let k = 4 * frames * length (map sender_of t.params) in
    let all : length words ≡ k = length-words (map sender_of t.params) seed frames in
    let whole : k < length (words ++ end_record frames ∷ []) = omega (arith, length_push words (end_record frames)) in
    slice_get-get_or (words ++ end_record frames ∷ []) k (end_record frames) whole
    ∙ ap (λ x. Some x) (get_or_push words (end_record frames) (end_record frames) k all)

-- 1 where the end was given
abbrev ends : Bool → ℕ
ends b = if b then 1 else 0

-- a value that stands and has words to give
pub not_ended : (k : GeneratorKept) → IsGeneratorKept k → k.second < k.seconds → k.ended ≡ false
not_ended k kept low =
    elim k.ended as (λ b. (b ≡ true → k.second ≡ k.seconds) → b ≡ false) [
      | true ↦ (λ h. let e : k.second ≡ k.seconds = h refl in absurd (omega arith))
      | false ↦ (λ h. refl)
    ] kept.ended

given_words : (k : GeneratorKept) (past : GeneratorPast) → RepresentsGenerator k past → k.ended ≡ false → past.given ≡ words_given k
given_words k past st on =
    let none : ends k.ended ≡ 0 = ap ends on in
    omega (arith, st.given)

pub next_record : (k : GeneratorKept) (past : GeneratorPast) (s : Sender) → RepresentsGenerator k past → IsGeneratorKept k → k.second < k.seconds
    → slice_get k.senders k.place ≡ Some s
    → slice_get (generated_trace past.table past.seed past.frames) past.given
    ≡ Some (word_record k.second s (upper_half (next_state k.state)))
unfolding generated_trace
next_record k past s st kept low got =
    let at = given_words k past st (not_ended k kept low) in
    let frames = past.frames in
    let trace : List Sender → List BusRecord = λ senders. words_of senders past.seed frames ++ end_record frames ∷ [] in
    let early : k.second < 4 * frames = omega (arith, st.seconds) in
    ap (λ n. slice_get (trace (map sender_of past.table.params)) n) at
    ∙ ap (λ senders. slice_get (trace senders) (words_given k)) (sym st.senders)
    ∙ word_at k.senders past.seed frames k.second k.place s early got
    ∙ ap (λ x. Some (word_record k.second s (upper_half (next_state x)))) (sym st.state)

pub next_stands : (k after : GeneratorKept) (past : GeneratorPast) → RepresentsGenerator k past → IsGeneratorKept k → k.second < k.seconds
    → after.senders ≡ k.senders → after.seconds ≡ k.seconds → after.ended ≡ k.ended → after.state ≡ next_state k.state
    → words_given after ≡ words_given k + 1 → RepresentsGenerator after (generator_with_record past)
next_stands k after past st kept low senders seconds ended state more =
    let one : suc (words_given k) ≡ words_given after = omega arith in
    let same : ends after.ended ≡ ends k.ended = ap ends ended in
    record {
      senders = senders ∙ st.senders;
      seconds = seconds ∙ st.seconds;
      state = state ∙ ap next_state st.state ∙ ap (state_after past.seed) one;
      given = omega (arith, st.given, same, more);
    }

-- a value that gave all words
all_words : (k : GeneratorKept) (past : GeneratorPast) → RepresentsGenerator k past → IsGeneratorKept k → k.seconds ≤ k.second
    → words_given k ≡ 4 * past.frames * length (map sender_of past.table.params)
all_words k past st kept done =
    let last : k.second ≡ k.seconds = omega (arith, kept.second) in
    let none : k.place ≡ 0 = kept.first_place last in
    let all : k.second ≡ 4 * past.frames = last ∙ st.seconds in
    let words : k.second * length k.senders ≡ 4 * past.frames * length (map sender_of past.table.params) =
    ap (λ n. n * length k.senders) all ∙ ap (λ (xs : List Sender). 4 * past.frames * length xs) st.senders in
    omega arith

pub at_end : (k : GeneratorKept) (past : GeneratorPast) → RepresentsGenerator k past → IsGeneratorKept k → k.seconds ≤ k.second → k.ended ≡ false
    → slice_get (generated_trace past.table past.seed past.frames) past.given ≡ Some (end_record past.frames)
at_end k past st kept done on =
    ap (slice_get (generated_trace past.table past.seed past.frames)) (given_words k past st on ∙ all_words k past st kept done)
    ∙ trace_end past.table past.seed past.frames

pub past_end : (k : GeneratorKept) (past : GeneratorPast) → RepresentsGenerator k past → IsGeneratorKept k → k.seconds ≤ k.second → k.ended ≡ true
    → past.given ≡ length (generated_trace past.table past.seed past.frames)
past_end k past st kept done off =
    let one : ends k.ended ≡ 1 = ap ends off in
    omega (arith, st.given, all_words k past st kept done, length-trace past.table past.seed past.frames)

-- the end record, by its time
pub end_is : (k : GeneratorKept) (past : GeneratorPast) (time : ℕ) → RepresentsGenerator k past → time ≡ 1000000 * k.seconds
    → Some (record_end time) ≡ Some (end_record past.frames)
end_is k past time st is =
    let same : time ≡ 4000000 * past.frames = omega (arith, st.seconds) in ap (λ n. Some (record_end n)) same

-- a word record, by its fields
pub record_is : (second number bus word time : ℕ) (s : Sender) → bus ≡ s.bus → word ≡ bus_word_of s number → time ≡ second * 1000000
    → Some (word_record second s number) ≡ Some (record_word bus word time)
record_is second number bus word time s is_bus is_word is_time =
    ap (λ b. Some (record_word b (bus_word_of s number) (second * 1000000))) (sym is_bus)
    ∙ ap (λ w. Some (record_word bus w (second * 1000000))) (sym is_word)
    ∙ ap (λ n. Some (record_word bus word n)) (sym is_time)

-- the record of the next word, by what was read of its sender
pub gives_record : (k : GeneratorKept) (past : GeneratorPast) (s : Sender) (state bus word time : ℕ) → RepresentsGenerator k past → IsGeneratorKept k
    → k.second < k.seconds → s ≡ get_or k.senders k.place s → state ≡ next_state k.state → bus ≡ s.bus
    → word ≡ bus_word_of s (upper_half state) → time ≡ 1000000 * k.second
    → slice_get (generated_trace past.table past.seed past.frames) past.given ≡ Some (record_word bus word time)
gives_record k past s state bus word time st kept low at is_state is_bus is_word is_time =
    let got : slice_get k.senders k.place ≡ Some s =
    slice_get-get_or k.senders k.place s (kept.place low) ∙ ap (λ x. Some x) (sym at) in
    let number : word ≡ bus_word_of s (upper_half (next_state k.state)) = is_word ∙ ap (λ x. bus_word_of s (upper_half x)) is_state in
    next_record k past s st kept low got
    ∙ record_is k.second (upper_half (next_state k.state)) bus word time s is_bus number (omega arith)

-- the value after a word within a second, and after the last word of one
pub stands_within : (k : GeneratorKept) (past : GeneratorPast) (state : ℕ) → RepresentsGenerator k past → IsGeneratorKept k → k.second < k.seconds
    → state ≡ next_state k.state → RepresentsGenerator (record k { place = k.place + 1; state = state }) (generator_with_record past)
stands_within k past state st kept low is_state =
    next_stands k (record k { place = k.place + 1; state = state }) past st kept low refl refl refl is_state (omega arith)

pub stands_later : (k : GeneratorKept) (past : GeneratorPast) (state : ℕ) → RepresentsGenerator k past → IsGeneratorKept k → k.second < k.seconds
    → length k.senders ≤ k.place + 1 → state ≡ next_state k.state
    → RepresentsGenerator (record k { second = k.second + 1; place = 0; state = state }) (generator_with_record past)
stands_later k past state st kept low last is_state =
    let whole : length k.senders ≡ k.place + 1 = omega (arith, kept.place low) in
    let more : (k.second + 1) * length k.senders + 0 ≡ k.second * length k.senders + k.place + 1 = omega arith in
    next_stands k (record k { second = k.second + 1; place = 0; state = state }) past st kept low refl refl refl is_state more
