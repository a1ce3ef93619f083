-- A layout's flat lists, made of a table's samples.
use Rattle.std.proofs.Common.{◌≡◌, ℕ, ◌+◌, ◌-◌, ◌*◌, ◌/◌, ◌<◌, ◌≤◌, ◌^◌, Bool, true, false, ◌==◌, cond, List, [], ◌∷◌, ◌++◌, Option, Some, None, map, max}
use Rattle.std.proofs.Common.{length, get_or, take}
use Rattle.std.proofs.Common.{refl, sym, ap, subst, ◌∙◌, zero, suc, zero-add, eqb-true, arith}
use Rattle.std.specs.Option.{option_map, option_map_or}
use Rattle.std.specs.List.{All, filter, filter_map, flat_map, find, fold, list_any, range_with_len, enumerate_from, slice_get, cons_option}
use Rattle.std.proofs.lemmas.Bool.{eq-eqb}
use Rattle.std.proofs.lemmas.List.{length-map, length-take-le, take_more, take_all}
use Rattle.std.proofs.lemmas.List.Elements.{All-head, All-tail, All-nil, All-cons, All-filter, All-map}
use Rattle.std.proofs.lemmas.List.FromFn.{fill_by_all, length-map-range_with_len, get_or-map-range_with_len}
use Rattle.std.proofs.lemmas.Option.{slice_get-get_or, get_or_from_slice_get, slice_get-map, slice_get_within}
use Rattle.std.proofs.Math.Nat.{mul-le-mul_left}
use Rattle.fdr_table.specs.Rows.{ParamRow, PlaceRow, TableRows}
use Rattle.fdr_check.specs.Occurrences.{frame_bits, Occurrence, part_occurrences}
use Rattle.fdr_check.specs.Soundness.{IsSound}
use Rattle.fdr_lists.proofs.Ranges.{All-range, map-range-agree}
use Rattle.fdr_lists.proofs.Filters.{filter_map_fewer, map-agree}
use Rattle.fdr_lists.proofs.Numbered.{numbered_stand, slice_get_some}
use Rattle.fdr_lists.proofs.Pieces.{All-flat_map, All-flat_map-range}
use Rattle.fdr_layout.specs.declared.flat.FlatLists.{FlatLists}
use Rattle.fdr_layout.specs.declared.parts.Sample.{Sample as ListedSample}
use Rattle.fdr_layout.specs.Flat.{segment, segments}
use Rattle.fdr_layout.specs.Listed.{numbered_parts, IsListedSample}
use Rattle.fdr_layout.specs.LayoutView.{parts_numbered, listed_sample, sample_numbered, laid, IsKept}
use Rattle.fdr_layout.specs.Samples.{carrier_of, Part, part_at, parts_of, Sample, samples_of, samples, first_at, last_at, ending_in}
use Rattle.fdr_layout.specs.SlotParts.{SlotPart, parts_of_sample, parts_among, parts_at, parts_of_slot, parts_in, Laid, laid_of, IsLaid, plain_parts}
use Rattle.fdr_layout.proofs.ByLastPart.{ending_at, ending_among}
use Rattle.fdr_layout.specs.Drafts.{listed, part_starts, numbers_by_bit, starts_by_slot, picked, last_bits, lowest_bits, AreFlatLists}
use Rattle.fdr_check.proofs.Stretches.{flat_map_agree, flat_map-range_more}
use Rattle.fdr_layout.proofs.Lists.{flat_map_twelves}
use Rattle.fdr_layout.proofs.Bits.{picked_by_bit}
use Rattle.fdr_layout.proofs.Carrying.{part_within}
use Rattle.fdr_layout.proofs.Drafting.{plain_again, length-enumerate, parts_among_push}
use Rattle.fdr_layout.proofs.Few.{ending_few, samples_few}
use Rattle.fdr_layout.proofs.Flats.{ends, ends_of, ends_agree, segment_is, segments_are, starts_are, map-flat_map, flat_map_chunks}
use Rattle.fdr_layout.proofs.Flats.{any_in_piece, any_kept, find_known, find-map}
use Rattle.fdr_layout.proofs.SlotLemmas.{slots_numbers}

-- ---- the parts of the samples of a table

-- what holds of the parts of each of these samples
parts_hold : (P : Sample → Type 0) (t : TableRows) → ((n i : ℕ) → P (record { param = n; index = i; parts = parts_of t.frame.words t.places n i }))
    → All P (samples t)
unfolding samples samples_of
parts_hold P t each =
    All-flat_map P (λ (e : ℕ × ParamRow). samples_of t.frame.words t.places e.0 e.1.rate) (enumerate_from 0 t.params)
    (λ k d l. let e = get_or (enumerate_from 0 t.params) k d in
    All-map P (λ i. record { param = e.0; index = i; parts = parts_of t.frame.words t.places e.0 i }) (range_with_len 0 e.1.rate)
    (λ j c m. each e.0 (get_or (range_with_len 0 e.1.rate) j c)))

kept_option : {Y : Type 0} (P : Y → Type 0) (o : Option Y) (ys : List Y) → ((y : Y) → o ≡ Some y → P y) → All P ys → All P (cons_option o ys)
kept_option P None ys here all = all
kept_option P (Some y) ys here all = All-cons P y ys (here y refl) all

all_made : {X Y : Type 0} (P : Y → Type 0) (h : X → Option Y) (xs : List X) → ((x : X) (y : Y) → h x ≡ Some y → P y) → All P (filter_map h xs)
all_made P h [] each = All-nil P
all_made P h (x ∷ xs) each = kept_option P (h x) (filter_map h xs) (each x) (all_made P h xs each)

made_from : (o : Option Occurrence) (shift : ℕ) (p : Part) → option_map (λ (q : Occurrence). record { at = q.at; width = q.width; shift = shift }) o ≡ Some p
    → (q : Occurrence) × (o ≡ Some q) × (p.at ≡ q.at)
made_from None shift p e = absurd (cc)
made_from (Some q) shift p e = (q, refl, sym (ap (λ (r : Option Part). option_map_or (λ (x : Part). x.at) r 0) e))

parts_within : (w : ℕ) (places : List PlaceRow) (n i : ℕ) → All (λ (p : Part). p.at < 768 * w) (parts_of w places n i)
unfolding parts_of
parts_within w places n i =
    all_made (λ (p : Part). p.at < 768 * w) (λ part. part_at i (carrier_of w places n part)) (range_with_len 1 4)
    (λ part p e.
    let os = part_occurrences w places n part in
    let q = made_from (slice_get os i) (carrier_of w places n part).shift p e in
    let same = get_or_from_slice_get os i q.0 q.0 q.1 in
    let below = part_within w places n part i q.0 (slice_get_within os i q.0 q.1) in
    omega (arith, below, ap (λ (o : Occurrence). o.at) same, q.2))

parts_four : (w : ℕ) (places : List PlaceRow) (n i : ℕ) → length (parts_of w places n i) ≤ 4
unfolding parts_of
parts_four w places n i = filter_map_fewer (λ part. part_at i (carrier_of w places n part)) (range_with_len 1 4)

samples_within : (t : TableRows) → All (λ (s : Sample). All (λ (p : Part). p.at < 768 * t.frame.words) s.parts) (samples t)
samples_within t =
    parts_hold (λ (s : Sample). All (λ (p : Part). p.at < 768 * t.frame.words) s.parts) t (λ n i. parts_within t.frame.words t.places n i)

pub samples_four : (t : TableRows) → All (λ (s : Sample). length s.parts ≤ 4) (samples t)
samples_four t = parts_hold (λ (s : Sample). length s.parts ≤ 4) t (λ n i. parts_four t.frame.words t.places n i)

latest_below : (m at : ℕ) (parts : List Part) → at < m → All (λ (p : Part). p.at < m) parts → fold (λ a (p : Part). max a p.at) at parts < m
latest_below m at [] here all = here
latest_below m at (p ∷ ps) here all =
    let first = All-head (λ (q : Part). q.at < m) p ps all in
    latest_below m (max at p.at) ps (omega arith) (All-tail (λ (q : Part). q.at < m) p ps all)

last_below : (m : ℕ) (parts : List Part) → 0 < m → All (λ (p : Part). p.at < m) parts → last_at parts < m
unfolding last_at
last_below m parts some all = latest_below m 0 parts some all

pub lasts_within : (t : TableRows) (lasts : List ℕ) → 0 < t.frame.words → lasts ≡ map (λ (s : Sample). last_at s.parts) (samples t)
    → All (λ x. x < 768 * t.frame.words) lasts
lasts_within t lasts some are =
    let m = 768 * t.frame.words in
    let within = samples_within t in
    subst (All (λ x. x < m)) (sym are)
    (All-map (λ x. x < m) (λ (s : Sample). last_at s.parts) (samples t) (λ k d l. last_below m (get_or (samples t) k d).parts (omega arith) (within k d l)))

all_numbered : {X : Type 0} (P : X → Type 0) (a : ℕ) (xs : List X) → All P xs → All (λ (e : ℕ × X). P e.1) (enumerate_from a xs)
all_numbered {X} P a [] all = All-nil (λ (e : ℕ × X). P e.1)
all_numbered {X} P a (x ∷ xs) all =
    All-cons (λ (e : ℕ × X). P e.1) (a, x) (enumerate_from (a + 1) xs) (All-head P x xs all) (all_numbered P (a + 1) xs (All-tail P x xs all))

pub bits_within : (t : TableRows) (bits : List ℕ) (parts : List SlotPart) → parts ≡ parts_among (samples t)
    → bits ≡ map (λ (a : SlotPart). a.part.at) parts → All (λ x. x < 768 * t.frame.words) bits
unfolding parts_among
bits_within t bits parts are is =
    let m = 768 * t.frame.words in
    let P : SlotPart → Type 0 = λ a. a.part.at < m in
    let each = all_numbered (λ (s : Sample). All (λ (p : Part). p.at < m) s.parts) 0 (samples t) (samples_within t) in
    let all : All P (parts_among (samples t)) =
    All-flat_map P (λ (e : ℕ × Sample). parts_of_sample e.0 e.1.parts) (enumerate_from 0 (samples t))
    (λ k d l. let e = get_or (enumerate_from 0 (samples t)) k d in All-map P (λ (p : Part). record { sample = e.0; part = p }) e.1.parts (each k d l)) in
    subst (All (λ x. x < m)) (sym is) (All-map (λ x. x < m) (λ (a : SlotPart). a.part.at) parts (subst (All P) (sym are) all))

-- ---- by sample

abbrev no_sample : Sample
no_sample = record { param = 0; index = 0; parts = [] }

no_among : parts_among [] ≡ []
unfolding parts_among
no_among = refl

-- the parts of sample k
abbrev pub own_parts : List Sample → ℕ → List SlotPart
own_parts ss k = parts_of_sample k (option_map_or (λ (s : Sample). s.parts) (slice_get ss k) [])

among_below : (ss : List Sample) (k : ℕ) → k ≤ length ss → parts_among (take k ss) ≡ flat_map (own_parts ss) (range_with_len 0 k)
among_below ss zero within = no_among
among_below ss (suc k) within =
    let e : suc k ≡ k + 1 = omega arith in
    let s = get_or ss k no_sample in
    let at : slice_get ss k ≡ Some s = slice_get-get_or ss k no_sample (omega arith) in
    let long : length (take k ss) ≡ k = omega (arith, length-take-le k ss) in
    ap (λ n. parts_among (take n ss)) e ∙ ap parts_among (take_more ss k no_sample (omega arith)) ∙ parts_among_push (take k ss) s
    ∙ ap (λ xs. xs ++ parts_of_sample (length (take k ss)) s.parts) (among_below ss k (omega arith))
    ∙ ap (λ n. flat_map (own_parts ss) (range_with_len 0 k) ++ parts_of_sample n s.parts) long
    ∙ ap (λ (o : Option Sample). flat_map (own_parts ss) (range_with_len 0 k) ++ parts_of_sample k (option_map_or (λ (x : Sample). x.parts) o [])) (sym at)
    ∙ sym (flat_map-range_more (own_parts ss) 0 k k (zero-add k)) ∙ ap (λ n. flat_map (own_parts ss) (range_with_len 0 n)) (sym e)

pub sample_starts_are : (ss : List Sample) (starts : List ℕ) → starts ≡ part_starts ss → starts ≡ ends_of (own_parts ss) (length ss)
sample_starts_are ss starts are =
    are ∙ ends_agree (own_parts ss) (length ss) (λ k. length (parts_among (take k ss))) (λ k within. ap length (among_below ss k within))

pub by_sample_is : (ss : List Sample) (parts : List SlotPart) → parts ≡ parts_among ss → parts ≡ flat_map (own_parts ss) (range_with_len 0 (length ss))
by_sample_is ss parts are = are ∙ ap parts_among (sym (take_all (length ss) ss (omega arith))) ∙ among_below ss (length ss) (omega arith)

-- the parts of a sample, out of all
pub parts_numbered_are : (ss : List Sample) (starts : List ℕ) (parts : List SlotPart) (n : ℕ) (s : Sample) → starts ≡ part_starts ss → parts ≡ parts_among ss
    → n < length ss → slice_get ss n ≡ Some s → parts_numbered starts parts n ≡ s.parts
parts_numbered_are ss starts parts n s begin are within at =
    ap plain_parts (segment_is (own_parts ss) (length ss) n starts parts (sample_starts_are ss starts begin) (by_sample_is ss parts are) within)
    ∙ plain_again n (option_map_or (λ (x : Sample). x.parts) (slice_get ss n) [])
    ∙ ap (λ (o : Option Sample). option_map_or (λ (x : Sample). x.parts) o []) at

pub own_parts_four : (ss : List Sample) (n : ℕ) → All (λ (s : Sample). length s.parts ≤ 4) ss → n < length ss → length (own_parts ss n) ≤ 4
own_parts_four ss n four within =
    let s = get_or ss n no_sample in
    let at : slice_get ss n ≡ Some s = slice_get-get_or ss n no_sample within in
    let here = four n no_sample within in
    let same : option_map_or (λ (x : Sample). x.parts) (slice_get ss n) []
    ≡ s.parts = ap (λ (o : Option Sample). option_map_or (λ (x : Sample). x.parts) o []) at in
    let made : Part → SlotPart = λ p. record { sample = n; part = p } in
    let long : length (own_parts ss n) ≡ length (option_map_or (λ (x : Sample). x.parts) (slice_get ss n) []) =
    length-map (option_map_or (λ (x : Sample). x.parts) (slice_get ss n) []) made in
    omega (arith, here, long, ap length same)

pub own_parts_owned : (ss : List Sample) (n : ℕ) → All (λ (a : SlotPart). a.sample ≡ n) (own_parts ss n)
own_parts_owned ss n =
    All-map (λ (a : SlotPart). a.sample ≡ n) (λ (p : Part). record { sample = n; part = p }) (option_map_or (λ (s : Sample). s.parts) (slice_get ss n) [])
    (λ k d l. refl)

-- ---- what is picked by bit

length_picked : {X : Type 0} (items : List X) (ns : List ℕ) → All (λ n. n < length items) ns → length (picked items ns) ≡ length ns
length_picked items [] all = refl
length_picked items (n ∷ ns) all =
    let at = slice_get_some items n (All-head (λ m. m < length items) n ns all) in
    ap (λ o. length (cons_option o (picked items ns))) at.1 ∙ ap suc (length_picked items ns (All-tail (λ m. m < length items) n ns all))

numbers_valid : (bits : List ℕ) (m : ℕ) → All (λ n. n < length bits) (numbers_by_bit bits m)
unfolding numbers_by_bit
numbers_valid bits m =
    All-flat_map-range (λ n. n < length bits) (λ x. filter (λ i. get_or bits i 0 == x) (range_with_len 0 (length bits))) 0 m
    (λ x low high. All-filter (λ i. get_or bits i 0 == x) (λ n. n < length bits) (range_with_len 0 (length bits))
    (All-range (λ n. n < length bits) 0 (length bits) (λ y from to. omega (arith, to))))

-- as many as there are numbers
counted_by_bit : {X : Type 0} (key : X → ℕ) (items : List X) (m : ℕ)
    → length (numbers_by_bit (map key items) m) ≡ length (flat_map (λ x. filter (λ a. key a == x) items) (range_with_len 0 m))
counted_by_bit key items m =
    let bits = map key items in
    let long = length-map items key in
    sym (length_picked items (numbers_by_bit bits m) (λ k d l. let h = numbers_valid bits m k d l in omega (arith, long, h)))
    ∙ ap length (picked_by_bit key items m)

mapped_option : {X Y : Type 0} (g : X → Y) (o : Option X) (ys : List Y) (xs : List X) → ys ≡ map g xs
    → cons_option (option_map g o) ys ≡ map g (cons_option o xs)
mapped_option g None ys xs e = e
mapped_option g (Some x) ys xs e = ap (λ zs. g x ∷ zs) e

picked_map : {X Y : Type 0} (g : X → Y) (items : List X) (ns : List ℕ) → picked (map g items) ns ≡ map g (picked items ns)
picked_map g items [] = refl
picked_map g items (n ∷ ns) =
    ap (λ o. cons_option o (picked (map g items) ns)) (slice_get-map g items n)
    ∙ mapped_option g (slice_get items n) (picked (map g items) ns) (picked items ns) (picked_map g items ns)

-- ---- by slot

pub by_slot_is : (w : ℕ) (parts by_slot : List SlotPart) → by_slot ≡ picked parts (numbers_by_bit (lowest_bits parts) (768 * w))
    → by_slot ≡ flat_map (parts_of_slot parts) (range_with_len 0 (64 * w))
unfolding parts_of_slot
by_slot_is w parts by_slot is =
    let key : SlotPart → ℕ = λ a. a.part.at in
    let count : 768 * w ≡ 12 * (64 * w) = omega arith in
    is ∙ picked_by_bit key parts (768 * w)
    ∙ ap (λ n. flat_map (parts_at parts) (range_with_len 0 n)) count ∙ sym (flat_map_twelves (parts_at parts) 0 (64 * w))

pub slot_starts_are : (w : ℕ) (parts : List SlotPart) (starts : List ℕ) → starts ≡ starts_by_slot (lowest_bits parts) (64 * w)
    → starts ≡ ends_of (parts_of_slot parts) (64 * w)
unfolding parts_of_slot starts_by_slot
slot_starts_are w parts starts is =
    let key : SlotPart → ℕ = λ a. a.part.at in
    is ∙ ends_agree (parts_of_slot parts) (64 * w) (λ k. length (numbers_by_bit (lowest_bits parts) (12 * k)))
    (λ k within. counted_by_bit key parts (12 * k) ∙ ap length (sym (flat_map_twelves (parts_at parts) 0 k)))

pub slot_starts_long : (bits : List ℕ) (slots : ℕ) → length (starts_by_slot bits slots) ≡ slots + 1
unfolding starts_by_slot
slot_starts_long bits slots = length-map-range_with_len (λ k. length (numbers_by_bit bits (12 * k))) 0 (slots + 1)

-- ---- by cycle

-- the numbered samples whose last part begins at bit x, and those whose last part lies in a cycle, as they are listed
abbrev pub numbered_at : List Sample → ℕ → List (ℕ × Sample)
numbered_at ss x = filter (λ (e : ℕ × Sample). last_at e.1.parts == x) (enumerate_from 0 ss)

abbrev pub listed_in : ℕ → List Sample → ℕ → List ListedSample
listed_in w ss c = map listed (flat_map (numbered_at ss) (range_with_len (frame_bits w * c) (frame_bits w)))

keys_numbered : {X : Type 0} (g : X → ℕ) (a : ℕ) (xs : List X) → map g xs ≡ map (λ (e : ℕ × X). g e.1) (enumerate_from a xs)
keys_numbered g a [] = refl
keys_numbered g a (x ∷ xs) = ap (λ ys. g x ∷ ys) (keys_numbered g (a + 1) xs)

all_listed : (w : ℕ) (ss : List Sample) (n : ℕ)
    → map listed (flat_map (numbered_at ss) (range_with_len 0 (n * frame_bits w))) ≡ flat_map (listed_in w ss) (range_with_len 0 n)
all_listed w ss n =
    let m = frame_bits w in
    let none : m * 0 ≡ 0 = omega arith in
    ap (map listed) (ap (λ a. flat_map (numbered_at ss) (range_with_len a (n * m))) (sym none) ∙ sym (flat_map_chunks (numbered_at ss) m 0 n))
    ∙ map-flat_map listed (λ j. flat_map (numbered_at ss) (range_with_len (m * j) m)) (range_with_len 0 n)

pub ending_is : (w : ℕ) (ss : List Sample) (ending : List ListedSample)
    → ending ≡ picked (map listed (enumerate_from 0 ss)) (numbers_by_bit (last_bits ss) (768 * w))
    → ending ≡ map listed (flat_map (numbered_at ss) (range_with_len 0 (768 * w)))
ending_is w ss ending is =
    let items = enumerate_from 0 ss in
    let key : ℕ × Sample → ℕ = λ e. last_at e.1.parts in
    is ∙ picked_map listed items (numbers_by_bit (last_bits ss) (768 * w))
    ∙ ap (λ xs. map listed (picked items (numbers_by_bit xs (768 * w)))) (keys_numbered (λ (s : Sample). last_at s.parts) 0 ss)
    ∙ ap (map listed) (picked_by_bit key items (768 * w))

pub ending_by_cycle : (w : ℕ) (ss : List Sample) (ending : List ListedSample) → ending ≡ map listed (flat_map (numbered_at ss) (range_with_len 0 (768 * w)))
    → ending ≡ flat_map (listed_in w ss) (range_with_len 0 16)
ending_by_cycle w ss ending is =
    let count : 768 * w ≡ 16 * frame_bits w = omega arith in
    is ∙ ap (λ n. map listed (flat_map (numbered_at ss) (range_with_len 0 n))) count ∙ all_listed w ss 16

pub cycle_starts_are : (w : ℕ) (ss : List Sample) (cycles : List ℕ)
    → cycles ≡ map (λ c. get_or (starts_by_slot (last_bits ss) (64 * w)) (4 * w * c) 0) (range_with_len 0 17) → cycles ≡ ends_of (listed_in w ss) 16
unfolding starts_by_slot
cycle_starts_are w ss cycles is =
    let items = enumerate_from 0 ss in
    let key : ℕ × Sample → ℕ = λ e. last_at e.1.parts in
    let lasts = last_bits ss in
    is ∙ ends_agree (listed_in w ss) 16 (λ c. get_or (starts_by_slot lasts (64 * w)) (4 * w * c) 0)
    (λ c within.
    let low : w * c ≤ w * 16 = mul-le-mul_left w within in
    let count : 12 * (4 * w * c) ≡ c * frame_bits w = omega arith in
    get_or-map-range_with_len (λ k. length (numbers_by_bit lasts (12 * k))) 0 (64 * w + 1) (4 * w * c) (4 * w * c) 0 (omega arith) (zero-add (4 * w * c))
    ∙ ap (λ n. length (numbers_by_bit lasts n)) count
    ∙ ap (λ xs. length (numbers_by_bit xs (c * frame_bits w))) (keys_numbered (λ (s : Sample). last_at s.parts) 0 ss)
    ∙ counted_by_bit key items (c * frame_bits w)
    ∙ sym (length-map (flat_map (numbered_at ss) (range_with_len 0 (c * frame_bits w))) listed)
    ∙ ap length (all_listed w ss c))

unnumbered_kept : {X : Type 0} (b : Bool) (a : ℕ) (x : X) (es : List (ℕ × X)) (xs : List X) → map (λ (e : ℕ × X). e.1) es ≡ xs
    → map (λ (e : ℕ × X). e.1) (cond b ((a, x) ∷ es) es) ≡ cond b (x ∷ xs) xs
unnumbered_kept true a x es xs e = ap (λ ys. x ∷ ys) e
unnumbered_kept false a x es xs e = e

unnumbered : {X : Type 0} (u : X → Bool) (a : ℕ) (xs : List X) → map (λ (e : ℕ × X). e.1) (filter (λ (e : ℕ × X). u e.1) (enumerate_from a xs)) ≡ filter u xs
unnumbered u a [] = refl
unnumbered {X} u a (x ∷ xs) =
    unnumbered_kept (u x) a x (filter (λ (e : ℕ × X). u e.1) (enumerate_from (a + 1) xs)) (filter u xs) (unnumbered u (a + 1) xs)

-- what holds of numbered samples holds of those of some bits
numbered_hold : (P : ℕ × Sample → Type 0) (ss : List Sample) (a n : ℕ) → All P (enumerate_from 0 ss) → All P (flat_map (numbered_at ss) (range_with_len a n))
numbered_hold P ss a n all =
    All-flat_map-range P (numbered_at ss) a n (λ x low high. All-filter (λ (e : ℕ × Sample). last_at e.1.parts == x) P (enumerate_from 0 ss) all)

stands_within : (ss : List Sample) (e : ℕ × Sample) → slice_get ss e.0 ≡ Some e.1 → e.0 < length ss
stands_within ss e at = slice_get_within ss e.0 e.1 at

map-map : {X Y Z : Type 0} (g : Y → Z) (f : X → Y) (xs : List X) → map g (map f xs) ≡ map (λ x. g (f x)) xs
map-map g f [] = refl
map-map g f (x ∷ xs) = ap (λ ys. g (f x) ∷ ys) (map-map g f xs)

-- the samples of a cycle, with their parts
pub cycle_is : (w : ℕ) (ss : List Sample) (starts : List ℕ) (parts : List SlotPart) (c : ℕ) → starts ≡ part_starts ss → parts ≡ parts_among ss
    → map (listed_sample starts parts) (listed_in w ss c) ≡ ending_among w ss c
unfolding ending_among
cycle_is w ss starts parts c begin are =
    let m = frame_bits w in
    let es = flat_map (numbered_at ss) (range_with_len (m * c) m) in
    let made : Sample → List Part → Sample = λ s ps. record { param = s.param; index = s.index; parts = ps } in
    let same : All (λ (e : ℕ × Sample). listed_sample starts parts (listed e) ≡ e.1) es =
    numbered_hold (λ (e : ℕ × Sample). listed_sample starts parts (listed e) ≡ e.1) ss (m * c) m
    (λ k d l. let e = get_or (enumerate_from 0 ss) k d in
    let at = numbered_stand ss k d l in
    ap (made e.1) (parts_numbered_are ss starts parts e.0 e.1 begin are (stands_within ss e at) at)) in
    map-map (listed_sample starts parts) listed es
    ∙ map-agree (λ e. listed_sample starts parts (listed e)) (λ (e : ℕ × Sample). e.1) es same
    ∙ map-flat_map (λ (e : ℕ × Sample). e.1) (numbered_at ss) (range_with_len (m * c) m)
    ∙ flat_map_agree (λ x. map (λ (e : ℕ × Sample). e.1) (numbered_at ss x)) (ending_at ss) (m * c) m
    (λ x low high. unnumbered (λ (s : Sample). last_at s.parts == x) 0 ss)

-- ---- each sample is listed

number_at : {X : Type 0} (a k : ℕ) (xs : List X) (d : ℕ × X) → k < length xs → get_or (enumerate_from a xs) k d ≡ (a + k, get_or xs k d.1)
number_at a k [] d within = absurd (omega arith)
number_at a zero (x ∷ xs) d within = let e : a ≡ a + zero = omega arith in ap (λ n. (n, x)) e
number_at a (suc k) (x ∷ xs) d within =
    let e : a + 1 + k ≡ a + suc k = omega arith in
    number_at (a + 1) k xs d (omega arith) ∙ ap (λ n. (n, get_or xs k d.1)) e

some_same : (s r : Sample) → Some s ≡ Some r → s ≡ r
some_same s r e = ap (λ (o : Option Sample). option_map_or (λ x. x) o s) e

found_listed : (w : ℕ) (ss : List Sample) (k : ℕ) (s : Sample) → k < length ss → slice_get ss k ≡ Some s → last_at s.parts < 768 * w
    → find (λ (e : ListedSample). e.number == k) (map listed (flat_map (numbered_at ss) (range_with_len 0 (768 * w)))) ≡ Some (listed (k, s))
found_listed w ss k s within at below =
    let items = enumerate_from 0 ss in
    let t : ℕ × Sample → Bool = λ e. e.0 == k in
    let es = flat_map (numbered_at ss) (range_with_len 0 (768 * w)) in
    let only : All (λ (e : ℕ × Sample). t e ≡ true → e ≡ (k, s)) es =
    numbered_hold (λ (e : ℕ × Sample). t e ≡ true → e ≡ (k, s)) ss 0 (768 * w)
    (λ j d l passes.
    let e = get_or items j d in
    let number : e.0 ≡ k = eqb-true e.0 k passes in
    let same : e.1 ≡ s = some_same e.1 s (sym (numbered_stand ss j d l) ∙ ap (slice_get ss) number ∙ at) in
    ap (λ n. (n, e.1)) number ∙ ap (λ x. (k, x)) same) in
    let here : get_or items k (k, s) ≡ (k, s) =
    number_at 0 k ss (k, s) within ∙ ap (λ n. (n, get_or ss k s)) (zero-add k) ∙ ap (λ x. (k, x)) (get_or_from_slice_get ss k s s at) in
    let long : length items ≡ length ss = length-enumerate 0 ss in
    let x = last_at s.parts in
    let in_piece : list_any t (numbered_at ss x) ≡ true =
    any_kept t (λ (e : ℕ × Sample). last_at e.1.parts == x) items k (k, s) (omega (arith, long))
    (ap (λ (e : ℕ × Sample). last_at e.1.parts == x) here ∙ eq-eqb x x refl) (ap t here ∙ eq-eqb k k refl) in
    find-map (λ (e : ListedSample). e.number == k) listed es
    ∙ ap (option_map listed) (find_known t (k, s) es only (any_in_piece t (numbered_at ss) 0 (768 * w) x (omega arith) (omega (arith, below)) in_piece))

pub samples_are : (w : ℕ) (ss : List Sample) (starts : List ℕ) (parts : List SlotPart) (ending : List ListedSample) → starts ≡ part_starts ss
    → parts ≡ parts_among ss → ending ≡ map listed (flat_map (numbered_at ss) (range_with_len 0 (768 * w)))
    → All (λ (s : Sample). last_at s.parts < 768 * w) ss → map (sample_numbered starts parts ending) (range_with_len 0 (length starts - 1)) ≡ ss
samples_are w ss starts parts ending begin are is below =
    let long : length starts ≡ length ss + 1 = ap length begin ∙ length-map-range_with_len (λ k. length (parts_among (take k ss))) 0 (length ss + 1) in
    let count : length starts - 1 ≡ length ss = omega arith in
    ap (λ n. map (sample_numbered starts parts ending) (range_with_len 0 n)) count
    ∙ sym (fill_by_all (sample_numbered starts parts ending) ss (length ss) no_sample refl (λ k l.
    let s = get_or ss k no_sample in
    let at : slice_get ss k ≡ Some s = slice_get-get_or ss k no_sample l in
    let found : find (λ (e : ListedSample). e.number == k) ending ≡ Some (listed (k, s)) =
    ap (find (λ (e : ListedSample). e.number == k)) is ∙ found_listed w ss k s l at (below k no_sample l) in
    let made : Option ListedSample → List Part → Sample = λ o ps. record {
      param = option_map_or (λ (e : ListedSample). e.param) o 0;
      index = option_map_or (λ (e : ListedSample). e.index) o 0;
      parts = ps;
    } in
    sym (ap (λ o. made o (parts_numbered starts parts k)) found
    ∙ ap (made (Some (listed (k, s)))) (parts_numbered_are ss starts parts k s begin are l at))))

-- ---- the whole

pub listed_stand : (l : Laid) (w : ℕ) (ending : List ListedSample)
    → ending ≡ map listed (flat_map (numbered_at l.samples) (range_with_len 0 (768 * w))) → All (IsListedSample l) ending
listed_stand l w ending is =
    let ss = l.samples in
    let es = flat_map (numbered_at ss) (range_with_len 0 (768 * w)) in
    subst (All (IsListedSample l)) (sym is)
    (All-map (IsListedSample l) listed es (numbered_hold (λ (e : ℕ × Sample). IsListedSample l (listed e)) ss 0 (768 * w)
    (λ k d lt.
    let e = get_or (enumerate_from 0 ss) k d in
    let at = numbered_stand ss k d lt in
    let own : numbered_parts l e.0 ≡ e.1.parts = ap (λ (o : Option Sample). option_map_or (λ (s : Sample). s.parts) o []) at in
    let made : List Part → Sample = λ ps. record { param = e.1.param; index = e.1.index; parts = ps } in
    record {
      sample = at ∙ ap Some (ap made (sym own));
      first = ap (λ ps. first_at ps / 12) (sym own);
      last = ap (λ ps. last_at ps / 12) (sym own);
    })))

pub laid_holds : (t : TableRows) → IsSound t → IsLaid (laid_of t)
unfolding ending_in ending_among
laid_holds t sound =
    let few = samples_few t sound in
    record {
      cycles = record {
        count = length-map-range_with_len (ending_in t) 0 16;
        sample_counts = All-map (λ (ss : List Sample). length ss < 2 ^ 32) (ending_in t) (range_with_len 0 16)
            (λ k d l. let c = get_or (range_with_len 0 16) k d in omega (arith, few, ending_few t.frame.words (samples t) c));
      };
      sample_count = omega (arith, few);
      numbers = slots_numbers (samples t) (map (parts_in t) (range_with_len 0 (64 * t.frame.words))) (64 * t.frame.words) refl;
    }

lasts_below : (t : TableRows) → 0 < t.frame.words → All (λ (s : Sample). last_at s.parts < 768 * t.frame.words) (samples t)
lasts_below t some = λ k d l. last_below (768 * t.frame.words) (get_or (samples t) k d).parts (omega arith) (samples_within t k d l)

-- the parts of each sample
own_segment : (ss : List Sample) (starts : List ℕ) (parts : List SlotPart) (n : ℕ) → All (λ (s : Sample). length s.parts ≤ 4) ss → starts ≡ part_starts ss
    → parts ≡ parts_among ss → n + 1 < length starts
    → All (λ (a : SlotPart). a.sample ≡ n) (segment starts parts n) × (length (segment starts parts n) ≤ 4)
own_segment ss starts parts n four begins pieces within =
    let begin = sample_starts_are ss starts begins in
    let long : length starts ≡ length ss + 1 = ap length begin ∙ length-map-range_with_len (ends (own_parts ss)) 0 (length ss + 1) in
    let is : segment starts parts n ≡ own_parts ss n = segment_is (own_parts ss) (length ss) n starts parts begin (by_sample_is ss parts pieces) (omega
    (arith, long)) in
    let few = own_parts_four ss n four (omega (arith, long)) in (
      subst (All (λ (a : SlotPart). a.sample ≡ n)) (sym is) (own_parts_owned ss n),
      omega (arith, few, ap length is),
    )

-- the flat lists of a table's samples
module _ (t : TableRows) (l : FlatLists) (made : AreFlatLists (samples t) t.frame.words l) where
  all_ending : l.ending.items ≡ map listed (flat_map (numbered_at (samples t)) (range_with_len 0 (768 * t.frame.words)))
  all_ending = ending_is t.frame.words (samples t) l.ending.items made.endings

  ending_in_order : l.ending.items ≡ flat_map (listed_in t.frame.words (samples t)) (range_with_len 0 16)
  ending_in_order = ending_by_cycle t.frame.words (samples t) l.ending.items all_ending

  cycles_begin : l.cycle_starts.items ≡ ends_of (listed_in t.frame.words (samples t)) 16
  cycles_begin = cycle_starts_are t.frame.words (samples t) l.cycle_starts.items made.cycles

  parts_in_order : l.by_slot.items ≡ flat_map (parts_of_slot l.by_sample.items) (range_with_len 0 (64 * t.frame.words))
  parts_in_order = by_slot_is t.frame.words l.by_sample.items l.by_slot.items made.standing

  slots_begin : l.slot_starts.items ≡ ends_of (parts_of_slot l.by_sample.items) (64 * t.frame.words)
  slots_begin = slot_starts_are t.frame.words l.by_sample.items l.slot_starts.items made.slots

  pub laid_made : laid l ≡ laid_of t
  unfolding ending_in ending_among
  laid_made =
      let ss = samples t in
      let w = t.frame.words in
      let starts = l.sample_starts.items in
      let parts = l.by_sample.items in
      let of : List (List Sample) → List Sample → List (List SlotPart) → Laid = λ cs xs ps. record { cycles = cs; samples = xs; slots = ps } in
      let g : List ListedSample → List Sample = λ es. map (listed_sample starts parts) es in
      let by_cycle : map g (segments l.cycle_starts.items l.ending.items) ≡ map (ending_in t) (range_with_len 0 16) =
      ap (map g) (segments_are (listed_in w ss) 16 l.cycle_starts.items l.ending.items cycles_begin ending_in_order)
      ∙ map-map g (listed_in w ss) (range_with_len 0 16)
      ∙ map-range-agree (λ c. g (listed_in w ss c)) (ending_in t) 0 16 (λ c low high. cycle_is w ss starts parts c made.begins made.pieces) in
      let numbered = samples_are w ss starts parts l.ending.items made.begins made.pieces all_ending (lasts_below t made.some_words) in
      let stand : segments l.slot_starts.items l.by_slot.items ≡ map (parts_in t) (range_with_len 0 (64 * w)) =
      segments_are (parts_of_slot parts) (64 * w) l.slot_starts.items l.by_slot.items slots_begin parts_in_order
      ∙ ap (λ ps. map (parts_of_slot ps) (range_with_len 0 (64 * w))) made.pieces in
      ap (λ cs. of cs (laid l).samples (laid l).slots) by_cycle ∙ ap (λ xs. of (laid_of t).cycles xs (laid l).slots) numbered
      ∙ ap (of (laid_of t).cycles ss) stand

  pub kept_made : IsSound t → IsKept l
  kept_made sound =
      let ss = samples t in
      let starts = l.sample_starts.items in
      let parts = l.by_sample.items in
      record {
        stands = subst IsLaid (sym laid_made) (laid_holds t sound);
        cycles = starts_are (listed_in t.frame.words ss) 16 l.cycle_starts.items l.ending.items cycles_begin ending_in_order;
        sixteen = ap length cycles_begin ∙ length-map-range_with_len (ends (listed_in t.frame.words ss)) 0 17;
        samples = starts_are (own_parts ss) (length ss) starts parts (sample_starts_are ss starts made.begins) (by_sample_is ss parts made.pieces);
        slots = starts_are (parts_of_slot parts) (64 * t.frame.words) l.slot_starts.items l.by_slot.items slots_begin parts_in_order;
        listed = subst (λ (x : Laid). All (IsListedSample x) l.ending.items) (sym laid_made)
            (listed_stand (laid_of t) t.frame.words l.ending.items all_ending);
        owners = λ n within. (own_segment ss starts parts n (samples_four t) made.begins made.pieces within).0;
        four = λ n within. (own_segment ss starts parts n (samples_four t) made.begins made.pieces within).1;
      }
