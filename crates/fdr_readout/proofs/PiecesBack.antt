-- Each piece of a sample's raw value reads back from the word of its slot, and the pieces make up the value.
use Rattle.std.proofs.Common.{◌≡◌, ℕ, ◌+◌, ◌-◌, ◌*◌, ◌/◌, ◌%◌, ◌^◌, ◌<◌, ◌==◌, List, get_or, sum_by, Some, lit<, refl, sym, ap, ◌∙◌, subst, arith, ◌≤◌, ◌⊎◌}
use Rattle.std.proofs.Common.{zero, suc, [], ◌∷◌, fold, length, inl, inr, ⊎_elim}
use Rattle.std.specs.Prelude.{All, Contains, IsTrue, Bool, true, false, if◌then◌else◌, is_some, slice_get, Option, None}
use Rattle.std.specs.List.{range_with_len, enumerate_from}
use Rattle.std.proofs.lemmas.Nat.{mod_below, pow_pos}
use Rattle.std.proofs.lemmas.Bool.{eq-eqb}
use Rattle.std.proofs.lemmas.List.Elements.{All-contains, All-contains_itself, All-filter, All-weaker, All-head, All-tail}
use Rattle.fdr_bus.specs.declared.BusRecord.{BusRecord}
use Rattle.fdr_table.specs.Rows.{ParamRow, TableRows}
use Rattle.fdr_layout.specs.SlotParts.{SlotPart, parts_of_sample, parts_among, all_parts, parts_at, parts_of_slot, parts_in}
use Rattle.fdr_check.specs.Occurrences.{frame_bits}
use Rattle.fdr_layout.specs.Samples.{Part, Sample, samples, ending_in}
use Rattle.fdr_layout.proofs.ByLastPart.{ending_at}
use Rattle.fdr_layout.proofs.SlotLemmas.{parts_of_slot_hold}
use Rattle.fdr_sampler.specs.Held.{Source, HeldWord, source_of, held_word, is_fresh, field_held, raw_of_held, raw_value, first_part_slot}
use Rattle.fdr_sampler.specs.SlotWord.{numbered_value, piece_of, data_word}
use Rattle.fdr_sampler.proofs.Lists.{Contains-map, Contains-filter, Contains-flat_map, Contains-range, Contains-enumerate}
use Rattle.fdr_sampler.proofs.DataWords.{IsWithin, with_part, piece_fits, data_of-fold}
use Rattle.fdr_sampler.proofs.SlotFacts.{parts_of_slot_in}
use Rattle.fdr_sampler.proofs.Standing.{numbered_value_at}
use Rattle.fdr_readout.proofs.Recordable.{IsPlaced, IsRecordable, AreApart}
use Rattle.fdr_lists.proofs.Sums.{sum_by-agree}
use Rattle.fdr_lists.proofs.Pieces.{All-flat_map-range}
use Rattle.fdr_bits.specs.Fields.{field_of}
use Rattle.fdr_bits.proofs.FieldLemmas.{field_of-with_field}
use Rattle.fdr_bits.proofs.FieldsApart.{field_of-with_field_apart}

-- ---- a part of a word reads back, where each other part of the word is apart from it

-- in the same slot b is a itself, or shares no bit with it
pub record IsOther (a b : SlotPart) : Type 0 where
  pub slot : b.part.at / 12 ≡ a.part.at / 12
  pub apart : (b ≡ a) ⊎ AreApart a b

-- the word has the part's piece of its sample's raw value
pub Carries : (ℕ → ℕ) → SlotPart → ℕ → Type 0
Carries value a word = field_of word (a.part.at % 12) a.part.width ≡ piece_of (value a.sample) a.part

-- what is written reads back
carries_itself : (value : ℕ → ℕ) (word : ℕ) (a : SlotPart) → Carries value a (with_part value word a)
unfolding Carries
carries_itself value word a = field_of-with_field word (a.part.at % 12) a.part.width (piece_of (value a.sample) a.part) (piece_fits value a)

-- a further part changes no piece that the word has
carries_still : (value : ℕ → ℕ) (word : ℕ) (a b : SlotPart) → IsOther a b → Carries value a word → Carries value a (with_part value word b)
unfolding Carries
carries_still value word a b other carries =
    ⊎_elim
    (λ (same : b ≡ a). subst (λ (x : SlotPart). Carries value a (with_part value word x)) (sym same) (carries_itself value word a))
    (λ (apart : AreApart a b).
    field_of-with_field_apart word (b.part.at % 12) b.part.width (piece_of (value b.sample) b.part) (a.part.at % 12) a.part.width (piece_fits value b)
    (⊎_elim
    (λ (below : a.part.at + a.part.width ≤ b.part.at). inl (omega (arith, other.slot)))
    (λ (above : b.part.at + b.part.width ≤ a.part.at). inr (omega (arith, other.slot)))
    apart)
    ∙ carries)
    other.apart

-- nor do several of them
carries_on : (value : ℕ → ℕ) (a : SlotPart) (parts : List SlotPart) (word : ℕ) → All (IsOther a) parts → Carries value a word
    → Carries value a (fold (with_part value) word parts)
carries_on value a [] word others carries = carries
carries_on value a (b ∷ parts) word others carries =
    carries_on value a parts (with_part value word b) (All-tail (IsOther a) b parts others)
    (carries_still value word a b (All-head (IsOther a) b parts others) carries)

-- once the part itself was written, the word has its piece
carries_from : (value : ℕ → ℕ) (a : SlotPart) (parts : List SlotPart) (word k : ℕ) → All (IsOther a) parts → k < length parts → get_or parts k a ≡ a
    → Carries value a (fold (with_part value) word parts)
carries_from value a [] word k others within is = absurd (omega arith)
carries_from value a (b ∷ parts) word zero others within is =
    carries_on value a parts (with_part value word b) (All-tail (IsOther a) b parts others)
    (subst (λ (x : SlotPart). Carries value a (with_part value word x)) (sym is) (carries_itself value word a))
carries_from value a (b ∷ parts) word (suc k) others within is =
    carries_from value a parts (with_part value word b) k (All-tail (IsOther a) b parts others) (omega arith) is

-- ---- the parts of samples

-- part p of sample n
abbrev pub part_of : ℕ → Part → SlotPart
part_of n p = record { sample = n; part = p }

-- each part of a sample is among all parts, and among those of its slot
pub all_parts-contain : (t : TableRows) (n : ℕ) (s : Sample) (p : Part) → slice_get (samples t) n ≡ Some s → Contains s.parts p
    → Contains (all_parts t) (part_of n p)
unfolding parts_among
all_parts-contain t n s p got here =
    let e : ℕ × Sample = (n, s) in
    Contains-flat_map (λ (e : ℕ × Sample). parts_of_sample e.0 e.1.parts) (enumerate_from 0 (samples t)) e (part_of n p)
    (Contains-enumerate (samples t) n s got) (Contains-map (part_of n) s.parts p here)

parts_in-contain : (t : TableRows) (a : SlotPart) → Contains (all_parts t) a → Contains (parts_in t (a.part.at / 12)) a
unfolding parts_of_slot
parts_in-contain t a here =
    let k = a.part.at / 12 in
    Contains-flat_map (parts_at (all_parts t)) (range_with_len (12 * k) 12) a.part.at a (Contains-range (12 * k) 12 a.part.at (omega arith) (omega arith))
    (Contains-filter (λ (b : SlotPart). b.part.at == a.part.at) (all_parts t) a (eq-eqb a.part.at a.part.at refl) here)

-- the parts of a slot share no bit
others_in_slot : (t : TableRows) (a : SlotPart) → IsRecordable t → Contains (all_parts t) a → All (IsOther a) (parts_in t (a.part.at / 12))
others_in_slot t a h here =
    let k = a.part.at / 12 in
    let among : All (Contains (all_parts t)) (parts_in t k) = parts_of_slot_hold (Contains (all_parts t)) (all_parts t) k (All-contains_itself (all_parts t)) in
    let within : All (λ (b : SlotPart). b.part.at / 12 ≡ k) (parts_in t k) = parts_of_slot_in (all_parts t) k in
    λ i d l. record { slot = within i d l; apart = h.apart a (get_or (parts_in t k) i d) here (among i d l) }

-- the word of data of a part's slot has the part's piece of the raw value
pub data_word-piece : (t : TableRows) (records : List BusRecord) (start n : ℕ) (s : Sample) (p : Part) → IsRecordable t → slice_get (samples t) n ≡ Some s
    → Contains s.parts p →
    data_word t records start (p.at / 12) / 2 ^ (p.at % 12) % 2 ^ p.width ≡ piece_of (raw_value t records start s) p
unfolding Carries
data_word-piece t records start n s p h got here =
    let a = part_of n p in
    let value = numbered_value t records start in
    let parts = parts_in t (p.at / 12) in
    let in_all = all_parts-contain t n s p got here in
    let among = parts_in-contain t a in_all in
    let within : All IsWithin (all_parts t) = λ i d l. (h.placed i d l).within in
    ap (λ word. word / 2 ^ (p.at % 12) % 2 ^ p.width) (data_of-fold value parts (parts_of_slot_hold IsWithin (all_parts t) (p.at / 12) within))
    ∙ carries_from value a parts 0 among.0 (others_in_slot t a h in_all) among.1 among.2
    ∙ ap (λ raw. piece_of raw p) (numbered_value_at t records start n s got)

-- a part of a sample lies in one word of data
pub part_placed : (t : TableRows) (n : ℕ) (s : Sample) (p : Part) → IsRecordable t → slice_get (samples t) n ≡ Some s → Contains s.parts p → IsPlaced t.frame p
part_placed t n s p h got here = All-contains (λ (a : SlotPart). IsPlaced t.frame a.part) (all_parts t) (part_of n p) h.placed
    (all_parts-contain t n s p got here)

-- ---- the raw value

-- a raw value is below 2 to the power of its width
field-below : (s : Source) (held : Option HeldWord) → field_held s held < 2 ^ s.width
field-below s None = pow_pos s.width
field-below s (Some h) = mod_below (h.word / 2 ^ (s.lsb - 1)) (2 ^ s.width) (pow_pos s.width)

raw-below : (tells aged fresh : Bool) (field width : ℕ) → field < 2 ^ width → (IsTrue tells → width ≡ 1)
    → (if tells then (if fresh then 1 else 0) else if aged then (if fresh then field else 2 ^ width - 1) else field) < 2 ^ width
raw-below true aged true field width low one = subst (λ n. 1 < 2 ^ n) (sym (one refl)) (lit< tt)
raw-below true aged false field width low one = pow_pos width
raw-below false true true field width low one = low
raw-below false true false field width low one = let some = pow_pos width in omega arith
raw-below false false fresh field width low one = low

raw_value-below : (t : TableRows) (records : List BusRecord) (start : ℕ) (s : Sample) (p : ParamRow) → IsRecordable t → slice_get t.params s.param ≡ Some p
    → raw_value t records start s < 2 ^ p.width
unfolding raw_value raw_of_held
raw_value-below t records start s p h got =
    let w = t.frame.words in
    let k = start + first_part_slot s in
    let held = held_word w (source_of p) records k in
    rw got (raw-below p.tells (is_some p.age) (is_fresh w (source_of p) k held) (field_held (source_of p) held) p.width (field-below (source_of p) held)
    (h.telling s.param p got))

-- bits of parts that are the pieces of a sample's raw value make it up
pub pieces_make_up : (t : TableRows) (records : List BusRecord) (start n : ℕ) (s : Sample) (bits : Part → ℕ) → IsRecordable t → slice_get (samples t) n ≡ Some s
    →
    All (λ (p : Part). bits p ≡ piece_of (raw_value t records start s) p) s.parts
    → sum_by (λ (p : Part). bits p * 2 ^ p.shift) s.parts ≡ raw_value t records start s
pieces_make_up t records start n s bits h got each =
    let raw = raw_value t records start s in
    let param = h.whole n s got in
    sum_by-agree (λ (p : Part). bits p * 2 ^ p.shift) (λ (p : Part). piece_of raw p * 2 ^ p.shift) s.parts
    (All-weaker (λ (p : Part). bits p ≡ piece_of raw p) (λ (p : Part). bits p * 2 ^ p.shift ≡ piece_of raw p * 2 ^ p.shift)
    (λ p is. ap (λ b. b * 2 ^ p.shift) is) s.parts each)
    ∙ param.2 raw (raw_value-below t records start s param.0 h param.1)

-- ---- a sample that ends in a cycle is one of the table's

pub ending_in-samples : (t : TableRows) (cycle : ℕ) → All (Contains (samples t)) (ending_in t cycle)
unfolding ending_in
ending_in-samples t cycle =
    let w = t.frame.words in
    All-flat_map-range (Contains (samples t)) (ending_at (samples t)) (frame_bits w * cycle) (frame_bits w)
    (λ x low high. All-filter _ (Contains (samples t)) (samples t) (All-contains_itself (samples t)))
