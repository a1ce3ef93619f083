-- For which past a value stands.
use Rattle.std.proofs.Common.{◌≡◌, ℕ, suc, ◌+◌, ◌*◌, ◌/◌, ◌%◌, ◌<◌, ◌≤◌, ◌⊎◌, inl, inr, ⊎_elim, ◌==◌, List, [], ◌∷◌, ◌++◌, Option, Some, None, length}
use Rattle.std.proofs.Common.{get_or, refl, sym, ap, ◌∙◌, subst, arith, add-one}
use Rattle.std.specs.Prelude.{if◌then◌else◌, IsTrue, slice_get, slice_index, slice_index_or}
use Rattle.std.specs.Option.{option_map, option_map_or}
use Rattle.std.specs.List.{All}
use Rattle.std.proofs.lemmas.Bool.{cases_lt, cases_eq, cases_Bool, cond-true, cond-false, eq-eqb, ne_eqb, le-leb}
use Rattle.std.proofs.lemmas.List.{get_or-replicate}
use Rattle.std.proofs.lemmas.List.Elements.{All-nil, All-push, All-weaker, All-same}
use Rattle.std.proofs.lemmas.List.FromFn.{get_or-map-range_with_len}
use Rattle.std.proofs.lemmas.Nat.{mod_below}
use Rattle.std.proofs.Math.Nat.{mod-le, mod-eq_of_lt, mod_self, suc-mod, zero-mod}
use Rattle.std.proofs.lemmas.Option.{slice_get-map, slice_get_within, get_or_from_slice_get}
use Rattle.fdr_bus.specs.declared.BusRecord.{BusRecord}
use Rattle.fdr_table.specs.Rows.{FrameRow, ParamRow, TableRows}
use Rattle.fdr_layout.specs.SlotParts.{SlotPart, Laid, laid_of, parts_among, parts_in}
use Rattle.fdr_layout.specs.Samples.{Sample, samples, first_at}
use Rattle.fdr_layout.proofs.Endings.{samples_params}
use Rattle.fdr_sampler.specs.Held.{Source, HeldWord, source_of, is_from, counts_for, held_record, word_and_time, held_word, raw_of_held, raw_value}
use Rattle.fdr_sampler.specs.Held.{first_part_slot}
use Rattle.fdr_sampler.specs.SlotWord.{numbered_value, slot_within, start_of, data_of, data_word, word_with, slot_word}
use Rattle.fdr_sampler.specs.Kept.{SamplerKept, sampler_at_start, held_word_after, HasHeld, raw_number_at, value_at, slot_parts, HaveValues, IsDrawnWord}
use Rattle.fdr_sampler.specs.Past.{SamplerPast, sampler_made, sampler_with_record, sampler_with_word, MayTake, RepresentsSampler}
use Rattle.fdr_lists.proofs.Numbered.{slice_get_some}
use Rattle.fdr_sampler.proofs.SlotFacts.{IsOfSample, parts_in_of, parts_of_slot_in, beginning_holds}
use Rattle.fdr_sampler.proofs.HeldFacts.{counts_later, held_record-next, held_record-counted, held_record-late, held_record-none}

-- ---- raw values

raw_value_at : (t : TableRows) (records : List BusRecord) (start : ℕ) (s : Sample) (p : ParamRow) → slice_get t.params s.param ≡ Some p →
    raw_value t records start s ≡ raw_of_held t.frame.words (source_of p) (start + first_part_slot s)
    (held_word t.frame.words (source_of p) records (start + first_part_slot s))
unfolding raw_value
raw_value_at t records start s p got =
    let w = t.frame.words in
    let k = start + first_part_slot s in
    ap (λ o. option_map_or (λ (p : ParamRow). raw_of_held w (source_of p) k (held_word w (source_of p) records k)) o 0) got

pub numbered_value_at : (t : TableRows) (records : List BusRecord) (start n : ℕ) (s : Sample) → slice_get (samples t) n ≡ Some s
    → numbered_value t records start n ≡ raw_value t records start s
unfolding numbered_value
numbered_value_at t records start n s got = ap (λ o. option_map_or (raw_value t records start) o 0) got

-- the parameter of a sample
param_of : (t : TableRows) (n : ℕ) (s : Sample) → slice_get (samples t) n ≡ Some s → (p : ParamRow) × (slice_get t.params s.param ≡ Some p)
param_of t n s got =
    let within = slice_get_within (samples t) n s got in
    let is : get_or (samples t) n s ≡ s = get_or_from_slice_get (samples t) n s s got in
    slice_get_some t.params s.param (subst (λ (x : Sample). x.param < length t.params) is (samples_params t n s within))

-- a record that comes too late for the sample's first slot doesn't change its raw value
pub raw_value-late : (t : TableRows) (records : List BusRecord) (start n : ℕ) (s : Sample) (r : BusRecord) → slice_get (samples t) n ≡ Some s →
    (start + first_part_slot s) * 1000000 < r.time * t.frame.words → raw_value t (records ++ r ∷ []) start s ≡ raw_value t records start s
raw_value-late t records start n s r got late =
    let p = param_of t n s got in
    let w = t.frame.words in
    let k = start + first_part_slot s in
    raw_value_at t (records ++ r ∷ []) start s p.0 p.1
    ∙ ap (λ o. raw_of_held w (source_of p.0) k (option_map word_and_time o)) (held_record-late w k (source_of p.0) records r late)
    ∙ sym (raw_value_at t records start s p.0 p.1)

-- ---- slots of a superframe

within_below : (w n : ℕ) → 0 < w → slot_within w n < 64 * w
within_below w n some = mod_below n (64 * w) (omega arith)

pub start_and_within : (w n : ℕ) → start_of w n + slot_within w n ≡ n
start_and_within w n = omega (arith, mod-le n (64 * w))

-- the next slot begins a superframe, or follows in the same one
next_slot : (w n : ℕ) → 0 < w → (slot_within w (n + 1) ≡ 0) ⊎ ((slot_within w (n + 1) ≡ slot_within w n + 1) × (start_of w (n + 1) ≡ start_of w n))
next_slot w n some =
    let m = 64 * w in
    let r = n % m in
    let low : r < m = within_below w n some in
    let step : (n + 1) % m ≡ suc r % m = rw add-one (suc-mod n m) in
    ⊎_elim
    (λ (lt : suc r < m).
    let is : (n + 1) % m ≡ r + 1 = step ∙ mod-eq_of_lt lt ∙ omega arith in
    inr (is, omega (arith, is, mod-le n m)))
    (λ (ge : m ≤ suc r).
    let e : suc r ≡ m = omega arith in
    inl (step ∙ ap (λ x. x % m) e ∙ mod_self m))
    (cases_lt (suc r) m)

pub first_below : (a k at : ℕ) → a ≤ at → at / 12 ≡ k → a / 12 ≤ k
first_below a k at le is = omega arith

-- ---- what stands of a value

slot_parts-laid : (k : SamplerKept) (t : TableRows) (slot : ℕ) → k.laid ≡ laid_of t → slot < 64 * t.frame.words → slot_parts k.laid slot ≡ parts_in t slot
slot_parts-laid k t slot laid below =
    ap (λ (l : Laid). slot_parts l slot) laid ∙ get_or-map-range_with_len (parts_in t) 0 (64 * t.frame.words) slot slot [] below (omega arith)

-- the raw numbers of the parameters at the next slot
abbrev pub number_kept : SamplerKept → ℕ → ℕ
number_kept k = raw_number_at k.frame.words k.slots_drawn k.sources k.held

number_stands : (k : SamplerKept) (past : SamplerPast) (n : ℕ) (p : ParamRow) → RepresentsSampler k past → slice_get past.table.params n ≡ Some p
    → number_kept k n ≡ raw_of_held past.table.frame.words (source_of p) past.slots_drawn
    (held_word past.table.frame.words (source_of p) past.records past.slots_drawn)
unfolding raw_number_at
number_stands k past n p st got =
    let t = past.table in
    let s = source_of p in
    let from : slice_get k.sources n ≡ Some s = ap (λ xs. slice_get xs n) st.sources ∙ slice_get-map source_of t.params n
    ∙ ap (option_map source_of) got in
    ap (λ o. option_map_or (λ (x : Source). raw_of_held k.frame.words x k.slots_drawn (slice_index_or k.held n None)) o 0) from
    ∙ ap (λ (f : FrameRow). raw_of_held f.words s k.slots_drawn (slice_index_or k.held n None)) st.frame
    ∙ ap (λ d. raw_of_held t.frame.words s d (slice_index_or k.held n None)) st.slots_drawn
    ∙ ap (raw_of_held t.frame.words s past.slots_drawn) (st.held n p got)

-- a sample with a part in the next slot
value_stands : (k : SamplerKept) (past : SamplerPast) (n : ℕ) (s : Sample) → RepresentsSampler k past → slice_get (samples past.table) n ≡ Some s
    → 0 < length s.parts →
    first_part_slot s ≤ slot_within past.table.frame.words past.slots_drawn →
    value_at k.laid (slot_within past.table.frame.words past.slots_drawn) (number_kept k) k.raws n ≡ numbered_value past.table past.records
    (start_of past.table.frame.words past.slots_drawn) n
value_stands k past n s st got some low =
    let t = past.table in
    let w = t.frame.words in
    let slot = slot_within w past.slots_drawn in
    let start = start_of w past.slots_drawn in
    let choice : Sample → ℕ = λ s. if first_part_slot s == slot then number_kept k s.param else slice_index k.raws n in
    let here : value_at k.laid slot (number_kept k) k.raws n ≡ choice s =
    ap (λ (l : Laid). value_at l slot (number_kept k) k.raws n) st.laid ∙ ap (λ o. option_map_or choice o 0) got in
    let value : raw_value t past.records start s ≡ numbered_value t past.records start n = sym (numbered_value_at t past.records start n s got) in
    here ∙ ⊎_elim
    (λ (begins : first_part_slot s ≡ slot).
    let p = param_of t n s got in
    let now : start + first_part_slot s ≡ past.slots_drawn = ap (λ x. start + x) begins ∙ start_and_within w past.slots_drawn in
    cond-true _ _ _ (eq-eqb (first_part_slot s) slot begins) ∙ number_stands k past s.param p.0 st p.1
    ∙ ap (λ x. raw_of_held w (source_of p.0) x (held_word w (source_of p.0) past.records x)) (sym now)
    ∙ sym (raw_value_at t past.records start s p.0 p.1) ∙ value)
    (λ (before : first_part_slot s ≡ slot → ⊥).
    let less : first_part_slot s < slot = omega arith in
    cond-false _ _ _ (ne_eqb (first_part_slot s) slot before) ∙ st.raws n s got some less ∙ value)
    (cases_eq (first_part_slot s) slot)

-- the samples in the next slot have the raw values of the definition
pub HaveValues-stands : (k : SamplerKept) (past : SamplerPast) → RepresentsSampler k past → 0 < past.table.frame.words →
    HaveValues (numbered_value past.table past.records (start_of past.table.frame.words past.slots_drawn)) k.laid
    (slot_within past.table.frame.words past.slots_drawn)
    (number_kept k) k.raws
HaveValues-stands k past st some =
    let t = past.table in
    let slot = slot_within t.frame.words past.slots_drawn in
    let value = numbered_value t past.records (start_of t.frame.words past.slots_drawn) in
    let P : SlotPart → Type 0 = λ a. value_at k.laid slot (number_kept k) k.raws a.sample ≡ value a.sample in
    let parts = parts_in t slot in
    All-same P (slot_parts k.laid slot) parts (slot_parts-laid k t slot st.laid (within_below t.frame.words past.slots_drawn some))
    (λ i d l.
    let a = get_or parts i d in
    let of : IsOfSample (samples t) a = parts_in_of t slot i d l in
    let at : a.part.at / 12 ≡ slot = parts_of_slot_in (parts_among (samples t)) slot i d l in
    value_stands k past a.sample of.sample st of.numbered of.some (first_below (first_at of.sample.parts) slot a.part.at of.first at))

-- so the word that was drawn is that of the definition
pub word-stands : (k : SamplerKept) (past : SamplerPast) (after : List ℕ) (word : ℕ) → RepresentsSampler k past → 0 < past.table.frame.words →
    IsDrawnWord (numbered_value past.table past.records (start_of past.table.frame.words past.slots_drawn))
    (slot_parts k.laid (slot_within past.table.frame.words past.slots_drawn)) k.raws after word →
    word ≡ data_word past.table past.records (start_of past.table.frame.words past.slots_drawn) (slot_within past.table.frame.words past.slots_drawn)
word-stands k past after word st some drawn =
    let t = past.table in
    let w = t.frame.words in
    drawn.word ∙ ap (data_of (numbered_value t past.records (start_of w past.slots_drawn)))
    (slot_parts-laid k t (slot_within w past.slots_drawn) st.laid (within_below w past.slots_drawn some))

-- ---- after a call

-- at the start
pub Stands-made : (t : TableRows) (l : Laid) → l ≡ laid_of t → RepresentsSampler (sampler_at_start t.frame t.params l) (sampler_made t)
Stands-made t l laid = record {
  frame = refl;
  sources = refl;
  laid = laid;
  slots_drawn = refl;
  records = All-nil (λ (r : BusRecord). IsTrue (counts_for t.frame.words 0 r));
  held = λ n p got. get_or-replicate (length t.params) n None None (slice_get_within t.params n p got)
      ∙ sym (ap (option_map word_and_time) (held_record-none t.frame.words 0 (source_of p)));
  raws = λ n s got some low. absurd (omega (arith, zero-mod (64 * t.frame.words)));
}

pub Stands-made_of : (t : TableRows) (frame : FrameRow) (params : List ParamRow) (l : Laid) → frame ≡ t.frame → params ≡ t.params → l ≡ laid_of t
    → RepresentsSampler (sampler_at_start frame params l) (sampler_made t)
Stands-made_of t frame params l frame_is params_is laid =
    subst (λ (f : FrameRow). RepresentsSampler (sampler_at_start f params l) (sampler_made t)) (sym frame_is)
    (subst (λ (ps : List ParamRow). RepresentsSampler (sampler_at_start t.frame ps l) (sampler_made t)) (sym params_is) (Stands-made t l laid))

-- after a slot was drawn
pub Stands-word : (k k' : SamplerKept) (past : SamplerPast) (word : ℕ) → RepresentsSampler k past → 0 < past.table.frame.words →
    IsDrawnWord (numbered_value past.table past.records (start_of past.table.frame.words past.slots_drawn))
    (slot_parts k.laid (slot_within past.table.frame.words past.slots_drawn)) k.raws k'.raws word →
    k'.frame ≡ k.frame → k'.sources ≡ k.sources → k'.laid ≡ k.laid → k'.held ≡ k.held → k'.slots_drawn ≡ k.slots_drawn + 1
    → RepresentsSampler k' (sampler_with_word past)
Stands-word k k' past word st some drawn frame sources laid held count =
    let t = past.table in
    let w = t.frame.words in
    let slot = slot_within w past.slots_drawn in
    let start = start_of w past.slots_drawn in
    let value = numbered_value t past.records start in
    let taken : All (λ (a : SlotPart). slice_index k'.raws a.sample ≡ value a.sample) (parts_in t slot) =
    All-same (λ (a : SlotPart). slice_index k'.raws a.sample ≡ value a.sample) (parts_in t slot) (slot_parts k.laid slot)
    (sym (slot_parts-laid k t slot st.laid (within_below w past.slots_drawn some))) drawn.taken in
    let raws : (n : ℕ) (s : Sample) → slice_get (samples t) n ≡ Some s → 0 < length s.parts → first_part_slot s < slot + 1
    → slice_index k'.raws n ≡ raw_value t past.records start s =
    λ n s got parts below.
    let is = numbered_value_at t past.records start n s got in
    let all : slice_index k'.raws n ≡ value n = ⊎_elim
    (λ (now : first_part_slot s ≡ slot). beginning_holds t slot (λ m. slice_index k'.raws m ≡ value m) n s taken got parts now)
    (λ (before : first_part_slot s ≡ slot → ⊥). drawn.kept n (st.raws n s got parts (omega arith) ∙ sym is))
    (cases_eq (first_part_slot s) slot) in
    all ∙ is in
    record {
      frame = frame ∙ st.frame;
      sources = sources ∙ st.sources;
      laid = laid ∙ st.laid;
      slots_drawn = count ∙ ap (λ n. n + 1) st.slots_drawn;
      records = All-weaker (λ (r : BusRecord). IsTrue (counts_for w past.slots_drawn r)) (λ (r : BusRecord). IsTrue (counts_for w (past.slots_drawn + 1) r))
          (counts_later w past.slots_drawn) past.records st.records;
      held = λ n p got. ap (λ (xs : List (Option HeldWord)). slice_index_or xs n None) held ∙ st.held n p got
          ∙ ap (option_map word_and_time) (sym (held_record-next w past.slots_drawn (source_of p) past.records st.records));
      raws = λ n s got parts below. ⊎_elim
          (λ (none : slot_within w (past.slots_drawn + 1) ≡ 0). absurd (omega arith))
          (λ (next : (slot_within w (past.slots_drawn + 1) ≡ slot + 1) × (start_of w (past.slots_drawn + 1) ≡ start)).
          raws n s got parts (omega (arith, next.0)) ∙ ap (λ x. raw_value t past.records x s) (sym next.1))
          (next_slot w past.slots_drawn some);
    }

word_after : (s : Source) (r : BusRecord) (before : Option BusRecord)
    → held_word_after s r (option_map word_and_time before) ≡ option_map word_and_time (if is_from s r then Some r else before)
word_after s r before =
    ⊎_elim
    (λ holds. cond-true _ _ _ holds ∙ sym (ap (option_map word_and_time) (cond-true _ _ _ holds)))
    (λ no. cond-false _ _ _ no ∙ sym (ap (option_map word_and_time) (cond-false _ _ _ no)))
    (cases_Bool (is_from s r))

-- after a record was given
pub Stands-record : (k k' : SamplerKept) (past : SamplerPast) (r : BusRecord) → RepresentsSampler k past → MayTake past r →
    ((n : ℕ) (s : Source) → slice_get k.sources n ≡ Some s → slice_index_or k'.held n None ≡ held_word_after s r (slice_index_or k.held n None)) →
    k'.frame ≡ k.frame → k'.sources ≡ k.sources → k'.laid ≡ k.laid → k'.raws ≡ k.raws → k'.slots_drawn ≡ k.slots_drawn
    → RepresentsSampler k' (sampler_with_record past r)
Stands-record k k' past r st may held frame sources laid raws count =
    let t = past.table in
    let w = t.frame.words in
    let counts : IsTrue (counts_for w past.slots_drawn r) = le-leb (r.time * w) (past.slots_drawn * 1000000) may.none_due in
    record {
      frame = frame ∙ st.frame;
      sources = sources ∙ st.sources;
      laid = laid ∙ st.laid;
      slots_drawn = count ∙ st.slots_drawn;
      records = All-push (λ (r : BusRecord). IsTrue (counts_for w past.slots_drawn r)) past.records r st.records counts;
      held = λ n p got.
          let s = source_of p in
          let from : slice_get k.sources n ≡ Some s = ap (λ xs. slice_get xs n) st.sources ∙ slice_get-map source_of t.params n
          ∙ ap (option_map source_of) got in
          held n s from ∙ ap (held_word_after s r) (st.held n p got) ∙ word_after s r (held_record w s past.records past.slots_drawn)
          ∙ ap (option_map word_and_time) (sym (held_record-counted w past.slots_drawn s past.records r counts));
      raws = λ n s got parts below.
          let start = start_of w past.slots_drawn in
          let before : start + first_part_slot s < past.slots_drawn = omega (arith, start_and_within w past.slots_drawn) in
          ap (λ xs. slice_index xs n) raws ∙ st.raws n s got parts below
          ∙ sym (raw_value-late t past.records start n s r got (may.counts_for_none (start + first_part_slot s) before));
    }

-- after a record was held
pub Stands-held : (k k' : SamplerKept) (past : SamplerPast) (r : BusRecord) → RepresentsSampler k past → MayTake past r → HasHeld k k' r
    → RepresentsSampler k' (sampler_with_record past r)
Stands-held k k' past r st may held =
    subst (λ x. RepresentsSampler x (sampler_with_record past r)) (sym held.others)
    (Stands-record k (record k { held = k'.held }) past r st may held.words refl refl refl refl refl)

-- ---- a word that is drawn for every raw value that the samples may have

some_words : (k : SamplerKept) (past : SamplerPast) (slot : ℕ) → RepresentsSampler k past → slot < 64 * k.frame.words → 0 < past.table.frame.words
some_words k past slot st below =
    let some : 0 < k.frame.words = omega arith in
    subst (λ (f : FrameRow). 0 < f.words) st.frame some

-- What drawing a word of data for a slot says: the word, and the raw values that are kept.
pub record DrawsData (k : SamplerKept) (slot : ℕ) (after : List ℕ) (plain : ℕ) : Type 0 where
  pub slot_is : slot ≡ slot_within k.frame.words k.slots_drawn
  pub below : slot < 64 * k.frame.words
  pub word : (value : ℕ → ℕ) → HaveValues value k.laid slot (number_kept k) k.raws → IsDrawnWord value (slot_parts k.laid slot) k.raws after plain

drawn_for : (k : SamplerKept) (past : SamplerPast) (slot : ℕ) (after : List ℕ) (plain : ℕ) → RepresentsSampler k past → DrawsData k slot after plain →
    IsDrawnWord (numbered_value past.table past.records (start_of past.table.frame.words past.slots_drawn))
    (slot_parts k.laid (slot_within past.table.frame.words past.slots_drawn)) k.raws after plain
drawn_for k past slot after plain st draws =
    let w = past.table.frame.words in
    let value = numbered_value past.table past.records (start_of w past.slots_drawn) in
    let is : slot ≡ slot_within w past.slots_drawn =
    draws.slot_is ∙ ap (λ (f : FrameRow). slot_within f.words k.slots_drawn) st.frame ∙ ap (slot_within w) st.slots_drawn in
    subst (λ x. IsDrawnWord value (slot_parts k.laid x) k.raws after plain) is
    (draws.word value (subst (λ x. HaveValues value k.laid x (number_kept k) k.raws) (sym is)
    (HaveValues-stands k past st (some_words k past slot st draws.below))))

-- the word of the next slot
pub slot_word-stands : (k : SamplerKept) (past : SamplerPast) (slot : ℕ) (after : List ℕ) (plain word : ℕ) → RepresentsSampler k past
    → DrawsData k slot after plain →
    word ≡ word_with k.frame k.slots_drawn plain → word ≡ slot_word past.table past.records past.slots_drawn
slot_word-stands k past slot after plain word st draws is =
    let t = past.table in
    is ∙ ap (λ (f : FrameRow). word_with f k.slots_drawn plain) st.frame ∙ ap (λ n. word_with t.frame n plain) st.slots_drawn
    ∙ ap (word_with t.frame past.slots_drawn)
    (word-stands k past after plain st (some_words k past slot st draws.below) (drawn_for k past slot after plain st draws))

-- the value after that word
pub Stands-next : (k k' : SamplerKept) (past : SamplerPast) (slot : ℕ) (after : List ℕ) (plain : ℕ) → RepresentsSampler k past → DrawsData k slot after plain
    → k'.raws ≡ after →
    k'.frame ≡ k.frame → k'.sources ≡ k.sources → k'.laid ≡ k.laid → k'.held ≡ k.held → k'.slots_drawn ≡ k.slots_drawn + 1
    → RepresentsSampler k' (sampler_with_word past)
Stands-next k k' past slot after plain st draws raws frame sources laid held count =
    let w = past.table.frame.words in
    let value = numbered_value past.table past.records (start_of w past.slots_drawn) in
    Stands-word k k' past plain st (some_words k past slot st draws.below)
    (subst (λ xs. IsDrawnWord value (slot_parts k.laid (slot_within w past.slots_drawn)) k.raws xs plain) (sym raws)
    (drawn_for k past slot after plain st draws))
    frame sources laid held count
