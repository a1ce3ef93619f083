-- A bus word is held for the sources that it is from.
use Rattle.std.proofs.Common.{◌≡◌, ℕ, ◌+◌, ◌*◌, ◌%◌, ◌<◌, ◌≤◌, ◌⊎◌, inl, inr, ⊎_elim, not, get_or}
use Rattle.std.proofs.Common.{◌==◌, ◌&&◌, Bool, true, false, List, Option, Some, None, length, map, set}
use Rattle.std.proofs.Common.{refl, sym, ap, subst, ◌∙◌, get_or-set_same, get_or-set_other, arith}
use Rattle.std.specs.Prelude.{slice_get, slice_index, slice_index_or}
use Rattle.std.specs.List.{All}
use Rattle.std.specs.Option.{option_map_or}
use Rattle.std.proofs.lemmas.Bool.{cases_eq, cases_Bool, cond-true, cond-false, both_ways, and_parts, and_from, eqb-true, eq-eqb, ne_eqb}
use Rattle.std.proofs.lemmas.List.{get_or-map, length-map, length-set}
use Rattle.std.proofs.lemmas.Option.{slice_get_within, get_or_from_slice_get}
use Rattle.fdr_bus.specs.declared.BusRecord.{BusRecord}
use Rattle.fdr_bus.specs.declared.RecordKind.{RecordKind}
use Rattle.fdr_bus.specs.declared.RecordKind.TheVariants.{Word, End}
use Rattle.fdr_bus.specs.Records.{is_end}
use Rattle.fdr_bus.specs.Words.{is_odd, ones_to, label_of, sdi_of}
use Rattle.fdr_bus.proofs.Labels.{label_fits, label_of-low, label_turns}
use Rattle.fdr_lists.proofs.Numbered.{slice_get_some}
use Rattle.fdr_sampler.specs.declared.held_words.HeldSource.{HeldSource}
use Rattle.fdr_sampler.specs.declared.timed_word.TimedWord.{TimedWord}
use Rattle.fdr_sampler.specs.Held.{Source, is_from, word_and_time}
use Rattle.fdr_sampler.specs.HeldWords.{place_of, as_held_word, no_word, own_held, held_by_source, own_word, HasWord, AreHeldWords}
use Rattle.fdr_sampler.specs.Kept.{held_word_after}

-- ---- a source that is kept with its place

-- what holds of each holds of the one with this number
pub of_held : (P : HeldSource → Type 0) (held : List HeldSource) (n : ℕ) (h : HeldSource) → All P held → slice_get held n ≡ Some h → P h
of_held P held n h all got = subst P (get_or_from_slice_get held n h h got) (all n h (slice_get_within held n h got))

-- the source with this number is one of those
pub kept_source : (held : List HeldSource) (n : ℕ) (s : Source) → slice_get (map (λ (h : HeldSource). h.source) held) n ≡ Some s
    → (h : HeldSource) × (slice_get held n ≡ Some h) × (h.source ≡ s)
kept_source held n s got =
    let of = λ (h : HeldSource). h.source in
    let within : n < length held = omega (arith, slice_get_within (map of held) n s got, length-map held of) in
    let h = slice_get_some held n within in
    let same : h.0.source ≡ s =
    ap of (sym (get_or_from_slice_get held n h.0 h.0 h.1)) ∙ sym (get_or-map of held n h.0 s within)
    ∙ get_or_from_slice_get (map of held) n s s got in
    (h.0, h.1, same)

pub held_at : (held : List HeldSource) (words : List TimedWord) (n : ℕ) (h : HeldSource) → slice_get held n ≡ Some h
    → slice_index_or (held_by_source held words).words n None ≡ own_held words h
held_at held words n h got =
    get_or-map (own_held words) held n h None (slice_get_within held n h got) ∙ ap (own_held words) (get_or_from_slice_get held n h h got)

-- ---- which sources a word is from

-- the word has the SDI that the source asks for
abbrev fits_sdi : Option ℕ → ℕ → Bool
fits_sdi asked sdi = option_map_or (λ x. sdi == x) asked true

from_parts : (s : Source) (r : BusRecord) → is_from s r ≡ true
    → (is_odd r.word ≡ true) × (place_of s ≡ r.bus * 256 + r.word % 256) × (fits_sdi s.sdi (sdi_of r.word) ≡ true)
from_parts s r from =
    let all = and_parts (not (is_end r) && is_odd r.word && (r.bus == s.bus) && (label_of r.word == s.label)) (fits_sdi s.sdi (sdi_of r.word)) from in
    let with_label = and_parts (not (is_end r) && is_odd r.word && (r.bus == s.bus)) (label_of r.word == s.label) all.0 in
    let with_bus = and_parts (not (is_end r) && is_odd r.word) (r.bus == s.bus) with_label.0 in
    let bus : r.bus ≡ s.bus = eqb-true r.bus s.bus with_bus.1 in
    let label : label_of r.word ≡ s.label = eqb-true (label_of r.word) s.label with_label.1 in
    let turned : label_of s.label ≡ r.word % 256 =
    ap label_of (sym label ∙ label_of-low r.word) ∙ label_turns (r.word % 256) (omega arith) in
    let place : place_of s ≡ r.bus * 256 + r.word % 256 = omega (arith, bus, turned) in
    ((and_parts (not (is_end r)) (is_odd r.word) with_bus.0).1, place, all.1)

from_by : (s : Source) (r : BusRecord) → r.kind ≡ Word → is_odd r.word ≡ true → place_of s ≡ r.bus * 256 + r.word % 256 → s.label < 256
    → fits_sdi s.sdi (sdi_of r.word) ≡ true → is_from s r ≡ true
from_by s r kind odd place low sdi =
    let few = label_fits s.label in
    let bus : r.bus ≡ s.bus = omega (arith, place, few) in
    let turned : r.word % 256 ≡ label_of s.label = omega (arith, place, few) in
    let label : label_of r.word ≡ s.label = label_of-low r.word ∙ ap label_of turned ∙ label_turns s.label low in
    let word : not (elim r.kind [ Word ↦ false | End ↦ true ]) ≡ true = ap (λ (k : RecordKind). not (elim k [ Word ↦ false | End ↦ true ])) kind in
    and_from _ _ (and_from _ _ (and_from _ _ (and_from _ _ word odd) (eq-eqb _ _ bus)) (eq-eqb _ _ label)) sdi

-- ---- a word that is kept

-- a word of odd parity isn't 0
pub odd_kept : (r : BusRecord) → is_odd r.word ≡ true → as_held_word (record { word = r.word; time = r.time }) ≡ Some (word_and_time r)
unfolding ones_to
odd_kept r odd =
    ⊎_elim
    (λ (zero : r.word ≡ 0). absurd (both_ways (is_odd r.word) (ap is_odd zero) odd))
    (λ (some : r.word ≡ 0 → ⊥). cond-false _ _ _ (ne_eqb r.word 0 some))
    (cases_eq r.word 0)

-- ---- where a source has its word

own_of : (asked : Option ℕ) (sdi : ℕ) → fits_sdi asked sdi ≡ true → (own_word asked ≡ sdi) ⊎ (own_word asked ≡ 4)
own_of None sdi fits = inr refl
own_of (Some x) sdi fits = inl (sym (eqb-true sdi x fits))

fits_any : (asked : Option ℕ) (sdi : ℕ) → ((x : ℕ) → asked ≡ Some x → x < 4) → own_word asked ≡ 4 → fits_sdi asked sdi ≡ true
fits_any None sdi low is = refl
fits_any (Some x) sdi low is = absurd (omega (arith, low x refl, is))

fits_own : (asked : Option ℕ) (sdi : ℕ) → own_word asked ≡ sdi → fits_sdi asked sdi ≡ true
fits_own None sdi is = refl
fits_own (Some x) sdi is = eq-eqb sdi x (sym is)

pub own_below : (asked : Option ℕ) → ((x : ℕ) → asked ≡ Some x → x < 4) → own_word asked < 5
own_below None low = omega arith
own_below (Some x) low = omega (arith, low x refl)

-- a word that is put in two places
put_there : {X : Type 0} (words : List X) (i j k : ℕ) (v d : X) → i < length words → j < length words → (k ≡ i) ⊎ (k ≡ j)
    → get_or (set (set words i v) j v) k d ≡ v
put_there words i j k v d room also at =
    ⊎_elim
    (λ (last : k ≡ j). subst (λ m. get_or (set (set words i v) j v) m d ≡ v) (sym last)
    (get_or-set_same (set words i v) j v d (omega (arith, also, length-set words i v))))
    (λ (other : k ≡ j → ⊥). get_or-set_other (set words i v) j k v d other
    ∙ ⊎_elim (λ (first : k ≡ i). subst (λ m. get_or (set words i v) m d ≡ v) (sym first) (get_or-set_same words i v d room))
    (λ (last : k ≡ j). absurd (other last)) at)
    (cases_eq k j)

put_elsewhere : {X : Type 0} (words : List X) (i j k : ℕ) (v d : X) → (k ≡ i → ⊥) → (k ≡ j → ⊥) → get_or (set (set words i v) j v) k d ≡ get_or words k d
put_elsewhere words i j k v d not_first not_last = get_or-set_other (set words i v) j k v d not_last ∙ get_or-set_other words i k v d not_first

-- where the words of a bus word's bus and label begin: those of none, where it doesn't count
pub record Begins (starts : List ℕ) (r : BusRecord) (start : ℕ) : Type 0 where
  pub odd : is_odd r.word ≡ true → start ≡ slice_index starts (r.bus * 256 + r.word % 256)
  pub even : is_odd r.word ≡ false → start ≡ 0

begins_within : (held : List HeldSource) (starts : List ℕ) (count : ℕ) (r : BusRecord) (start : ℕ) → AreHeldWords held starts count → Begins starts r start
    → (start + 5 ≤ count) × (start % 5 ≡ 0)
begins_within held starts count r start are at =
    let k = r.bus * 256 + r.word % 256 in
    ⊎_elim
    (λ odd. (omega (arith, at.odd odd, are.begin.within k), omega (arith, at.odd odd, are.begin.fives k)))
    (λ even. (omega (arith, at.even even, are.begin.within k), omega (arith, at.even even)))
    (cases_Bool (is_odd r.word))

-- a source whose word is one of those is from that bus and label
same_begin : (held : List HeldSource) (starts : List ℕ) (count : ℕ) (r : BusRecord) (start k : ℕ) (h : HeldSource) → AreHeldWords held starts count
    → Begins starts r start → HasWord starts h → k < 5 → h.at ≡ start + k
    → (own_word h.source.sdi ≡ k) × (is_odd r.word ≡ true) × (place_of h.source ≡ r.bus * 256 + r.word % 256)
same_begin held starts count r start k h are at has few is =
    let fives = are.begin.fives (place_of h.source) in
    let whole = (begins_within held starts count r start are at).1 in
    let same : slice_index starts (place_of h.source) ≡ start = omega (arith, has.at, own_below h.source.sdi has.two_bits, fives, whole, is) in
    let own : own_word h.source.sdi ≡ k = omega (arith, has.at, same, is) in
    ⊎_elim
    (λ odd. (own, odd, are.begin.apart (place_of h.source) (r.bus * 256 + r.word % 256) has.begun (same ∙ at.odd odd)))
    (λ even. absurd (omega (arith, has.begun, same, at.even even)))
    (cases_Bool (is_odd r.word))

-- A word that is put in the word of its SDI and in the one of any SDI is held for the sources that it is from, and for no
-- others.
held_after : (held : List HeldSource) (starts : List ℕ) (words : List TimedWord) (r : BusRecord) (new : TimedWord) (start sdi : ℕ)
    → AreHeldWords held starts (length words) → Begins starts r start → r.kind ≡ Word → (is_odd r.word ≡ true → as_held_word new ≡ Some (word_and_time r))
    → sdi < 4 → sdi ≡ sdi_of r.word → (h : HeldSource) → HasWord starts h
    → own_held (set (set words (start + sdi) new) (start + 4) new) h ≡ held_word_after h.source r (own_held words h)
held_after held starts words r new start sdi are at kind new_is low sdi_is h has =
    let s = h.source in
    let room = (begins_within held starts (length words) r start are at).0 in
    ⊎_elim
    (λ (from : is_from s r ≡ true).
    let parts = from_parts s r from in
    let begin : start ≡ slice_index starts (place_of s) = at.odd parts.0 ∙ ap (slice_index starts) (sym parts.1) in
    let there : (h.at ≡ start + sdi) ⊎ (h.at ≡ start + 4) =
    ⊎_elim (λ own. inl (omega (arith, own, begin, has.at, sdi_is))) (λ any. inr (omega (arith, any, begin, has.at)))
    (own_of s.sdi (sdi_of r.word) parts.2) in
    ap as_held_word (put_there words (start + sdi) (start + 4) h.at new no_word (omega (arith, room)) (omega (arith, room)) there) ∙ new_is parts.0
    ∙ sym (cond-true _ _ _ from))
    (λ (other : is_from s r ≡ false).
    let not_own : h.at ≡ start + sdi → ⊥ = λ is.
    let b = same_begin held starts (length words) r start sdi h are at has (omega (arith, low)) is in
    both_ways (is_from s r) other (from_by s r kind b.1 b.2 has.label (fits_own s.sdi (sdi_of r.word) (b.0 ∙ sdi_is))) in
    let not_any : h.at ≡ start + 4 → ⊥ = λ is.
    let b = same_begin held starts (length words) r start 4 h are at has (omega arith) is in
    both_ways (is_from s r) other (from_by s r kind b.1 b.2 has.label (fits_any s.sdi (sdi_of r.word) has.two_bits b.0)) in
    ap as_held_word (put_elsewhere words (start + sdi) (start + 4) h.at new no_word not_own not_any) ∙ sym (cond-false _ _ _ other))
    (cases_Bool (is_from s r))

pub holds : (held : List HeldSource) (starts : List ℕ) (words : List TimedWord) (r : BusRecord) (new : TimedWord) (start sdi : ℕ)
    → AreHeldWords held starts (length words) → Begins starts r start → r.kind ≡ Word → (is_odd r.word ≡ true → as_held_word new ≡ Some (word_and_time r))
    → sdi < 4 → sdi ≡ sdi_of r.word → (n : ℕ) (s : Source) → slice_get (map (λ (h : HeldSource). h.source) held) n ≡ Some s
    → slice_index_or (held_by_source held (set (set words (start + sdi) new) (start + 4) new)).words n None
    ≡ held_word_after s r (slice_index_or (held_by_source held words).words n None)
holds held starts words r new start sdi are at kind new_is low sdi_is n s got =
    let kept = kept_source held n s got in
    let h = kept.0 in
    let after = set (set words (start + sdi) new) (start + 4) new in
    held_at held after n h kept.1
    ∙ held_after held starts words r new start sdi are at kind new_is low sdi_is h (of_held (HasWord starts) held n h are.words kept.1)
    ∙ ap (held_word_after h.source r) (sym (held_at held words n h kept.1))
    ∙ ap (λ x. held_word_after x r (slice_index_or (held_by_source held words).words n None)) kept.2
