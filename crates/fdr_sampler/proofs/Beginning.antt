-- The sources' words, as they are given one source after another, and what is held in them before any bus word came.
use Rattle.std.proofs.Common.{◌≡◌, ℕ, ◌+◌, ◌-◌, ◌%◌, ◌^◌, ◌<◌, List, [], ◌∷◌, ◌++◌, length, map, get_or, take, replicate, None, zero, suc}
use Rattle.std.proofs.Common.{refl, sym, ap, ◌∙◌, arith}
use Rattle.std.specs.Prelude.{slice_index}
use Rattle.std.proofs.lemmas.List.{length-replicate, map-append, take_more}
use Rattle.std.proofs.lemmas.List.Elements.{All-append, All-nil, All-cons, All-weaker}
use Rattle.fdr_table.specs.Rows.{ParamRow}
use Rattle.fdr_sampler.specs.declared.held_words.HeldSource.{HeldSource}
use Rattle.fdr_sampler.specs.declared.timed_word.TimedWord.{TimedWord}
use Rattle.fdr_sampler.specs.Held.{source_of}
use Rattle.fdr_sampler.specs.HeldWords.{bus_labels, place_of, as_held_word, no_word, own_held, AreLabelStarts, HasWord, AreHeldWords}
use Rattle.fdr_sampler.proofs.EmptyRuns.{zeros_read}

-- ---- one source after another

pub starts_none : (starts : List ℕ) (n : ℕ) → n ≡ bus_labels → starts ≡ replicate n 0 → AreLabelStarts starts 5
starts_none starts n count are =
    let all : (k : ℕ) → slice_index starts k ≡ 0 = λ k. ap (λ xs. slice_index xs k) are ∙ zeros_read n k in
    record {
      pairs = ap length are ∙ length-replicate n 0 ∙ count;
      fives = λ k. ap (λ x. x % 5) (all k);
      within = λ k. omega (arith, all k);
      whole = refl;
      apart = λ k m some same. absurd (omega (arith, all k, some));
    }

pub words_none : (starts : List ℕ) → AreLabelStarts starts 5 → AreHeldWords [] starts 5
words_none starts are = record { begin = are; words = All-nil (HasWord starts) }

-- a source has its word where more words are given
has_kept : (starts starts' : List ℕ) (h : HeldSource) → ((k : ℕ) → 0 < slice_index starts k → slice_index starts' k ≡ slice_index starts k)
    → HasWord starts h → HasWord starts' h
has_kept starts starts' h kept before =
    let same = kept (place_of h.source) before.begun in
    record {
      begun = omega (arith, same, before.begun);
      label = before.label;
      at = omega (arith, before.at, same);
      two_bits = before.two_bits;
    }

-- one more source has its word
pub words_more : (held : List HeldSource) (h : HeldSource) (starts starts' : List ℕ) (end end' : ℕ) → AreHeldWords held starts end → AreLabelStarts starts' end'
    → ((k : ℕ) → 0 < slice_index starts k → slice_index starts' k ≡ slice_index starts k) → HasWord starts' h → AreHeldWords (held ++ h ∷ []) starts' end'
words_more held h starts starts' end end' are begin kept has = record {
  begin = begin;
  words = All-append (HasWord starts') held (h ∷ []) (All-weaker (HasWord starts) (HasWord starts') (λ x. has_kept starts starts' x kept) held are.words)
      (All-cons (HasWord starts') h [] has (All-nil (HasWord starts')));
}

-- the sources of one more parameter
pub sources_more : (held : List HeldSource) (h : HeldSource) (params : List ParamRow) (i : ℕ) (p : ParamRow) → i < length params → p ≡ get_or params i p
    → map (λ (x : HeldSource). x.source) held ≡ map source_of (take i params) → h.source ≡ source_of p
    → map (λ (x : HeldSource). x.source) (held ++ h ∷ []) ≡ map source_of (take (i + 1) params)
sources_more held h params i p low is before own =
    let more : take (i + 1) params ≡ take i params ++ p ∷ [] = take_more params i p low ∙ ap (λ x. take i params ++ x ∷ []) (sym is) in
    map-append (λ (x : HeldSource). x.source) held (h ∷ []) ∙ ap (λ xs. xs ++ h.source ∷ []) before
    ∙ ap (λ x. map source_of (take i params) ++ x ∷ []) own ∙ sym (ap (map source_of) more ∙ map-append source_of (take i params) (p ∷ []))

-- ---- before any word came

none_read : {X : Type 0} (n k : ℕ) (none : X) → get_or (replicate n none) k none ≡ none
none_read zero k none = refl
none_read (suc n) zero none = refl
none_read (suc n) (suc k) none = none_read n k none

pub none_held : (words : List TimedWord) (count : ℕ) → words ≡ replicate count no_word → (held : List HeldSource)
    → map (own_held words) held ≡ replicate (length held) None
none_held words count none [] = refl
none_held words count none (h ∷ held) =
    let read : get_or words h.at no_word ≡ no_word = ap (λ (xs : List TimedWord). get_or xs h.at no_word) none ∙ none_read count h.at no_word in
    let here : own_held words h ≡ None = ap as_held_word read in
    ap (λ x. x ∷ map (own_held words) held) here ∙ ap (λ xs. None ∷ xs) (none_held words count none held)
