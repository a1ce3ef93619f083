-- What is in a slot by its place, and the word of a slot of a recording by what is in it.
use Rattle.std.proofs.Common.{◌≡◌, ℕ, ◌+◌, ◌-◌, ◌*◌, ◌%◌, ◌<◌, List, ap, ◌∙◌, arith, ◌/◌}
use Rattle.std.proofs.lemmas.Nat.{mul-add-lt}
use Rattle.fdr_bus.specs.declared.BusRecord.{BusRecord}
use Rattle.fdr_frame.specs.declared.SlotKind.TheVariants.{Plain}
use Rattle.fdr_frame.specs.Slots.{sync_word, kind_of, is_sync, is_counter}
use Rattle.fdr_sync.proofs.FrameSteps.{word_count_some}
use Rattle.fdr_table.specs.Rows.{TableRows}
use Rattle.fdr_sampler.specs.SlotWord.{word_with, data_word, slot_within, start_of, slot_word}
use Rattle.fdr_recon.specs.Rows.{counter_place}
use Rattle.fdr_readout.proofs.Recordable.{IsRecordable}
use Rattle.fdr_sampler.proofs.Superframes.{kind_of-superframe, remainder, quotient}
use Rattle.std.proofs.lemmas.Bool.{eq-eqb, ne_eqb, and_from, cond-true, cond-false}

-- ---- the words of a recording

-- the first word of subframe m, where subframes are counted from 0 through all frames
pub slot_word-sync : (t : TableRows) (records : List BusRecord) (m : ℕ) → IsRecordable t → slot_word t records (t.frame.words * m) ≡ sync_word (m % 4 + 1)
slot_word-sync t records m h =
    let w = t.frame.words in
    let some = word_count_some w h.words in
    let at : w * m ≡ w * m + 0 = omega arith in
    let first : w * m % w + 1 ≡ 1 = ap (λ x. x % w + 1) at ∙ ap (λ x. x + 1) (remainder w m 0 some) in
    rw (cond-true (is_sync w (w * m)) _ _ (eq-eqb (w * m % w + 1) 1 first), word_with)
    (ap (λ x. sync_word (x / w % 4 + 1)) at ∙ ap (λ x. sync_word (x % 4 + 1)) (quotient w m 0 some))

-- the counter's word lies within a frame
pub counter_place-within : (t : TableRows) → IsRecordable t → counter_place t.frame < 4 * t.frame.words
counter_place-within t h =
    let f = t.frame in
    let row = mul-add-lt (f.csub - 1) f.words (f.cword - 1) 4 (omega (arith, h.cword_low, h.cword_high, h.csub_low, h.csub_high))
    (omega (arith, h.cword_low, h.cword_high, h.csub_low, h.csub_high)) in
    omega (arith, row)

-- the counter of frame i
pub slot_word-counter : (t : TableRows) (records : List BusRecord) (i : ℕ) → IsRecordable t
    → slot_word t records (4 * t.frame.words * i + counter_place t.frame) ≡ i % 4096
slot_word-counter t records i h =
    let f = t.frame in
    let w = f.words in
    let k = 4 * w * i + counter_place f in
    let n = 4 * i + (f.csub - 1) in
    let low = h.csub_low in
    let high = h.csub_high in
    let inside : f.cword - 1 < w = omega (arith, h.cword_low, h.cword_high) in
    let at : k ≡ w * n + (f.cword - 1) = omega arith in
    let word : k % w + 1 ≡ f.cword = ap (λ x. x % w + 1) at ∙ ap (λ x. x + 1) (remainder w n (f.cword - 1) inside) ∙ omega (arith, h.cword_low) in
    let subframe : k / w % 4 + 1 ≡ f.csub = ap (λ x. x / w % 4 + 1) at ∙ ap (λ x. x % 4 + 1) (quotient w n (f.cword - 1) inside) ∙ omega arith in
    rw (
      cond-false (is_sync w k) _ _ (ne_eqb (k % w + 1) 1 (λ first. omega (arith, h.cword_low))),
      cond-true (is_counter w f.cword f.csub k) _ _ (and_from _ _ (eq-eqb _ _ subframe) (eq-eqb _ _ word)),
      word_with,
    ) (ap (λ n. n % 4096) (quotient (4 * w) i (counter_place f) (counter_place-within t h)))

-- slot x of superframe q, where neither a sync word nor the counter stands
pub slot_word-plain : (t : TableRows) (records : List BusRecord) (q x : ℕ) → IsRecordable t → x < 64 * t.frame.words
    → kind_of t.frame.words t.frame.cword t.frame.csub x ≡ Plain →
    slot_word t records (64 * t.frame.words * q + x) ≡ data_word t records (64 * t.frame.words * q) x
slot_word-plain t records q x h low plain =
    let f = t.frame in
    let k = 64 * f.words * q + x in
    let slot : slot_within f.words k ≡ x = remainder (64 * f.words) q x low in
    let start : start_of f.words k ≡ 64 * f.words * q = ap (λ s. k - s) slot ∙ omega arith in
    let kind = kind_of-superframe f.words f.cword f.csub q x (word_count_some f.words h.words) ∙ plain in
    rw (kind, word_with) (ap (λ s. data_word t records s (slot_within f.words k)) start ∙ ap (data_word t records (64 * f.words * q)) slot)
