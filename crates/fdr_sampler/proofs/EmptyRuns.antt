-- Slots that have nothing are drawn at once.
use Rattle.std.proofs.Common.{◌≡◌, ℕ, zero, suc, ◌+◌, ◌-◌, ◌*◌, ◌%◌, ◌==◌, true, false}
use Rattle.std.proofs.Common.{◌<◌, ◌≤◌, ⊎_elim, List, [], length, set, get_or, replicate, get_or-set_same, get_or-set_other}
use Rattle.std.proofs.Common.{refl, sym, ap, ◌∙◌, subst, arith}
use Rattle.std.specs.Prelude.{if◌then◌else◌, slice_index}
use Rattle.std.proofs.lemmas.Bool.{cases_eq, cases_lt, false≢true}
use Rattle.std.proofs.lemmas.Nat.{mod_below}
use Rattle.std.proofs.Math.Nat.{mod-add-mod, mod_self, zero-mod}
use Rattle.fdr_frame.specs.declared.SlotKind.{SlotKind}
use Rattle.fdr_frame.specs.declared.SlotKind.TheVariants.{Sync, Counter, Plain}
use Rattle.fdr_frame.specs.Slots.{frame_of, kind_of, is_counter, subframe_of, sync_word}
use Rattle.fdr_table.specs.Rows.{FrameRow}
use Rattle.fdr_layout.specs.SlotParts.{SlotPart, Laid}
use Rattle.fdr_sampler.specs.Empty.{IsEmptySlot, HasEmptyRun, IsEmptyRun}
use Rattle.fdr_sampler.specs.Kept.{SamplerKept, slot_parts, with_slots_passed, IsDrawnWord}
use Rattle.fdr_sampler.specs.SlotWord.{slot_within, slot_word, word_with}
use Rattle.fdr_sampler.specs.Past.{SamplerPast, sampler_with_words, RepresentsSampler}
use Rattle.fdr_sampler.proofs.Drawing.{IsDrawnWord-none}
use Rattle.fdr_sampler.proofs.Standing.{DrawsData, slot_word-stands, Stands-next}
use Rattle.fdr_sampler.proofs.Superframes.{kind_within, within_more}

-- ---- the runs

-- one more slot, before the others
slots_more : (f : FrameRow) (l : Laid) (slot next run : ℕ) → next ≡ slot + 1 → slot < 64 * f.words → IsEmptySlot f l slot → HasEmptyRun f l next run
    → HasEmptyRun f l slot (run + 1)
slots_more f l slot next run after within empty rest zero less =
    let here : slot ≡ slot + zero = omega arith in
    (omega arith, subst (IsEmptySlot f l) here empty)
slots_more f l slot next run after within empty rest (suc j) less =
    let there : next + j ≡ slot + suc j = omega arith in
    let is = rest j (omega arith) in
    (omega (arith, is.0), subst (IsEmptySlot f l) there is.1)

pub run_more : (f : FrameRow) (l : Laid) (slot next run : ℕ) → next ≡ slot + 1 → slot < 64 * f.words → IsEmptySlot f l slot → IsEmptyRun f l next run
    → IsEmptyRun f l slot (run + 1)
run_more f l slot next run after within empty rest =
    let there : slot + (run + 1) ≡ next + run = omega arith in
    record {
      slots = slots_more f l slot next run after within empty rest.slots;
      ends = λ inside more. rest.ends (omega (arith, inside)) (subst (IsEmptySlot f l) there more);
    }

pub run_none : (f : FrameRow) (l : Laid) (slot : ℕ) → (IsEmptySlot f l slot → ⊥) → IsEmptyRun f l slot 0
run_none f l slot taken =
    let here : slot + 0 ≡ slot = omega arith in
    record {
      slots = λ j less. absurd (omega arith);
      ends = λ inside empty. taken (subst (IsEmptySlot f l) here empty);
    }

-- the first slot of a superframe has a sync word
first_taken : (f : FrameRow) (l : Laid) → IsEmptySlot f l 0 → ⊥
first_taken f l empty =
    let first : kind_of f.words f.cword f.csub 0 ≡ Sync =
    ap (λ x. if (x + 1) == 1 then Sync else (if is_counter f.words f.cword f.csub 0 then Counter else Plain)) (zero-mod f.words) in
    false≢true (ap (λ (kind : SlotKind). elim kind [
      | Sync ↦ false
      | Counter ↦ false
      | Plain ↦ true
    ]) (sym first ∙ empty.plain))

pub run_first : (f : FrameRow) (l : Laid) (slot : ℕ) → slot ≡ 0 → IsEmptyRun f l slot 0
run_first f l slot first = subst (λ k. IsEmptyRun f l k 0) (sym first) (run_none f l 0 (first_taken f l))

-- a run that reaches the end of the superframe ends there
run_end : (f : FrameRow) (l : Laid) (slot run n : ℕ) → IsEmptyRun f l slot run → n ≤ run → slot < 64 * f.words → 64 * f.words ≤ slot + n
    → (slot + n ≡ 64 * f.words) × (run - n ≡ 0)
run_end f l slot run zero is few below past = absurd (omega (arith, below, past))
run_end f l slot run (suc n) is few below past =
    let last = (is.slots n (omega (arith, few))).0 in
    ⊎_elim
    (λ (more : suc n < run). let next = (is.slots (suc n) more).0 in absurd (omega (arith, next, past)))
    (λ (all : run ≤ suc n). (omega (arith, last, past), omega (arith, all, few)))
    (cases_lt (suc n) run)

-- what is left of empty slots after some of them
pub HasEmptyRun-rest : (f : FrameRow) (l : Laid) (k run n rest : ℕ) → HasEmptyRun f l (slot_within f.words k) run → n + rest ≤ run
    → HasEmptyRun f l (slot_within f.words (k + n)) rest
HasEmptyRun-rest f l k run n rest is within j less =
    let at = is (n + j) (omega (arith, within)) in
    let slot = slot_within f.words k in
    let here = within_more f.words k n (omega (arith, at.0)) in
    let there : slot + (n + j) ≡ slot_within f.words (k + n) + j = omega (arith, here) in
    (omega (arith, at.0, there), subst (IsEmptySlot f l) there at.1)

-- what is left of a run after some of its slots
pub run_rest : (f : FrameRow) (l : Laid) (k run n : ℕ) → 0 < f.words → IsEmptyRun f l (slot_within f.words k) run → n ≤ run
    → IsEmptyRun f l (slot_within f.words (k + n)) (run - n)
run_rest f l k run n some is few =
    let w = f.words in
    let slot = slot_within w k in
    ⊎_elim
    (λ (inside : slot + n < 64 * w).
    let last : slot + n + (run - n) ≡ slot + run = omega (arith, few) in
    subst (λ m. IsEmptyRun f l m (run - n)) (sym (within_more w k n inside)) (record {
      slots = λ j less.
          let at = is.slots (n + j) (omega (arith, less)) in
          let there : slot + (n + j) ≡ slot + n + j = omega arith in
          (omega (arith, at.0), subst (IsEmptySlot f l) there at.1);
      ends = λ within empty. is.ends (omega (arith, within, last)) (subst (IsEmptySlot f l) last empty);
    }))
    (λ (past : 64 * w ≤ slot + n).
    let end = run_end f l slot run n is few (mod_below k (64 * w) (omega arith)) past in
    let next : slot_within w (k + n) ≡ 0 = sym (mod-add-mod k (64 * w) n) ∙ ap (λ x. x % (64 * w)) end.0 ∙ mod_self (64 * w) in
    subst (IsEmptyRun f l (slot_within w (k + n))) (sym end.1) (run_first f l (slot_within w (k + n)) next))
    (cases_lt (slot + n) (64 * w))

-- past the superframe's last slot
pub run_past : (f : FrameRow) (l : Laid) (slot run : ℕ) → run ≡ 0 → 64 * f.words ≤ slot → IsEmptyRun f l slot run
run_past f l slot run none past = record {
  slots = λ j less. absurd (omega arith);
  ends = λ inside empty. absurd (omega (arith, past, inside));
}

after : (k slot : ℕ) → slot ≤ k → (k ≡ slot → ⊥) → slot + 1 ≤ k
after k slot from other = ⊎_elim (λ (less : slot < k). omega (arith, less)) (λ (le : k ≤ slot). absurd (other (omega (arith, le, from)))) (cases_lt slot k)

-- where the run of one slot is put before those after it
pub run_put : (f : FrameRow) (l : Laid) (runs : List ℕ) (slot run : ℕ) → slot < length runs → IsEmptyRun f l slot run
    → ((k : ℕ) → slot + 1 ≤ k → IsEmptyRun f l k (slice_index runs k)) → (k : ℕ) → slot ≤ k → IsEmptyRun f l k (slice_index (set runs slot run) k)
run_put f l runs slot run room here each k from =
    ⊎_elim
    (λ (same : k ≡ slot). subst (λ m. IsEmptyRun f l m (get_or (set runs slot run) m 0)) (sym same)
    (subst (IsEmptyRun f l slot) (sym (get_or-set_same runs slot run 0 room)) here))
    (λ (other : k ≡ slot → ⊥). subst (IsEmptyRun f l k) (sym (get_or-set_other runs slot k run 0 other)) (each k (after k slot from other)))
    (cases_eq k slot)

pub zeros_read : (n k : ℕ) → ◌≡◌ {A = ℕ} (get_or (replicate n 0) k 0) 0
zeros_read zero k = refl
zeros_read (suc n) zero = refl
zeros_read (suc n) (suc k) = zeros_read n k

pub runs_begun : (f : FrameRow) (l : Laid) (runs : List ℕ) → runs ≡ replicate (64 * f.words) 0 → (k : ℕ) → 64 * f.words ≤ k
    → IsEmptyRun f l k (slice_index runs k)
runs_begun f l runs are k past = run_past f l k (get_or runs k 0) (ap (λ xs. get_or xs k 0) are ∙ zeros_read (64 * f.words) k) past

-- ---- drawing them

-- nothing is drawn for an empty slot
draws_none : (k : SamplerKept) (slot : ℕ) → slot ≡ slot_within k.frame.words k.slots_drawn → slot < 64 * k.frame.words → slot_parts k.laid slot ≡ []
    → DrawsData k slot k.raws 0
draws_none k slot is below none = record {
  slot_is = is;
  below = below;
  word = λ value have. subst (λ (ps : List SlotPart). IsDrawnWord value ps k.raws k.raws 0) (sym none) (IsDrawnWord-none value k.raws);
}

word_none : (f : FrameRow) (k : ℕ) → kind_of f.words f.cword f.csub k ≡ Plain → 0 ≡ word_with f k 0
word_none f k plain =
    sym (ap (λ (kind : SlotKind). elim kind [
      | Sync ↦ sync_word (subframe_of f.words k)
      | Counter ↦ frame_of f.words k % 4096
      | Plain ↦ 0
    ]) plain)

draws_next : (k : SamplerKept) (n : ℕ) → (slot_within k.frame.words k.slots_drawn + n < 64 * k.frame.words)
    × IsEmptySlot k.frame k.laid (slot_within k.frame.words k.slots_drawn + n)
    → DrawsData (with_slots_passed k n) (slot_within k.frame.words k.slots_drawn + n) k.raws 0
draws_next k n at =
    draws_none (with_slots_passed k n) (slot_within k.frame.words k.slots_drawn + n)
    (sym (within_more k.frame.words k.slots_drawn n at.0)) at.0 at.1.parts

next_word_none : (k : SamplerKept) (n : ℕ) → (slot_within k.frame.words k.slots_drawn + n < 64 * k.frame.words)
    × IsEmptySlot k.frame k.laid (slot_within k.frame.words k.slots_drawn + n) → 0 ≡ word_with k.frame (k.slots_drawn + n) 0
next_word_none k n at =
    let f = k.frame in
    word_none f (k.slots_drawn + n)
    (sym (kind_within f.words f.cword f.csub (k.slots_drawn + n) (omega (arith, at.0)))
    ∙ ap (kind_of f.words f.cword f.csub) (within_more f.words k.slots_drawn n at.0) ∙ at.1.plain)

-- the value after n empty slots
pub Stands-empty : (k : SamplerKept) (past : SamplerPast) (n : ℕ) → RepresentsSampler k past
    → HasEmptyRun k.frame k.laid (slot_within k.frame.words k.slots_drawn) n → RepresentsSampler (with_slots_passed k n) (sampler_with_words past n)
Stands-empty k past zero st run =
    let same : k.slots_drawn ≡ k.slots_drawn + zero = omega arith in
    let same_past : past.slots_drawn ≡ past.slots_drawn + zero = omega arith in
    subst (λ m. RepresentsSampler (record k { slots_drawn = m }) (sampler_with_words past zero)) same
    (subst (λ m. RepresentsSampler k (record past { slots_drawn = m })) same_past st)
Stands-empty k past (suc n) st run =
    let at = run n (omega arith) in
    let before = Stands-empty k past n st (λ j l. run j (omega arith)) in
    let count : past.slots_drawn + n + 1 ≡ past.slots_drawn + suc n = omega arith in
    subst (λ m. RepresentsSampler (with_slots_passed k (suc n)) (record past { slots_drawn = m })) count
    (Stands-next (with_slots_passed k n) (with_slots_passed k (suc n)) (sampler_with_words past n) (slot_within k.frame.words k.slots_drawn + n) k.raws 0 before
    (draws_next k n at) refl refl refl refl refl (omega arith))

-- whose words are 0
pub words_empty : (k : SamplerKept) (past : SamplerPast) (n j : ℕ) → RepresentsSampler k past
    → HasEmptyRun k.frame k.laid (slot_within k.frame.words k.slots_drawn) n → j < n → slot_word past.table past.records (past.slots_drawn + j) ≡ 0
words_empty k past n j st run less =
    let at = run j less in
    let before = Stands-empty k past j st (λ i l. run i (omega arith)) in
    sym (slot_word-stands (with_slots_passed k j) (sampler_with_words past j) (slot_within k.frame.words k.slots_drawn + j) k.raws 0 0 before
    (draws_next k j at) (next_word_none k j at))
