use Rattle.std.proofs.Common.{◌≡◌, ℕ, ◌+◌, ◌*◌, ◌<◌, ◌≤◌, Bool, false, [], vec_len, refl, sym, ap, ◌∙◌, subst, below_more, arith}
use Rattle.std.specs.Prelude.{◌↔◌, IsTrue}
use Rattle.fdr_bus.specs.declared.BusRecord.{BusRecord}
use Rattle.fdr_bus.specs.declared.RecordKind.TheVariants.{Word}
use Rattle.fdr_bus.specs.Records.{last_time}
use Rattle.fdr_table.specs.Rows.{TableRows}
use Rattle.fdr_sampler.specs.Past.{SamplerPast, MayTake, RepresentsSampler, sampler_with_record, sampler_with_word}
use Rattle.std.specs.Bool.{if◌then◌else◌}
use Rattle.std.specs.Result.{is_ok}
use Rattle.fdr_lists.proofs.Options.{not_below}
use Rattle.fdr_cases_streams.proofs.words.words_of.Goals as goal

drawn_past : TableRows → ℕ → SamplerPast
drawn_past t n = record { table = t; records = []; slots_drawn = n }

first_record : (t : TableRows) (n : ℕ) (r : BusRecord) (b : Bool) → r.kind ≡ Word → r.time ≤ last_time → (IsTrue b ↔ (n * 1000000 < r.time * t.frame.words))
    → b ≡ false →
    ((k : ℕ) → k < n → k * 1000000 < r.time * t.frame.words) → MayTake (drawn_past t n) r
unfolding drawn_past
first_record t n r b kind in_time says missed before = record {
  kind = kind;
  order = omega arith;
  in_time = in_time;
  none_due = not_below b (n * 1000000) (r.time * t.frame.words) says missed;
  counts_for_none = before;
}

pub loop-words-preserved : goal.loop-words-preserved
unfolding drawn_past
loop-words-preserved g c =
    let inv = c.loop-words.invariant in
    let count = vec_len c.loop-words.words in
    let done = ap (λ r. if is_ok r then count + 1 else count) c.expect.ensures in
    let longer : vec_len c.push.new.self ≡ count + 1 = c.push.ensures.len ∙ done in
    let t = inv.0 in
    let past = drawn_past t (vec_len c.loop-words.words) in
    let r = c.args.r.now in
    let Late : ℕ → Type 0 = λ n. (k : ℕ) → k < n → k * 1000000 < r.time * t.frame.words in (
      t,
      subst (λ n. RepresentsSampler c.next_word.new.self (drawn_past t n)) (sym longer) (c.next_word.ensures.stands past inv.1),
      subst Late (sym longer)
          (below_more (λ k. k * 1000000 < r.time * t.frame.words) (vec_len c.loop-words.words) inv.2 ((c.due.ensures past inv.1).0 c.loop-words-test.true)),
    )

pub loop-rt-init : goal.loop-rt-init
unfolding drawn_past
loop-rt-init g c =
    let inv = c.loop-words.invariant in
    let past = drawn_past inv.0 (vec_len c.loop-words.words) in
    let r = c.args.r.now in
    let may = first_record inv.0 (vec_len c.loop-words.words) r c.due.result c.requires.kind c.requires.in_time (c.due.ensures past inv.1)
    c.loop-words-test.false inv.2 in
    (sampler_with_record past r, c.bus.ensures.stands past inv.1 may, refl)

pub loop-rt-preserved : goal.loop-rt-preserved
loop-rt-preserved g c =
    let inv = c.loop-rt.invariant in
    let count = vec_len c.loop-rt.words in
    let done = ap (λ r. if is_ok r then count + 1 else count) c.expect-in-loop-rt.ensures in
    let longer : vec_len c.push-in-loop-rt.new.self ≡ count + 1 = c.push-in-loop-rt.ensures.len ∙ done in (
      sampler_with_word inv.0,
      c.next_word-in-loop-rt.ensures.stands inv.0 inv.1,
      ap (λ n. n + 1) inv.2 ∙ sym longer,
    )
