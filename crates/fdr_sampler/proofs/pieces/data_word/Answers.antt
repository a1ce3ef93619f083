use Rattle.std.proofs.Common.{◌≡◌, ◌<◌, ◌≤◌, ◌/◌, ◌%◌, ◌^◌, ℕ, List, length, map, get_or, refl, sym, ap, ◌∙◌, subst, arith}
use Rattle.std.specs.Prelude.{if◌then◌else◌, slice_index, slice_set}
use Rattle.std.proofs.lemmas.List.{take_all, length-map, get_or-map}
use Rattle.std.proofs.lemmas.Option.{get_or_from_slice_get}
use Rattle.fdr_bits.specs.Fields.{with_field}
use Rattle.fdr_layout.specs.Samples.{Sample}
use Rattle.fdr_layout.specs.SlotParts.{SlotPart, Laid}
use Rattle.fdr_lists.proofs.Numbered.{slice_get_some}
use Rattle.fdr_sampler.specs.Held.{first_part_slot}
use Rattle.fdr_sampler.specs.Kept.{raw_number_at, slot_parts, value_at, IsDrawnWord}
use Rattle.fdr_sampler.specs.Schedule.{SlotStep, slot_steps, step_of}
use Rattle.fdr_sampler.proofs.Drawing.{IsDrawnWord-none, IsDrawnWord-more, param_within, value_read}
use Rattle.fdr_sampler.proofs.pieces.data_word.Goals as goal
use Rattle.fdr_sampler.proofs.pieces.data_word.Goals.{After-step-item}

-- the part of a step
record IsPartOf (l : Laid) (slot i : ℕ) (x : SlotStep) : Type 0 where
  part : SlotPart
  within : i < length (slot_parts l slot)
  at : part ≡ get_or (slot_parts l slot) i part
  step : x ≡ step_of (map (λ (s : Sample). s.param) l.samples) (map first_part_slot l.samples) slot part

part_of : (l : Laid) (slot i : ℕ) (items : List SlotStep) (x : SlotStep) → items ≡ slot_steps l slot → i < length items → x ≡ get_or items i x
    → IsPartOf l slot i x
part_of l slot i items x all low is =
    let parts = slot_parts l slot in
    let f = step_of (map (λ (s : Sample). s.param) l.samples) (map first_part_slot l.samples) slot in
    let within : i < length parts = omega (arith, low, ap length all, length-map parts f) in
    let a = slice_get_some parts i within in
    let at : get_or parts i a.0 ≡ a.0 = get_or_from_slice_get parts i a.0 a.0 a.1 in
    record {
      part = a.0;
      within = within;
      at = sym at;
      step = is ∙ ap (λ xs. get_or xs i x) all ∙ get_or-map f parts i a.0 x within ∙ ap f at;
    }

pub loop-step-init : goal.loop-step-init
loop-step-init c = record { small = omega arith; word = λ value have. IsDrawnWord-none value c.args.raws.now }

here : (c : After-step-item) → IsPartOf c.args.schedule.now c.args.slot c.loop-step.step-index c.step-item.result
here c =
    part_of c.args.schedule.now c.args.slot c.loop-step.step-index c.at_slot-step-items.result.now c.step-item.result c.at_slot-step-items.ensures.steps
    c.loop-step-test.true c.step-item.is

its_sample : (c : After-step-item) → (here c).part.sample < length c.args.schedule.now.samples
its_sample c =
    let p = here c in
    subst (λ (y : SlotPart). y.sample < length c.args.schedule.now.samples) (sym p.at)
    (c.at_slot-step-items.ensures.numbers c.loop-step.step-index p.part p.within)

pub value_at-raw-requires-clause-param : goal.value_at-raw-requires-clause-param
value_at-raw-requires-clause-param c =
    let at : After-step-item = (goal.at.value_at-raw-requires-clause-param c).After-step-item in
    let laid = c.args.schedule.now in
    subst (λ (y : SlotStep). y.param < length c.args.held.now.sources) (sym (here at).step)
    (param_within laid (here at).part.sample (length c.args.held.now.sources) (map (λ (s : Sample). s.param) laid.samples) (its_sample at) refl
    c.requires.params)

pub value_at-raw-requires-clause-number : goal.value_at-raw-requires-clause-number
value_at-raw-requires-clause-number c =
    let at : After-step-item = (goal.at.value_at-raw-requires-clause-number c).After-step-item in
    omega (arith, its_sample at, ap (λ (y : SlotStep). y.sample) (here at).step, c.requires.raws, c.loop-step.auto.raws)

pub loop-step-preserved : goal.loop-step-preserved
loop-step-preserved c =
    let laid = c.args.schedule.now in
    let slot = c.args.slot in
    let number = raw_number_at c.args.moment.words c.args.moment.slot c.args.held.now.sources c.args.held.now.words in
    let before = c.args.raws.now in
    let parts = slot_parts laid slot in
    let owners = map (λ (s : Sample). s.param) laid.samples in
    let firsts = map first_part_slot laid.samples in
    let i = c.loop-step.step-index in
    let at : After-step-item = (goal.at.loop-step-preserved c).After-step-item in
    let p = here at in
    let a = p.part in
    let raws = c.loop-step.raws in
    let raw = c.value_at-raw.result in
    let below = its_sample at in
    let room : a.sample < length raws = omega (arith, below, c.requires.raws, c.loop-step.auto.raws) in
    record {
      small = c.with_piece-word.ensures.twelve_bits;
      word = λ value have.
          let so_far = c.loop-step.invariant.word value have in
          let At : SlotPart → Type 0 = λ y. value_at laid slot number before y.sample ≡ value y.sample in
          let Taken : SlotStep → Type 0 = λ y. raw ≡ (if y.begins then number y.param else slice_index raws y.sample) in
          let raw_is = value_read value laid slot number before raws a.sample firsts owners (slice_index firsts a.sample) (slice_index owners a.sample) raw
          (subst At (sym p.at) (have i a p.within)) below refl refl refl refl so_far.kept (subst Taken p.step c.value_at-raw.ensures.value) in
          IsDrawnWord-more value parts i a before raws c.value_at-raw.new.raws c.loop-step.word c.with_piece-word.result raw p.within p.at so_far raw_is room
          (subst (λ (y : SlotStep). c.value_at-raw.new.raws ≡ slice_set raws y.sample raw) p.step c.value_at-raw.ensures.kept)
          c.with_piece-word.ensures.twelve_bits
          (subst (λ (y : SlotStep). c.with_piece-word.result ≡ with_field c.loop-step.word y.low y.width (raw / 2 ^ y.shift % 2 ^ y.width)) p.step
          c.with_piece-word.ensures.value);
    }

pub returns-clause-word : goal.returns-clause-word
returns-clause-word c = λ value have.
    let laid = c.args.schedule.now in
    let slot = c.args.slot in
    let parts = slot_parts laid slot in
    let i = c.loop-step.step-index in
    let count = ap length c.at_slot-step-items.ensures.steps
    ∙ length-map parts (step_of (map (λ (s : Sample). s.param) laid.samples) (map first_part_slot laid.samples) slot) in
    let all : length parts ≤ i = omega (arith, count, c.loop-step-test.false) in
    subst (λ (xs : List SlotPart). IsDrawnWord value xs c.args.raws.now c.loop-step.raws c.loop-step.word) (take_all i parts all)
    (c.loop-step.invariant.word value have)
