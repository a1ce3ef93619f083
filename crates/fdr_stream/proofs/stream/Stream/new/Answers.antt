use Rattle.std.proofs.Common.{◌≡◌, ◌≤◌, sym, ap, ◌∙◌, subst, arith}
use Rattle.fdr_table.specs.Rows.{FrameRow, TableRows}
use Rattle.fdr_sampler.specs.Past.{RepresentsSampler, sampler_made}
use Rattle.fdr_stream.specs.Kept.{StreamKept, stream_at_start, with_late_slots, HasLateSlots}
use Rattle.fdr_stream.specs.Past.{stream_made, RepresentsStream}
use Rattle.fdr_stream.proofs.LateSlots.{with_late_slots-none, HasEmptySlots-none}
use Rattle.fdr_stream.proofs.Standing.{Stands-made}
use Rattle.fdr_stream.proofs.stream.Stream.new.Goals as goal

pub returns : goal.returns
returns c =
    let t = c.args.sound.now in
    let words : c.frame.inside.words ≡ t.frame.words =
    ap (λ (f : FrameRow). f.words) (c.frame.view_is ∙ c.frame-frame.ensures ∙ ap (λ (x : TableRows). x.frame) c.table.ensures) in
    let few : t.frame.words ≤ 1024 = omega arith in
    let drawing = c.in_ok-drawing.drawing in
    let made : RepresentsStream (stream_at_start c.in_ok-sampler.sampler c.args.payload) (stream_made t c.args.payload) =
    Stands-made c.in_ok-sampler.sampler t c.args.payload c.requires.low c.requires.high few c.in_ok-sampler.ensures in
    let none_late : drawing ≡ with_late_slots drawing c.start-2.result =
    sym (with_late_slots-none drawing) ∙ ap (with_late_slots drawing) (sym c.start-2.ensures) in
    subst (λ (x : StreamKept). RepresentsStream x (stream_made t c.args.payload)) (sym c.in_ok-drawing.ensures ∙ none_late) made

pub invariant_of-result : goal.invariant_of-result
invariant_of-result c =
    let t = c.args.sound.now in
    let sampler = c.in_ok-sampler.sampler in
    let start : StreamKept = stream_at_start sampler c.args.payload in
    let made : RepresentsSampler sampler (sampler_made t) = c.in_ok-sampler.ensures in
    let words : c.frame.inside.words ≡ t.frame.words =
    ap (λ (f : FrameRow). f.words) (c.frame.view_is ∙ c.frame-frame.ensures ∙ ap (λ (x : TableRows). x.frame) c.table.ensures) in
    let frame : sampler.frame.words ≡ t.frame.words = ap (λ (f : FrameRow). f.words) made.frame in
    subst (λ (x : StreamKept). HasLateSlots x 0 c.start.result c.start-2.result) (sym c.in_ok-drawing.ensures) (record {
      empty = HasEmptySlots-none start (omega (arith, c.requires.low));
      data_time_is = omega (arith, c.start.ensures, made.slots_drawn);
      within = omega (arith, c.start-2.ensures);
      in_time = omega (arith, c.start-2.ensures);
      words = omega (arith, words, frame);
      slots = omega (arith, made.slots_drawn);
    })
