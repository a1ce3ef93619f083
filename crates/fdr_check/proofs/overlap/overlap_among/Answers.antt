use Rattle.std.proofs.Common.{◌≡◌, ℕ, ◌<◌, ◌*◌, ◌+◌, ◌||◌, take, drop, ◌++◌, length, refl, subst, sym, ap, ◌∙◌}
use Rattle.std.proofs.lemmas.List.{take_at}
use Rattle.fdr_check.specs.Soundness.{covers}
use Rattle.fdr_check.specs.Walks.{AreMarks, is_marked}
use Rattle.fdr_check.proofs.Searches.{first_later}
use Rattle.fdr_check.proofs.Overlapping.{none_of, overlap_by_index, no_overlap_among, overlap_among_found, marks_next}
use Rattle.fdr_check.proofs.overlap.overlap_among.Goals as goal

pub loop-index-init : goal.loop-index-init
loop-index-init c = record { marks = c.in_ok-marks.ensures; none = refl }

pub returns-then-is_some : goal.returns-then-is_some
returns-then-is_some c =
    overlap_among_found c.args.words c.args.places.now c.loop-index.index c.index-places-index.result c.in_ok-overlap.overlap c.loop-index-test.true
    c.index-places-index.is c.loop-index.invariant.none c.in_ok-overlap.ensures (sym c.if-is_some.ensures)

pub loop-index-preserved : goal.loop-index-preserved
loop-index-preserved c =
    let w = c.args.words in
    let i = c.loop-index.index in
    let q = c.index-places-index.result in
    let old = c.loop-index.marks.items in
    let new = c.mark.new.marks in
    let same : c.deref_mut.result.now ≡ old = c.deref_mut.ensures.value in
    let len : length new ≡ length old = c.mark.ensures.length ∙ ap length same in
    let more : (b : ℕ) → b < 768 * w → is_marked new b ≡ (is_marked old b || covers w q b) =
    λ b l. c.mark.ensures.marked b l ∙ ap (λ m. is_marked m b || covers w q b) same in
    let whole : take c.loop-index.marks.len (new ++ drop (length new) old) ≡ new =
    take_at new (drop (length new) old) c.loop-index.marks.len (c.mark.ensures.length ∙ c.deref_mut.ensures.len) in
    record {
      marks = subst (λ ms. AreMarks w (take (i + 1) c.args.places.now) ms) (sym whole)
          (marks_next w c.args.places.now i q old new c.loop-index-test.true c.index-places-index.is c.loop-index.invariant.marks len more);
      none = first_later (overlap_by_index w c.args.places.now) c.args.places.now i q c.loop-index-test.true c.index-places-index.is c.loop-index.invariant.none
          (sym c.in_ok-overlap.ensures ∙ none_of c.in_ok-overlap.overlap (sym c.if-is_some.ensures));
    }

pub returns : goal.returns
returns c = no_overlap_among c.args.words c.args.places.now c.loop-index.index c.loop-index-test.false c.loop-index.invariant.none
