use Rattle.std.proofs.Common.{◌≡◌, false, subst, sym, ◌∙◌}
use Rattle.std.proofs.lemmas.Bool.{lt-leb}
use Rattle.fdr_table.specs.Rows.{FrameRow, PlaceRow}
use Rattle.fdr_table.specs.Views.{frame_view, place_view}
use Rattle.fdr_check.specs.Occurrences.{is_on_word}
use Rattle.fdr_check.specs.Faults.{meets_counter}
use Rattle.fdr_check.proofs.Meeting.{meets_no_word, meets_no_subframe, meets_word}
use Rattle.fdr_check.proofs.faults.meets_counter.Goals as goal

pub returns-then-not-has_subframe : goal.returns-then-not-has_subframe
returns-then-not-has_subframe c =
    let f = frame_view c.frame.inside in
    let p = place_view c.place.inside in
    let at_views : false ≡ meets_counter f p = meets_no_subframe f p c.frame.invariant c.place.invariant (sym c.if-not-has_subframe.ensures) in
    subst (λ (x : FrameRow). false ≡ meets_counter x c.args.place.now) c.frame.view_is
    (subst (λ (x : PlaceRow). false ≡ meets_counter f x) c.place.view_is at_views)

pub returns-then-frame : goal.returns-then-frame
returns-then-frame c =
    let f = frame_view c.frame.inside in
    let p = place_view c.place.inside in
    let at_views : is_on_word p f.cword ≡ meets_counter f p =
    meets_word f p c.frame.invariant c.place.invariant (sym c.if-not-has_subframe.ensures) c.if-frame.true in
    c.is_on_word.ensures ∙ subst (λ (x : FrameRow). is_on_word c.args.place.now f.cword ≡ meets_counter x c.args.place.now) c.frame.view_is
    (subst (λ (x : PlaceRow). is_on_word x f.cword ≡ meets_counter f x) c.place.view_is at_views)

pub returns-else-frame : goal.returns-else-frame
returns-else-frame c =
    let f = frame_view c.frame.inside in
    let p = place_view c.place.inside in
    let at_views : false ≡ meets_counter f p = meets_no_word f p c.frame.invariant c.place.invariant c.if-frame.false in
    lt-leb _ _ c.if-frame.false ∙ subst (λ (x : FrameRow). false ≡ meets_counter x c.args.place.now) c.frame.view_is
    (subst (λ (x : PlaceRow). false ≡ meets_counter f x) c.place.view_is at_views)
