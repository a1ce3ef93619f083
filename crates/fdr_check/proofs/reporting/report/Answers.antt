use Rattle.std.proofs.Common.{◌≡◌, ◌++◌, length, ap, ◌∙◌, arith}
use Rattle.fdr_table.specs.Rows.{TableRows}
use Rattle.fdr_check.specs.Occurrences.{occurrences}
use Rattle.fdr_check.specs.Soundness.{most_superframe_parts}
use Rattle.fdr_check.specs.Report.{is_even, param_line}
use Rattle.fdr_check.specs.Groups.{grouped}
use Rattle.fdr_check.proofs.Grouping.{length_grouped}
use Rattle.fdr_check.proofs.Lines.{first_line, line_step, all_lines}
use Rattle.fdr_check.proofs.reporting.report.Goals as goal

pub count_parts-parts-requires-clause-fits : goal.count_parts-parts-requires-clause-fits
unfolding most_superframe_parts
count_parts-parts-requires-clause-fits c =
    let t = c.args.t.now in
    let same = c.checked-table.ensures.table in
    let words : c.words_of-words.result ≡ t.frame.words = c.words_of-words.ensures.words ∙ ap (λ (x : TableRows). x.frame.words) same in
    let places : c.places-2.result.now ≡ t.places = c.places-2.ensures ∙ ap (λ (x : TableRows). x.places) same in
    let e : length (occurrences c.words_of-words.result c.places-2.result.now) ≡ length (occurrences t.frame.words t.places) =
    ap (λ k. length (occurrences k c.places-2.result.now)) words ∙ ap (λ ps. length (occurrences t.frame.words ps)) places in
    omega (arith, e, c.checked-table.ensures.sound.within_superframe)

pub index-requires : goal.index-requires
index-requires c =
    let len : length c.in_ok-groups.groups.items ≡ length c.params-params.result.now =
    ap length c.in_ok-groups.ensures ∙ length_grouped c.places.result.now (length c.params-params.result.now) in
    omega (arith, len, c.loop-index-test.true, c.in_ok-groups.groups.ok.0)

pub loop-index-preserved : goal.loop-index-preserved
loop-index-preserved c =
    let t = c.args.t.now in
    let same = c.checked-table.ensures.table in
    let params = c.params-params.result.now in
    let i = c.loop-index.index in
    let p = c.index-params-index.result in
    let g = c.index.result.now in
    let w = c.words_of-words.result in
    let words : w ≡ t.frame.words = c.words_of-words.ensures.words ∙ ap (λ (x : TableRows). x.frame.words) same in
    let places : c.places.result.now ≡ t.places = c.places.ensures ∙ ap (λ (x : TableRows). x.places) same in
    let groups : c.in_ok-groups.groups.items ≡ grouped t.places (length params) = c.in_ok-groups.ensures ∙ ap (λ ps. grouped ps (length params)) places in
    let more : c.add_line.new.text.items ≡ c.loop-index.text.items ++ param_line (is_even w g i p.rate) p =
    c.in_ok-add_line.ensures ∙ ap (λ ps. c.loop-index.text.items ++ param_line (is_even w ps i p.rate) p) c.places-places.ensures in
    line_step t params c.in_ok-groups.groups.items i p g w (first_line t)
    c.loop-index.text.items c.add_line.new.text.items words groups c.loop-index-test.true c.index-params-index.is c.index.ensures
    c.loop-index.invariant more

pub returns : goal.returns
returns c =
    let same = c.checked-table.ensures.table in
    let params : c.params-params.result.now ≡ c.args.t.now.params = c.params-params.ensures ∙ ap (λ (x : TableRows). x.params) same in
    all_lines c.args.t.now c.params-params.result.now c.loop-index.index c.loop-index.text.items params c.loop-index-test.false c.loop-index.invariant
