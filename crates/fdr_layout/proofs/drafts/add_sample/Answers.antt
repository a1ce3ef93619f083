use Rattle.std.proofs.Common.{◌≡◌, ◌+◌, ◌-◌, ◌++◌, ◌∷◌, [], List, length, take, drop, ap, ◌∙◌, arith}
use Rattle.std.proofs.lemmas.Grind.{common_steps}
use Rattle.std.specs.List.{filter_map}
use Rattle.std.proofs.lemmas.List.{take_all, length-drop}
use Rattle.fdr_layout.specs.Samples.{Part, Sample, part_at, last_at}
use Rattle.fdr_layout.specs.SlotParts.{plain_parts}
use Rattle.fdr_layout.specs.Drafts.{listed}
use Rattle.fdr_layout.proofs.Drafting.{draft_more, added_parts, added_few, push_long}
use Rattle.fdr_layout.proofs.drafts.add_sample.Goals as goal

pub overflow_cast-len : goal.overflow_cast-len
overflow_cast-len c =
    let more = added_few c.len-number.result (part_at c.args.index) c.args.carriers.now _ _ c.in_ok-add_parts.ensures in
    omega (arith, c.len.ensures, c.add_parts.new.parts.ok.0, more, c.requires.within_superframe, c.requires.four, c.requires.parts)

pub returns-clause-sample : goal.returns-clause-sample
returns-clause-sample c =
    λ ss is.
    let d = c.args.draft.now in
    let n = c.len-number.result in
    let start = c.len-start.result in
    let own = filter_map (part_at c.args.index) c.args.carriers.now in
    let made : List Part → Sample = λ ps. record { param = c.args.param; index = c.args.index; parts = ps } in
    let from : start ≡ length d.parts.items = omega (arith, c.len-start.ensures, d.parts.ok.0) in
    let all = c.deref.result.now in
    let now = take (length all - start) (drop start all) in
    let plain : plain_parts now ≡ own =
    added_parts n own d.parts.items c.add_parts.new.parts.items now start c.in_ok-add_parts.ensures from
    (take_all (length all - start) (drop start all) (omega (arith, length-drop start all)) ∙ ap (drop start) c.deref.ensures.value) in
    let end : c.len.result ≡ length c.add_parts.new.parts.items = omega (arith, c.len.ensures, c.add_parts.new.parts.ok.0) in
    draft_more ss (made own) n d.list.items _ d.lasts.items _ d.parts.items _ d.starts.items _ is (omega (arith, c.len-number.ensures, d.list.ok.0))
    (c.in_ok-push.ensures ∙ ap (λ e. d.list.items ++ e ∷ []) (c.of_parts-sample.ensures ∙ ap (λ ps. listed (n, made ps)) plain))
    (c.in_ok-push-2.ensures ∙ ap (λ x. d.lasts.items ++ x ∷ []) (c.last_bit-last.ensures ∙ ap last_at plain))
    c.in_ok-add_parts.ensures
    (c.in_ok-push-3.ensures ∙ ap (λ x. d.starts.items ++ x ∷ []) end)

pub returns-clause-parts : goal.returns-clause-parts
returns-clause-parts c =
    let more = added_few c.len-number.result (part_at c.args.index) c.args.carriers.now _ _ c.in_ok-add_parts.ensures in
    let count : length c.push.new.items.items ≡ length c.args.draft.now.list.items + 1 = push_long _ _ _ c.in_ok-push.ensures in
    omega (arith, more, count, c.requires.parts, c.requires.four)

pub slice_bounds-own-count : goal.slice_bounds-own-count
slice_bounds-own-count c = grind (arith, common_steps) steps 2000000

pub slice_bounds-own-start : goal.slice_bounds-own-start
slice_bounds-own-start c = grind (arith, common_steps) steps 2000000

pub returns-clause-count : goal.returns-clause-count
returns-clause-count c = grind (arith, common_steps) steps 2000000
