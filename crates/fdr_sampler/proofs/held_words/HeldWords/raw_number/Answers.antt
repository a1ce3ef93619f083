use Rattle.std.proofs.Common.{◌≡◌, ◌<◌, sym, ap, ◌∙◌, length, Option, Some, None, arith}
use Rattle.std.specs.Prelude.{slice_get, slice_index_or}
use Rattle.std.proofs.lemmas.List.{get_or_default, length-map}
use Rattle.std.proofs.lemmas.Option.{get_or_from_slice_get, slice_get-map}
use Rattle.fdr_lists.proofs.Numbered.{slice_get_some}
use Rattle.fdr_sampler.specs.declared.held_words.HeldSource.{HeldSource}
use Rattle.fdr_sampler.specs.HeldWords.{HeldBySource, place_of, as_held_word, no_word, own_held, HasWord}
use Rattle.fdr_sampler.specs.Held.{Source, HeldWord, raw_of_held}
use Rattle.fdr_sampler.specs.Kept.{raw_number_at}
use Rattle.std.specs.Option.{option_map, option_map_or}
use Rattle.fdr_sampler.proofs.Holding.{of_held, own_below, held_at}
use Rattle.fdr_sampler.proofs.held_words.HeldWords.raw_number.Goals as goal
use Rattle.fdr_sampler.proofs.held_words.HeldWords.raw_number.Goals.{After-index-held}

its_held : (c : After-index-held) → (h : HeldSource) × (slice_get c.self.inside.sources.items c.args.source ≡ Some h)
its_held c =
    let held = c.self.inside.sources.items in
    slice_get_some held c.args.source
    (omega (arith, c.requires, ap (λ (h : HeldBySource). length h.sources) c.self.view_is, length-map held (λ (h : HeldSource). h.source)))

is_held : (c : After-index-held) → c.index-held.result.now ≡ (its_held c).0
is_held c =
    c.index-held.ensures ∙ get_or_from_slice_get c.self.inside.sources.items c.args.source (its_held c).0 c.index-held.result.now (its_held c).1

within : (c : After-index-held) → c.index-held.result.now.at < length c.self.inside.words.items
within c =
    let h = its_held c in
    let has = of_held (HasWord c.self.inside.starts.items) c.self.inside.sources.items c.args.source h.0 c.self.invariant.words h.1 in
    omega (arith, ap (λ (x : HeldSource). x.at) (is_held c), has.at, own_below h.0.source.sdi has.two_bits, c.self.invariant.begin.within (place_of h.0.source))

pub index-requires : goal.index-requires
index-requires c = omega (arith, within (goal.at.index-requires c).After-index-held)

pub returns : goal.returns
unfolding raw_number_at
returns c =
    let at : After-index-held = (goal.at.returns c).After-index-held in
    let held = c.self.inside.sources.items in
    let words = c.self.inside.words.items in
    let n = c.args.source in
    let m = c.args.moment in
    let h = c.index-held.result.now in
    let own = its_held at in
    let word : c.index.result.now ≡ slice_index_or words h.at no_word = c.index.ensures ∙ get_or_default words h.at c.index.result.now no_word (within at) in
    let there : own_held words own.0 ≡ slice_index_or c.args.self.now.words n None =
    sym (held_at held words n own.0 own.1) ∙ ap (λ (x : HeldBySource). slice_index_or x.words n None) c.self.view_is in
    let source : Some own.0.source ≡ slice_get c.args.self.now.sources n =
    ap (option_map (λ (x : HeldSource). x.source)) (sym own.1) ∙ sym (slice_get-map (λ (x : HeldSource). x.source) held n)
    ∙ ap (λ (x : HeldBySource). slice_get x.sources n) c.self.view_is in
    c.raw_at.ensures ∙ ap (λ t. raw_of_held m.words h.source m.slot (as_held_word t)) word
    ∙ ap (λ (x : HeldSource). raw_of_held m.words x.source m.slot (own_held words x)) (is_held at)
    ∙ ap (raw_of_held m.words own.0.source m.slot) there
    ∙ ap (λ o. option_map_or (λ (s : Source). raw_of_held m.words s m.slot (slice_index_or c.args.self.now.words n None)) o 0) source
