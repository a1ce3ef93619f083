use Rattle.std.proofs.Common.{◌≡◌, ◌+◌, [], ◌∷◌, ◌++◌, length, sym, ap, ◌∙◌, subst, arith, length-append}
use Rattle.fdr_sampler.specs.Past.{SamplerPast, RepresentsSampler}
use Rattle.fdr_stream.specs.Packing.{filled_by}
use Rattle.fdr_stream.specs.Kept.{StreamKept}
use Rattle.fdr_stream.specs.View.{drawing_kept}
use Rattle.fdr_stream.specs.Past.{StreamPast, IsPacked, IsSampled, words_to}
use Rattle.fdr_stream.proofs.PackingLemmas.{length-filled_by}
use Rattle.fdr_stream.proofs.Drawn.{words_to-more}
use Rattle.fdr_stream.proofs.Standing.{IsSampled-words, IsPacked-drawn}
use Rattle.fdr_stream.proofs.drawing.Drawing.draw_word.Goals as goal

here : (c : goal.After-pack) (past : StreamPast) → IsSampled c.args.self.now past → IsSampled (drawing_kept c.self.inside) past
here c past st = subst (λ (k : StreamKept). IsSampled k past) (sym c.self.view_is) st

at : (c : goal.After-pack) → StreamPast → SamplerPast
at c past = record { table = past.table; records = past.records; slots_drawn = c.self.inside.sampler.slots_drawn }

stands : (c : goal.After-pack) (past : StreamPast) → IsSampled c.args.self.now past →
    RepresentsSampler c.next_word-word.new.self (record { table = past.table; records = past.records; slots_drawn = c.self.inside.sampler.slots_drawn + 1 })
unfolding at
stands c past st = c.next_word-word.ensures.stands (at c past) (here c past st)

pub returns-clause-sampled : goal.returns-clause-sampled
returns-clause-sampled c past st =
    IsSampled-words (drawing_kept c.self.inside) c.pack.new.self c.next_word-word.new.self past 1 (c.next_word-word.result ∷ []) c.pack.ensures
    (stands c past st)

pub returns-clause-packed : goal.returns-clause-packed
unfolding at
returns-clause-packed c past st packed =
    let d = c.self.inside.sampler.slots_drawn in
    let word = c.next_word-word.ensures.word (at c past) (here c past st) in
    IsPacked-drawn (drawing_kept c.self.inside) c.pack.new.self c.next_word-word.new.self past 1 (c.next_word-word.result ∷ []) c.pack.ensures
    (stands c past st) (words_to-more past d ∙ ap (λ w. words_to past d ++ w ∷ []) (sym word))
    (subst (λ (k : StreamKept). IsPacked k past) (sym c.self.view_is) packed)

pub returns-clause-slots_drawn : goal.returns-clause-slots_drawn
returns-clause-slots_drawn c =
    ap (λ (k : StreamKept). k.sampler.slots_drawn) c.pack.ensures ∙ (stands c c.requires.past.0 c.requires.past.1).slots_drawn
    ∙ ap (λ (k : StreamKept). k.sampler.slots_drawn + 1) c.self.view_is

length_after : (c : goal.After-pack) → length c.pack.new.self.bytes ≡ length c.args.self.now.bytes + length
    (filled_by (drawing_kept c.self.inside).odd (c.next_word-word.result ∷ []))
length_after c =
    let word = c.next_word-word.result in
    let inside = drawing_kept c.self.inside in
    ap (λ (k : StreamKept). length k.bytes) c.pack.ensures ∙ length-append inside.bytes (filled_by inside.odd (word ∷ []))
    ∙ ap (λ (k : StreamKept). length k.bytes + length (filled_by inside.odd (word ∷ []))) c.self.view_is

pub returns-clause-filled : goal.returns-clause-filled
returns-clause-filled c = omega (arith, length_after c, length-filled_by (drawing_kept c.self.inside).odd (c.next_word-word.result ∷ []))

pub returns-clause-within_room : goal.returns-clause-within_room
returns-clause-within_room c =
    let payload = ap (λ (k : StreamKept). k.payload) c.pack.ensures ∙ ap (λ (k : StreamKept). k.payload) c.self.view_is in
    omega (arith, length_after c, length-filled_by (drawing_kept c.self.inside).odd (c.next_word-word.result ∷ []), c.requires.room, payload)
