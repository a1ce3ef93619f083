use Rattle.std.proofs.Common.{◌≡◌, ◌+◌, ◌*◌, ◌/◌, ◌%◌, ◌^◌, ◌≤◌, ◌∷◌, [], bit_and, length, slice_set, ap, ◌∙◌, arith}
use Rattle.std.specs.Prelude.{slice_index}
use Rattle.std.proofs.lemmas.Grind.{get_or_default_zero}
use Rattle.fdr_stream.specs.Waiting.{WaitingBytes, waiting_of, with_words}
use Rattle.fdr_stream.proofs.Rooms.{first_fits, word_pushed, length_whole}
use Rattle.fdr_stream.proofs.waiting.Waiting.push.Goals.{After-index_mut}
use Rattle.fdr_stream.proofs.waiting.Waiting.push.Goals as goal

room_left : (c : After-index_mut) → c.self.inside.halves / 2 + 2 ≤ length c.self.inside.room.items
room_left c =
    let whole = length_whole c.self.inside.room.items c.self.inside.halves c.self.invariant in
    let items = ap (λ (w : WaitingBytes). length w.items) c.self.view_is in
    let room = ap (λ (w : WaitingBytes). w.capacity) c.self.view_is in
    omega (arith, whole, items, room, c.requires.room)

-- the byte that may have four bits
byte_is : (c : After-index_mut) → c.index_mut.result.now ≡ slice_index c.self.inside.room.items (c.self.inside.halves / 2)
byte_is c =
    c.index_mut.ensures.value
    ∙ get_or_default_zero c.self.inside.room.items (c.self.inside.halves / 2) c.index_mut.result.now (omega (arith, room_left c))

pub overflow_add-index_mut : goal.overflow_add-index_mut
overflow_add-index_mut c =
    let fits = first_fits c.self.inside.room.items c.self.inside.halves c.args.word c.self.invariant c.requires.twelve_bits in
    omega (arith, byte_is (goal.at.overflow_add-index_mut c).After-index_mut, fits)

pub returns : goal.returns
returns c =
    let room = c.self.inside.room.items in
    let h = c.self.inside.halves in
    let n = c.args.word * 2 ^ (4 * (h % 2)) % 65536 in
    let at = (goal.at.returns c).After-index_mut in
    ap (λ b. waiting_of (slice_set (slice_set room (h / 2) (b + bit_and n 255)) (h / 2 + 1) (n / 256)) (h + 3)) (byte_is at)
    ∙ word_pushed room h c.args.word c.self.invariant (room_left at) c.requires.twelve_bits
    ∙ ap (λ (w : WaitingBytes). with_words w (c.args.word ∷ [])) c.self.view_is
