use Rattle.std.proofs.Common.{◌≡◌, ℕ, ◌+◌, ◌-◌, ◌≤◌, List, ◌++◌, take, length, refl, sym, ap, ◌∙◌, arith}
use Rattle.std.proofs.Math.Seq.{take-append-add}
use Rattle.std.proofs.lemmas.List.{take-take, length-take-le}
use Rattle.std.proofs.lemmas.Slice.{take-put_mid}
use Rattle.fdr_io.proofs.buffers.lay.Goals as goal

-- the front of what was laid after the first bytes that count
front : (at count n : ℕ) (room bytes after : List ℕ) → take n after ≡ take at room ++ bytes → at + count ≤ n → at ≤ length room
    → take (at + count) after ≡ take at room ++ take count bytes
front at count n room bytes after laid within inside =
    let long : length (take at room) ≡ at = length-take-le at room inside in
    sym (take-take (at + count) n after within) ∙ ap (take (at + count)) laid
    ∙ ap (λ k. take (k + count) (take at room ++ bytes)) (sym long) ∙ take-append-add (take at room) bytes count

pub returns-clause-laid : goal.returns-clause-laid
returns-clause-laid g c =
    let room = c.args.room.now in
    let bytes = c.copy_from_slice.new.self in
    let text : bytes ≡ c.args.text.now = c.copy_from_slice.ensures.after in
    let long : length bytes ≡ g.row.N = ap length text ∙ c.told-text in
    let inside : c.args.at ≤ length room = omega (arith, c.requires.room) in
    front c.args.at c.args.count (c.args.at + length bytes) room bytes _
    (take-put_mid c.args.at (c.args.at + g.row.N - c.args.at) room bytes (c.args.at + length bytes) refl inside)
    (omega (arith, long, c.requires.front)) inside
    ∙ ap (λ bytes. take c.args.at room ++ take c.args.count bytes) text
