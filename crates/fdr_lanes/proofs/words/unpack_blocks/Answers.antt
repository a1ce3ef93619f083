use Rattle.std.proofs.Common.{◌≡◌, ◌+◌, ◌-◌, ◌*◌, ◌/◌, ◌%◌, get_or, ap, ◌∙◌, ⊎_elim, arith}
use Rattle.std.proofs.lemmas.Bool.{cases_lt}
use Rattle.std.proofs.lemmas.Simd.{get_or-put_chunk_below, get_or-put_chunk_at}
use lib.Lanes.{put_chunk}
use Rattle.fdr_lanes.proofs.Numbers.{word_of_chunk}
use Rattle.fdr_lanes.proofs.words.unpack_blocks.Goals as goal

pub loop-i-preserved : goal.loop-i-preserved
loop-i-preserved c = λ k low.
    let b = c.args.bytes.now in
    let from = c.args.from in
    let i = c.loop-i.i in
    let out = c.loop-i.out in
    let eight = c.eight_words.result in
    let long = c.eight_words.ensures.len in
    ⊎_elim (λ old. get_or-put_chunk_below (8 * i) out eight k 0 old ∙ c.loop-i.invariant k old)
    (λ new.
    let j = k - 8 * i in
    let is : k ≡ 8 * i + j = omega arith in
    ap (λ x. get_or (put_chunk (8 * i) out eight) x 0) is ∙ get_or-put_chunk_at (8 * i) out eight j 0 (omega arith) (omega arith)
    ∙ c.eight_words.ensures.words j (omega arith)
    ∙ word_of_chunk b (from / 8 + 12 * i) 16 (from % 8 + 12 * j) (from + 12 * k) (omega arith) (omega arith))
    (cases_lt k (8 * i))
