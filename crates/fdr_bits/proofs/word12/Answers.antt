use Rattle.std.proofs.Common.{◌≡◌, ◌+◌, ◌/◌, ◌%◌, ◌^◌, sym, ap, ◌∙◌, arith, unwrap_or, get_or}
use Rattle.std.proofs.lemmas.Nat.{and_mask}
use Rattle.fdr_bits.proofs.WordLemmas.{word_at_by_bytes, three_bytes}
use Rattle.fdr_bits.proofs.word12.Goals as goal

pub returns-clause-value : goal.returns-clause-value
returns-clause-value c =
    let b = c.args.bytes.now in
    let place = c.args.p / 8 in
    let third : c.unwrap_or-third.result ≡ get_or b (place + 2) 0 =
    c.unwrap_or-third.ensures ∙ ap (λ o. unwrap_or o 0) c.copied.ensures ∙ c.get.ensures.lookup.4 (omega arith) 0 in
    let window : c.from_le_bytes-window.result ≡ three_bytes b place = omega (arith, c.from_le_bytes-window.ensures, third) in
    and_mask (c.from_le_bytes-window.result / 2 ^ (c.args.p % 8)) 12 ∙ ap (λ v. v / 2 ^ (c.args.p % 8) % 2 ^ 12) window
    ∙ sym (word_at_by_bytes b c.args.p (λ k. omega (arith, c.type_inv.bytes k)))
