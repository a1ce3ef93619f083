use Rattle.std.proofs.Common.{◌≡◌, ◌+◌, ◌*◌, ◌%◌, true, false, ap, ◌∙◌, arith}
use Rattle.std.proofs.lemmas.Bool.{false_from_ne_true}
use Rattle.fdr_bus.specs.Words.{is_odd}
use Rattle.fdr_gen.specs.Trace.{Sender, bus_word_of}
use Rattle.fdr_gen.proofs.Reading.{fields_is, odd_word, even_word}
use Rattle.fdr_gen.proofs.sender.Sender.word.Goals as goal

pub returns-then-is_odd : goal.returns-then-is_odd
returns-then-is_odd c =
    let s : Sender = record { bus = c.self.inside.bus; label = c.self.inside.label; sdi = c.self.inside.sdi } in
    odd_word s c.args.number _
    (fields_is s c.args.number c.reverse_bits.result c.from-label.result c.from.result c.field.result c.reverse_bits.ensures c.from-label.ensures (omega arith)
    c.from.ensures c.self.invariant c.field.ensures.value c.field.ensures.fits)
    (c.is_odd.ensures.0 c.if-is_odd.true)
    ∙ ap (λ (x : Sender). bus_word_of x c.args.number) c.self.view_is

pub returns-else-is_odd : goal.returns-else-is_odd
returns-else-is_odd c =
    let s : Sender = record { bus = c.self.inside.bus; label = c.self.inside.label; sdi = c.self.inside.sdi } in
    let even : is_odd (c.from-label.result + c.from.result * 256 % 4294967296 + c.field.result * 1024 % 4294967296) ≡ false =
    false_from_ne_true _ (λ odd. let both : c.is_odd.result ≡ true = c.is_odd.ensures.1 odd in absurd (cc)) in
    even_word s c.args.number _
    (fields_is s c.args.number c.reverse_bits.result c.from-label.result c.from.result c.field.result c.reverse_bits.ensures c.from-label.ensures (omega arith)
    c.from.ensures c.self.invariant c.field.ensures.value c.field.ensures.fits)
    even
    ∙ ap (λ (x : Sender). bus_word_of x c.args.number) c.self.view_is
