use Rattle.std.proofs.Common.{Err, ap, sym, ◌∙◌, arith}
use Rattle.fdr_top.proofs.ListedImages.{header_refused, opening_not_memory}
use Rattle.fdr_top.proofs.listing.open_image.Goals as goal

pub returns-in-Err-clause-refused : goal.returns-in-Err-clause-refused
returns-in-Err-clause-refused g c =
    let e = c.in-Err.ensures in
    rw c.refusal.ensures (header_refused c.args.sound.now _ _ _ c.in-Err.fault (λ told why x. e.first_fault told why (ap Err x))
    (λ why x. e.small why (ap Err x)) (λ image table x. rw c.words_of.ensures at e.differ image table (ap Err x)))

pub returns-clause-opened : goal.returns-clause-opened
returns-clause-opened g c =
    let e = c.in-Ok.ensures in
    record {
      limits = e.limits;
      whole = e.whole;
      header = e.read;
      image = λ told. rw c.words_of.ensures at e.good told;
      fresh = c.in-Ok-new.ensures;
    }

pub returns-in-Err-clause-memory : goal.returns-in-Err-clause-memory
returns-in-Err-clause-memory g c = λ e. absurd (opening_not_memory c.in-Err.fault (sym c.refusal.ensures ∙ e))

pub returns-in_default-clause-memory : goal.returns-in_default-clause-memory
returns-in_default-clause-memory g c = λ e. record { long = omega (arith, c.in-Ok.ensures.whole); good = λ told. (c.in-Ok.ensures.good told).no_fault }
