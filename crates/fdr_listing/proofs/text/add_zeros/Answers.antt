use Rattle.std.proofs.Common.{ap, sym, subst, ◌+◌, ◌≤◌, ◌++◌, List, ℕ, ◌∙◌, length, arith}
use Rattle.std.proofs.lemmas.List.{length-replicate, take-replicate}
use Rattle.fdr_listing.proofs.text.add_zeros.Goals as goal

pub returns-clause-appended : goal.returns-clause-appended
returns-clause-appended c = c.add.ensures.appended ∙ ap (λ (x : List ℕ). c.args.line.now ++ x) (take-replicate c.args.zeros 9 48 c.requires.nine_zeros)

pub add-requires : goal.add-requires
add-requires c =
    subst (λ n. length c.args.line.now + n ≤ 96)
    (sym (ap (length {A = ℕ}) (take-replicate c.args.zeros 9 48 c.requires.nine_zeros) ∙ length-replicate c.args.zeros 48)) (omega arith)

pub returns-clause-length : goal.returns-clause-length
returns-clause-length c =
    c.add.ensures.length ∙ ap (λ n. length c.args.line.now + n)
    (ap (length {A = ℕ}) (take-replicate c.args.zeros 9 48 c.requires.nine_zeros) ∙ length-replicate c.args.zeros 48)
