use Rattle.std.proofs.Common.{rules, ◌≡◌, ◌∙◌, ⊎_elim, true, false, sym, ap, map, string_bytes, Global, Some}
use Rattle.std.proofs.lemmas.List.Folds.{list_all-map}
use Rattle.clap.specs.Words.{found_of, kind_of, rows_of}
use Rattle.fdr_words.specs.Reader.{are_known, has_meaning}
use Rattle.fdr_words.specs.Words.{word_meaning}
use Rattle.fdr_words.proofs.ClapLaws.{refused_uses, taken_uses, unknown_word}
use Rattle.fdr_words.proofs.reader.read.Goals as goal
use Rattle.fdr_words.proofs.reader.read.Goals.{After-are_known}

same : (c : After-are_known) → are_known (map (string_bytes {Z = Global}) c.args.args.now) ≡ c.are_known.result
same c = list_all-map (λ word. has_meaning (word_meaning word)) (string_bytes {Z = Global}) c.args.args.now ∙ sym c.are_known.ensures

pub returns-then-not-are_known-clause-usage : goal.returns-then-not-are_known-clause-usage
returns-then-not-are_known-clause-usage c =
    let args = map (string_bytes {Z = Global}) c.args.args.now in
    let answer : c.are_known.result ≡ false = search rules in
    (λ e. unknown_word args (same (goal.at.returns-then-not-are_known-clause-usage c).After-are_known ∙ answer))

pub returns-in-Ok-clause-uses : goal.returns-in-Ok-clause-uses
returns-in-Ok-clause-uses c =
    let args = map (string_bytes {Z = Global}) c.args.args.now in
    let answer : c.are_known.result ≡ true = search rules in
    taken_uses args (rows_of (found_of c.in-Ok.found)) (same (goal.at.returns-in-Ok-clause-uses c).After-are_known ∙ answer)
    c.in-Ok.ensures.faults c.in-Ok.ensures.rows
    ∙ ap (λ u. Some u) (sym c.uses_found.ensures)

pub returns : goal.returns
returns c =
    let args = map (string_bytes {Z = Global}) c.args.args.now in
    let answer : c.are_known.result ≡ true = search rules in
    record {
      usage = λ e. ⊎_elim (λ out. absurd (c.in_default.not-OutOfMemory (c.kind.ensures ∙ out)))
          (λ among. refused_uses args (kind_of c.in-Err.error) (same (goal.at.returns c).After-are_known ∙ answer) among) c.in-Err.ensures.faults;
      uses = tt;
    }

pub returns-in-OutOfMemory-clause-usage : goal.returns-in-OutOfMemory-clause-usage
returns-in-OutOfMemory-clause-usage c = search rules
