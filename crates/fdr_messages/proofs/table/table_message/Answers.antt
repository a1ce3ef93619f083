use Rattle.std.proofs.Common.{◌≡◌, ◌++◌, ◌∙◌, ℕ, List, ap, append_assoc}
use Rattle.std.specs.Prelude.{codes, decimal}
use Rattle.fdr_messages.specs.Messages.{fault_numbers, fault_words}
use Rattle.fdr_messages.proofs.table.table_message.Goals as goal

pub returns : goal.returns
returns c =
    let program = c.args.program.now in
    let fault = c.args.fault.now in
    let row : c.from.result ≡ c.args.row = c.from.ensures in
    c.add_numbers.ensures
    ∙ ap (λ (l : List ℕ). l ++ fault_numbers fault) (c.add-4.ensures.appended
    ∙ ap (λ (words : List ℕ). c.add-3.new.self ++ words) c.fault_words.ensures.words
    ∙ ap (λ (l : List ℕ). l ++ fault_words fault) (c.add-3.ensures.appended
    ∙ ap (λ (l : List ℕ). l ++ codes ": ") (c.add_number.ensures.appended
    ∙ ap (λ (n : ℕ). c.add-2.new.self ++ decimal n) row
    ∙ ap (λ (l : List ℕ). l ++ decimal c.args.row) (c.add-2.ensures.appended
    ∙ ap (λ (l : List ℕ). l ++ codes ": table row ") (c.add.ensures.appended
    ∙ ap (λ (l : List ℕ). l ++ program) c.new-line.ensures.empty)))))
    ∙ append_assoc (program ++ codes ": table row " ++ decimal c.args.row ++ codes ": ") (fault_words fault) (fault_numbers fault)
