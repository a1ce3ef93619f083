use Rattle.std.proofs.Common.{◌∙◌, []}
use Rattle.std.specs.List.{cons_option}
use Rattle.fdr_words.proofs.reader.uses_found.Goals as goal

pub returns : goal.returns
returns c =
    let plain = c.plain_words.ensures
    ∙ (λ i. cons_option (c.text_found.ensures i) (cons_option (c.text_found-2.ensures i) (cons_option (c.text_found-3.ensures i) []))) in
    (λ i. record {
      plain = plain i;
      slots = c.value_found.ensures i;
      payload = c.value_found-2.ensures i;
      seed = c.value_found-3.ensures i;
      frames = c.value_found-4.ensures i;
    })
