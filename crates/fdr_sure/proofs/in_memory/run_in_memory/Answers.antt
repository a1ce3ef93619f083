use Rattle.fdr_words.specs.Forms.{record_line}
use Rattle.fdr_sure.proofs.MadeDecks.{recorded_in_memory}
use Rattle.fdr_sure.proofs.in_memory.run_in_memory.Goals as goal

pub returns : goal.returns
returns g c = λ path at asks.
    let made = c.made_deck-deck.ensures in
    let is = (rw asks at c.run-answer.ensures.runs).carries_out in (
      is.0,
      is.1,
      is.2,
      recorded_in_memory is.0 c.args.image.items c.args.input.items c.made_deck-deck.result c.run-answer.new.deck c.run-answer.result
          made.may_record made.image made.input made.unused is.3,
    )
