use Rattle.std.proofs.Common.{refl, sym, ◌∙◌}
use Rattle.std.proofs.lemmas.Bool.{false≢true}
use Rattle.fdr_twin.specs.TwinMemory.{twin_pair}
use Rattle.fdr_pair_sure.specs.BothInMemory.{pair_at_start}
use Rattle.fdr_pair_sure.proofs.OnBoth.{entry_of_made, kept_on_both}
use Rattle.fdr_pair_sure.proofs.in_memory.run_pair_in_memory.Goals as goal

pub returns : goal.returns
returns g c = λ fits past.
    let made = c.made_twin-twin.ensures in
    let is = (c.run_pair-answer.ensures.runs (λ wrong. false≢true (sym wrong ∙ fits))).records past in
    let start = pair_at_start c.args.first.items c.args.second.items c.args.line.items in (
      is.0,
      is.1,
      is.2,
      record {
        pulled = is.3.pulled;
        left = c.run_pair-answer.new.twin.input;
        split = sym made.line ∙ is.3.pulls.takes.input refl;
        keeps = kept_on_both is.0 is.3.pulled (twin_pair c.made_twin-twin.result) start (entry_of_made c.made_twin-twin.result c.args.first.items
            c.args.second.items c.args.line.items made.first made.second made.first_faults made.second_faults made.unused made.taken made.pulled_before)
            made.may_record refl c.run_pair-answer.new.twin c.run_pair-answer.result is.3.keeps;
      },
    )
