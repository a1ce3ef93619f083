use Rattle.std.proofs.Common.{None, refl, arith}
use Rattle.fdr_readout.proofs.ListedEvents.{lists_events}
use Rattle.fdr_top.proofs.Carrying.{nothing_done}
use Rattle.fdr_top.proofs.Commands.{of_form}
use Rattle.fdr_top.proofs.MeaningCommands.{means}
use Rattle.fdr_top.proofs.OneRun.{one_run}
use Rattle.fdr_top.proofs.Sizes.{sizes}
use Rattle.fdr_top.proofs.top.run.Goals as goal

pub returns-in-Err-NoMemory-clause-runs : goal.returns-in-Err-NoMemory-clause-runs
returns-in-Err-NoMemory-clause-runs g c = of_form _ _ (λ form. nothing_done form _ _ _ _ _ refl refl refl (g.met.D.Deck.sound c.args.deck.now))

pub returns-in-Ok-clause-left_alone : goal.returns-in-Ok-clause-left_alone
returns-in-Ok-clause-left_alone g c =
    rw c.in-Ok.ensures.form (c.carry_out.ensures.table_unused, c.carry_out.ensures.deck_unused, c.carry_out.ensures.sink_unused)

pub returns-in-Ok-clause-one_listing : goal.returns-in-Ok-clause-one_listing
returns-in-Ok-clause-one_listing g c = λ t b. lists_events t b

pub returns-in-Err-Usage-clause-one_listing : goal.returns-in-Err-Usage-clause-one_listing
returns-in-Err-Usage-clause-one_listing g c = λ t b. lists_events t b

pub returns-in-Err-NoMemory-clause-one_listing : goal.returns-in-Err-NoMemory-clause-one_listing
returns-in-Err-NoMemory-clause-one_listing g c = λ t b. lists_events t b

pub returns-in-Ok-clause-one_run : goal.returns-in-Ok-clause-one_run
returns-in-Ok-clause-one_run c = grind (arith, one_run)

pub returns-in-Err-Usage-clause-one_run : goal.returns-in-Err-Usage-clause-one_run
returns-in-Err-Usage-clause-one_run c = grind (arith, one_run)

pub returns-in-Err-NoMemory-clause-one_run : goal.returns-in-Err-NoMemory-clause-one_run
returns-in-Err-NoMemory-clause-one_run c = grind (arith, one_run)

pub returns-in-Err-NoMemory-clause-means : goal.returns-in-Err-NoMemory-clause-means
returns-in-Err-NoMemory-clause-means g c = of_form _ _ (λ form. means form _
    (nothing_done form _ _ _ _ _ refl refl refl (g.met.D.Deck.sound c.args.deck.now)) (g.met.D.Deck.sound c.args.deck.now))

pub returns-in-Ok-clause-means : goal.returns-in-Ok-clause-means
returns-in-Ok-clause-means g c = rw c.in-Ok.ensures.form (means _ _ c.carry_out.ensures.runs (g.met.D.Deck.sound c.args.deck.now))

pub returns-in-Err-NoMemory-clause-size : goal.returns-in-Err-NoMemory-clause-size
returns-in-Err-NoMemory-clause-size g c = of_form _ _ (λ form.
    sizes form (record { rest_before = None; rest_now = None; table_before = 0; table_now = 0; work = _ })
    (nothing_done form _ _ _ _ _ refl refl refl (g.met.D.Deck.sound c.args.deck.now)))

pub returns-in-Ok-clause-size : goal.returns-in-Ok-clause-size
returns-in-Ok-clause-size g c = rw c.in-Ok.ensures.form (sizes _ _ c.carry_out.ensures.runs)
