use Rattle.std.proofs.Common.{arith, rules}
use Rattle.fdr_twin.specs.declared.side.Side.TheVariants.{First, Second}
use Rattle.fdr_pair.proofs.BothSides.{PairRecordsFirst-here, follows_now}
use Rattle.fdr_pair.proofs.rings.PairRings.record.Goals as goal

pub returns-then-next-eq-SEQUENCE_END-clause-records : goal.returns-then-next-eq-SEQUENCE_END-clause-records
returns-then-next-eq-SEQUENCE_END-clause-records g c = PairRecordsFirst-here _ _ _ _ (g.met.T.Twin.sound_pair c.args.twin.now) c.requires.settled

pub invariant_of-result-clause-first_follows : goal.invariant_of-result-clause-first_follows
invariant_of-result-clause-first_follows g c =
    follows_now _ First _ _ _ _ _ _ _ _ c.args.self.first_follows (omega arith) c.record_block-first.ensures.first_now

pub invariant_of-result-clause-second_follows : goal.invariant_of-result-clause-second_follows
invariant_of-result-clause-second_follows g c =
    follows_now _ Second _ _ _ _ _ _ _ _ c.args.self.second_follows (omega arith) c.record_block-first.ensures.second_now

pub returns-then-not-is_any_living-clause-seq_end : goal.returns-then-not-is_any_living-clause-seq_end
returns-then-not-is_any_living-clause-seq_end c = search rules

pub returns-then-not-is_any_living-clause-untouched : goal.returns-then-not-is_any_living-clause-untouched
returns-then-not-is_any_living-clause-untouched c = search rules

pub returns-then-not-is_any_living-clause-records : goal.returns-then-not-is_any_living-clause-records
returns-then-not-is_any_living-clause-records c = search rules

pub returns-then-not-is_any_living-clause-recorded : goal.returns-then-not-is_any_living-clause-recorded
returns-then-not-is_any_living-clause-recorded c = omega arith

pub returns-then-not-is_any_living-clause-both_failed : goal.returns-then-not-is_any_living-clause-both_failed
returns-then-not-is_any_living-clause-both_failed c = search rules
