use Rattle.std.proofs.Common.{inl, ◌∙◌}
use Rattle.fdr_deck.proofs.MemoryPass.{took_entered, leaves_passed, time_passed, within_passed}
use Rattle.fdr_deck.proofs.memory.MemDeckDeck.pull.Goals as goal

pub returns-in_err-pass_pull-clause-disk : goal.returns-in_err-pass_pull-clause-disk
returns-in_err-pass_pull-clause-disk c = leaves_passed c.args.self.now c.pass_pull.new.self c.in_err-pass_pull.ensures.failed c.pass_pull.ensures.disk_faults

pub returns-in_err-pass_pull-clause-time : goal.returns-in_err-pass_pull-clause-time
returns-in_err-pass_pull-clause-time c = time_passed c.args.self.now c.pass_pull.new.self c.in_err-pass_pull.ensures.failed

pub returns-in_err-pass_pull-clause-moments : goal.returns-in_err-pass_pull-clause-moments
returns-in_err-pass_pull-clause-moments c = within_passed c.args.self.now c.pass_pull.new.self c.in_err-pass_pull.ensures.failed

pub returns-clause-disk : goal.returns-clause-disk
returns-clause-disk c = leaves_passed c.args.self.now c.take_next.new.self
    (inl (took_entered c.args.self.now c.pass_pull.new.self c.take_next.new.self c.in_ok-pass_pull.ensures.entered c.take_next.ensures.entries
    c.take_next.ensures.first c.take_next.ensures.failing c.take_next.ensures.announced)) (c.take_next.ensures.disk_faults ∙ c.pass_pull.ensures.disk_faults)

pub returns-clause-time : goal.returns-clause-time
returns-clause-time c = time_passed c.args.self.now c.take_next.new.self
    (inl (took_entered c.args.self.now c.pass_pull.new.self c.take_next.new.self c.in_ok-pass_pull.ensures.entered c.take_next.ensures.entries
    c.take_next.ensures.first c.take_next.ensures.failing c.take_next.ensures.announced))

pub returns-clause-moments : goal.returns-clause-moments
returns-clause-moments c = within_passed c.args.self.now c.take_next.new.self
    (inl (took_entered c.args.self.now c.pass_pull.new.self c.take_next.new.self c.in_ok-pass_pull.ensures.entered c.take_next.ensures.entries
    c.take_next.ensures.first c.take_next.ensures.failing c.take_next.ensures.announced))
