use Rattle.std.proofs.Common.{List, ℕ, length, ap, rules}
use Rattle.fdr_deck.specs.declared.calls.Call.TheVariants.{Sync}
use Rattle.fdr_deck.proofs.MemoryCalls.{held_entered, passes_entered}
use Rattle.fdr_deck.proofs.MemoryDisk.{settled_sync, no_more_sync, within_sync}
use Rattle.fdr_deck.proofs.MemoryPass.{extent_passed, disk_passed, passes_passed, within_passed}
use Rattle.fdr_deck.specs.Disk.{KeepsDisk}
use Rattle.fdr_deck.specs.Memory.{memory_state}
use Rattle.fdr_deck.proofs.memory.MemDeckDeck.sync.Goals as goal

pub returns-in_err-pass-clause-extent : goal.returns-in_err-pass-clause-extent
returns-in_err-pass-clause-extent c = extent_passed c.args.self.now c.pass.new.self c.in_err-pass.ensures.failed

pub returns-in_err-pass-clause-passes : goal.returns-in_err-pass-clause-passes
returns-in_err-pass-clause-passes c = passes_passed c.args.self.now c.pass.new.self c.in_err-pass.ensures.failed c.pass.ensures.pulled c.pass.ensures.monotone

pub returns-in_err-pass-clause-moments : goal.returns-in_err-pass-clause-moments
returns-in_err-pass-clause-moments c = within_passed c.args.self.now c.pass.new.self c.in_err-pass.ensures.failed

pub returns-in_err-pass-clause-held : goal.returns-in_err-pass-clause-held
returns-in_err-pass-clause-held c = (disk_passed c.args.self.now c.pass.new.self c.in_err-pass.ensures.failed).held

pub returns-in_err-pass-clause-no_more : goal.returns-in_err-pass-clause-no_more
returns-in_err-pass-clause-no_more c = (disk_passed c.args.self.now c.pass.new.self c.in_err-pass.ensures.failed).no_more

pub returns-in_err-pass-clause-pending : goal.returns-in_err-pass-clause-pending
returns-in_err-pass-clause-pending c = let kept : KeepsDisk (memory_state c.args.self.now) (memory_state c.pass.new.self) =
    disk_passed c.args.self.now c.pass.new.self c.in_err-pass.ensures.failed in search rules

pub returns-clause-settles : goal.returns-clause-settles
returns-clause-settles c = λ told. settled_sync c.args.self.now c.pass.new.self c.in_ok-pass.ensures.entered

pub returns-clause-held : goal.returns-clause-held
returns-clause-held c = held_entered Sync c.args.self.now c.pass.new.self c.in_ok-pass.ensures.entered

pub returns-clause-no_more : goal.returns-clause-no_more
returns-clause-no_more c = no_more_sync c.args.self.now c.pass.new.self c.in_ok-pass.ensures.entered

pub returns-clause-extent : goal.returns-clause-extent
returns-clause-extent c = ap (λ (l : List ℕ). length l) (held_entered Sync c.args.self.now c.pass.new.self c.in_ok-pass.ensures.entered)

pub returns-clause-passes : goal.returns-clause-passes
returns-clause-passes c = passes_entered Sync c.args.self.now c.pass.new.self c.in_ok-pass.ensures.entered c.pass.ensures.pulled c.pass.ensures.monotone

pub returns-clause-moments : goal.returns-clause-moments
returns-clause-moments c = within_sync c.args.self.now c.pass.new.self c.in_ok-pass.ensures.entered

pub returns-clause-entered : goal.returns-clause-entered
returns-clause-entered c = search rules
