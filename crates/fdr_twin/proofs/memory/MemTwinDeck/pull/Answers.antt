use Rattle.std.proofs.Common.{inl, ◌∙◌, rules}
use Rattle.fdr_deck.proofs.Composing.{refusal}
use Rattle.fdr_deck.proofs.MemoryPass.{leaves_passed, time_passed, within_passed}
use Rattle.fdr_twin.specs.declared.calls.SideCall.TheVariants.{Passed}
use Rattle.fdr_twin.proofs.TwinSides.{side_entered, entered_twin_rest, took_entered, took_count}
use Rattle.fdr_twin.proofs.memory.MemTwinDeck.pull.Goals as goal

pub returns-in_err-pass_pull : goal.returns-in_err-pass_pull
returns-in_err-pass_pull c =
    let is = c.in_err-pass_pull.ensures.failed in
    let leaves = leaves_passed _ _ is c.pass_pull.ensures.disk_faults in
    rw (refusal _ _ c.from_residual.ensures.1)
    (search (rules, leaves, time_passed _ _ is, within_passed _ _ is, c.in_err-pass_pull.ensures, c.pass_pull.ensures))

pub returns : goal.returns
returns c =
    let mid = c.pass_pull.new.self in
    let new = c.take_next.new.self in
    let took = c.take_next.ensures in
    let entered = took_entered mid new took.turned took.span Passed c.args.self.now c.in_ok-pass_pull.ensures.entered took.entries took.first took.second
    took.failing took.dead_first took.dead_second in
    let rest = entered_twin_rest Passed c.args.self.now new entered in
    let is = side_entered Passed c.args.self.now new entered in
    let leaves = leaves_passed _ _ (inl is) (took_count mid new took.turned took.span ∙ c.pass_pull.ensures.disk_faults) in
    search (rules, entered, rest, leaves, time_passed _ _ (inl is), within_passed _ _ (inl is), took, c.in_ok-pass_pull.ensures, c.pass_pull.ensures)
