use Rattle.std.proofs.Common.{List, ℕ, length, ap, rules}
use Rattle.fdr_deck.specs.declared.calls.Call.TheVariants.{Sync}
use Rattle.fdr_deck.proofs.Composing.{refusal}
use Rattle.fdr_deck.proofs.MemoryCalls.{held_entered, passes_entered}
use Rattle.fdr_deck.proofs.MemoryDisk.{settled_sync, no_more_sync, within_sync}
use Rattle.fdr_deck.proofs.MemoryPass.{extent_passed, disk_passed, passes_passed, within_passed}
use Rattle.fdr_twin.proofs.memory.MemTwinDeck.sync.Goals as goal

pub returns-in_err-pass : goal.returns-in_err-pass
returns-in_err-pass c =
    let is = c.in_err-pass.ensures.failed in
    let passes = passes_passed _ _ is c.pass.ensures.pulled c.pass.ensures.monotone in
    rw (refusal _ _ c.from_residual.ensures.1)
    (search (rules, passes, extent_passed _ _ is, disk_passed _ _ is, within_passed _ _ is, c.in_err-pass.ensures))

pub returns : goal.returns
returns c =
    let is = c.in_ok-pass.ensures.entered in
    let held = held_entered Sync _ _ is in
    let extent = ap (λ (l : List ℕ). length l) held in
    let passes = passes_entered Sync _ _ is c.pass.ensures.pulled c.pass.ensures.monotone in
    search (rules, held, extent, passes, settled_sync _ _ is, no_more_sync _ _ is, within_sync _ _ is, c.in_ok-pass.ensures, c.pass.ensures)
