use Rattle.std.proofs.Common.{inl, rules}
use Rattle.fdr_deck.proofs.Composing.{refusal}
use Rattle.fdr_deck.proofs.MemoryPass.{learns_passed, disk_passed, passes_passed, within_passed}
use Rattle.fdr_twin.proofs.memory.MemTwinDeck.size.Goals as goal

pub returns-in_err-pass : goal.returns-in_err-pass
returns-in_err-pass c =
    let is = c.in_err-pass.ensures.failed in
    let passes = passes_passed _ _ is c.pass.ensures.pulled c.pass.ensures.monotone in
    rw (refusal _ _ c.from_residual.ensures.1)
    (search (rules, passes, learns_passed _ _ is, disk_passed _ _ is, within_passed _ _ is, c.in_err-pass.ensures))

pub returns : goal.returns
returns c =
    let is = c.in_ok-pass.ensures.entered in
    let passes = passes_passed _ _ (inl is) c.pass.ensures.pulled c.pass.ensures.monotone in
    let within = within_passed _ _ (inl is) in
    search (rules, passes, within, learns_passed _ _ (inl is), disk_passed _ _ (inl is), c.in_ok-pass.ensures, c.pass.ensures, c.side_image.ensures)
