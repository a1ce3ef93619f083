use Rattle.std.proofs.Common.{ℕ, ◌+◌, List, length, slice_range, inl, ap, ◌∙◌, arith, rules}
use Rattle.fdr_deck.proofs.Composing.{refusal}
use Rattle.fdr_deck.proofs.MemoryPass.{extent_passed, disk_passed, passes_passed, within_passed}
use Rattle.fdr_twin.proofs.memory.MemTwinDeck.read.Goals as goal

pub returns-in_err-pass : goal.returns-in_err-pass
returns-in_err-pass c =
    let is = c.in_err-pass.ensures.failed in
    let passes = passes_passed _ _ is c.pass.ensures.pulled c.pass.ensures.monotone in
    rw (refusal _ _ c.from_residual.ensures.1)
    (search (rules, passes, extent_passed _ _ is, disk_passed _ _ is, within_passed _ _ is, c.in_err-pass.ensures))

pub copy_from-requires : goal.copy_from-requires
copy_from-requires c =
    let same = extent_passed _ _ (inl c.in_ok-pass.ensures.entered) in
    omega (arith, c.requires, ap (λ (l : List ℕ). length l) c.side_image.ensures, same)

pub returns : goal.returns
returns c =
    let is = c.in_ok-pass.ensures.entered in
    let disk = disk_passed _ _ (inl is) in
    let passes = passes_passed _ _ (inl is) c.pass.ensures.pulled c.pass.ensures.monotone in
    let piece = λ (l : List ℕ). slice_range l c.args.at (c.args.at + length c.copy_from.new.buf) in
    let reads = c.copy_from.ensures ∙ ap piece (c.side_image.ensures ∙ disk.held) in
    search (rules, reads, disk, passes, extent_passed _ _ (inl is), within_passed _ _ (inl is), c.in_ok-pass.ensures, c.pass.ensures)
