use Rattle.std.proofs.Common.{length, inl, inr, ⊎_elim, rules}
use Rattle.fdr_deck.proofs.Composing.{refusal}
use Rattle.fdr_deck.proofs.MemoryDisk.{passes_unentered, within_unentered}
use Rattle.fdr_deck.proofs.MemoryWrite.{tears_unentered, writes_put, tears_put, extent_put, passes_put, within_put, tears_failed}
use Rattle.fdr_deck.proofs.MemoryWrite.{pending_failed, extent_failed, passes_failed, within_failed}
use Rattle.fdr_twin.specs.TwinMemory.{IsToFail, IsFailedTwinCall}
use Rattle.fdr_twin.proofs.TwinSides.{side_numbered, failed_numbered}
use Rattle.fdr_twin.proofs.memory.MemTwinDeck.write.Goals as goal

pub returns-then-fails : goal.returns-then-fails
returns-then-fails c =
    let at = c.args.at in
    let bytes = c.args.bytes.now in
    let failed = c.fail_write.ensures in
    let is = failed.entered in
    let listed : IsToFail c.args.self.now = search rules in
    let unlisted : IsFailedTwinCall c.args.self.now c.fail_write.new.self =
    ⊎_elim (λ made. inl (listed, failed_numbered _ _ _ made.2)) (λ lost. inr lost) failed.made in
    let passes = passes_failed at bytes _ _ is failed.pulled failed.monotone in
    let pending = pending_failed at bytes _ _ is in
    let numbered = side_numbered c.args.self.now c.fail_write.new.self in
    search (rules, unlisted, passes, pending, numbered, tears_failed at bytes _ _ is, extent_failed at bytes _ _ is, within_failed at bytes _ _ is, failed)

pub returns-in_err-put : goal.returns-in_err-put
returns-in_err-put c =
    let is = c.in_err-put.ensures.unentered in
    let tears = tears_unentered c.args.at (length c.args.bytes.now) _ _ is in
    let passes = passes_unentered _ _ is c.put.ensures.pulled c.put.ensures.monotone in
    rw (refusal _ _ c.from_residual.ensures.1) (search (rules, tears, passes, within_unentered _ _ is, c.in_err-put.ensures, c.put.ensures))

pub returns : goal.returns
returns c =
    let at = c.args.at in
    let bytes = c.args.bytes.now in
    let is = c.in_ok-put.ensures.entered in
    let tears = tears_put at bytes _ _ is c.requires in
    let extent = extent_put at bytes _ _ is c.requires in
    let passes = passes_put at bytes _ _ is c.put.ensures.pulled c.put.ensures.monotone in
    search (rules, writes_put at bytes _ _ is, tears, extent, passes, within_put at bytes _ _ is, c.in_ok-put.ensures, c.put.ensures)
