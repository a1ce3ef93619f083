use Rattle.std.proofs.Common.{◌≡◌, length, inl, inr, ⊎_elim, rules}
use Rattle.fdr_deck.specs.Memory.{held_in}
use Rattle.fdr_deck.specs.declared.calls.Call.TheVariants.{Provide}
use Rattle.fdr_deck.proofs.Composing.{refusal}
use Rattle.fdr_deck.proofs.MemoryCalls.{passes_entered}
use Rattle.fdr_deck.proofs.MemoryDisk.{passes_unentered, within_provide_unentered, provides_provide, within_provide}
use Rattle.fdr_deck.proofs.MemoryWrite.{begins_unentered, begins_failed, zeros_failed, passes_unprovided, within_unprovided}
use Rattle.fdr_deck.proofs.MemoryPass.{extent_passed, disk_passed, passes_passed, within_provide_passed}
use Rattle.fdr_twin.specs.TwinMemory.{side_memory, IsToFail, IsFailedTwinCall}
use Rattle.fdr_twin.proofs.TwinSides.{side_numbered, failed_numbered}
use Rattle.fdr_twin.proofs.memory.MemTwinDeck.provide.Goals as goal

pub returns-in_err-pass : goal.returns-in_err-pass
returns-in_err-pass c =
    let is = c.in_err-pass.ensures.failed in
    let passes = passes_passed _ _ is c.pass.ensures.pulled c.pass.ensures.monotone in
    let within = within_provide_passed _ _ is c.args.size c.pass.ensures.pulled in
    rw (refusal _ _ c.from_residual.ensures.1)
    (search (rules, passes, within, extent_passed _ _ is, disk_passed _ _ is, c.in_err-pass.ensures, c.pass.ensures))

pub returns-then-not-is_empty : goal.returns-then-not-is_empty
returns-then-not-is_empty c =
    let is = c.in_ok-pass.ensures.entered in
    let passes = passes_passed _ _ (inl is) c.pass.ensures.pulled c.pass.ensures.monotone in
    let within = within_provide_passed _ _ (inl is) c.args.size c.pass.ensures.pulled in
    search (rules, passes, within, extent_passed _ _ (inl is), disk_passed _ _ (inl is), c.in_ok-pass.ensures, c.pass.ensures)

pub returns-then-fails : goal.returns-then-fails
returns-then-fails c =
    let size = c.args.size in
    let failed = c.fail.ensures in
    let is = failed.entered in
    let empty : length (held_in (side_memory c.args.self.now)) ≡ 0 = search rules in
    let listed : IsToFail c.args.self.now = search rules in
    let unlisted : IsFailedTwinCall c.args.self.now c.fail.new.self =
    ⊎_elim (λ made. inl (listed, failed_numbered _ _ _ made)) (λ lost. inr lost) failed.made in
    let passes = passes_unprovided size _ _ is failed.pulled failed.monotone in
    let within = within_unprovided size _ _ is failed.pulled empty in
    let numbered = side_numbered c.args.self.now c.fail.new.self in
    search (rules, unlisted, passes, within, numbered, begins_failed size _ _ is, zeros_failed size _ _ is, failed)

pub returns-in_err-make : goal.returns-in_err-make
returns-in_err-make c =
    let is = c.in_err-make.ensures.unentered in
    let begins = begins_unentered c.args.size _ _ is in
    let passes = passes_unentered _ _ is c.make.ensures.pulled c.make.ensures.monotone in
    let within = within_provide_unentered _ _ is c.args.size in
    rw (refusal _ _ c.from_residual-in_err-make.ensures.1) (search (rules, begins, passes, within, c.in_err-make.ensures, c.make.ensures))

pub returns : goal.returns
returns c =
    let is = c.in_ok-make.ensures.entered in
    let empty : length (held_in (side_memory c.args.self.now)) ≡ 0 = search rules in
    let provides = provides_provide c.args.size _ _ is in
    let passes = passes_entered (Provide c.args.size) _ _ is c.make.ensures.pulled c.make.ensures.monotone in
    let within = within_provide c.args.size _ _ is c.make.ensures.pulled empty in
    search (rules, provides, passes, within, c.in_ok-make.ensures, c.make.ensures)
