use Rattle.std.proofs.Common.{◌≡◌, List, ℕ, length, inl, rules, arith}
use Rattle.std.proofs.lemmas.Grind.{common_steps}
use Rattle.fdr_deck.specs.Memory.{held_in, left_in, HasOneCallMore, memory_state, memory_tells}
use Rattle.fdr_deck.specs.Disk.{Begins, IsZeros}
use Rattle.fdr_deck.specs.declared.calls.Call.TheVariants.{Provide}
use Rattle.fdr_deck.proofs.MemoryCalls.{passes_entered}
use Rattle.fdr_deck.proofs.MemoryDisk.{passes_unentered, within_provide_unentered, provides_provide, within_provide}
use Rattle.fdr_deck.proofs.MemoryWrite.{begins_unentered, zeros_unentered, begins_failed, zeros_failed, passes_unprovided, within_unprovided}
use Rattle.fdr_deck.proofs.MemoryPass.{extent_passed, disk_passed, passes_passed, within_provide_passed}
use Rattle.fdr_deck.proofs.memory.MemDeckDeck.provide.Goals as goal

pub returns-in_err-pass-clause-extent : goal.returns-in_err-pass-clause-extent
returns-in_err-pass-clause-extent c = λ some. extent_passed c.args.self.now c.pass.new.self c.in_err-pass.ensures.failed

pub returns-in_err-pass-clause-disk : goal.returns-in_err-pass-clause-disk
returns-in_err-pass-clause-disk c = λ some. disk_passed c.args.self.now c.pass.new.self c.in_err-pass.ensures.failed

pub returns-in_err-pass-clause-passes : goal.returns-in_err-pass-clause-passes
returns-in_err-pass-clause-passes c = passes_passed c.args.self.now c.pass.new.self c.in_err-pass.ensures.failed c.pass.ensures.pulled c.pass.ensures.monotone

pub returns-in_err-pass-clause-moments : goal.returns-in_err-pass-clause-moments
returns-in_err-pass-clause-moments c = within_provide_passed c.args.self.now c.pass.new.self c.in_err-pass.ensures.failed c.args.size c.pass.ensures.pulled

pub returns-then-not-is_empty-clause-extent : goal.returns-then-not-is_empty-clause-extent
returns-then-not-is_empty-clause-extent c = λ some. extent_passed c.args.self.now c.pass.new.self (inl c.in_ok-pass.ensures.entered)

pub returns-then-not-is_empty-clause-disk : goal.returns-then-not-is_empty-clause-disk
returns-then-not-is_empty-clause-disk c = λ some. disk_passed c.args.self.now c.pass.new.self (inl c.in_ok-pass.ensures.entered)

pub returns-then-not-is_empty-clause-passes : goal.returns-then-not-is_empty-clause-passes
returns-then-not-is_empty-clause-passes c = passes_passed c.args.self.now c.pass.new.self (inl c.in_ok-pass.ensures.entered)
    c.pass.ensures.pulled c.pass.ensures.monotone

pub returns-then-not-is_empty-clause-moments : goal.returns-then-not-is_empty-clause-moments
returns-then-not-is_empty-clause-moments c = within_provide_passed c.args.self.now c.pass.new.self (inl c.in_ok-pass.ensures.entered)
    c.args.size c.pass.ensures.pulled

pub returns-then-fails-clause-begins : goal.returns-then-fails-clause-begins
returns-then-fails-clause-begins c = begins_failed c.args.size c.args.self.now c.fail.new.self c.fail.ensures.entered

pub returns-then-fails-clause-passes : goal.returns-then-fails-clause-passes
returns-then-fails-clause-passes c = passes_unprovided c.args.size c.args.self.now c.fail.new.self c.fail.ensures.entered c.fail.ensures.pulled
    c.fail.ensures.monotone

pub returns-then-fails-clause-moments : goal.returns-then-fails-clause-moments
returns-then-fails-clause-moments c = let empty : length (held_in c.args.self.now) ≡ 0 = search rules in
    within_unprovided c.args.size c.args.self.now c.fail.new.self c.fail.ensures.entered c.fail.ensures.pulled empty

pub returns-in_err-make-clause-begins : goal.returns-in_err-make-clause-begins
returns-in_err-make-clause-begins c = let begins : length (held_in c.args.self.now) ≡ 0
    → Begins memory_tells c.args.size (memory_state c.args.self.now) (memory_state c.make.new.self) =
    begins_unentered c.args.size c.args.self.now c.make.new.self c.in_err-make.ensures.unentered in search rules

pub returns-in_err-make-clause-passes : goal.returns-in_err-make-clause-passes
returns-in_err-make-clause-passes c = passes_unentered c.args.self.now c.make.new.self c.in_err-make.ensures.unentered c.make.ensures.pulled
    c.make.ensures.monotone

pub returns-in_err-make-clause-moments : goal.returns-in_err-make-clause-moments
returns-in_err-make-clause-moments c = within_provide_unentered c.args.self.now c.make.new.self c.in_err-make.ensures.unentered c.args.size

pub returns-clause-provides : goal.returns-clause-provides
returns-clause-provides c = λ empty. provides_provide c.args.size c.args.self.now c.make.new.self c.in_ok-make.ensures.entered

pub returns-clause-passes : goal.returns-clause-passes
returns-clause-passes c = passes_entered (Provide c.args.size)
    c.args.self.now c.make.new.self c.in_ok-make.ensures.entered c.make.ensures.pulled c.make.ensures.monotone

pub returns-clause-moments : goal.returns-clause-moments
returns-clause-moments c = let empty : length (held_in c.args.self.now) ≡ 0 = search rules in
    within_provide c.args.size c.args.self.now c.make.new.self c.in_ok-make.ensures.entered c.make.ensures.pulled empty

pub returns-then-fails-clause-zeros : goal.returns-then-fails-clause-zeros
returns-then-fails-clause-zeros c = λ numbered empty. zeros_failed c.args.size c.args.self.now c.fail.new.self
    c.fail.ensures.entered numbered

pub returns-in_err-make-clause-zeros : goal.returns-in_err-make-clause-zeros
returns-in_err-make-clause-zeros c =
    let zeros : HasOneCallMore c.args.self.now c.make.new.self → length (held_in c.args.self.now) ≡ 0 → (image : List ℕ)
    → IsZeros c.args.size image → left_in c.make.new.self image =
    zeros_unentered c.args.size c.args.self.now c.make.new.self c.in_err-make.ensures.unentered in search rules

pub returns-then-fails-clause-unlisted : goal.returns-then-fails-clause-unlisted
returns-then-fails-clause-unlisted c = grind (arith, common_steps) steps 2000000

pub returns-clause-numbered : goal.returns-clause-numbered
returns-clause-numbered c = grind (arith, common_steps) steps 2000000
