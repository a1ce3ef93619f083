use Rattle.std.proofs.Common.{List, ℕ, length, rules, arith}
use Rattle.std.proofs.lemmas.Grind.{common_steps}
use Rattle.fdr_deck.specs.Disk.{Torn}
use Rattle.fdr_deck.specs.Memory.{left_in, HasOneCallMore}
use Rattle.fdr_deck.proofs.MemoryDisk.{passes_unentered, within_unentered}
use Rattle.fdr_deck.proofs.MemoryWrite.{tears_unentered, pending_unentered, writes_put, tears_put, extent_put, passes_put, within_put, tears_failed}
use Rattle.fdr_deck.proofs.MemoryWrite.{pending_failed, extent_failed, passes_failed, within_failed}
use Rattle.fdr_deck.proofs.memory.MemDeckDeck.write.Goals as goal

pub returns-then-fails-clause-tears : goal.returns-then-fails-clause-tears
returns-then-fails-clause-tears c = tears_failed c.args.at c.args.bytes.now c.args.self.now c.fail_write.new.self c.fail_write.ensures.entered

pub returns-then-fails-clause-extent : goal.returns-then-fails-clause-extent
returns-then-fails-clause-extent c = extent_failed c.args.at c.args.bytes.now c.args.self.now c.fail_write.new.self c.fail_write.ensures.entered

pub returns-then-fails-clause-passes : goal.returns-then-fails-clause-passes
returns-then-fails-clause-passes c = passes_failed c.args.at c.args.bytes.now c.args.self.now c.fail_write.new.self c.fail_write.ensures.entered
    c.fail_write.ensures.pulled c.fail_write.ensures.monotone

pub returns-then-fails-clause-moments : goal.returns-then-fails-clause-moments
returns-then-fails-clause-moments c = within_failed c.args.at c.args.bytes.now c.args.self.now c.fail_write.new.self c.fail_write.ensures.entered

pub returns-in_err-put-clause-tears : goal.returns-in_err-put-clause-tears
returns-in_err-put-clause-tears c = tears_unentered c.args.at (length c.args.bytes.now) c.args.self.now c.put.new.self c.in_err-put.ensures.unentered

pub returns-in_err-put-clause-passes : goal.returns-in_err-put-clause-passes
returns-in_err-put-clause-passes c = passes_unentered c.args.self.now c.put.new.self c.in_err-put.ensures.unentered c.put.ensures.pulled c.put.ensures.monotone

pub returns-in_err-put-clause-moments : goal.returns-in_err-put-clause-moments
returns-in_err-put-clause-moments c = within_unentered c.args.self.now c.put.new.self c.in_err-put.ensures.unentered

pub returns-clause-writes : goal.returns-clause-writes
returns-clause-writes c = writes_put c.args.at c.args.bytes.now c.args.self.now c.put.new.self c.in_ok-put.ensures.entered

pub returns-clause-tears : goal.returns-clause-tears
returns-clause-tears c = tears_put c.args.at c.args.bytes.now c.args.self.now c.put.new.self c.in_ok-put.ensures.entered c.requires

pub returns-clause-extent : goal.returns-clause-extent
returns-clause-extent c = extent_put c.args.at c.args.bytes.now c.args.self.now c.put.new.self c.in_ok-put.ensures.entered c.requires

pub returns-clause-passes : goal.returns-clause-passes
returns-clause-passes c = passes_put c.args.at c.args.bytes.now c.args.self.now c.put.new.self c.in_ok-put.ensures.entered c.put.ensures.pulled
    c.put.ensures.monotone

pub returns-clause-moments : goal.returns-clause-moments
returns-clause-moments c = within_put c.args.at c.args.bytes.now c.args.self.now c.put.new.self c.in_ok-put.ensures.entered

pub returns-then-fails-clause-torn : goal.returns-then-fails-clause-torn
returns-then-fails-clause-torn c = pending_failed c.args.at c.args.bytes.now c.args.self.now c.fail_write.new.self
    c.fail_write.ensures.entered

pub returns-in_err-put-clause-torn : goal.returns-in_err-put-clause-torn
returns-in_err-put-clause-torn c =
    let torn : HasOneCallMore c.args.self.now c.put.new.self → (from image : List ℕ) → left_in c.args.self.now from
    → Torn c.args.at (length c.args.bytes.now) from image → left_in c.put.new.self image =
    pending_unentered c.args.at (length c.args.bytes.now) c.args.self.now c.put.new.self
    c.in_err-put.ensures.unentered in search rules

pub returns-then-fails-clause-unlisted : goal.returns-then-fails-clause-unlisted
returns-then-fails-clause-unlisted c = grind (arith, common_steps) steps 2000000

pub returns-clause-numbered : goal.returns-clause-numbered
returns-clause-numbered c = grind (arith, common_steps) steps 2000000
