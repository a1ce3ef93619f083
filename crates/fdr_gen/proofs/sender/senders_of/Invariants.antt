use Rattle.std.proofs.Common.{◌≡◌, map, take}
use Rattle.fdr_gen.specs.Trace.{sender_of}
use Rattle.fdr_gen.proofs.sender.senders_of.Given as goal

abbrev pub invariant-loop-param : goal.invariant-loop-param
invariant-loop-param l = l.senders.items ≡ map sender_of (take l.param-index l.params)
