use Rattle.std.proofs.Common.{rules}
use Rattle.fdr_deck.proofs.MemoryPass.{leaves_told, time_told, now_told}
use Rattle.fdr_twin.proofs.memory.MemTwinDeck.announce.Goals as goal

pub returns : goal.returns
returns c =
    let is = c.tell.ensures in
    let leaves = leaves_told c.args.count _ _ is.entries is.first is.pulled is.least is.greatest is.disk_faults in
    let time = time_told c.args.count _ _ is.entries is.first is.pulled is.least is.greatest in
    let moments = now_told c.args.count _ _ is.entries is.first is.pulled is.least is.greatest in
    search (rules, is, leaves, time, moments)
