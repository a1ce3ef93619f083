use Rattle.std.proofs.Common.{arith, rules}
use Rattle.fdr_deck.specs.Calls.{IsDiskWork}
use Rattle.fdr_ring.specs.Rings.{OfSettled}
use Rattle.fdr_top.specs.Upgrade.{VersionStop}
use Rattle.fdr_top.proofs.Upgrades.{version_here, version_synced, version_torn}
use Rattle.fdr_top.proofs.upgrading.write_version.Goals.{then-header-eq1+in_ok-write, else-header-eq1}
use Rattle.fdr_top.proofs.upgrading.write_version.Goals as goal

pub returns-clause-disk_work : goal.returns-clause-disk_work
returns-clause-disk_work g c =
    let sound = g.met.D.Deck.sound in
    let version = c.args.header.now.version in
    let old = g.D.Deck.state c.args.deck.now in
    let before : IsDiskWork g.D.Deck.tells (OfSettled old (VersionStop version)) old (g.D.Deck.state c.if-header-eq1.deck) =
    elim c.if-header-eq1.branch [
      | then-header-eq1+in_ok-write w ↦ rw w.deck-is (version_torn version _ old _ (omega arith) (sound c.args.deck.now) w.write.ensures.passes
          w.write.ensures.moments w.write.ensures.tears)
      | else-header-eq1 w ↦ rw w.deck-is (version_here version _ old (sound c.args.deck.now))
    ] in
    version_synced version _ old _ _ (sound c.args.deck.now) (sound c.if-header-eq1.deck) before c.sync.ensures.passes c.sync.ensures.moments
    c.sync.ensures.no_more

pub returns-in_err-write-clause-part : goal.returns-in_err-write-clause-part
returns-in_err-write-clause-part c = search rules

pub returns-in_err-write-clause-disk_work : goal.returns-in_err-write-clause-disk_work
returns-in_err-write-clause-disk_work c = search rules

pub returns-clause-written : goal.returns-clause-written
returns-clause-written c = search rules

pub returns-clause-settled : goal.returns-clause-settled
returns-clause-settled c = search rules

pub returns-clause-part : goal.returns-clause-part
returns-clause-part c = search rules

pub returns-clause-no_disk_fault : goal.returns-clause-no_disk_fault
returns-clause-no_disk_fault c = search rules
