use Rattle.std.proofs.Common.{◌≡◌, ◌∙◌, Err, ap, sym}
use Rattle.fdr_recover.specs.declared.error.RingFault.TheVariants as ring
use Rattle.fdr_top.specs.declared.outcome.Outcome.TheVariants as outcome
use Rattle.fdr_top.specs.Recover.{header_refusal}
use Rattle.fdr_pieces.proofs.Pulling.{LeavesStops-look}
use Rattle.fdr_top.proofs.Upgrades.{header_refuses, refusal_failed, refusal_not_done, refusal_own, upgrade_read, upgrade_unread}
use Rattle.fdr_top.proofs.upgrading.upgrade_image.Goals as goal

-- ---- where the header isn't read

pub returns-in-Err-clause-answer : goal.returns-in-Err-clause-answer
returns-in-Err-clause-answer g c = λ image. rw c.refusal.ensures (refusal_own image c.in-Err.fault)

pub returns-in-Err-clause-upgrades : goal.returns-in-Err-clause-upgrades
returns-in-Err-clause-upgrades g c =
    let head = c.read_image_header.ensures in
    let e = c.in-Err.ensures in
    rw c.refusal.ensures (upgrade_unread _ _ _ _ head.learns head.disk head.disk_work (refusal_not_done c.in-Err.fault)
    (header_refuses _ _ _ c.in-Err.fault (λ x. e.only.0 (ap Err x)) (λ x. e.only.1 (ap Err x)) (λ told why x. e.first_fault told why (ap Err x))
    (λ why x. e.small why (ap Err x))))

pub returns-in-Err-clause-disk_fault : goal.returns-in-Err-clause-disk_fault
returns-in-Err-clause-disk_fault g c = λ failed.
    let e = c.in-Err.ensures in
    e.cause (ap Err (refusal_failed c.in-Err.fault (λ x. e.only.0 (ap Err x)) (λ x. e.only.1 (ap Err x)) (sym c.refusal.ensures ∙ failed)))

pub returns-in-Err-clause-no_disk_fault : goal.returns-in-Err-clause-no_disk_fault
returns-in-Err-clause-no_disk_fault g c = λ other.
    (c.in-Err.ensures.succeeds (λ x. let same : c.in-Err.fault ≡ ring.DiskFault = cc in
    other (c.refusal.ensures ∙ ap header_refusal same))).disk_faults

pub returns-in-Err-clause-stops : goal.returns-in-Err-clause-stops
returns-in-Err-clause-stops g c = λ nothing. LeavesStops-look _ _ _ c.read_image_header.ensures.disk_work

-- ---- where it is read

pub returns-in-Ok-write_version-clause-upgrades : goal.returns-in-Ok-write_version-clause-upgrades
returns-in-Ok-write_version-clause-upgrades g c =
    let head = c.read_image_header.ensures in
    let e = c.in-Ok.ensures in
    let wrote = c.in-Ok-write_version.ensures in
    upgrade_read _ _ _ _ c.in-Ok.header outcome.Done (g.met.D.Deck.sound c.args.deck.now) head.learns head.disk head.disk_work e.read e.good e.whole
    c.write_version.ensures.extent c.write_version.ensures.disk_work c.write_version.ensures.part (λ done told. wrote.written told)
    (λ done told. wrote.settled told) (λ nothing. nothing)

pub returns-in-Err-write_version-clause-upgrades : goal.returns-in-Err-write_version-clause-upgrades
returns-in-Err-write_version-clause-upgrades g c =
    let head = c.read_image_header.ensures in
    let e = c.in-Ok.ensures in
    upgrade_read _ _ _ _ c.in-Ok.header outcome.DiskFault (g.met.D.Deck.sound c.args.deck.now) head.learns head.disk head.disk_work e.read e.good e.whole
    c.write_version.ensures.extent c.write_version.ensures.disk_work c.write_version.ensures.part (λ done told. absurd (cc)) (λ done told. absurd (cc))
    (λ nothing. nothing)
