use Rattle.fdr_recover.specs.Images.{blocks_between}
use Rattle.std.proofs.Common.{◌≡◌, ◌+◌, [], ◌∷◌, take, sym, subst, rules}
use Rattle.std.specs.Prelude.{IsTrue}
use Rattle.fdr_twin.specs.Pair.{disk_on, seen, other_side}
use Rattle.fdr_pair.specs.SidePuts.{next_block}
use Rattle.fdr_ring.specs.Rings.{IsRing}
use Rattle.fdr_twin.specs.declared.side.Side.{Side}
use Rattle.fdr_pair.proofs.Going.{ring_left}
use Rattle.std.proofs.Common.{Err, Result, ap, ◌∙◌}
use Rattle.fdr_slot.specs.declared.image.Header.{Header}
use Rattle.fdr_recover.specs.Images.{block_numbered}
use Rattle.fdr_ring.specs.declared.ring.Ring.{Ring}
use Rattle.fdr_pair.specs.Bringing.{HasBrought}
use Rattle.fdr_pair.specs.declared.bring.BringFault.{BringFault}
use Rattle.fdr_pair.specs.declared.bring.BringFault.TheVariants.{NotFound}
use Rattle.fdr_pair.proofs.Bringing.{brought_looked, brings_looked, block_of_read, lead_kept, put_work, put_brought}
use Rattle.fdr_pair.proofs.bring.bring_block.Given.{Over}
use Rattle.fdr_pair.proofs.bring.bring_block.Goals.{After-put_on}
use Rattle.fdr_pair.proofs.bring.bring_block.Goals as goal

pub put_on-requires-clause-fact : goal.put_on-requires-clause-fact
put_on-requires-clause-fact g c =
    let mid = g.T.Twin.pair c.block_on.new.twin in
    subst (λ (side : Side). IsRing g.T.Deck.tells c.args.ring.header c.args.ring.next (seen side mid)) (sym c.other_side-follower.ensures)
    (ring_left g.T.Deck.tells (other_side c.args.lead) c.args.ring (g.T.Twin.pair c.args.twin.now) mid c.block_on.ensures.serves.other.disk
    c.requires.ring).sure.ring

pub returns-in_default-clause-lead_failed : goal.returns-in_default-clause-lead_failed
returns-in_default-clause-lead_failed g c fails = record { rose = c.in_default.ensures.cause; other = c.block_on.ensures.serves.other.disk.faults }

pub returns-in_default-clause-work : goal.returns-in_default-clause-work
returns-in_default-clause-work g c =
    brings_looked _ _ _ _ _ _ (g.met.T.Twin.sound_pair c.args.twin.now) c.requires.ring.settled c.block_on.ensures.serves
    c.block_on.ensures.counts

pub returns-then-info-eq0-clause-work : goal.returns-then-info-eq0-clause-work
returns-then-info-eq0-clause-work g c =
    brings_looked _ _ _ _ _ _ (g.met.T.Twin.sound_pair c.args.twin.now) c.requires.ring.settled c.block_on.ensures.serves
    c.block_on.ensures.counts

-- the block that was read is the one that is put
is_read : (g : Over) (c : After-put_on g) → IsTrue g.T.Deck.tells.bytes
    → next_block c.args.ring c.in-Ok.info.session (take c.in-Ok.info.len c.block_on.new.buf) ∷ []
    ≡ blocks_between c.args.ring.header (disk_on c.args.lead (g.T.Twin.pair c.args.twin.now)).held c.args.ring.next (c.args.ring.next + 1)
is_read g c told =
    block_of_read c.header-header.result (disk_on c.args.lead (g.T.Twin.pair c.args.twin.now)).held c.args.ring c.args.seq c.in-Ok.info.len
    c.in-Ok.info.session c.block_on.new.buf c.header-header.ensures.header c.requires.number c.if-info-eq0.false (c.in-Ok.ensures.none told)
    (c.in-Ok.ensures.session told) (c.in-Ok.ensures.payload told)

pub returns-in_default-put_on-clause-lead : goal.returns-in_default-put_on-clause-lead
returns-in_default-put_on-clause-lead g c =
    lead_kept _ _ _ _ _ _ _ c.other_side-follower.ensures c.block_on.ensures.content c.put_on.ensures.serves

pub returns-in_default-put_on-clause-work : goal.returns-in_default-put_on-clause-work
returns-in_default-put_on-clause-work g c =
    put_work _ _ _ _ _ _ _ _ _ _ (g.met.T.Twin.sound_pair c.args.twin.now) (g.met.T.Twin.sound_pair c.block_on.new.twin) c.other_side-follower.ensures
    c.requires.ring c.block_on.ensures.serves c.block_on.ensures.content
    (is_read g (goal.at.returns-in_default-put_on-clause-work g c).After-put_on) c.put_on.ensures.serves c.block_on.ensures.counts c.put_on.ensures.counts

pub returns-clause-lead : goal.returns-clause-lead
returns-clause-lead g c =
    lead_kept _ _ _ _ _ _ _ c.other_side-follower.ensures c.block_on.ensures.content c.put_on.ensures.serves

pub returns-clause-work : goal.returns-clause-work
returns-clause-work g c =
    put_work _ _ _ _ _ _ _ _ _ _ (g.met.T.Twin.sound_pair c.args.twin.now) (g.met.T.Twin.sound_pair c.block_on.new.twin) c.other_side-follower.ensures
    c.requires.ring c.block_on.ensures.serves c.block_on.ensures.content
    (is_read g (goal.at.returns-clause-work g c).After-put_on) c.put_on.ensures.serves c.block_on.ensures.counts c.put_on.ensures.counts

pub returns-clause-brought : goal.returns-clause-brought
returns-clause-brought g c =
    put_brought _ _ _ _ _ _ _ _ _ _ (g.met.T.Twin.sound_pair c.args.twin.now) (g.met.T.Twin.sound_pair c.block_on.new.twin) c.other_side-follower.ensures
    c.requires.ring c.block_on.ensures.serves c.block_on.ensures.content
    (is_read g (goal.at.returns-clause-brought g c).After-put_on) c.put_on.ensures.serves c.in-Ok-put_on.ring c.in-Ok-put_on.ensures.ring.0
    c.in-Ok-put_on.ensures.put c.in-Ok-put_on.ensures.exact (record { sure = c.in-Ok-put_on.ensures.fact; settled = c.in-Ok-put_on.ensures.settled })
    c.in-Ok-put_on.ensures.no_fault
    c.in-Ok.ensures.no_fault

pub returns-in_default-put_on-clause-follower_failed : goal.returns-in_default-put_on-clause-follower_failed
returns-in_default-put_on-clause-follower_failed c = search rules

same_ring : (r s : Ring) → ◌≡◌ {A = Result Ring BringFault} (Err (NotFound r)) (Err (NotFound s)) → s ≡ r
same_ring r s e = cc

pub returns-then-info-eq0-clause-not_found : goal.returns-then-info-eq0-clause-not_found
returns-then-info-eq0-clause-not_found g c r fails =
    let p = g.T.Twin.pair c.args.twin.now in
    let q = g.T.Twin.pair c.block_on.new.twin in
    let same : r ≡ c.args.ring = same_ring c.args.ring r fails in (
      same,
      subst (λ (x : Ring). HasBrought g.T.Deck.tells c.args.lead c.args.ring x [] p q) (sym same)
          (brought_looked _ _ _ _ _ (g.met.T.Twin.sound_pair c.args.twin.now) c.requires.ring c.block_on.ensures.serves c.block_on.ensures.content
          c.in-Ok.ensures.no_fault),
      λ told.
          ap (block_numbered c.args.ring.header (disk_on c.args.lead p).held) (sym c.requires.number)
          ∙ ap (λ (h : Header). block_numbered h (disk_on c.args.lead p).held c.args.seq) (sym c.header-header.ensures.header)
          ∙ (c.in-Ok.ensures.none told).0 c.if-info-eq0.true,
    )
