use Rattle.std.proofs.Common.{◌∙◌, ℕ, List, sym, ap, subst, arith}
use Rattle.std.specs.Prelude.{IsTrue}
use Rattle.std.proofs.lemmas.Bool.Decides.{Decides-eqb}
use Rattle.std.proofs.lemmas.Slice.Eq.{slice_eq-Decides}
use Rattle.fdr_io.specs.Faults.{Rose}
use Rattle.fdr_recover.specs.Images.{block_numbered}
use Rattle.fdr_pair.proofs.PairWorks.{looked_first, looked_second, looked_then, content_of, content_then}
use Rattle.fdr_pair.proofs.Comparing.{IsRead, read_same, same_payload, same_session}
use Rattle.fdr_pair.proofs.compare.is_alike.Given.{Over}
use Rattle.fdr_pair.proofs.compare.is_alike.Goals.{In-Ok-block_on}
use Rattle.fdr_pair.proofs.compare.is_alike.Goals as goal

pub block_on-requires-2-clause-whole : goal.block_on-requires-2-clause-whole
block_on-requires-2-clause-whole g c = omega (arith, c.requires.second_whole, c.block_on.ensures.serves.other.disk.extent)

pub returns-in_default-clause-second : goal.returns-in_default-clause-second
returns-in_default-clause-second g c = content_of _ _ c.block_on.ensures.serves.other.disk

pub returns-in_default-clause-cause : goal.returns-in_default-clause-cause
returns-in_default-clause-cause g c = record { rose = c.in_default.ensures.cause; other = c.block_on.ensures.serves.other.disk.faults }

pub returns-in_default-block_on-clause-cause : goal.returns-in_default-block_on-clause-cause
returns-in_default-block_on-clause-cause g c = record {
  rose = subst (λ (n : ℕ). Rose n (g.T.Twin.pair c.block_on-2.new.twin).second.faults) c.block_on.ensures.serves.other.disk.faults
      c.in_default-block_on.ensures.cause;
  other = c.block_on-2.ensures.serves.other.disk.faults ∙ c.in-Ok.ensures.no_fault;
}

pub returns-in_default-block_on-clause-work : goal.returns-in_default-block_on-clause-work
returns-in_default-block_on-clause-work g c =
    looked_then _ _ _ _ (g.met.T.Twin.sound_pair c.block_on.new.twin) c.block_on.ensures.content (content_of _ _ c.block_on.ensures.serves.other.disk)
    (looked_first _ _ _ (g.met.T.Twin.sound_pair c.args.twin.now) c.block_on.ensures.serves c.block_on.ensures.counts)
    (looked_second _ _ _ (g.met.T.Twin.sound_pair c.block_on.new.twin) c.block_on-2.ensures.serves c.block_on-2.ensures.counts)

pub returns-then-one-other-clause-work : goal.returns-then-one-other-clause-work
returns-then-one-other-clause-work g c =
    looked_then _ _ _ _ (g.met.T.Twin.sound_pair c.block_on.new.twin) c.block_on.ensures.content (content_of _ _ c.block_on.ensures.serves.other.disk)
    (looked_first _ _ _ (g.met.T.Twin.sound_pair c.args.twin.now) c.block_on.ensures.serves c.block_on.ensures.counts)
    (looked_second _ _ _ (g.met.T.Twin.sound_pair c.block_on.new.twin) c.block_on-2.ensures.serves c.block_on-2.ensures.counts)

pub returns-else-one-other-clause-work : goal.returns-else-one-other-clause-work
returns-else-one-other-clause-work g c =
    looked_then _ _ _ _ (g.met.T.Twin.sound_pair c.block_on.new.twin) c.block_on.ensures.content (content_of _ _ c.block_on.ensures.serves.other.disk)
    (looked_first _ _ _ (g.met.T.Twin.sound_pair c.args.twin.now) c.block_on.ensures.serves c.block_on.ensures.counts)
    (looked_second _ _ _ (g.met.T.Twin.sound_pair c.block_on.new.twin) c.block_on-2.ensures.serves c.block_on-2.ensures.counts)

pub returns-in_default-block_on-clause-first : goal.returns-in_default-block_on-clause-first
returns-in_default-block_on-clause-first g c =
    content_then _ _ _ c.block_on.ensures.content (content_of _ _ c.block_on-2.ensures.serves.other.disk)

pub returns-in_default-block_on-clause-second : goal.returns-in_default-block_on-clause-second
returns-in_default-block_on-clause-second g c =
    content_then _ _ _ (content_of _ _ c.block_on.ensures.serves.other.disk) c.block_on-2.ensures.content

pub returns-then-one-other-clause-first : goal.returns-then-one-other-clause-first
returns-then-one-other-clause-first g c =
    content_then _ _ _ c.block_on.ensures.content (content_of _ _ c.block_on-2.ensures.serves.other.disk)

pub returns-then-one-other-clause-second : goal.returns-then-one-other-clause-second
returns-then-one-other-clause-second g c =
    content_then _ _ _ (content_of _ _ c.block_on.ensures.serves.other.disk) c.block_on-2.ensures.content

pub returns-else-one-other-clause-first : goal.returns-else-one-other-clause-first
returns-else-one-other-clause-first g c =
    content_then _ _ _ c.block_on.ensures.content (content_of _ _ c.block_on-2.ensures.serves.other.disk)

pub returns-else-one-other-clause-second : goal.returns-else-one-other-clause-second
returns-else-one-other-clause-second g c =
    content_then _ _ _ (content_of _ _ c.block_on.ensures.serves.other.disk) c.block_on-2.ensures.content

pub returns-then-one-other-clause-no_fault : goal.returns-then-one-other-clause-no_fault
returns-then-one-other-clause-no_fault g c = record {
  first = c.block_on-2.ensures.serves.other.disk.faults ∙ c.in-Ok.ensures.no_fault;
  second = c.in-Ok-block_on.ensures.no_fault ∙ c.block_on.ensures.serves.other.disk.faults;
}

pub returns-else-one-other-clause-no_fault : goal.returns-else-one-other-clause-no_fault
returns-else-one-other-clause-no_fault g c = record {
  first = c.block_on-2.ensures.serves.other.disk.faults ∙ c.in-Ok.ensures.no_fault;
  second = c.in-Ok-block_on.ensures.no_fault ∙ c.block_on.ensures.serves.other.disk.faults;
}

-- what was read of the first side, and of the second
one_read : (g : Over) (c : In-Ok-block_on g) → IsTrue g.T.Deck.tells.bytes
    → IsRead c.args.h.now (g.T.Twin.pair c.args.twin.now).first.held c.args.seq c.in-Ok.one.len c.in-Ok.one.session c.block_on.new.buf
one_read g c told = record {
  payload = c.in-Ok.ensures.payload told;
  session = c.in-Ok.ensures.session told;
  none = c.in-Ok.ensures.none told;
  room = omega (arith, c.in-Ok.ensures.bound, c.requires.limits.most_payload, c.block_on.auto.buf);
}

other_read : (g : Over) (c : In-Ok-block_on g) → IsTrue g.T.Deck.tells.bytes
    → IsRead c.args.h.now (g.T.Twin.pair c.block_on.new.twin).second.held c.args.seq c.in-Ok-block_on.other.len c.in-Ok-block_on.other.session
    c.block_on-2.new.buf
other_read g c told = record {
  payload = c.in-Ok-block_on.ensures.payload told;
  session = c.in-Ok-block_on.ensures.session told;
  none = c.in-Ok-block_on.ensures.none told;
  room = omega (arith, c.in-Ok-block_on.ensures.bound, c.requires.limits.most_payload, c.block_on-2.auto.buf);
}

pub returns-then-one-other-clause-alike : goal.returns-then-one-other-clause-alike
returns-then-one-other-clause-alike g c told =
    let place = (goal.at.returns-then-one-other-clause-alike g c).In-Ok-block_on in
    let held = ap (λ (l : List ℕ). block_numbered c.args.h.now l c.args.seq) c.block_on.ensures.serves.other.disk.held in
    let decides = slice_eq-Decides Decides-eqb _ _ c.eq.result c.eq.ensures in (
      λ is. read_same _ _ _ _ _ _ _ _ _ _ (one_read g place told) (other_read g place told) c.if-one-other.true (decides.0 is) ∙ held,
      λ same. decides.1 (same_payload _ _ _ _ _ _ _ _ _ _ (one_read g place told) (other_read g place told) (same ∙ sym held)),
    )

pub returns-else-one-other-clause-alike : goal.returns-else-one-other-clause-alike
returns-else-one-other-clause-alike g c told =
    let place = (goal.at.returns-else-one-other-clause-alike g c).In-Ok-block_on in
    let held = ap (λ (l : List ℕ). block_numbered c.args.h.now l c.args.seq) c.block_on.ensures.serves.other.disk.held in
    let decides = Decides-eqb c.in-Ok.one.session c.in-Ok-block_on.other.session in (
      λ is. absurd (c.if-one-other.false (decides.0 is)),
      λ same. decides.1 (same_session _ _ _ _ _ _ _ _ _ _ (one_read g place told) (other_read g place told) (same ∙ sym held)),
    )
