use Rattle.std.proofs.Common.{◌≡◌, ◌∙◌, ℕ, List, [], ◌∷◌, take, ap, sym, subst, refl, arith}
use Rattle.std.proofs.lemmas.List.{length-take}
use Rattle.std.specs.Prelude.{IfOk}
use Rattle.fdr_recover.specs.Blocks.{Block}
use Rattle.fdr_recorder.specs.Past.{RecordingPast, rest_of, stream_past}
use Rattle.fdr_recorder.proofs.Closing.{rest-none, rest-one}
use Rattle.fdr_recorder.proofs.Feeding.{in_box}
use Rattle.fdr_recorder.proofs.Joined.{all_blocks-rest}
use Rattle.fdr_pair.specs.PairPast.{RepresentsPair}
use Rattle.fdr_pair.specs.PairRecording.{PairHasEnded, PairRecordsAll, PairRecordsFirst}
use Rattle.fdr_pair.proofs.BothSides.{PairRecordsAll-here, PairRecordsFirst-here}
use Rattle.fdr_pair.proofs.PairFeeding.{ended_rest}
use Rattle.fdr_pair.proofs.session.PairSession.close.Given.{Over}
use Rattle.fdr_pair.proofs.session.PairSession.close.Goals.{After-record}
use Rattle.fdr_pair.proofs.session.PairSession.close.Goals as goal

pub returns-then-count-eq0-clause-records : goal.returns-then-count-eq0-clause-records
returns-then-count-eq0-clause-records g c past stands =
    PairRecordsFirst-here _ _ _ _ (g.met.T.Twin.sound_pair c.args.twin.now) c.requires.settled

pub returns-then-count-eq0-clause-recorded : goal.returns-then-count-eq0-clause-recorded
returns-then-count-eq0-clause-recorded g c past stands =
    let p = g.T.Twin.pair c.args.twin.now in
    let none = rest-none past c.finish-count.result
    (c.finish-count.ensures.blocks (stream_past past) (in_box c.deref_mut.ensures.value stands.stream) refl) c.if-count-eq0.true in
    subst (λ (l : List Block). PairRecordsAll g.T.Deck.tells c.args.self.rings c.args.self.rings l p p) (sym none)
    (PairRecordsAll-here _ _ p c.requires.settled)

pub returns-then-count-eq0-clause-all : goal.returns-then-count-eq0-clause-all
returns-then-count-eq0-clause-all g c past stands = all_blocks-rest past c.finish-count.result
    (c.finish-count.ensures.blocks (stream_past past) (in_box c.deref_mut.ensures.value stands.stream) refl)

pub record-requires-clause-fits : goal.record-requires-clause-fits
record-requires-clause-fits g c =
    let past = c.requires.stands.0 in
    let stands = c.requires.stands.1 in
    let few = c.finish-count.ensures.within_payload (stream_past past) (in_box c.deref_mut.ensures.value stands.stream) in
    let same : c.args.self.rings.header.payload ≡ past.header.payload = ap (λ h. h.payload) stands.header in
    omega (arith, few, same, length-take c.finish-count.result c.deref.result.now)

-- one block was left
one_left : (g : Over) (c : After-record g) (past : RecordingPast) (stands : RepresentsPair c.args.self past)
    → rest_of past ≡ record { number = c.args.self.rings.next; session = c.args.self.session; payload = take c.finish-count.result c.deref.result.now } ∷ []
one_left g c past stands =
    rest-one past c.finish-count.result c.args.self.rings.next c.args.self.session (take c.finish-count.result c.deref.result.now)
    (c.finish-count.ensures.blocks (stream_past past) (in_box c.deref_mut.ensures.value stands.stream) refl) (omega (arith, c.if-count-eq0.false)) stands.next
    stands.session
    (ap (λ (l : List ℕ). take c.finish-count.result l) c.deref.ensures
    ∙ c.finish-count.ensures.last (stream_past past) (in_box c.deref_mut.ensures.value stands.stream) refl)

pub returns-clause-untouched : goal.returns-clause-untouched
returns-clause-untouched g c past stands none =
    let one = one_left g (goal.at.returns-clause-untouched g c).After-record past stands in
    absurd (let no = sym none ∙ one in cc)

pub returns-clause-all : goal.returns-clause-all
returns-clause-all g c past stands = all_blocks-rest past c.finish-count.result
    (c.finish-count.ensures.blocks (stream_past past) (in_box c.deref_mut.ensures.value stands.stream) refl)

pub returns-clause-records : goal.returns-clause-records
returns-clause-records g c past stands =
    subst (λ (l : List Block). PairRecordsFirst g.T.Deck.tells c.args.self.rings l (g.T.Twin.pair c.args.twin.now) (g.T.Twin.pair c.record.new.twin))
    (sym (one_left g (goal.at.returns-clause-records g c).After-record past stands)) c.record.ensures.records

pub returns-clause-recorded : goal.returns-clause-recorded
returns-clause-recorded g c past stands =
    subst (λ (l : List Block). IfOk c.record.result (λ r. PairRecordsAll g.T.Deck.tells c.args.self.rings r l (g.T.Twin.pair c.args.twin.now)
    (g.T.Twin.pair c.record.new.twin)))
    (sym (one_left g (goal.at.returns-clause-recorded g c).After-record past stands)) c.record.ensures.recorded

pub returns-clause-seq_end : goal.returns-clause-seq_end
returns-clause-seq_end g c past stands ends =
    let one = one_left g (goal.at.returns-clause-seq_end g c).After-record past stands in
    let p = g.T.Twin.pair c.args.twin.now in
    let b : Block =
    record { number = c.args.self.rings.next; session = c.args.self.session; payload = take c.finish-count.result c.deref.result.now } in
    subst (λ (l : List Block). PairHasEnded g.T.Deck.tells c.args.self.rings l p (g.T.Twin.pair c.record.new.twin)) (sym one)
    (subst (λ twin. PairHasEnded g.T.Deck.tells c.args.self.rings (b ∷ []) p (g.T.Twin.pair twin)) (sym (c.record.ensures.untouched ends))
    (ended_rest g.T.Deck.tells c.args.self.rings b p c.requires.settled (c.record.ensures.seq_end.0 ends)))
