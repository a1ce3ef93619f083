use Rattle.std.proofs.Common.{◌≡◌, ◌+◌, ◌*◌, ◌<◌, ◌≤◌, Some, sym, ap, subst, length, arith}
use Rattle.std.specs.List.{slice_get}
use Rattle.fdr_gen.specs.Past.{GeneratorKept, GeneratorPast, RepresentsGenerator}
use Rattle.fdr_gen.specs.Trace.{generated_trace}
use Rattle.fdr_gen.specs.View.{generator_kept}
use Rattle.fdr_gen.proofs.Tracing.{record_word, gives_record, stands_within, stands_later}
use Rattle.fdr_gen.proofs.generator.Gen.next_word.Goals as goal
use Rattle.fdr_gen.proofs.generator.Gen.next_word.Goals.{After-len}

-- what was given of the generator before the call, of its fields
kept : (c : After-len) (past : GeneratorPast) → RepresentsGenerator c.args.self.now past
    → RepresentsGenerator (generator_kept c.self.inside) past × (generator_kept c.self.inside).second < (generator_kept c.self.inside).seconds
kept c past st = (
  subst (λ (k : GeneratorKept). RepresentsGenerator k past) (sym c.self.view_is) st,
  subst (λ (k : GeneratorKept). k.second < k.seconds) (sym c.self.view_is) c.requires,
)

gives : (c : After-len) (past : GeneratorPast) → RepresentsGenerator c.args.self.now past
    → slice_get (generated_trace past.table past.seed past.frames) past.given ≡ Some (record_word c.bus.result c.word.result (1000000 * c.from.result))
gives c past st =
    let own = kept c past st in
    gives_record (generator_kept c.self.inside) past c.index-sender.result.now c.next_state-state.result c.bus.result c.word.result (1000000 * c.from.result)
    own.0 c.self.invariant own.1 c.index-sender.ensures c.next_state-state.ensures c.bus.ensures c.word.ensures (ap (λ n. 1000000 * n) c.from.ensures)

pub returns-then-self-len-clause-record : goal.returns-then-self-len-clause-record
returns-then-self-len-clause-record c = gives (goal.at.returns-then-self-len-clause-record c).After-len

pub returns-else-self-len-clause-record : goal.returns-else-self-len-clause-record
returns-else-self-len-clause-record c = gives (goal.at.returns-else-self-len-clause-record c).After-len

pub returns-then-self-len-clause-stands : goal.returns-then-self-len-clause-stands
returns-then-self-len-clause-stands c = λ past st.
    let own = kept (goal.at.returns-then-self-len-clause-stands c).After-len past st in
    stands_within (generator_kept c.self.inside) past c.next_state-state.result own.0 c.self.invariant own.1 c.next_state-state.ensures

pub returns-else-self-len-clause-stands : goal.returns-else-self-len-clause-stands
returns-else-self-len-clause-stands c = λ past st.
    let own = kept (goal.at.returns-else-self-len-clause-stands c).After-len past st in
    let k : GeneratorKept = generator_kept c.self.inside in
    let last : length k.senders ≤ k.place + 1 = omega (arith, c.len.ensures, c.if-self-len.false) in
    stands_later k past c.next_state-state.result own.0 c.self.invariant own.1 last c.next_state-state.ensures
