use Rattle.std.proofs.Common.{◌≤◌, length, refl, sym, subst, ◌∙◌, arith}
use Rattle.std.proofs.lemmas.Option.{slice_get_past, slice_get_within}
use Rattle.fdr_gen.specs.Trace.{end_record, generated_trace}
use Rattle.fdr_gen.specs.Past.{GeneratorKept, RepresentsGenerator}
use Rattle.fdr_gen.specs.View.{generator_kept}
use Rattle.fdr_gen.proofs.Tracing.{at_end, end_is, past_end}
use Rattle.fdr_gen.proofs.generator.Gen.next.Goals as goal

pub returns-then-self-2-clause-record : goal.returns-then-self-2-clause-record
returns-then-self-2-clause-record c = λ past st.
    let stood : RepresentsGenerator (generator_kept c.self.inside) past = subst (λ (k : GeneratorKept). RepresentsGenerator k past) (sym c.self.view_is) st in
    let all = past_end (generator_kept c.self.inside) past stood c.self.invariant c.if-self.false c.if-self-2.true in
    let le : length (generated_trace past.table past.seed past.frames) ≤ past.given = omega arith in
    sym (slice_get_past (generated_trace past.table past.seed past.frames) past.given le)

pub returns-then-self-2-clause-none : goal.returns-then-self-2-clause-none
returns-then-self-2-clause-none c = λ past st.
    let stood : RepresentsGenerator (generator_kept c.self.inside) past = subst (λ (k : GeneratorKept). RepresentsGenerator k past) (sym c.self.view_is) st in
    (λ _. past_end (generator_kept c.self.inside) past stood c.self.invariant c.if-self.false c.if-self-2.true, λ _. refl)

pub returns-clause-record : goal.returns-clause-record
returns-clause-record c = λ past st.
    let stood : RepresentsGenerator (generator_kept c.self.inside) past = subst (λ (k : GeneratorKept). RepresentsGenerator k past) (sym c.self.view_is) st in
    end_is (generator_kept c.self.inside) past _ stood (omega arith)
    ∙ sym (at_end (generator_kept c.self.inside) past stood c.self.invariant c.if-self.false c.if-self-2.false)

pub returns-clause-none : goal.returns-clause-none
returns-clause-none c = λ past st.
    let stood : RepresentsGenerator (generator_kept c.self.inside) past = subst (λ (k : GeneratorKept). RepresentsGenerator k past) (sym c.self.view_is) st in
    let at = at_end (generator_kept c.self.inside) past stood c.self.invariant c.if-self.false c.if-self-2.false in
    let inside = slice_get_within (generated_trace past.table past.seed past.frames) past.given (end_record past.frames) at in
    (λ bad. absurd (cc), λ all. absurd (omega arith))
