use Rattle.std.proofs.Common.{[], false, true, refl, arith, rules}
use Rattle.fdr_biphase.specs.declared.decoder.Fitting.TheVariants.{Both, One}
use Rattle.fdr_biphase.proofs.Standing.{comes, none_missing, all_but_one, after_first, after_turn, after_first_failure}
use Rattle.fdr_biphase.proofs.Standing.{after_middle, after_begin, after_missing}
use Rattle.fdr_biphase.proofs.decoder.Decoder.push.Goals as goal

pub returns-then-at-eq0-clause-stands : goal.returns-then-at-eq0-clause-stands
returns-then-at-eq0-clause-stands c = λ past st. after_first c.args.self.now past c.args.level _ st c.if-at-eq0.true

pub returns-then-at-eq0-clause-missing : goal.returns-then-at-eq0-clause-missing
returns-then-at-eq0-clause-missing c = λ past st. none_missing _ _ (returns-then-at-eq0-clause-stands c past st)

pub returns-then-at-eq0-clause-answered : goal.returns-then-at-eq0-clause-answered
returns-then-at-eq0-clause-answered c = λ past st. all_but_one _ _ (returns-then-at-eq0-clause-stands c past st)

pub returns-in-Both-clause-stands : goal.returns-in-Both-clause-stands
returns-in-Both-clause-stands c = λ past st.
    after_turn c.args.self.now past c.args.level _ _ (comes c.args.self.now past c.args.level true Both st c.if-at-eq0.false c.if-turns.true c.in-Both.is)
    c.in-Both.is c.then_some.ensures

pub returns-in-Both-clause-missing : goal.returns-in-Both-clause-missing
returns-in-Both-clause-missing c = λ past st. none_missing _ _ (returns-in-Both-clause-stands c past st)

pub returns-in-Both-clause-answered : goal.returns-in-Both-clause-answered
returns-in-Both-clause-answered c = λ past st. all_but_one _ _ (returns-in-Both-clause-stands c past st)

pub returns-in-Both-2-clause-stands : goal.returns-in-Both-2-clause-stands
returns-in-Both-2-clause-stands c = λ past st.
    after_first_failure c.args.self.now past c.args.level _
    (comes c.args.self.now past c.args.level false Both st c.if-at-eq0.false c.if-turns.false c.in-Both.is)

pub returns-in-Both-2-clause-missing : goal.returns-in-Both-2-clause-missing
returns-in-Both-2-clause-missing c = λ past st. none_missing _ _ (returns-in-Both-2-clause-stands c past st)

pub returns-in-Both-2-clause-answered : goal.returns-in-Both-2-clause-answered
returns-in-Both-2-clause-answered c = λ past st. all_but_one _ _ (returns-in-Both-2-clause-stands c past st)

pub returns-in-One-clause-stands : goal.returns-in-One-clause-stands
returns-in-One-clause-stands c = λ past st.
    after_middle c.args.self.now past c.args.level _ c.in-One.phase _
    (comes c.args.self.now past c.args.level _ (One c.in-One.phase) st c.if-at-eq0.false refl c.in-One.is) c.in-One.is c.if-at-phase.true

pub returns-in-One-clause-missing : goal.returns-in-One-clause-missing
returns-in-One-clause-missing c = λ past st. none_missing _ _ (returns-in-One-clause-stands c past st)

pub returns-in-One-clause-answered : goal.returns-in-One-clause-answered
returns-in-One-clause-answered c = λ past st. all_but_one _ _ (returns-in-One-clause-stands c past st)

pub returns-in-One-2-clause-stands : goal.returns-in-One-2-clause-stands
returns-in-One-2-clause-stands c = λ past st.
    after_begin c.args.self.now past c.args.level c.in-One.phase _
    (comes c.args.self.now past c.args.level true (One c.in-One.phase) st c.if-at-eq0.false c.if-turns-2.true c.in-One.is) c.in-One.is c.if-at-phase.false

pub returns-in-One-2-clause-missing : goal.returns-in-One-2-clause-missing
returns-in-One-2-clause-missing c = λ past st. none_missing _ _ (returns-in-One-2-clause-stands c past st)

pub returns-in-One-2-clause-answered : goal.returns-in-One-2-clause-answered
returns-in-One-2-clause-answered c = λ past st. all_but_one _ _ (returns-in-One-2-clause-stands c past st)

pub returns-in-One-3-clause-stays : goal.returns-in-One-3-clause-stays
returns-in-One-3-clause-stays c = λ past more st.
    (after_missing c.args.self.now past c.args.level c.in-One.phase more
    (comes c.args.self.now past c.args.level false (One c.in-One.phase) st c.if-at-eq0.false c.if-turns-2.false c.in-One.is) c.if-at-phase.false).0

pub returns-in-One-3-clause-missing : goal.returns-in-One-3-clause-missing
returns-in-One-3-clause-missing c = λ past st. returns-in-One-3-clause-stays c past [] st

pub returns-in-One-3-clause-all_answered : goal.returns-in-One-3-clause-all_answered
returns-in-One-3-clause-all_answered c = λ past more st.
    (after_missing c.args.self.now past c.args.level c.in-One.phase more
    (comes c.args.self.now past c.args.level false (One c.in-One.phase) st c.if-at-eq0.false c.if-turns-2.false c.in-One.is) c.if-at-phase.false).1

pub returns-in-One-3-clause-stands : goal.returns-in-One-3-clause-stands
returns-in-One-3-clause-stands c = omega arith

pub returns-in-One-3-clause-answered : goal.returns-in-One-3-clause-answered
returns-in-One-3-clause-answered c = omega arith

pub returns-in-One-3-clause-open : goal.returns-in-One-3-clause-open
returns-in-One-3-clause-open c = search rules
