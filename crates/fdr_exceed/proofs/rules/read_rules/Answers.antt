use Rattle.std.proofs.Common.{Bor, List, ℕ, ◌∙◌, sym, ap, subst, refl, inl, inr, Option, Some, [], ◌∷◌, ◌++◌, append_assoc}
use Rattle.std.proofs.lemmas.Result.{err_from_is_err_and}
use Rattle.csv.specs.Reading.{Reached, default_config, strip_bom}
use Rattle.csv.specs.Records.{fields_of}
use Rattle.csv.specs.declared.parser.State.TheVariants as st
use Rattle.csv.proofs.ReadFacts.{rows-end, rows-more}
use Rattle.fdr_table.specs.Reading.{records_of}
use Rattle.fdr_table.proofs.RecordFacts.{records-are, records-front}
use Rattle.fdr_exceed.specs.RuleFaults.{first_rule_fault, rules_of}
use Rattle.fdr_exceed.proofs.RuleRecords.{AreRead, at_rule, none-read, none-refused, one-read, refused-here}
use Rattle.fdr_exceed.proofs.rules.read_rules.Goals as goal

-- the bytes of a source in memory
abbrev in-memory : Bor (List ℕ) → Option (List ℕ)
in-memory s = Some s.now

pub loop-row-init : goal.loop-row-init
unfolding Reached
loop-row-init c =
    let fr = c.from_reader-reader.ensures in
    let e = c.flexible.ensures in
    let h = c.has_headers.ensures in
    let start = c.into_iter-row-iterator.ensures.into_iter_gives ∙ refl in
    let rdr = c.into_byte_records-row-items.ensures.rdr in
    let left = c.into_byte_records-row-items.ensures.left in
    rw (start, rdr, c.new-rules.ensures.items) (
      rw (e, h) at fr.trim ∙ c.new.ensures.trim,
      inr (inr (rw (e, h) at fr.has_headers, fr.headers)),
      left,
      rw (e, h) at fr.config ∙ c.new.ensures.config,
      rw e at fr.flexible,
      strip_bom c.args.bytes.now,
      fr.source,
      [],
      (sym fr.state, refl),
      none-read c.args.table.now,
    )

pub returns-in_err-add_rule-in-Ok-clause-refused : goal.returns-in_err-add_rule-in-Ok-clause-refused
returns-in_err-add_rule-in-Ok-clause-refused c row f same =
    let inv = c.loop-row.invariant in
    let above = inv.7 in
    let here = fields_of c.in-Ok.row in
    let s = rw (c.in-Some.is, c.in-Ok.is) at ((c.next.ensures.steps inv.2 inv.0).0 inv.1) in
    let more = rows-more in-memory c.loop-row.row-iterator.rdr c.next.new.self.rdr here default_config st.StartRecord
    (strip_bom c.args.bytes.now) inv.5 above inv.3 inv.6 inv.8 s.0 in
    let front = records-front c.args.bytes.now (above ++ here ∷ []) c.next.new.self.rdr.state more.0 more.2 in
    let all = front.1 ∙ append_assoc above (here ∷ []) front.0 in
    let told = err_from_is_err_and c.from_residual.result c.from_residual.ensures.1 in
    let is = told.1 in
    let given = told.2 in
    let wrong = c.in_err-add_rule-in-Ok.ensures.refused row f (cc) in
    let first = refused-here c.args.table.now above c.loop-row.rules.items here front.0 f inv.9 wrong.1 in
    ap (first_rule_fault c.args.table.now) all ∙ first ∙ ap (λ (n : ℕ). at_rule n f) (sym wrong.0)

pub loop-row-preserved : goal.loop-row-preserved
loop-row-preserved c =
    let inv = c.loop-row.invariant in
    let above = inv.7 in
    let here = fields_of c.in-Ok.row in
    let steps = c.next.ensures.steps inv.2 inv.0 in
    let s = rw (c.in-Some.is, c.in-Ok.is) at (steps.0 inv.1) in
    let flexible = rw (c.in-Some.is, c.in-Ok.is) at steps.3 in
    let more = rows-more in-memory c.loop-row.row-iterator.rdr c.next.new.self.rdr here default_config st.StartRecord
    (strip_bom c.args.bytes.now) inv.5 above inv.3 inv.6 inv.8 s.0 in
    let added = c.in_ok-add_rule-in-Ok.ensures in
    let read = subst (AreRead c.args.table.now (above ++ here ∷ [])) (sym added.rule)
    (one-read c.args.table.now above c.loop-row.rules.items here _ inv.9 refl added.no_fault added.range added.few) in
    (s.0.3 ∙ inv.0, inl s.1, s.2, s.0.2 ∙ inv.3, flexible ∙ inv.4, more.0, more.1, above ++ here ∷ [], more.2, read)

pub returns-clause-rules : goal.returns-clause-rules
unfolding records_of
returns-clause-rules c =
    let inv = c.loop-row.invariant in
    let s = rw c.in-None.is at ((c.next.ensures.steps inv.2 inv.0).0 inv.1) in
    let ends = rows-end in-memory c.loop-row.row-iterator.rdr c.next.new.self.rdr [] default_config inv.5 inv.3 inv.6 s in
    let all = records-are (strip_bom c.args.bytes.now) inv.7 (c.loop-row.row-iterator.rdr.state, inv.5, inv.8, ends) in
    inv.9.made ∙ ap (rules_of c.args.table.now) all

pub returns-clause-no_fault : goal.returns-clause-no_fault
unfolding records_of
returns-clause-no_fault c =
    let inv = c.loop-row.invariant in
    let s = rw c.in-None.is at ((c.next.ensures.steps inv.2 inv.0).0 inv.1) in
    let ends = rows-end in-memory c.loop-row.row-iterator.rdr c.next.new.self.rdr [] default_config inv.5 inv.3 inv.6 s in
    let all = records-are (strip_bom c.args.bytes.now) inv.7 (c.loop-row.row-iterator.rdr.state, inv.5, inv.8, ends) in
    ap (first_rule_fault c.args.table.now) (sym all) ∙ none-refused c.args.table.now inv.7 c.loop-row.rules.items inv.9

pub returns-clause-range : goal.returns-clause-range
returns-clause-range c = record { each = c.loop-row.invariant.9.range; few = c.loop-row.invariant.9.few }
