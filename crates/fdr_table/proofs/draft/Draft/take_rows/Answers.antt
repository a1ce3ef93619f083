use Rattle.std.proofs.Common.{◌≡◌, length, Bor, List, ℕ, ◌∙◌, sym, ap, subst, refl, inl, inr, Option, Some, Err, [], ◌∷◌, ◌++◌, append_assoc, arith}
use Rattle.std.proofs.lemmas.Result.{err_from_is_err_and}
use Rattle.csv.specs.Reading.{Reached, default_config, strip_bom}
use Rattle.csv.specs.Records.{fields_of}
use Rattle.csv.specs.declared.parser.State.TheVariants as st
use Rattle.csv.proofs.ReadFacts.{rows-end, rows-more}
use Rattle.fdr_table.specs.Draft.{IsDraft}
use Rattle.fdr_table.specs.declared.fault.TableError.{TableError}
use Rattle.fdr_table.specs.Faults.{first_fault}
use Rattle.fdr_table.specs.Reading.{Row, records_of}
use Rattle.fdr_table.proofs.FaultFacts.{at-row, first-fault-after}
use Rattle.fdr_table.proofs.RecordFacts.{front-few, records-are, records-front}
use Rattle.fdr_table.proofs.draft.Draft.take_rows.Goals as goal

-- the bytes of a source in memory
abbrev in-memory : Bor (List ℕ) → Option (List ℕ)
in-memory s = Some s.now

pub loop-row-init : goal.loop-row-init
unfolding Reached
loop-row-init c =
    let fr = c.from_reader-reader.ensures in
    let e = c.flexible.ensures in
    let h = c.has_headers.ensures in
    let start = c.into_iter-row-iterator.ensures.into_iter_gives ∙ refl in
    let rdr = c.into_byte_records-row-items.ensures.rdr in
    let left = c.into_byte_records-row-items.ensures.left in
    rw (start, rdr) (
      rw (e, h) at fr.trim ∙ c.new.ensures.trim,
      inr (inr (rw (e, h) at fr.has_headers, fr.headers)),
      left,
      rw (e, h) at fr.config ∙ c.new.ensures.config,
      rw e at fr.flexible,
      strip_bom c.args.bytes.now,
      fr.source,
      [],
      (sym fr.state, refl),
      c.requires.empty,
    )

pub take_row-requires : goal.take_row-requires
take_row-requires c =
    let inv = c.loop-row.invariant in
    let few = front-few c.args.bytes.now inv.7 c.loop-row.row-iterator.rdr.state inv.5 inv.8 in
    omega (arith, few, inv.9.rows, c.requires.size)

pub returns-in_err-take_row-in-Ok-clause-refused : goal.returns-in_err-take_row-in-Ok-clause-refused
returns-in_err-take_row-in-Ok-clause-refused c row f same =
    let inv = c.loop-row.invariant in
    let above = inv.7 in
    let here = fields_of c.in-Ok.row in
    let s = rw (c.in-Some.is, c.in-Ok.is) at ((c.next.ensures.steps inv.2 inv.0).0 inv.1) in
    let more = rows-more in-memory c.loop-row.row-iterator.rdr c.next.new.self.rdr here default_config st.StartRecord
    (strip_bom c.args.bytes.now) inv.5 above inv.3 inv.6 inv.8 s.0 in
    let front = records-front c.args.bytes.now (above ++ here ∷ []) c.next.new.self.rdr.state more.0 more.2 in
    let all = front.1 ∙ append_assoc above (here ∷ []) front.0 in
    let p = err_from_is_err_and c.from_residual.result c.from_residual.ensures.1 in
    let told = ap (λ (e : TableError). Err e) (sym p.2) ∙ sym p.1 ∙ same in
    let why = c.in_err-take_row-in-Ok.ensures.refused row f told in
    let first = first-fault-after above here front.0 f inv.9.no_fault (why.1 above inv.9) in
    let number : length above ≡ row = inv.9.rows ∙ sym why.0 in
    ap first_fault all ∙ first ∙ ap (λ (n : ℕ). at-row n f) number

pub loop-row-preserved : goal.loop-row-preserved
loop-row-preserved c =
    let inv = c.loop-row.invariant in
    let above = inv.7 in
    let here = fields_of c.in-Ok.row in
    let steps = c.next.ensures.steps inv.2 inv.0 in
    let s = rw (c.in-Some.is, c.in-Ok.is) at (steps.0 inv.1) in
    let flexible = rw (c.in-Some.is, c.in-Ok.is) at steps.3 in
    let more = rows-more in-memory c.loop-row.row-iterator.rdr c.next.new.self.rdr here default_config st.StartRecord
    (strip_bom c.args.bytes.now) inv.5 above inv.3 inv.6 inv.8 s.0 in
    let draft = c.in_ok-take_row-in-Ok.ensures.draft above inv.9 in
    (s.0.3 ∙ inv.0, inl s.1, s.2, s.0.2 ∙ inv.3, flexible ∙ inv.4, more.0, more.1, above ++ here ∷ [], more.2, draft)

pub returns-clause-draft : goal.returns-clause-draft
unfolding records_of
returns-clause-draft c =
    let inv = c.loop-row.invariant in
    let s = rw c.in-None.is at ((c.next.ensures.steps inv.2 inv.0).0 inv.1) in
    let ends = rows-end in-memory c.loop-row.row-iterator.rdr c.next.new.self.rdr [] default_config inv.5 inv.3 inv.6 s in
    let all = records-are (strip_bom c.args.bytes.now) inv.7 (c.loop-row.row-iterator.rdr.state, inv.5, inv.8, ends) in
    subst (λ (rows : List Row). IsDraft rows c.loop-row.self) all inv.9
