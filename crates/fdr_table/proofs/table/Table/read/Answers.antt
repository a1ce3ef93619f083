use Rattle.std.proofs.Common.{◌≡◌, ◌≤◌, ◌∙◌, ap, None, length, arith, rules}
use Rattle.std.specs.Option.{ok_or}
use Rattle.fdr_table.specs.Bounds.{most_table_bytes}
use Rattle.fdr_table.specs.Reading.{records_of}
use Rattle.fdr_table.specs.Faults.{table_bytes_fault, first_fault}
use Rattle.fdr_table.proofs.DraftFacts.{if-made, if-there, some-row}
use Rattle.fdr_table.specs.Ranges.{HaveOwnNames, IsWithinLimits}
use Rattle.fdr_table.specs.Rows.{TableRows}
use Rattle.fdr_table.proofs.FaultFacts.{first-fault-none, fault-of-rows, without-frame}
use Rattle.fdr_table.specs.declared.fault.TableFault.TheVariants as fault
use Rattle.fdr_table.proofs.NextFacts.{no-frame-no-rows}
use Rattle.fdr_table.proofs.table.Table.read.Goals as goal

pub returns : goal.returns
returns c =
    let rows = records_of c.args.bytes.now in
    let draft = c.in_ok-draft.ensures.draft in
    let made = c.ok_or.ensures.value ∙ ap (λ o. ok_or o c.refused-2.result) c.of.ensures in
    let few : length c.args.bytes.now ≤ most_table_bytes = omega (arith, c.if-bytes-gt-MAX_TABLE_BYTES.false) in
    record {
      table = search rules;
      in_range = search rules;
      too_large = λ many. absurd (omega arith);
      no_fault = if-there c.in_ok-draft.draft.frame _ c.refused-2.result c.ok_or.result (table_bytes_fault c.args.bytes.now ≡ None) made
          (λ there. fault-of-rows c.args.bytes.now few ∙ first-fault-none rows (some-row rows c.in_ok-draft.draft draft there) draft.no_fault);
      refused = λ row f same.
          let why = without-frame c.in_ok-draft.draft.frame _ c.of.result c.refused-2.result 0 row fault.NoFrame f c.ok_or.result c.of.ensures
          c.refused-2.ensures c.ok_or.ensures.value same in
          fault-of-rows c.args.bytes.now few ∙ ap first_fault (no-frame-no-rows rows c.in_ok-draft.draft draft why.0) ∙ why.1;
      names = if-made c.in_ok-draft.draft.frame _ c.refused-2.result c.ok_or.result (λ (t : TableRows). HaveOwnNames t.params) made (λ f. draft.own_names);
      limits = if-made c.in_ok-draft.draft.frame _ c.refused-2.result c.ok_or.result IsWithinLimits made
          (λ f. record { params = draft.few_params; places = draft.few_places });
    }
