-- A recording on two disks does what it means.
use Rattle.std.proofs.Common.{◌≡◌, ◌≢◌, inl, inr, ℕ, List, Some, refl, sym, subst}
use Rattle.fdr_io.specs.declared.Input.TheVariants as input
use Rattle.fdr_load.specs.Tables.{IsAccepted, table_in}
use Rattle.fdr_pair.specs.PairRun.{PairRun, RecordsPair, RunsPair}
use Rattle.fdr_pair.specs.PairStages.{EndsBeforeDisks, IsPastPairTable, LeavesPairLine, WritesOnNeither}
use Rattle.fdr_pair.specs.declared.outcome.PairOutcome.{PairOutcome}
use Rattle.fdr_pair.specs.declared.outcome.PairOutcome.TheVariants as outcome
use Rattle.fdr_pair.specs.PairDoing.{IsPairTold, DoesPairAsMeant}
use Rattle.fdr_pair.proofs.PairRecordings.{means_cut, means_disks, means_done, means_seq_end, means_trace}
use Rattle.fdr_pair.proofs.PairRefusals.{means_differ, means_far, means_headers, means_lead, means_memory, means_table, means_unread, stays_by}
use Rattle.fdr_pair.proofs.PairTables.{told_some}

module _ (r : PairRun) (runs : RunsPair r) (told : IsPairTold r) (not_usage : r.answer ≢ outcome.Usage)
    (bytes : List ℕ) (is : r.rest_before ≡ Some bytes) where
  accepted_at : IsPastPairTable r.answer → IsAccepted bytes × RecordsPair (table_in bytes) r
  accepted_at past =
      let by = runs.records past in
      let t = by.1 bytes is in (t.0, subst (λ x. RecordsPair x r) t.1 by.3)

  means_at : (a : PairOutcome) → r.answer ≡ a → DoesPairAsMeant r
  means_at outcome.Usage e = absurd (not_usage e)
  means_at (outcome.TableRefused row f) e =
      let before = runs.before (subst EndsBeforeDisks (sym e) tt) in
      let leaves = before.0.leaves in
      let line = subst LeavesPairLine (sym e) tt in
      means_table r runs told bytes is row f e (stays_by r runs told bytes is leaves line (subst WritesOnNeither (sym e) tt))
      (leaves.line_moments line) before.1
  means_at (outcome.ReadFault input.Table) e =
      let before = runs.before (subst EndsBeforeDisks (sym e) tt) in
      let leaves = before.0.leaves in
      let line = subst LeavesPairLine (sym e) tt in
      means_unread r runs told bytes is e (stays_by r runs told bytes is leaves line (subst WritesOnNeither (sym e) tt)) (leaves.line_moments line) before.1
  means_at outcome.NoMemory e = means_memory r runs told bytes is e
  means_at (outcome.ReadFault input.Line) e = let a = accepted_at (subst IsPastPairTable (sym e) tt) in means_cut r told bytes is a.0 a.1 e
  means_at outcome.Done e = let a = accepted_at (subst IsPastPairTable (sym e) tt) in means_done r told bytes is a.0 a.1 e
  means_at (outcome.TraceRefused index why) e =
      let a = accepted_at (subst IsPastPairTable (sym e) tt) in means_trace r told bytes is a.0 a.1 index why e
  means_at outcome.SeqEnd e = let a = accepted_at (subst IsPastPairTable (sym e) tt) in means_seq_end r told bytes is a.0 a.1 e
  means_at outcome.DiskFault e = let a = accepted_at (subst IsPastPairTable (sym e) tt) in means_disks r told bytes is a.0 a.1 e
  means_at (outcome.LeadFault s) e = let a = accepted_at (subst IsPastPairTable (sym e) tt) in means_lead r runs told bytes is a.0 a.1 s e
  means_at (outcome.BlocksDiffer seq) e = let a = accepted_at (subst IsPastPairTable (sym e) tt) in means_differ r runs told bytes is a.0 a.1 seq e
  means_at (outcome.FarBehind s) e = let a = accepted_at (subst IsPastPairTable (sym e) tt) in means_far r runs told bytes is a.0 a.1 s e
  means_at (outcome.ImageRefused s why) e =
      let a = accepted_at (subst IsPastPairTable (sym e) tt) in
      means_headers r runs told bytes is a.0 a.1 (outcome.ImageRefused s why) e (inl (s, why, refl)) tt tt
  means_at outcome.HeadersDiffer e =
      let a = accepted_at (subst IsPastPairTable (sym e) tt) in
      means_headers r runs told bytes is a.0 a.1 outcome.HeadersDiffer e (inr (inl refl)) tt tt
  means_at (outcome.WordsDiffer image table) e =
      let a = accepted_at (subst IsPastPairTable (sym e) tt) in
      means_headers r runs told bytes is a.0 a.1 (outcome.WordsDiffer image table) e (inr (inr (inl (image, table, refl)))) tt tt
  means_at outcome.OldVersion e =
      let a = accepted_at (subst IsPastPairTable (sym e) tt) in
      means_headers r runs told bytes is a.0 a.1 outcome.OldVersion e (inr (inr (inr refl))) tt tt

-- a recording on two disks does what it means
pub means : (r : PairRun) → RunsPair r → r.answer ≢ outcome.Usage → IsPairTold r → DoesPairAsMeant r
means r runs not_usage told = let s = told_some r.rest_before told.table in means_at r runs told not_usage s.0 s.1 r.answer refl
