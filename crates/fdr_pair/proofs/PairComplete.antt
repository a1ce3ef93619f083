-- A recording on two disks that nothing hinders, and what is promised of each.
use Rattle.std.proofs.Common.{◌≡◌, ◌⊎◌, ⊎_elim, inl, inr, ℕ, ◌<◌, ◌≤◌, List, [], length, Option, Result, Ok, Err}
use Rattle.std.proofs.Common.{ap, sym, refl, ◌∙◌, subst, arith}
use Rattle.std.proofs.lemmas.Bool.{cases_lt}
use Rattle.fdr_io.specs.Faults.{Rose, next_count}
use Rattle.fdr_io.specs.declared.Input.TheVariants as input
use Rattle.fdr_bus.specs.Records.{good_prefix}
use Rattle.fdr_bus.proofs.TraceLemmas.{good_prefix-append}
use Rattle.fdr_deck.specs.State.{Tells}
use Rattle.fdr_slot.specs.Limits.{IsInLimits}
use Rattle.fdr_slot.specs.declared.image.Header.{Header}
use Rattle.fdr_recover.specs.ImageHeader.{header_in}
use Rattle.fdr_recover.specs.Payloads.{run_in}
use Rattle.fdr_ring.specs.declared.ring.Ring.{Ring}
use Rattle.fdr_table.specs.Rows.{TableRows}
use Rattle.fdr_trace.specs.Pulls.{PullsUntilDecided}
use Rattle.fdr_trace.specs.declared.TraceStop.TheVariants as stop
use Rattle.fdr_twin.specs.declared.side.Side.{Side}
use Rattle.fdr_twin.specs.declared.side.Side.TheVariants.{First, Second}
use Rattle.fdr_twin.specs.Pair.{Pair, disk_on, seen}
use Rattle.fdr_twin.specs.RestSound.{PairElapses-then}
use Rattle.fdr_recorder.specs.NewBlocks.{new_blocks, next_in, past_in}
use Rattle.fdr_recorder.specs.Past.{RecordingPast, all_blocks, past_at_start, session_of}
use Rattle.fdr_recorder.specs.Supplied.{past_fed}
use Rattle.fdr_recorder.specs.declared.source.SourceEnd.{SourceEnd}
use Rattle.fdr_recorder.specs.declared.source.SourceEnd.TheVariants as source
use Rattle.fdr_recorder.proofs.NewBlocks.{blocks-fewer}
use Rattle.fdr_pair.specs.Alike.{lead_image, lead_on}
use Rattle.fdr_pair.specs.Opening.{AreCountsBelowMost, HasLivingSide, header_after}
use Rattle.fdr_pair.specs.PairAnswers.{recording_answer_of}
use Rattle.fdr_pair.specs.PairRun.{CountsNoPairFault, EndsPairLine, HasPairCause, IsWholePair, KeepsPair, LeavesPair, PairRun, RecordsPair}
use Rattle.fdr_pair.specs.PairRun.{RefusesHeaders, RefusesRuns}
use Rattle.fdr_pair.specs.PairStages.{EndsPairTrace, LeavesPairLine}
use Rattle.fdr_pair.specs.PairStarting.{IsPairStarted, IsStartRefused, StartsWithLead, StartsWithoutLead}
use Rattle.fdr_pair.specs.Traces.{PairRecordsTrace, trace_blocks}
use Rattle.fdr_pair.specs.declared.fault.PairFault.{PairFault}
use Rattle.fdr_pair.specs.declared.fault.PairFault.TheVariants as fault
use Rattle.fdr_pair.specs.declared.outcome.PairOutcome.{PairOutcome}
use Rattle.fdr_pair.specs.declared.outcome.PairOutcome.TheVariants as outcome
use Rattle.fdr_pair.specs.declared.start.PairStart.{PairStart}
use Rattle.fdr_pair.proofs.PairAnswering.{LaterCount, header_unfailed, later, no_header_refusal, recorded_causes, recorded_headers}
use Rattle.fdr_pair.proofs.PairAnswering.{recorded_leaves, recorded_lives, recorded_runs}
use Rattle.fdr_pair.proofs.PairLine.{ended_not_refused, ends_by_answer, ends_unpulled, pulls_none, pulls_since, refused_no_end}
use Rattle.fdr_pair.proofs.PairTable.{not_before}
use Rattle.fdr_pair.specs.Opening.{IsHeaderAnswer}
use Rattle.fdr_pair.proofs.Opening.{refused_after}

-- ---- where no count of faults rose

below_next : (old new : ℕ) → (Rose old new → ⊥) → new < next_count old
below_next old new not = ⊎_elim (λ (less : new < next_count old). less) (λ (rose : next_count old ≤ new). absurd (not rose)) (cases_lt new (next_count old))

no_rise : (old new : Pair) → CountsNoPairFault old new → (side : Side) → Rose (disk_on side old).faults (disk_on side new).faults → ⊥
no_rise old new faultless First rose = faultless.first rose
no_rise old new faultless Second rose = faultless.second rose

counts_below : (old new : Pair) → CountsNoPairFault old new → AreCountsBelowMost new
counts_below old new faultless = record {
  first = omega (arith, below_next old.first.faults new.first.faults faultless.first);
  second = omega (arith, below_next old.second.faults new.second.faults faultless.second);
}

-- ---- a start that was refused

-- All is there that a recording needs, and no count of faults rose.
module _ (t : TableRows) (tells : Tells) (old new : Pair) (whole : IsWholePair t tells old) (faultless : CountsNoPairFault old new) where
  header_right : (why : PairOutcome) → IsStartRefused t tells old new why → IsHeaderAnswer why → ⊥
  header_right why is by =
      let right = whole.alike.header in
      let h : Header = header_in old.first.held in
      no_header_refusal t.frame.words h right.count right.version (header_after old.first new.first) (header_after old.second new.second) why
      (inr (header_unfailed h old.first new.first (omega (arith, below_next old.first.faults new.first.faults faultless.first)) right.first refl))
      (inr (header_unfailed h old.second new.second (omega (arith, below_next old.second.faults new.second.faults faultless.second)) right.second
      (sym right.same)))
      by (refused_after t.frame.words old new why (is.headers.only by whole.bytes) (counts_below old new faultless))

  pub refused_whole : (why : PairOutcome) → IsStartRefused t tells old new why → (why ≡ outcome.Done) ⊎ (why ≡ outcome.NoMemory)
  refused_whole outcome.Done is = inl refl
  refused_whole outcome.NoMemory is = inr refl
  refused_whole outcome.Usage is = absurd (not_before outcome.Usage is.past tt)
  refused_whole (outcome.TableRefused row f) is = absurd (not_before (outcome.TableRefused row f) is.past tt)
  refused_whole (outcome.ReadFault input.Table) is = absurd (not_before (outcome.ReadFault input.Table) is.past tt)
  refused_whole (outcome.ReadFault input.Line) is = absurd (⊎_elim (λ (left : LeavesPairLine (outcome.ReadFault input.Line)). left)
      (λ (e : outcome.ReadFault input.Line ≡ outcome.DiskFault). cc) is.line)
  refused_whole (outcome.TraceRefused index f) is = absurd (⊎_elim (λ (left : LeavesPairLine (outcome.TraceRefused index f)). left)
      (λ (e : outcome.TraceRefused index f ≡ outcome.DiskFault). cc) is.line)
  refused_whole outcome.SeqEnd is = absurd (⊎_elim (λ (left : LeavesPairLine outcome.SeqEnd). left) (λ (e : outcome.SeqEnd ≡ outcome.DiskFault). cc) is.line)
  refused_whole (outcome.ImageRefused s f) is = absurd (header_right (outcome.ImageRefused s f) is (inl (s, f, refl)))
  refused_whole outcome.HeadersDiffer is = absurd (header_right outcome.HeadersDiffer is (inr (inl refl)))
  refused_whole (outcome.WordsDiffer image table) is = absurd (header_right (outcome.WordsDiffer image table) is (inr (inr (inl (image, table, refl)))))
  refused_whole outcome.OldVersion is = absurd (header_right outcome.OldVersion is (inr (inr (inr refl))))
  refused_whole (outcome.BlocksDiffer seq) is = absurd (whole.alike.blocks seq ((is.runs.differ seq refl).1 whole.bytes).blocks.0)
  refused_whole (outcome.FarBehind s) is = absurd (whole.alike.near ((is.runs.far s refl).1 whole.bytes).far)
  refused_whole (outcome.LeadFault s) is = absurd (no_rise old new faultless s (is.causes.lead s refl).alone.rose)
  refused_whole outcome.DiskFault is = absurd (faultless.first (is.causes.first refl))

-- no refusal of a start is the end of the trace or of the numbers
refused_no_late : (why : PairOutcome) → LeavesPairLine why ⊎ (why ≡ outcome.DiskFault) → EndsPairTrace why ⊎ (why ≡ outcome.SeqEnd) → ⊥
refused_no_late why line late = ⊎_elim (λ (ends : EndsPairTrace why). refused_no_end why line ends)
    (λ (last : why ≡ outcome.SeqEnd). ⊎_elim (λ (left : LeavesPairLine why). subst LeavesPairLine last left)
    (λ (disk : why ≡ outcome.DiskFault). let c : outcome.DiskFault ≡ outcome.SeqEnd = sym disk ∙ last in cc) line) late

pub records_refused : (t : TableRows) (r : PairRun) → IsStartRefused t r.tells r.old r.new r.answer → KeepsPair t r.tells [] r.old r.new r.answer
    → RecordsPair t r
records_refused t r is keeps = record {
  pulled = [];
  pulls = pulls_none r.tells r.old r.new is.unpulled;
  time = is.time;
  keeps = keeps;
  ends = ends_unpulled r.tells r.old r.new r.answer is.unpulled is.line;
  headers = is.headers;
  runs = is.runs;
  leaves = is.leaves;
  causes = is.causes;
  lives = λ late. absurd (refused_no_late r.answer is.line late);
  complete = λ whole faultless. refused_whole t r.tells r.old r.new whole faultless r.answer is;
}

-- ---- a recording that was started

past_same : (t : TableRows) (h k : Header) (a b c d : ℕ) → h ≡ k → a ≡ b → c ≡ d → past_at_start t h a c ≡ past_at_start t k b d
past_same t h k a b c d header first session = cc

-- A recording was started, and the trace was recorded.
module _ (t : TableRows) (tells : Tells) (s : PairStart) (old start new : Pair) (is : IsPairStarted t tells s old start)
    (end : Result SourceEnd PairFault)
    (records : PairRecordsTrace tells (past_at_start t s.session.rings.header s.session.rings.next s.session.session) s.session.rings start new end) where
  pulled_since : PullsUntilDecided tells (seen First old) (seen First new) [] records.pulled
  pulled_since = pulls_since tells old start new records.pulled is.line records.pulls

  recorded_ends : EndsPairLine tells old new records.pulled (recording_answer_of end)
  recorded_ends = ends_by_answer tells old start new records.pulled is.line pulled_since end records.ends

  -- there were numbers enough for the lead's run
  numbers_enough : IsWholePair t tells old → StartsWithLead t.frame.words s.session.rings s.session.session old start → end ≡ Err fault.SeqEnd → ⊥
  numbers_enough whole goes e =
      let lead = lead_image old in
      let past : RecordingPast = past_at_start t s.session.rings.header s.session.rings.next s.session.session in
      let same : past ≡ past_in t lead [] =
      past_same t s.session.rings.header (header_in lead) s.session.rings.next (next_in lead) s.session.session (session_of (run_in lead)) goes.header
      goes.next goes.after in
      let count : length (trace_blocks past records.pulled) ≡ length (new_blocks t lead (good_prefix records.pulled)) =
      ap (λ (x : RecordingPast). length (all_blocks (past_fed x (good_prefix records.pulled)))) same in
      let line = pulled_since.takes.input whole.input in
      let grown = good_prefix-append records.pulled new.input in
      let limits : IsInLimits (header_in lead) = subst IsInLimits goes.header s.session.rings.limits in
      let fewer = blocks-fewer (past_in t lead []) records.pulled new.input grown.0 limits grown.1 in
      let all = ap (λ (l : List ℕ). length (new_blocks t lead (good_prefix l))) line in
      omega (arith, (records.seq_end e).beyond, whole.numbers, fewer, all, count, goes.next)

  -- the lead hasn't failed
  lead_there : CountsNoPairFault old new → StartsWithoutLead t.frame.words s.session.rings s.session.session old start → ⊥
  lead_there faultless goes =
      let side = lead_on old in
      let kept : (disk_on side new).faults ≡ (disk_on side start).faults =
      subst (λ (o : Option Ring). LaterCount o (disk_on side start).faults (disk_on side new).faults) goes.lead.0
      (later t tells s old start new is end records side) in
      no_rise old new faultless side (subst (λ (n : ℕ). Rose (disk_on side old).faults n) (sym kept) goes.lead.1)

  recorded_whole : IsWholePair t tells old → CountsNoPairFault old new → (e : Result SourceEnd PairFault) → end ≡ e
      → (recording_answer_of end ≡ outcome.Done) ⊎ (recording_answer_of end ≡ outcome.NoMemory)
  recorded_whole whole faultless (Ok source.Ended) e = inl (ap recording_answer_of e)
  recorded_whole whole faultless (Ok (source.Stopped (stop.Refused index why))) e =
      absurd (ended_not_refused tells old new records.pulled index why pulled_since
      (subst (λ (x : Result SourceEnd PairFault). EndsPairLine tells old new records.pulled (recording_answer_of x)) e recorded_ends) whole.input whole.ended)
  recorded_whole whole faultless (Ok (source.Stopped stop.Failed)) e =
      absurd (faultless.input ((recorded_causes t tells s old start new is end records).input (ap recording_answer_of e)))
  recorded_whole whole faultless (Err fault.DiskFault) e =
      absurd (faultless.first ((recorded_causes t tells s old start new is end records).first (ap recording_answer_of e)))
  recorded_whole whole faultless (Err fault.SeqEnd) e = absurd (⊎_elim
      (λ (goes : StartsWithLead t.frame.words s.session.rings s.session.session old start). numbers_enough whole goes e)
      (λ (goes : StartsWithoutLead t.frame.words s.session.rings s.session.session old start). lead_there faultless goes)
      (is.goes_on whole.bytes))

pub records_started : (t : TableRows) (r : PairRun) (s : PairStart) (start : Pair) (end : Result SourceEnd PairFault)
    (is : IsPairStarted t r.tells s r.old start)
    (records : PairRecordsTrace r.tells (past_at_start t s.session.rings.header s.session.rings.next s.session.session) s.session.rings start r.new end)
    → r.answer ≡ recording_answer_of end → KeepsPair t r.tells records.pulled r.old r.new r.answer → RecordsPair t r
records_started t r s start end is records answer keeps = record {
  pulled = records.pulled;
  pulls = pulled_since t r.tells s r.old start r.new is end records;
  time = PairElapses-then r.old start r.new is.time records.time;
  keeps = keeps;
  ends = subst (λ (x : PairOutcome). EndsPairLine r.tells r.old r.new records.pulled x) (sym answer)
      (recorded_ends t r.tells s r.old start r.new is end records);
  headers = subst (λ (x : PairOutcome). RefusesHeaders t.frame.words r.tells r.old r.new x) (sym answer)
      (recorded_headers t r.tells s r.old start r.new is end records);
  runs = subst (λ (x : PairOutcome). RefusesRuns t.frame.words r.tells r.old r.new x) (sym answer)
      (recorded_runs t r.tells s r.old start r.new is end records);
  leaves = subst (λ (x : PairOutcome). LeavesPair r.tells r.old r.new x) (sym answer) (recorded_leaves t r.tells s r.old start r.new is end records);
  causes = subst (λ (x : PairOutcome). HasPairCause t.frame.words r.tells r.old r.new x) (sym answer)
      (recorded_causes t r.tells s r.old start r.new is end records);
  lives = subst (λ (x : PairOutcome). EndsPairTrace x ⊎ (x ≡ outcome.SeqEnd) → HasLivingSide r.old r.new) (sym answer)
      (recorded_lives t r.tells s r.old start r.new is end records);
  complete = λ whole faultless. subst (λ (x : PairOutcome). (x ≡ outcome.Done) ⊎ (x ≡ outcome.NoMemory)) (sym answer)
      (recorded_whole t r.tells s r.old start r.new is end records whole faultless end refl);
}
