-- From what a command's work gives to what the command promises.
use Rattle.std.proofs.Common.{◌≡◌, ◌⊎◌, inl, inr, ⊎_elim, ℕ, ◌+◌, ◌≤◌, List, length, Option, sym, refl}
use Rattle.std.proofs.Common.{◌∙◌, arith, length-append, ap, subst}
use Rattle.std.specs.Prelude.{IsTrue}
use Rattle.fdr_io.specs.Faults.{Rose}
use Rattle.fdr_io.specs.declared.Input.TheVariants as input
use Rattle.fdr_deck.specs.State.{State, Tells}
use Rattle.fdr_deck.specs.Calls.{LeavesDisk, Passes}
use Rattle.fdr_deck.specs.Disk.{KeepsDisk, LearnsExtent}
use Rattle.fdr_bus.specs.Records.{good_prefix}
use Rattle.fdr_check.specs.Soundness.{IsSound}
use Rattle.fdr_slot.specs.declared.image.Header.{Header}
use Rattle.fdr_table.specs.Ranges.{IsInRange}
use Rattle.fdr_table.specs.Rows.{TableRows}
use Rattle.fdr_words.specs.Forms.{Form, check_table, stream_line, format_image}
use Rattle.fdr_sampler.proofs.Exchange.{stream_of-exchanged}
use Rattle.fdr_readout.proofs.ReadsBack.{stream_lists_back}
use Rattle.fdr_top.specs.declared.outcome.Outcome.{Outcome}
use Rattle.fdr_top.specs.declared.outcome.Outcome.TheVariants as outcome
use Rattle.fdr_top.specs.Stages.{Stage, at_words, at_table, at_image, at_rules, at_work, out_of_memory}
use Rattle.fdr_top.specs.Stages.{WritesNothing, IsStageWithoutWork, IsWorkEnded, stage_of}
use Rattle.fdr_top.specs.Answers.{HasImage, IsOwn, KeepsInputAndFaults, MakesImage, PullsBits}
use Rattle.fdr_top.specs.Answers.{PullsInput, PullsRules, PullsTrace, ReadsBoth, ReadsImage, RecordsImage, WritesText}
use Rattle.fdr_top.specs.Format.{Makes}
use Rattle.fdr_top.specs.Leaves.{HasCause, LeavesAll, LeavesUnused}
use Rattle.fdr_top.specs.Runs.{WorkRun}
use Rattle.fdr_io.specs.Limits.{piece_bytes}
use Rattle.fdr_pieces.specs.Pieces.{LeavesStops}
use Rattle.fdr_pieces.specs.Limits.{most_input_bytes}
use Rattle.fdr_top.specs.InputTexts.{WritesOfInput}
use Rattle.fdr_top.specs.Stream.{Streams, StreamsTrace, WritesStreamPart}
use Rattle.fdr_top.proofs.Commands.{last_pulled, own_begun, rules_pulled, rules_read, rules_unrecorded}
use Rattle.fdr_top.proofs.TraceAnswers.{fault_answered, told_fault, told_stream}

-- an answer that is no want of memory is one that the command may give
may_of : (form : Form) (answer other : Outcome) → (other ≡ outcome.NoMemory → ⊥) → (answer ≡ outcome.NoMemory) ⊎ IsOwn form answer → answer ≡ other
    → IsOwn form other
may_of form answer other left of e = ⊎_elim
    (λ (memory : answer ≡ outcome.NoMemory). absurd (left (sym e ∙ memory)))
    (λ (own : IsOwn form answer). rw e at own)
    of

-- a report whose sink doesn't fail is done, or memory ended
pub report_done : (path : List ℕ) (answer : Outcome) → (answer ≡ outcome.NoMemory) ⊎ IsOwn (check_table path) answer → (answer ≡ outcome.WriteFault → ⊥)
    → (answer ≡ outcome.Done) ⊎ (answer ≡ outcome.NoMemory)
report_done path outcome.Done of quiet = inl refl
report_done path outcome.WriteFault of quiet = absurd (quiet refl)
report_done path outcome.NoMemory of quiet = inr refl
report_done path (outcome.ReadFault input.Table) of quiet = ⊎_elim (λ memory. absurd (cc)) (λ own. absurd own) of
report_done path (outcome.ReadFault input.Line) of quiet = ⊎_elim (λ memory. absurd (cc)) (λ own. absurd own) of
report_done path answer of quiet = ⊎_elim (λ memory. inr memory) (λ own. absurd own) of

-- a line of at most the most that is taken, and no fault: all is done
pub line_done : (form : Form) (text : List ℕ → List ℕ) (tells : Tells) (old new : State) (before now : Option (List ℕ)) (answer : Outcome)
    → IsOwn form answer → (HasImage form → ⊥) → (ReadsImage form → ⊥) → (MakesImage form → ⊥) → (ReadsBoth form → ⊥) → (PullsTrace form → ⊥)
    → (RecordsImage form → ⊥) → WritesOfInput text tells old new before now answer → IsTrue tells.input → length old.input ≤ most_input_bytes
    → (answer ≡ outcome.ReadFault input.Line → ⊥) → (answer ≡ outcome.WriteFault → ⊥) → ((at : ℕ) → answer ≡ outcome.CellFault at → ⊥)
    → answer ≡ outcome.Done
line_done form text tells old new before now outcome.Done own image reads makes both trace records lists told few line sink cell = refl
line_done form text tells old new before now (outcome.ReadFault input.Line) own image reads makes both trace records lists told few line sink cell =
    absurd (line refl)
line_done form text tells old new before now outcome.WriteFault own image reads makes both trace records lists told few line sink cell =
    absurd (sink refl)
line_done form text tells old new before now (outcome.CellFault at) own image reads makes both trace records lists told few line sink cell =
    absurd (cell at refl)
line_done form text tells old new before now outcome.TooLong own image reads makes both trace records lists told few line sink cell =
    let all = ap length (lists.pieces.takes.input told) in
    absurd (omega (arith, lists.ends.many refl, all, length-append lists.pulled new.input, few))
line_done form text tells old new before now outcome.DiskFault own image reads makes both trace records lists told few line sink cell = absurd (image own)
line_done form text tells old new before now (outcome.TraceRefused index why) own image reads makes both trace records lists told few line sink cell =
    absurd (trace own)
line_done form text tells old new before now (outcome.ImageRefused why) own image reads makes both trace records lists told few line sink cell =
    absurd (reads own)
line_done form text tells old new before now outcome.NotEmpty own image reads makes both trace records lists told few line sink cell =
    absurd (makes own)
line_done form text tells old new before now (outcome.WordsDiffer w u) own image reads makes both trace records lists told few line sink cell =
    absurd (both own)
line_done form text tells old new before now outcome.SeqEnd own image reads makes both trace records lists told few line sink cell =
    absurd (records own)
line_done form text tells old new before now outcome.OldVersion own image reads makes both trace records lists told few line sink cell =
    absurd (records own)
line_done form text tells old new before now (outcome.RuleRefused row f) own image reads makes both trace records lists told few line sink cell =
    absurd (reads (rules_read form own))
line_done form text tells old new before now answer own image reads makes both trace records lists told few line sink cell = absurd own

pub streams_line : (path : List ℕ) (t : TableRows) (tells : Tells) (old new : State) (before now : Option (List ℕ)) (answer : Outcome)
    → IsInRange t → IsSound t → Streams t tells old new before now answer → IsOwn (stream_line path) answer
    → (IsTrue tells.input → (Rose old.input_faults new.input_faults → ⊥) → WritesStreamPart t old before now)
    → StreamsTrace t tells old new before now answer
streams_line path t tells old new before now answer range sound streams of part = record {
  streams = streams;
  whole = λ done told. told_stream t tells old new before now answer streams done told;
  part_of_whole = part;
  lists_back = stream_lists_back t (good_prefix old.input) range sound;
  exchanged = λ others x. stream_of-exchanged t (good_prefix old.input) others x;
  refused = λ index why e told. told_fault t tells old new before now answer index why streams e told;
  refused_always = λ index why told first. fault_answered path t tells old new before now answer index why streams of told first;
}

-- where a command that was begun writes nothing, memory ended before anything was written
pub begun_leaves : (form : Form) (r : WorkRun)
    → (ReadsImage form → ⊥) → (MakesImage form → ⊥) → (ReadsBoth form → ⊥) → (r.answer ≡ outcome.NoMemory) ⊎ IsOwn form r.answer
    → LeavesDisk r.old r.new → r.new.announced ≡ r.old.announced → (r.answer ≡ outcome.NoMemory → r.written_now ≡ r.written_before)
    → (r.answer ≡ outcome.NoMemory → r.sink_now ≡ r.sink_before)
    → WritesNothing r.answer → LeavesAll r
begun_leaves form r reads makes both of leaves told written faults nothing = ⊎_elim
    (λ (memory : r.answer ≡ outcome.NoMemory). record {
      announced = told;
      written = written memory;
      faults = faults memory;
      disk = leaves.disk;
      extent = record { bytes = λ told. leaves.extent; stops = λ told. leaves.extent; known = λ some. leaves.extent };
      input = λ first. absurd (rw memory at first);
    })
    (λ own. absurd (own_begun form r.answer reads makes both own nothing))
    of

-- a command that pulls the input leaves the disk
pub line_unused : (form : Form) (r : WorkRun) → ((WritesText form → ⊥) → (r.written_now ≡ r.written_before) × (r.sink_now ≡ r.sink_before))
    → PullsInput form → LeavesDisk r.old r.new → r.new.announced ≡ r.old.announced
    → (r.answer ≡ outcome.NoMemory → KeepsInputAndFaults r.old r.new)
    → (PullsBits form → r.new.taken ≤ r.old.taken + most_input_bytes + piece_bytes) → (PullsRules form → ⊥) → LeavesUnused form r
line_unused form r quiet pulls leaves told memory bounded no_rules = record {
  text = quiet;
  input = λ unused. absurd (unused pulls);
  disk = λ unused. leaves;
  announced = λ unused. told;
  memory = λ pulls none. memory none;
  bits = bounded;
  rules = λ rules. absurd (no_rules rules);
}

-- the input is as it was where the calls pass it by
pub passes_keeps : (tells : Tells) (old new : State) → Passes tells old new → KeepsInputAndFaults old new
passes_keeps tells old new passes =
    record { input = passes.input.input; taken = passes.input.taken; pulled_before = passes.input.pulled_before; faults = passes.input_faults }

-- and one that has an image leaves the input
pub image_unused : (form : Form) (r : WorkRun) → ((WritesText form → ⊥) → (r.written_now ≡ r.written_before) × (r.sink_now ≡ r.sink_before))
    → HasImage form → (PullsInput form → ⊥) → (PullsBits form → ⊥)
    → Passes r.tells r.old r.new → LeavesUnused form r
image_unused form r quiet image no_line no_bits passes = record {
  text = quiet;
  input = λ unused. passes_keeps r.tells r.old r.new passes;
  disk = λ unused. absurd (unused image);
  announced = λ unused. passes.announced.announced;
  memory = λ last none. absurd (no_line (last_pulled form last));
  bits = λ pulls. absurd (no_bits pulls);
  rules = λ rules. absurd (no_line (rules_pulled form rules));
}

pub memory_writes : (answer : Outcome) → answer ≡ outcome.NoMemory → WritesNothing answer
memory_writes answer memory = rw memory tt

-- where nothing was written and the disk was kept, all is left
pub left_all : (r : WorkRun) → r.written_now ≡ r.written_before → r.sink_now ≡ r.sink_before → KeepsDisk r.old r.new
    → LearnsExtent r.tells r.old r.new → r.new.announced ≡ r.old.announced → KeepsInputAndFaults r.old r.new → LeavesAll r
left_all r written faults disk learns told line = record {
  written = written;
  faults = faults;
  disk = disk;
  extent = learns;
  announced = told;
  input = λ first. line;
}

-- what a recording doesn't use: a drill the input, and a trace is left where memory ends
pub image_recorded : (form : Form) (r : WorkRun) → ((WritesText form → ⊥) → (r.written_now ≡ r.written_before) × (r.sink_now ≡ r.sink_before))
    → HasImage form → RecordsImage form → (PullsBits form → ⊥)
    → ((PullsInput form → ⊥) → KeepsInputAndFaults r.old r.new) → (PullsInput form → r.answer ≡ outcome.NoMemory → KeepsInputAndFaults r.old r.new)
    → LeavesUnused form r
image_recorded form r quiet image records no_bits unpulled memory = record {
  text = quiet;
  input = unpulled;
  disk = λ unused. absurd (unused image);
  announced = λ unused. absurd (unused records);
  memory = λ last. memory (last_pulled form last);
  bits = λ pulls. absurd (no_bits pulls);
  rules = λ rules. absurd (rules_unrecorded form records rules);
}

-- making an image answers one of three
pub making_cases : (path image : List ℕ) (slots payload : ℕ) (answer : Outcome) → IsOwn (format_image path image slots payload) answer
    → (answer ≡ outcome.Done) ⊎ ((answer ≡ outcome.NotEmpty) ⊎ (answer ≡ outcome.DiskFault))
making_cases path image slots payload outcome.Done of = inl refl
making_cases path image slots payload outcome.NotEmpty of = inr (inl refl)
making_cases path image slots payload outcome.DiskFault of = inr (inr refl)
making_cases path image slots payload (outcome.ReadFault input.Table) of = absurd of
making_cases path image slots payload (outcome.ReadFault input.Line) of = absurd of
making_cases path image slots payload answer of = absurd of

-- an image that isn't made where there is one leaves all
pub making_refusal : (path image : List ℕ) (slots payload : ℕ) (h : Header) (r : WorkRun)
    → IsOwn (format_image path image slots payload) r.answer → Makes h r.tells r.old r.new r.answer
    → r.written_now ≡ r.written_before → r.sink_now ≡ r.sink_before → WritesNothing r.answer → LeavesAll r
making_refusal path image slots payload h r of makes written faults nothing = ⊎_elim
    (λ (done : r.answer ≡ outcome.Done). absurd (rw done at nothing))
    (λ (rest : (r.answer ≡ outcome.NotEmpty) ⊎ (r.answer ≡ outcome.DiskFault)). ⊎_elim
    (λ (some : r.answer ≡ outcome.NotEmpty). record {
      written = written;
      faults = faults;
      disk = makes.kept some;
      extent = makes.learns some;
      announced = makes.disk_work.passes.announced.announced;
      input = λ first. passes_keeps r.tells r.old r.new makes.disk_work.passes;
    })
    (λ (failed : r.answer ≡ outcome.DiskFault). absurd (rw failed at nothing))
    rest)
    (making_cases path image slots payload r.answer of)

-- and at each moment a stop leaves what it could leave before
pub making_stops : (path image : List ℕ) (slots payload : ℕ) (h : Header) (tells : Tells) (old new : State) (answer : Outcome)
    → IsOwn (format_image path image slots payload) answer → Makes h tells old new answer → WritesNothing answer → LeavesStops tells old new
making_stops path image slots payload h tells old new answer of makes nothing = ⊎_elim
    (λ (done : answer ≡ outcome.Done). absurd (rw done at nothing))
    (λ (rest : (answer ≡ outcome.NotEmpty) ⊎ (answer ≡ outcome.DiskFault)). ⊎_elim
    (λ (some : answer ≡ outcome.NotEmpty). record {
      time = makes.disk_work.passes.time;
      moments = λ told m since. (makes.disk_work.moments told m since).image.kept (omega (arith, makes.not_empty some, (makes.learns some).stops told));
    })
    (λ (failed : answer ≡ outcome.DiskFault). absurd (rw failed at nothing))
    rest)
    (making_cases path image slots payload answer of)

-- on a disk that has no byte and doesn't fail, the image is made
pub making_done : (path image : List ℕ) (slots payload : ℕ) (h : Header) (tells : Tells) (old new : State) (answer : Outcome)
    → IsOwn (format_image path image slots payload) answer
    → Makes h tells old new answer → IsTrue tells.bytes → old.extent ≡ 0 → (Rose old.disk_faults new.disk_faults → ⊥)
    → answer ≡ outcome.Done
making_done path image slots payload h tells old new answer of makes told none quiet = ⊎_elim
    (λ (done : answer ≡ outcome.Done). done)
    (λ (rest : (answer ≡ outcome.NotEmpty) ⊎ (answer ≡ outcome.DiskFault)). ⊎_elim
    (λ (some : answer ≡ outcome.NotEmpty).
    absurd (omega (arith, makes.not_empty some, (makes.learns some).bytes told, none)))
    (λ (failed : answer ≡ outcome.DiskFault). absurd (quiet (makes.cause failed)))
    rest)
    (making_cases path image slots payload answer of)

-- the faults of a command that it may answer were counted
pub has_cause : (form : Form) (r : WorkRun) → (r.answer ≡ outcome.NoMemory) ⊎ IsOwn form r.answer
    → (PullsInput form → r.answer ≡ outcome.ReadFault input.Line → Rose r.old.input_faults r.new.input_faults)
    → (WritesText form → r.answer ≡ outcome.WriteFault → Rose r.sink_before r.sink_now)
    → (HasImage form → r.answer ≡ outcome.DiskFault → Rose r.old.disk_faults r.new.disk_faults) → HasCause r
has_cause form r of line sink disk = record {
  input = λ e. line (may_of form r.answer (outcome.ReadFault input.Line) (λ e. absurd (cc)) of e) e;
  write = λ e. sink (may_of form r.answer outcome.WriteFault (λ e. absurd (cc)) of e) e;
  disk = λ e. disk (may_of form r.answer outcome.DiskFault (λ e. absurd (cc)) of e) e;
}

both : (stage : Stage) → IsStageWithoutWork stage → IsWorkEnded (λ ending. Unit {0}) stage → ⊥
both at_words without worked = worked
both at_table without worked = worked
both at_image without worked = worked
both at_rules without worked = worked
both (at_work ending) without worked = without
both out_of_memory without worked = worked

-- an answer that leaves nothing written isn't one of the work
pub writes_other : (answer other : Outcome) → WritesNothing answer → IsWorkEnded (λ ending. Unit {0}) (stage_of other) → answer ≡ other → ⊥
writes_other answer other nothing worked e = both (stage_of other) (subst WritesNothing e nothing) worked
