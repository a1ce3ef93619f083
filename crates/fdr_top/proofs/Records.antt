-- The records that were streamed of a trace.
use Rattle.std.proofs.Common.{◌≡◌, ◌≢◌, ℕ, ◌*◌, ◌≤◌, min, true, List, [], ◌∷◌, ◌++◌, length, take, Option, Some, None, ap, sym}
use Rattle.std.proofs.Common.{refl, ◌∙◌, subst, append_assoc, arith}
use Rattle.std.proofs.lemmas.List.{take_all}
use Rattle.fdr_io.specs.Told.{followed_by}
use Rattle.fdr_io.specs.declared.Input.TheVariants as input
use Rattle.fdr_io.proofs.Telling.{followed_by-nil}
use Rattle.fdr_deck.specs.State.{State, Tells}
use Rattle.fdr_bus.specs.declared.BusRecord.{BusRecord}
use Rattle.fdr_bus.specs.declared.TraceFault.{TraceFault}
use Rattle.fdr_bus.specs.declared.TraceFault.TheVariants as trace
use Rattle.fdr_bus.specs.Records.{IsDecided, good_prefix, has_end, is_end}
use Rattle.fdr_bus.proofs.TraceLemmas.{good_prefix-append, has_end-push}
use Rattle.fdr_table.specs.Rows.{TableRows}
use Rattle.fdr_sampler.specs.Stream.{stream_of}
use Rattle.fdr_stream.specs.Blocks.{due_blocks}
use Rattle.fdr_stream.specs.Kept.{StreamKept}
use Rattle.fdr_stream.specs.Past.{RepresentsStream, stream_made}
use Rattle.fdr_stream.proofs.Later.{due_blocks-fill}
use Rattle.fdr_trace.specs.Kept.{TraceKept}
use Rattle.fdr_trace.specs.Pulls.{PullsUntilDecided}
use Rattle.fdr_trace.specs.Reading.{RepresentsTrace, IsNextRecord, IsTraceStopped}
use Rattle.fdr_trace.specs.declared.TraceStop.{TraceStop}
use Rattle.fdr_trace.specs.declared.TraceStop.TheVariants as stop
use Rattle.fdr_top.specs.declared.outcome.Outcome.{Outcome}
use Rattle.fdr_top.specs.declared.outcome.Outcome.TheVariants as outcome
use Rattle.fdr_top.specs.Ends.{answer_of_stop}
use Rattle.fdr_top.specs.Stream.{Streams}
use Rattle.fdr_top.specs.Streaming.{due_text, ComesNext, IsStreamed, IsStreamedTo, IsStreamedPart}
use Rattle.fdr_recorder.proofs.Longer.{InOrder-good_prefix, stream_of-good}
use Rattle.fdr_recorder.proofs.ReadRecords.{PullsUntilDecided-next}
use Rattle.fdr_top.proofs.Blocks.{take_min}

-- nothing was fed yet
pub IsStreamed-made : (k : StreamKept) (t : TableRows) (written : Option (List ℕ)) → RepresentsStream k (stream_made t 4096) → IsStreamed k t [] written written
IsStreamed-made k t written stands =
    let none : 0 ≡ due_blocks t 4096 [] = stands.blocks refl in
    record {
      stands = subst (λ n. RepresentsStream k (record { table = t; payload = 4096; records = []; begun = None; blocks = n })) none stands;
      written = sym (followed_by-nil written) ∙ ap (followed_by written) (ap (λ n. take (4096 * n) (stream_of t [])) none);
    }

-- the next record may be fed
pub ComesNext-read : (k k' : TraceKept) (bytes more : List ℕ) (records : List BusRecord) (r : BusRecord) → RepresentsTrace k bytes records
    → IsNextRecord k' (bytes ++ more) records r → ComesNext records r
ComesNext-read k k' bytes more records r reads next = record {
  order = next.order;
  in_time = next.in_time;
  unended = ap has_end reads.good ∙ reads.unended.unended;
}

-- after the end record
pub IsStreamedTo-end : (t : TableRows) (tells : Tells) (a c : State) (k : StreamKept) (bytes : List ℕ) (records : List BusRecord) (r : BusRecord)
    (before now : Option (List ℕ)) → PullsUntilDecided tells a c [] bytes → good_prefix bytes ≡ records ++ r ∷ [] → is_end r ≡ true
    → IsStreamed k t (records ++ r ∷ []) before now → c.input_faults ≡ a.input_faults →
    IsStreamedTo t tells a c k before now outcome.Done
IsStreamedTo-end t tells a c k bytes records r before now pulls good ends streamed quiet = record {
  pulled = bytes;
  pulls = pulls;
  streamed = subst (λ (x : List BusRecord). IsStreamed k t x before now) (sym good) streamed;
  own = λ path. tt;
  whole = λ e. absurd (cc);
  ended = λ e. ap has_end good ∙ has_end-push records r ends;
  refused = λ index why e. absurd (cc);
  truncated = λ index e. absurd (cc);
  undecided = λ e. absurd (cc);
  cause = λ e. absurd (cc);
  no_fault = λ not. quiet;
}

-- the refusal of a trace that an answer names
abbrev refusal_of : Outcome → Option (ℕ × TraceFault)
refusal_of (outcome.TraceRefused index why) = Some (index, why)
refusal_of answer = None

pub same_refusal : (index i : ℕ) (why w : TraceFault) → outcome.TraceRefused index why ≡ outcome.TraceRefused i w
    → ◌≡◌ {A = Option (ℕ × TraceFault)} (Some (index, why)) (Some (i, w))
same_refusal index i why w e = ap refusal_of e

pub same_cause : (index i : ℕ) (why w : TraceFault) → outcome.TraceRefused index why ≡ outcome.TraceRefused i w → why ≡ w
same_cause index i why w e = cc

-- where no further record comes
pub IsStreamedTo-stop : (t : TableRows) (tells : Tells) (a b c : State) (k : StreamKept) (bytes more : List ℕ) (records : List BusRecord) (s : TraceStop)
    (before now : Option (List ℕ)) → PullsUntilDecided tells a b [] bytes → PullsUntilDecided tells b c bytes more → IsTraceStopped tells b c
    (bytes ++ more) records s
    → IsStreamed k t records before now → b.input_faults ≡ a.input_faults → (s ≢ stop.Failed → c.input_faults ≡ b.input_faults) →
    IsStreamedTo t tells a c k before now (answer_of_stop s)
IsStreamedTo-stop t tells a b c k bytes more records (stop.Refused index why) before now first second stopped streamed before_quiet quiet = record {
  pulled = bytes ++ more;
  pulls = PullsUntilDecided-next tells a b c bytes more first second;
  streamed = subst (λ (x : List BusRecord). IsStreamed k t x before now) (sym stopped.good) streamed;
  own = λ path. tt;
  whole = λ e. absurd (cc);
  ended = λ e. absurd (cc);
  refused = λ i w e. stopped.first ∙ same_refusal index i why w e;
  truncated = λ i e told. stopped.end (same_cause index i why trace.Truncated e) told;
  undecided = λ e. absurd (cc);
  cause = λ e. absurd (cc);
  no_fault = λ not. quiet (λ e. absurd (cc)) ∙ before_quiet;
}
IsStreamedTo-stop t tells a b c k bytes more records stop.Failed before now first second stopped streamed before_quiet quiet = record {
  pulled = bytes ++ more;
  pulls = PullsUntilDecided-next tells a b c bytes more first second;
  streamed = subst (λ (x : List BusRecord). IsStreamed k t x before now) (sym stopped.good) streamed;
  own = λ path. tt;
  whole = λ e. absurd (cc);
  ended = λ e. absurd (cc);
  refused = λ i w e. absurd (cc);
  truncated = λ i e. absurd (cc);
  undecided = λ e. stopped.undecided;
  cause = λ e. omega (arith, first.faults, stopped.cause);
  no_fault = λ not. absurd (not refl);
}

shorter : (t : TableRows) (bytes : List ℕ) (records later : List BusRecord) (m : ℕ) → good_prefix bytes ≡ records ++ later
    → take m (due_text t records) ≡ take (min m (4096 * due_blocks t 4096 records)) (stream_of t (good_prefix bytes))
shorter t bytes records later m good =
    let all = 4096 * due_blocks t 4096 records in
    let few : min m all ≤ all = omega arith in
    take_min m all (stream_of t records)
    ∙ sym (stream_of-good t (good_prefix bytes) records later (min m all) (InOrder-good_prefix bytes) good (omega (arith, few, due_blocks-fill t 4096 records)))

-- where a block of a record couldn't be written
pub IsStreamedPart-next : (t : TableRows) (tells : Tells) (a c : State) (bytes : List ℕ) (records later : List BusRecord) (before now : Option (List ℕ)) (m : ℕ)
    → PullsUntilDecided tells a c [] bytes → good_prefix bytes ≡ records ++ later → now ≡ followed_by before (take m (due_text t records))
    → c.input_faults ≡ a.input_faults → IsStreamedPart t tells a c before now
IsStreamedPart-next t tells a c bytes records later before now m pulls good part quiet =
    let all = 4096 * due_blocks t 4096 records in
    record {
      pulled = bytes;
      pulls = pulls;
      part = (min m all, part ∙ ap (followed_by before) (shorter t bytes records later m good));
      part_of_whole = λ told.
          let grown = good_prefix-append bytes c.input in
          let whole : good_prefix (bytes ++ c.input) ≡ records ++ (later ++ grown.0) =
          grown.1 ∙ ap (λ (x : List BusRecord). x ++ grown.0) good ∙ append_assoc records later grown.0 in
          let line : a.input ≡ bytes ++ c.input = pulls.takes.input told in (
            min m all,
            part ∙ ap (followed_by before) (shorter t (bytes ++ c.input) records (later ++ grown.0) m whole)
                ∙ ap (λ (x : List ℕ). followed_by before (take (min m all) (stream_of t (good_prefix x)))) (sym line),
          );
      no_fault = quiet;
    }

-- ---- what was streamed when the answer is given

streams_failed : (t : TableRows) (tells : Tells) (a c : State) (before now : Option (List ℕ)) (pulled : List ℕ) → PullsUntilDecided tells a c [] pulled
    → (k : ℕ) × (now ≡ followed_by before (take k (stream_of t (good_prefix pulled)))) → (IsDecided pulled → c.input_faults ≡ a.input_faults)
    → Streams t tells a c before now outcome.WriteFault
streams_failed t tells a c before now pulled pulls part decided = record {
  pulled = pulled;
  pulls = pulls;
  text = λ not. absurd (not refl);
  part = part;
  ends = record {
    ended = λ e. absurd (cc);
    refused = λ index why e. absurd (cc);
    truncated = λ index e. absurd (cc);
    undecided = λ e. absurd (cc);
    no_fault = λ reading read. absurd reading;
    decided = decided;
  };
}

pub Streams-part : (t : TableRows) (tells : Tells) (a c : State) (before now : Option (List ℕ)) → IsStreamedPart t tells a c before now
    → Streams t tells a c before now outcome.WriteFault
Streams-part t tells a c before now streamed =
    streams_failed t tells a c before now streamed.pulled streamed.pulls streamed.part (λ known. streamed.no_fault)

-- where the trace is decided, no fault of the input was met
streamed_decided : (pulled : List ℕ) (d d' : ℕ) (answer : Outcome) → (answer ≡ outcome.ReadFault input.Line → IsDecided pulled → ⊥)
    → (answer ≢ outcome.ReadFault input.Line → d' ≡ d) → IsDecided pulled → d' ≡ d
streamed_decided pulled d d' (outcome.ReadFault input.Line) undecided quiet known = absurd (undecided refl known)
streamed_decided pulled d d' (outcome.ReadFault input.Table) undecided quiet known = quiet (λ e. absurd (cc))
streamed_decided pulled d d' outcome.Done undecided quiet known = quiet (λ e. absurd (cc))
streamed_decided pulled d d' outcome.Usage undecided quiet known = quiet (λ e. absurd (cc))
streamed_decided pulled d d' (outcome.TableRefused row f) undecided quiet known = quiet (λ e. absurd (cc))
streamed_decided pulled d d' (outcome.TraceRefused index f) undecided quiet known = quiet (λ e. absurd (cc))
streamed_decided pulled d d' (outcome.ImageRefused f) undecided quiet known = quiet (λ e. absurd (cc))
streamed_decided pulled d d' outcome.NotEmpty undecided quiet known = quiet (λ e. absurd (cc))
streamed_decided pulled d d' (outcome.WordsDiffer i w) undecided quiet known = quiet (λ e. absurd (cc))
streamed_decided pulled d d' outcome.SeqEnd undecided quiet known = quiet (λ e. absurd (cc))
streamed_decided pulled d d' outcome.WriteFault undecided quiet known = quiet (λ e. absurd (cc))
streamed_decided pulled d d' outcome.DiskFault undecided quiet known = quiet (λ e. absurd (cc))
streamed_decided pulled d d' outcome.TooLong undecided quiet known = quiet (λ e. absurd (cc))
streamed_decided pulled d d' outcome.NoMemory undecided quiet known = quiet (λ e. absurd (cc))
streamed_decided pulled d d' outcome.OldVersion undecided quiet known = quiet (λ e. absurd (cc))
streamed_decided pulled d d' (outcome.CellFault at) undecided quiet known = quiet (λ e. absurd (cc))
streamed_decided pulled d d' (outcome.RuleRefused row f) undecided quiet known = quiet (λ e. absurd (cc))

pub Streams-failed : (t : TableRows) (tells : Tells) (a c : State) (k : StreamKept) (before middle now : Option (List ℕ)) (answer : Outcome)
    (streamed : IsStreamedTo t tells a c k before middle answer) → (m : ℕ) × (now ≡ followed_by before (take m (stream_of t (good_prefix streamed.pulled)))) →
    Streams t tells a c before now outcome.WriteFault
Streams-failed t tells a c k before middle now answer streamed part =
    streams_failed t tells a c before now streamed.pulled streamed.pulls part
    (streamed_decided streamed.pulled a.input_faults c.input_faults answer streamed.undecided streamed.no_fault)

pub Streams-all : (t : TableRows) (tells : Tells) (a c : State) (k : StreamKept) (before middle now : Option (List ℕ)) (answer : Outcome)
    (streamed : IsStreamedTo t tells a c k before middle answer) → now ≡ followed_by before (stream_of t (good_prefix streamed.pulled)) →
    Streams t tells a c before now answer
Streams-all t tells a c k before middle now answer streamed all =
    let text = stream_of t (good_prefix streamed.pulled) in
    record {
      pulled = streamed.pulled;
      pulls = streamed.pulls;
      text = λ not. all;
      part = (length text, all ∙ ap (followed_by before) (sym (take_all (length text) text (omega arith))));
      ends = record {
        ended = streamed.ended;
        refused = streamed.refused;
        truncated = streamed.truncated;
        undecided = streamed.undecided;
        no_fault = λ reading read. streamed.no_fault read;
        decided = streamed_decided streamed.pulled a.input_faults c.input_faults answer streamed.undecided streamed.no_fault;
      };
    }
