use Rattle.std.proofs.Common.{◌≡◌, ℕ, ◌<◌, List, ◌++◌, [], refl, sym, subst, ◌∙◌, arith}
use Rattle.std.proofs.lemmas.List.{append-nil}
use Rattle.fdr_bus.specs.declared.BusRecord.{BusRecord}
use Rattle.fdr_bus.specs.declared.TraceFault.TheVariants as fault
use Rattle.fdr_bus.specs.Records.{most_records}
use Rattle.fdr_deck.specs.State.{State, Tells}
use Rattle.fdr_trace.specs.Kept.{TraceKept}
use Rattle.fdr_trace.specs.Reading.{RepresentsTrace, IsTraceRefused}
use Rattle.fdr_deck.proofs.Moments.{Elapses-here, KeepsAnnounced-here}
use Rattle.fdr_trace.proofs.Pulling.{LeavesDisk-here, PullsUntilDecided-none}
use Rattle.fdr_trace.proofs.PullMoments.{PullsForRecord-none}
use Rattle.fdr_trace.proofs.Records.{Reads-few, Reads-many}
use Rattle.fdr_trace.proofs.Next.{next_of}
use Rattle.fdr_trace.proofs.TraceLine.next.Goals as goal

many_refused : (tells : Tells) (now : State) (k : TraceKept) (bytes : List ℕ) (records : List BusRecord) → RepresentsTrace k bytes records
    → k.count ≡ 4294967296 → IsTraceRefused tells now (bytes ++ []) records k.count fault.Many
unfolding most_records
many_refused tells now k bytes records reads many =
    let all = Reads-many k bytes records reads many in
    record {
      good = rw append-nil all.0;
      first = rw append-nil all.1;
      end = λ truncated. absurd (cc);
    }

pub returns-then-count-eq-MAX_RECORDS : goal.returns-then-count-eq-MAX_RECORDS
returns-then-count-eq-MAX_RECORDS g c =
    let sound = g.met.D.Deck.sound c.args.deck.now in
    record {
      next = λ bytes records reads. (
        [],
        PullsUntilDecided-none _ _ bytes,
        rw c.refused.ensures (many_refused _ _ c.args.self.now bytes records reads (sym c.count.ensures ∙ c.if-count-eq-MAX_RECORDS.true)),
        PullsForRecord-none _ _ bytes records sound,
      );
      no_fault = λ other. refl;
      disk = LeavesDisk-here _;
      announced = KeepsAnnounced-here _;
      fresh = λ more. absurd (omega (arith, more));
      time = Elapses-here _ _ sound;
      rest = g.met.D.Deck.rest_here c.args.deck.now;
    }

pub fill-requires : goal.fill-requires
fill-requires g c =
    let r = c.requires in
    (r.0, r.1, r.2, Reads-few c.args.self.now c.count.result c.count.ensures c.if-count-eq-MAX_RECORDS.false r.0 r.1 r.2)

pub returns-in-Err-clause-next : goal.returns-in-Err-clause-next
returns-in-Err-clause-next g c = λ bytes records reads.
    c.in-Err.ensures.filled bytes records reads
    (Reads-few c.args.self.now c.count.result c.count.ensures c.if-count-eq-MAX_RECORDS.false bytes records reads)

pub read-requires : goal.read-requires
read-requires g c =
    let r = c.requires in
    let few = Reads-few c.args.self.now c.count.result c.count.ensures c.if-count-eq-MAX_RECORDS.false r.0 r.1 r.2 in
    let filled = (c.in-Ok.ensures.filled r.0 r.1 r.2 few).2 in
    record { waits = filled.waits; more_to_come = subst (λ n. n < most_records) (sym filled.reads.count) few }

pub returns-in-Ok-clause-next : goal.returns-in-Ok-clause-next
returns-in-Ok-clause-next g c = λ bytes records reads.
    let few = Reads-few c.args.self.now c.count.result c.count.ensures c.if-count-eq-MAX_RECORDS.false bytes records reads in
    let filled = c.in-Ok.ensures.filled bytes records reads few in (
      filled.0,
      filled.1,
      next_of _ _ _ c.fill.new.self c.read.new.self (bytes ++ filled.0) records c.read.result
          filled.2.reads few c.read.ensures.good c.read.ensures.bad,
      filled.3,
    )
