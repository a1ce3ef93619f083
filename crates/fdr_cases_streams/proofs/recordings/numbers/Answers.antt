use Rattle.std.proofs.Common.{ℕ, refl, arith}
use Rattle.std.proofs.lemmas.Result.{IfOk-at_ok}
use Rattle.fdr_bus.specs.declared.BusRecord.{BusRecord}
use Rattle.fdr_bus.specs.declared.RecordKind.TheVariants.{Word, End}
use Rattle.fdr_slot.specs.declared.image.Header.{Header}
use Rattle.fdr_table.specs.Rows.{TableRows}
use Rattle.fdr_recorder.specs.Past.{MayFeedRecording, past_at_start, recording_with_record}
use Rattle.fdr_cases_streams.proofs.recordings.numbers.Goals as goal

word : ℕ → BusRecord
word time = record { kind = Word; bus = 7; word = 0; time = time }

end : BusRecord
end = record { kind = End; bus = 0; word = 0; time = 1000000 }

first : (t : TableRows) (h : Header) (n m : ℕ) → MayFeedRecording (past_at_start t h n m) (word 0)
unfolding word
first t h n m = record { order = omega arith; in_time = omega arith; unended = refl }

second : (t : TableRows) (h : Header) (n m : ℕ) → MayFeedRecording (recording_with_record (past_at_start t h n m) (word 0)) (word 1000000)
unfolding word
second t h n m = record { order = omega arith; in_time = omega arith; unended = refl }

third : (t : TableRows) (h : Header) (n m : ℕ) → MayFeedRecording
    (recording_with_record (recording_with_record (past_at_start t h n m) (word 0)) (word 1000000)) end
unfolding word end
third t h n m = record { order = omega arith; in_time = omega arith; unended = refl }

pub feed-requires-clause-stands : goal.feed-requires-clause-stands
unfolding word
feed-requires-clause-stands g c = (_, (IfOk-at_ok _ c.expect-none.ensures c.start.ensures.started).stands, first _ _ _ _)

pub feed-requires-clause-fact : goal.feed-requires-clause-fact
feed-requires-clause-fact g c = (IfOk-at_ok _ c.expect-none.ensures c.start.ensures.started).fact.ring

pub feed-requires-2-clause-stands : goal.feed-requires-2-clause-stands
unfolding word
feed-requires-2-clause-stands g c =
    let none = (IfOk-at_ok _ c.expect-none.ensures c.start.ensures.started).stands in
    (_, IfOk-at_ok _ c.expect-one.ensures (c.feed.ensures.stands _ none (first _ _ _ _)), second _ _ _ _)

pub feed-requires-3-clause-stands : goal.feed-requires-3-clause-stands
unfolding word end
feed-requires-3-clause-stands g c =
    let none = (IfOk-at_ok _ c.expect-none.ensures c.start.ensures.started).stands in
    let one = IfOk-at_ok _ c.expect-one.ensures (c.feed.ensures.stands _ none (first _ _ _ _)) in
    (_, IfOk-at_ok _ c.expect-two.ensures (c.feed-2.ensures.stands _ one (second _ _ _ _)), third _ _ _ _)

pub close-requires-clause-stands : goal.close-requires-clause-stands
unfolding word end
close-requires-clause-stands g c =
    let none = (IfOk-at_ok _ c.expect-none.ensures c.start.ensures.started).stands in
    let one = IfOk-at_ok _ c.expect-one.ensures (c.feed.ensures.stands _ none (first _ _ _ _)) in
    let two = IfOk-at_ok _ c.expect-two.ensures (c.feed-2.ensures.stands _ one (second _ _ _ _)) in
    (_, IfOk-at_ok _ c.expect-three.ensures (c.feed-3.ensures.stands _ two (third _ _ _ _)))
