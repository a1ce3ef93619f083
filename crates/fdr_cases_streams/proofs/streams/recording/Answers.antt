use Rattle.std.proofs.Common.{ℕ, ◌≤◌, inl, refl, arith}
use Rattle.fdr_bus.specs.declared.BusRecord.{BusRecord}
use Rattle.fdr_bus.specs.declared.RecordKind.TheVariants.{Word, End}
use Rattle.fdr_bus.specs.Records.{last_time}
use Rattle.fdr_table.specs.Rows.{TableRows}
use Rattle.fdr_stream.specs.Past.{StreamPast, MayFeedStream, stream_made, stream_with_record}
use Rattle.fdr_cases_streams.proofs.streams.recording.Goals as goal

first : ℕ → BusRecord
first word = record { kind = Word; bus = 0; word = word; time = 0 }

last : ℕ → BusRecord
last time = record { kind = End; bus = 0; word = 0; time = time }

first-MayFeed : (t : TableRows) (word : ℕ) → MayFeedStream (stream_made t 64) (first word)
unfolding first
first-MayFeed t word = record { order = omega arith; in_time = omega arith; unended = refl; same = inl refl }

after_first : TableRows → ℕ → ℕ → StreamPast
after_first t blocks word = stream_with_record (record (stream_made t 64) { blocks = blocks }) (first word)

last-MayFeed : (t : TableRows) (blocks word time : ℕ) → time ≤ last_time → MayFeedStream (after_first t blocks word) (last time)
unfolding first last after_first
last-MayFeed t blocks word time in_time = record { order = omega arith; in_time = in_time; unended = refl; same = inl refl }

pub feed-blocks-requires : goal.feed-blocks-requires
unfolding first last after_first
feed-blocks-requires g c =
    let stream_made = c.stream_by-stream.ensures in
    let fed = c.feed.ensures _ stream_made.1 (first-MayFeed stream_made.0 c.args.word) refl in
    (after_first stream_made.0 fed.0 c.args.word, fed.1, last-MayFeed stream_made.0 fed.0 c.args.word c.args.end c.requires, refl, refl)

pub finish-rest-requires : goal.finish-rest-requires
unfolding first last after_first
finish-rest-requires g c =
    let stream_made = c.stream_by-stream.ensures in
    let fed = c.feed.ensures _ stream_made.1 (first-MayFeed stream_made.0 c.args.word) refl in
    let ended = c.feed-blocks.ensures (after_first stream_made.0 fed.0 c.args.word) fed.1 (last-MayFeed stream_made.0 fed.0 c.args.word c.args.end c.requires)
    refl in
    (stream_with_record (record (after_first stream_made.0 fed.0 c.args.word) { blocks = ended.0 }) (last c.args.end), ended.1, refl, omega arith)
