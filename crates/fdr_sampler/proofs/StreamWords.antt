-- How many words a stream has.
use Rattle.std.proofs.Common.{◌≡◌, List, length}
use Rattle.std.proofs.lemmas.List.FromFn.{length-map-range_with_len}
use Rattle.fdr_bus.specs.declared.BusRecord.{BusRecord}
use Rattle.fdr_bus.specs.Records.{time_of}
use Rattle.fdr_table.specs.Rows.{TableRows}
use Rattle.fdr_sampler.specs.SlotWord.{slot_word}
use Rattle.fdr_sampler.specs.Stream.{slot_count, stream_words}

pub length-stream_words : (t : TableRows) (records : List BusRecord) → length (stream_words t records) ≡ slot_count t.frame.words (time_of records)
length-stream_words t records = length-map-range_with_len (slot_word t records) 0 (slot_count t.frame.words (time_of records))
