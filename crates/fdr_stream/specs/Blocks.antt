-- The blocks of a stream.
use Rattle.std.specs.Prelude.{ℕ, ◌+◌, ◌-◌, ◌*◌, ◌/◌, List, length, map, take, drop}
use Rattle.std.specs.List.{range_with_len}
use Rattle.fdr_bus.specs.declared.BusRecord.{BusRecord}
use Rattle.fdr_table.specs.Rows.{TableRows}
use Rattle.fdr_sampler.specs.Stream.{stream_words}

-- block i of bytes that are cut every `payload` bytes; the last one may be shorter
abbrev pub cut_block : ℕ → List ℕ → ℕ → List ℕ
cut_block payload bytes i = take payload (drop (payload * i) bytes)

-- the blocks of bytes that are cut every `payload` bytes, of which the last may be shorter and none is empty
abbrev pub blocks_of : ℕ → List ℕ → List (List ℕ)
blocks_of payload bytes = map (cut_block payload bytes) (range_with_len 0 ((length bytes + payload - 1) / payload))

-- the due blocks of records: how many blocks of `payload` bytes the words before the time of the records fill, where each word
-- has 12 bits
abbrev pub due_blocks : TableRows → ℕ → List BusRecord → ℕ
due_blocks t payload records = 3 * length (stream_words t records) / 2 / payload
