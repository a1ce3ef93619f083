-- What was made so far of the pieces of an input.
use Rattle.std.specs.Prelude.{◌≡◌, ℕ, false, List, [], ◌++◌, Option}
use Rattle.fdr_io.specs.Faults.{Rose}
use Rattle.fdr_io.specs.Output.{Emits}
use Rattle.fdr_biphase.specs.Cells.{bits_of_bytes}
use Rattle.fdr_biphase.specs.Packed.{decoded_bytes}
use Rattle.fdr_biphase.specs.Past.{RepresentsEncoder}
use Rattle.fdr_biphase.specs.Reading.{MissesLevel, ReadsLevels}
use Rattle.fdr_table.specs.Rows.{TableRows}
use Rattle.fdr_readout.specs.Listing.{listing_of}
use Rattle.fdr_readout.specs.Taken.{HasTaken, WritesLines}
use Rattle.fdr_top.specs.Encode.{levels_text}
use Rattle.fdr_top.specs.InputTexts.{WritesFront}
use Rattle.fdr_top.specs.Listbits.{HasWrittenDecided}
use Rattle.fdr_top.specs.declared.decoding.Cut.{Cut}
use Rattle.fdr_top.specs.declared.decoding.Cut.TheVariants as cut
use Rattle.fdr_top.specs.declared.decoding.Decoding.{Decoding}
use Rattle.fdr_top.specs.declared.encoding.Encoding.{Encoding}
use Rattle.fdr_top.specs.declared.list_bits.LineListing.{LineListing}

-- what a sink holds, where it tells it, and how many faults it has counted
pub record SinkState : Type 0 where
  pub written : Option (List ℕ)
  pub faults : ℕ

-- The sink failed, and what it holds since then is a front part of the text of all bytes, however they go on.
pub record StopsWriting (text : List ℕ → List ℕ) (bytes : List ℕ) (before now : SinkState) : Type 0 where
  pub part : (more : List ℕ) → WritesFront (text (bytes ++ more)) before.written now.written
  pub cause : Rose before.faults now.faults

-- The levels of these bytes went out, or wait to, and no fault of the sink was counted.
pub record HasEncoded (e : Encoding) (bytes : List ℕ) (before now : SinkState) : Type 0 where
  pub encoder : RepresentsEncoder e.encoder false bytes
  pub emits : Emits before.written now.written [] e.text (levels_text bytes)
  pub no_fault : now.faults ≡ before.faults

-- The bits of these levels went out, or wait to, as far as they fill bytes, and no fault of the sink was counted.
pub record HasDecoded (d : Decoding) (bytes : List ℕ) (before now : SinkState) : Type 0 where
  pub decoded : List ℕ
  pub reader : ReadsLevels d.reader (bits_of_bytes bytes) decoded
  pub emits : Emits before.written now.written [] d.text decoded
  pub no_fault : now.faults ≡ before.faults

-- Of these levels, and however they go on, this place is missing; the bits before it went out, or wait to, and no fault of the
-- sink was counted.
pub record HasMissed (d : Decoding) (bytes : List ℕ) (at : ℕ) (before now : SinkState) : Type 0 where
  pub decoded : List ℕ
  pub reader : MissesLevel d.reader (bits_of_bytes bytes) decoded at
  pub emits : Emits before.written now.written [] d.text decoded
  pub no_fault : now.faults ≡ before.faults

-- No more levels are decoded, for this reason: a place is missing, or the sink failed.
abbrev pub StopsDecoding : Decoding → Cut → List ℕ → SinkState → SinkState → Type 0
StopsDecoding d (cut.Missing at) bytes before now = HasMissed d bytes at before now
StopsDecoding d cut.Output bytes before now = StopsWriting decoded_bytes bytes before now

-- The lines of all that these bytes decide were written, those of the bytes before the last piece before it was pulled.
pub record HasListed {O : Type 0} (written : O → Option (List ℕ)) (first now : LineListing) (out_first out_now : O) (before last : List ℕ) : Type 0 where
  pub table : now.table.now ≡ first.table.now
  pub taken : HasTaken (WritesLines written) now.table.now now.reader (before ++ last) [] out_first [] out_now
  pub empty : now.lines ≡ []
  pub in_time : HasWrittenDecided now.table.now before (written out_first) (written out_now)

-- The sink failed while lines were written; what it holds are the first of them, at least those of all that the bytes before the
-- last piece decide.
pub record StopsListing (t : TableRows) (before last : List ℕ) (first now : SinkState) : Type 0 where
  pub stops : StopsWriting (listing_of t) (before ++ last) first now
  pub in_time : HasWrittenDecided t before first.written now.written
