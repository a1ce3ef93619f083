-- The bytes that are made of bytes that come one after another.
use Rattle.std.proofs.Common.{◌≡◌, ℕ, ◌*◌, Bool, List, [], ◌∷◌, ◌++◌, length, sym, ap, ◌∙◌, arith, append_assoc, append-nil}
use Rattle.std.specs.Prelude.{◌==◌, Some, None}
use Rattle.std.proofs.lemmas.List.FromFn.{length-map-range_with_len}
use Rattle.fdr_bits.specs.Bits.{bits_in, bit_at}
use Rattle.fdr_biphase.specs.Cells.{bits_of_bytes, cells_of, level_after}
use Rattle.fdr_biphase.specs.Packed.{bytes_of_bits, decoded_bytes, encoded_bytes}
use Rattle.fdr_biphase.specs.Past.{DecoderPast}
use Rattle.fdr_biphase.specs.Phases.{cell_bits, missing_place}
use Rattle.fdr_biphase.specs.Reading.{MissesLevel, ReadsLevels}
use Rattle.fdr_biphase.specs.declared.reader.LevelReader.{LevelReader}
use Rattle.fdr_biphase.proofs.CellLemmas.{cells-append, length-cells}
use Rattle.fdr_biphase.proofs.Encoding.{bits_of_more}
use Rattle.fdr_biphase.proofs.Packing.{no_bytes, whole_bytes_stay}
use Rattle.fdr_biphase.proofs.Packers.{answered_begin, misses_later}
use Rattle.fdr_biphase.proofs.Standing.{none_missing}
use Rattle.fdr_biphase.proofs.Staying.{answers_stay}

-- the bits of bytes, and of more bytes
pub bits_of_all : (bytes more : List ℕ) → bits_of_bytes (bytes ++ more) ≡ bits_of_bytes bytes ++ bits_of_bytes more
bits_of_all bytes [] = ap bits_of_bytes (append-nil bytes) ∙ sym (append-nil (bits_of_bytes bytes))
bits_of_all bytes (b ∷ more) =
    ap bits_of_bytes (sym (append_assoc bytes (b ∷ []) more))
    ∙ bits_of_all (bytes ++ b ∷ []) more
    ∙ ap (λ (xs : List Bool). xs ++ bits_of_bytes more) (bits_of_more bytes b)
    ∙ append_assoc (bits_of_bytes bytes) (bits_of_bytes (b ∷ [])) (bits_of_bytes more)
    ∙ ap (λ (xs : List Bool). bits_of_bytes bytes ++ xs) (sym (bits_of_all (b ∷ []) more))

-- no bytes have no cells
pub encoded_none : (first : Bool) → encoded_bytes first [] ≡ []
unfolding cells_of
encoded_none first = no_bytes

-- the cells of bytes begin the cells of more bytes
pub encoded_begin : (first : Bool) (bytes more : List ℕ) → (rest : List ℕ) × (encoded_bytes first (bytes ++ more) ≡ encoded_bytes first bytes ++ rest)
encoded_begin first bytes more =
    let cells = cells_of first (bits_of_bytes bytes) in
    let next = cells_of (level_after first (bits_of_bytes bytes)) (bits_of_bytes more) in
    let eights : length cells ≡ 8 * (2 * length bytes) = omega (
      arith,
      length-cells first (bits_of_bytes bytes),
      length-map-range_with_len (λ p. bit_at bytes p == 1) 0 (bits_in bytes),
    ) in
    let stay = whole_bytes_stay cells next (2 * length bytes) eights in (
      stay.0,
      ap (λ (xs : List Bool). bytes_of_bits (cells_of first xs)) (bits_of_all bytes more)
          ∙ ap bytes_of_bits (cells-append first (bits_of_bytes bytes) (bits_of_bytes more)) ∙ stay.1,
    )

-- what was answered of levels begins the text of the levels, however they go on
pub decoded_begin : (r : LevelReader) (bytes more decoded : List ℕ) → ReadsLevels r (bits_of_bytes bytes) decoded
    → (rest : List ℕ) × (decoded_bytes (bytes ++ more) ≡ decoded ++ rest)
decoded_begin r bytes more decoded reads =
    let past : DecoderPast = record { levels = bits_of_bytes bytes; bits = reads.bits } in
    let stay = answers_stay r.decoder past (bits_of_bytes more) reads.decodes in
    let begin = answered_begin r.packer reads.bits stay.0 decoded reads.packs in (
      begin.0,
      ap (λ (xs : List Bool). bytes_of_bits (cell_bits xs)) (bits_of_all bytes more) ∙ ap bytes_of_bits stay.1 ∙ begin.1,
    )

-- no place is missing in levels that a reader read
pub reads_none_missing : (r : LevelReader) (bytes decoded : List ℕ) → ReadsLevels r (bits_of_bytes bytes) decoded
    → missing_place (bits_of_bytes bytes) ≡ None
reads_none_missing r bytes decoded reads =
    let past : DecoderPast = record { levels = bits_of_bytes bytes; bits = reads.bits } in
    none_missing r.decoder past reads.decodes

-- the text of levels in which a place is missing
pub missed_text : (r : LevelReader) (bytes more decoded : List ℕ) (at : ℕ) (text : List ℕ) → MissesLevel r (bits_of_bytes bytes) decoded at
    → ((next : List Bool) → bytes_of_bits (cell_bits (bits_of_bytes bytes ++ next)) ≡ text) → decoded_bytes (bytes ++ more) ≡ text
missed_text r bytes more decoded at text misses is =
    ap (λ (xs : List Bool). bytes_of_bits (cell_bits xs)) (bits_of_all bytes more) ∙ is (bits_of_bytes more)

-- and where it is missing
pub missed_place : (r : LevelReader) (bytes more decoded : List ℕ) (at : ℕ) → MissesLevel r (bits_of_bytes bytes) decoded at
    → missing_place (bits_of_bytes (bytes ++ more)) ≡ Some at
missed_place r bytes more decoded at misses = ap missing_place (bits_of_all bytes more) ∙ misses.place (bits_of_bytes more)

-- a place that is missing stays so with more bytes
pub misses_more : (r : LevelReader) (bytes more decoded : List ℕ) (at : ℕ) → MissesLevel r (bits_of_bytes bytes) decoded at
    → MissesLevel r (bits_of_bytes (bytes ++ more)) decoded at
misses_more r bytes more decoded at misses =
    rw (bits_of_all bytes more) (misses_later r (bits_of_bytes bytes) (bits_of_bytes more) decoded at misses)
