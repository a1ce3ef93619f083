-- What went out of the pieces of an input that are encoded or decoded.
use Rattle.std.proofs.Common.{◌≡◌, ℕ, List, [], ◌++◌, take, Option, None, Some, ap, sym, refl, ◌∙◌, append-nil}
use Rattle.std.proofs.Common.{subst, false}
use Rattle.fdr_io.specs.Faults.{Rose}
use Rattle.fdr_io.specs.Told.{followed_by}
use Rattle.fdr_io.specs.Output.{Emits, EmitsPart}
use Rattle.std.proofs.Common.{Bool, Ok, Err}
use Rattle.std.specs.Prelude.{IfErr, OnErr, OnOk, Result}
use Rattle.fdr_io.proofs.OutputSteps.{Emits-nil, Emits-then, EmitsPart-longer, EmitsPart-then, part_at_end, written_at_end}
use Rattle.fdr_biphase.specs.Cells.{bits_of_bytes}
use Rattle.fdr_biphase.specs.Packed.{bytes_of_bits, decoded_bytes}
use Rattle.fdr_biphase.specs.Past.{RepresentsEncoder}
use Rattle.fdr_biphase.specs.Reading.{MissesLevel, ReadsLevels}
use Rattle.fdr_biphase.specs.Phases.{cell_bits}
use Rattle.fdr_biphase.specs.declared.Missing.{Missing}
use Rattle.fdr_biphase.specs.declared.reader.LevelReader.{LevelReader}
use Rattle.fdr_biphase.proofs.Packers.{answered_begin}
use Rattle.fdr_biphase.proofs.Texts.{bits_of_all, decoded_begin, encoded_begin, encoded_none}
use Rattle.fdr_top.specs.Coding.{HasDecoded, HasEncoded, HasMissed, SinkState, StopsWriting}
use Rattle.fdr_top.specs.Encode.{levels_text}
use Rattle.fdr_top.specs.InputTexts.{WritesFront}
use Rattle.fdr_top.specs.declared.decoding.Decoding.{Decoding}
use Rattle.fdr_top.specs.declared.encoding.Encoding.{Encoding}

-- ---- a sink that failed

-- a part of a text is a part of each text that begins with it
pub front_of_longer : (text front rest : List ℕ) (before now : Option (List ℕ)) → text ≡ front ++ rest → EmitsPart before now [] front
    → WritesFront text before now
front_of_longer text front rest before now begins part =
    let longer = EmitsPart-longer before now [] front rest part in
    (longer.count, longer.written ∙ ap (λ (xs : List ℕ). followed_by before (take longer.count xs)) (sym begins))

-- ---- levels of bits

pub encoded_first : (e : Encoding) (state : SinkState) → RepresentsEncoder e.encoder false [] → e.text ≡ [] → HasEncoded e [] state state
encoded_first e state encoder empty = record {
  encoder = encoder;
  emits = rw (empty, encoded_none false) (Emits-nil state.written []);
  no_fault = refl;
}

-- the levels of a piece more
pub encoded_next : (e f : Encoding) (bytes levels piece : List ℕ) (before mid now : SinkState) → HasEncoded e bytes before mid
    → RepresentsEncoder f.encoder false (bytes ++ piece) → levels_text (bytes ++ piece) ≡ levels_text bytes ++ levels
    → Emits mid.written now.written e.text f.text levels → now.faults ≡ mid.faults → HasEncoded f (bytes ++ piece) before now
encoded_next e f bytes levels piece before mid now had encoder more emits quiet = record {
  encoder = encoder;
  emits = rw more (Emits-then before.written mid.written now.written [] e.text f.text (levels_text bytes) levels had.emits emits);
  no_fault = quiet ∙ had.no_fault;
}

pub encoding_stops : (e : Encoding) (bytes levels piece : List ℕ) (before mid now : SinkState) → HasEncoded e bytes before mid
    → levels_text (bytes ++ piece) ≡ levels_text bytes ++ levels → EmitsPart mid.written now.written e.text levels → Rose mid.faults now.faults
    → StopsWriting levels_text (bytes ++ piece) before now
encoding_stops e bytes levels piece before mid now had more part cause =
    let all = EmitsPart-then before.written mid.written now.written [] e.text (levels_text bytes) levels had.emits part in record {
      part = λ rest.
          let begin = encoded_begin false (bytes ++ piece) rest in
          front_of_longer (levels_text ((bytes ++ piece) ++ rest)) (levels_text bytes ++ levels) begin.0 before.written now.written
          (begin.1 ∙ ap (λ (xs : List ℕ). xs ++ begin.0) more) all;
      cause = rw had.no_fault at cause;
    }

-- ---- bits of levels

pub decoded_first : (d : Decoding) (state : SinkState) → ReadsLevels d.reader (bits_of_bytes []) [] → d.text ≡ [] → HasDecoded d [] state state
decoded_first d state reader empty = record {
  decoded = [];
  reader = reader;
  emits = rw empty (Emits-nil state.written []);
  no_fault = refl;
}

-- what a piece's levels gave was added
pub decoded_next : (d e : Decoding) (bytes given piece : List ℕ) (before mid now : SinkState) (had : HasDecoded d bytes before mid)
    → ReadsLevels e.reader (bits_of_bytes (bytes ++ piece)) (had.decoded ++ given) → Emits mid.written now.written d.text e.text given
    → now.faults ≡ mid.faults → HasDecoded e (bytes ++ piece) before now
decoded_next d e bytes given piece before mid now had reader emits quiet = record {
  decoded = had.decoded ++ given;
  reader = reader;
  emits = Emits-then before.written mid.written now.written [] d.text e.text had.decoded given had.emits emits;
  no_fault = quiet ∙ had.no_fault;
}

pub decoded_missed : (d e : Decoding) (bytes given piece : List ℕ) (at : ℕ) (before mid now : SinkState) (had : HasDecoded d bytes before mid)
    → MissesLevel e.reader (bits_of_bytes (bytes ++ piece)) (had.decoded ++ given) at → Emits mid.written now.written d.text e.text given
    → now.faults ≡ mid.faults → HasMissed e (bytes ++ piece) at before now
decoded_missed d e bytes given piece at before mid now had reader emits quiet = record {
  decoded = had.decoded ++ given;
  reader = reader;
  emits = Emits-then before.written mid.written now.written [] d.text e.text had.decoded given had.emits emits;
  no_fault = quiet ∙ had.no_fault;
}

-- what was answered of levels begins their text, whether a place is missing or not
given_begin : (r : LevelReader) (bytes done : List ℕ) (missing : Option Missing) → (missing ≡ None → ReadsLevels r (bits_of_bytes bytes) done)
    → ((m : Missing) → missing ≡ Some m → MissesLevel r (bits_of_bytes bytes) done m.at)
    → (more : List ℕ) → (rest : List ℕ) × (decoded_bytes (bytes ++ more) ≡ done ++ rest)
given_begin r bytes done None reads misses more = decoded_begin r bytes more done (reads refl)
given_begin r bytes done (Some m) reads misses more =
    let missed = misses m refl in
    let begin = answered_begin r.packer missed.bits [] done missed.packs in (
      begin.0,
      ap (λ (xs : List Bool). bytes_of_bits (cell_bits xs)) (bits_of_all bytes more) ∙ ap bytes_of_bits (missed.decoded (bits_of_bytes more))
          ∙ ap bytes_of_bits (sym (append-nil missed.bits)) ∙ begin.1,
    )

-- the sink failed while what a piece's levels gave was added
pub decoding_stops : (d : Decoding) (r : LevelReader) (bytes given piece : List ℕ) (missing : Option Missing) (before mid now : SinkState)
    (had : HasDecoded d bytes before mid)
    → (missing ≡ None → ReadsLevels r (bits_of_bytes (bytes ++ piece)) (had.decoded ++ given))
    → ((m : Missing) → missing ≡ Some m → MissesLevel r (bits_of_bytes (bytes ++ piece)) (had.decoded ++ given) m.at)
    → EmitsPart mid.written now.written d.text given → Rose mid.faults now.faults → StopsWriting decoded_bytes (bytes ++ piece) before now
decoding_stops d r bytes given piece missing before mid now had reads misses part cause =
    let all = EmitsPart-then before.written mid.written now.written [] d.text had.decoded given had.emits part in record {
      part = λ rest.
          let begin = given_begin r (bytes ++ piece) (had.decoded ++ given) missing reads misses rest in
          front_of_longer (decoded_bytes ((bytes ++ piece) ++ rest)) (had.decoded ++ given) begin.0 before.written now.written begin.1 all;
      cause = rw had.no_fault at cause;
    }

-- ---- the end

-- all that was left went out
pub rest_written : (a b c d : Option (List ℕ)) (waiting held decoded last text : List ℕ) → Emits a b [] waiting decoded → Emits b c waiting held last
    → text ≡ decoded ++ last → d ≡ followed_by c held → d ≡ followed_by a text
rest_written a b c d waiting held decoded last text emits more is end =
    written_at_end a c d held (decoded ++ last) (Emits-then a b c [] waiting held decoded last emits more) end ∙ ap (followed_by a) (sym is)

-- a part of what was left went out
pub rest_part : (a b c d : Option (List ℕ)) (waiting held decoded last text : List ℕ) → Emits a b [] waiting decoded → Emits b c waiting held last
    → text ≡ decoded ++ last → (k : ℕ) × (d ≡ followed_by c (take k held)) → WritesFront text a d
rest_part a b c d waiting held decoded last text emits more is end =
    subst (λ (xs : List ℕ). WritesFront xs a d) (sym is)
    (part_at_end a c d held (decoded ++ last) end.0 (Emits-then a b c [] waiting held decoded last emits more) end.1)

-- nor all of the last byte
pub rest_cut : (a b c : Option (List ℕ)) (waiting decoded last text : List ℕ) → Emits a b [] waiting decoded → EmitsPart b c waiting last
    → text ≡ decoded ++ last → WritesFront text a c
rest_cut a b c waiting decoded last text emits part is =
    let all = EmitsPart-then a b c [] waiting decoded last emits part in
    (all.count, all.written ∙ ap (λ (xs : List ℕ). followed_by a (take all.count xs)) (sym is))

-- what follows where a call succeeds, or fails
pub on_ok : {T E P Q : Type 0} (r : Result T E) → (P → Q) → OnOk r P → OnOk r Q
on_ok (Ok x) then holds = then holds
on_ok (Err e) then holds = tt

pub on_err : {T E P Q : Type 0} (r : Result T E) → (P → Q) → OnErr r P → OnErr r Q
on_err (Ok x) then holds = tt
on_err (Err e) then holds = then holds

pub ok_both : {T E : Type 0} (P Q : Type 0) (r : Result T E) → OnOk r P → OnOk r Q → OnOk r (P × Q)
ok_both P Q (Ok x) first second = (first, second)
ok_both P Q (Err e) first second = tt

pub err_both : {T E : Type 0} (P Q : Type 0) (r : Result T E) → OnErr r P → OnErr r Q → OnErr r (P × Q)
err_both P Q (Ok x) first second = tt
err_both P Q (Err e) first second = (first, second)

pub if_err : {T E : Type 0} (P : Type 0) (r : Result T E) → OnErr r P → IfErr r (λ e. P)
if_err P (Ok x) holds = tt
if_err P (Err e) holds = holds
