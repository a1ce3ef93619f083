-- What `encode`, `listbits` and `decode` mean.
use Rattle.std.proofs.Common.{◌≡◌, ◌≢◌, ⊎_elim, ℕ, Bool, true, false, List, [], ◌++◌, take, Option, Some, None, refl, sym, ap, ◌∙◌, subst}
use Rattle.fdr_io.specs.declared.Input.TheVariants as input
use Rattle.fdr_biphase.specs.Cells.{bits_of_bytes}
use Rattle.fdr_biphase.specs.Packed.{bytes_of_bits, decoded_bytes}
use Rattle.fdr_biphase.specs.Phases.{cell_bits, missing_place}
use Rattle.fdr_biphase.proofs.Staying.{bits_before_missing}
use Rattle.fdr_biphase.proofs.Texts.{bits_of_all}
use Rattle.fdr_pieces.specs.Limits.{most_input_bytes}
use Rattle.fdr_load.specs.Tables.{table_in}
use Rattle.fdr_readout.specs.Listing.{listing_of}
use Rattle.fdr_table.specs.Rows.{TableRows}
use Rattle.fdr_words.specs.Forms.{encode_bytes, decode_levels, list_bits}
use Rattle.fdr_load.specs.Supplies.{Supplied}
use Rattle.fdr_top.specs.Answers.{IsOwn, MayAnswer}
use Rattle.fdr_top.specs.Commands.{RunsCommand}
use Rattle.fdr_top.specs.Decode.{DecodesLevels}
use Rattle.fdr_top.specs.Encode.{levels_text}
use Rattle.fdr_top.specs.InputTexts.{WritesOfInput}
use Rattle.fdr_top.specs.Runs.{CommandRun}
use Rattle.fdr_top.specs.Stages.{IsPastTable}
use Rattle.fdr_top.specs.declared.outcome.Outcome.{Outcome}
use Rattle.fdr_top.specs.declared.outcome.Outcome.TheVariants as outcome
use Rattle.fdr_top.proofs.MeaningWords.{Core}
use Rattle.fdr_top.specs.Meaning.{Effect, as_bits, bits_answer, levels_answer, stays, writes}
use Rattle.fdr_top.specs.Doing.{Becomes, IsTold}
use Rattle.fdr_top.proofs.MeaningLeft.{idle_keeps, no_memory, stays_unused}
use Rattle.fdr_top.proofs.MeaningByTable.{line_rest, means_by_table, nothing}
use Rattle.fdr_top.proofs.MeaningImages.{none_left}
use Rattle.fdr_top.proofs.MeaningInputs.{MeansInput, by_any, came_part, gave_none, take_more, takes_none}
use Rattle.fdr_top.proofs.MeaningBits.{all_taken, bits_cut, bits_ended, bits_failed, ends_done, ends_failed, ends_long, longer, most_taken}

-- ---- encode

module _ (r : CommandRun) (told : IsTold encode_bytes r) (runs : RunsCommand encode_bytes r) where
  encode_left : Becomes stays r.work.tells r.work.old r.work.new
  encode_left = stays_unused encode_bytes r.work runs.unused (λ no. no)

  abbrev encodes : Supplied → Effect
  encodes came = writes (levels_text (as_bits came)) (bits_answer came)

  encode_at : (a : Outcome) → r.work.answer ≡ a → MayAnswer encode_bytes a → MeansInput encode_bytes encodes r.work
  encode_at outcome.Done e may =
      let w = (runs.carries_out (table_in []) (subst IsPastTable (sym e) tt)).encodes in
      let few = ends_done w.pulled (w.ends.done_within_limit e) in
      let all = all_taken encode_bytes levels_text bits_answer r.work w encode_left e in
      bits_ended encode_bytes levels_text bits_answer r.work w encode_left outcome.Done e (λ f. cc) few
      (λ told. (
        ap (λ (x : List ℕ). bits_answer (record { bytes = x; failed = false })) (all told) ∙ few,
        ap (λ (x : List ℕ). levels_text (take most_input_bytes x)) (all told),
      ))
  encode_at outcome.TooLong e may =
      let w = (runs.carries_out (table_in []) (subst IsPastTable (sym e) tt)).encodes in
      bits_ended encode_bytes levels_text bits_answer r.work w encode_left outcome.TooLong e (λ f. cc) (ends_long w.pulled (w.ends.many e))
      (λ told. (
        ends_long r.work.old.input (longer encode_bytes levels_text bits_answer r.work w encode_left e told),
        ap levels_text (most_taken encode_bytes levels_text bits_answer r.work w encode_left e told),
      ))
  encode_at (outcome.ReadFault input.Line) e may =
      let w = (runs.carries_out (table_in []) (subst IsPastTable (sym e) tt)).encodes in
      bits_failed encode_bytes levels_text bits_answer r.work w encode_left e (runs.causes.input e) (ends_failed w.pulled (w.ends.fault_within_limit e))
  encode_at outcome.WriteFault e may =
      let w = (runs.carries_out (table_in []) (subst IsPastTable (sym e) tt)).encodes in
      bits_cut encode_bytes levels_text bits_answer r.work w encode_left tt e (runs.causes.write e)
  encode_at outcome.NoMemory e may = by_any encode_bytes encodes r.work [] (takes_none r.work.tells r.work.old r.work.new (runs.unused.memory tt e))
      (λ came. no_memory encode_bytes r (encodes came) runs told e)
  encode_at (outcome.TableRefused row f) e may = absurd (cc)
  encode_at (outcome.ReadFault input.Table) e may = absurd (cc)
  encode_at a e may = absurd may

  pub means_encode : Core encode_bytes r
  means_encode =
      let i = encode_at r.work.answer refl runs.answers in
      record {
        g = record { table = nothing; input = i.came; image = [] };
        given = record { table = λ no. absurd (cc); input = λ yes. i.given; image = λ no. absurd no };
        pulled = tt;
        does = i.refines;
        all = i.all;
      }

-- ---- listbits

module _ (path : List ℕ) (r : CommandRun) (told : IsTold (list_bits path) r) (runs : RunsCommand (list_bits path) r) where
  bits_left : Becomes stays r.work.tells r.work.old r.work.new
  bits_left = stays_unused (list_bits path) r.work runs.unused (λ no. no)

  abbrev lists_bits : TableRows → Supplied → Effect
  lists_bits t came = writes (listing_of t (as_bits came)) (bits_answer came)

  listbits_at : (t : TableRows) → WritesOfInput (listing_of t) r.work.tells r.work.old r.work.new r.work.written_before r.work.written_now r.work.answer
      → (a : Outcome) → r.work.answer ≡ a → IsOwn (list_bits path) a → MeansInput (list_bits path) (lists_bits t) r.work
  listbits_at t w outcome.Done e own =
      let few = ends_done w.pulled (w.ends.done_within_limit e) in
      let all = all_taken (list_bits path) (listing_of t) bits_answer r.work w bits_left e in
      bits_ended (list_bits path) (listing_of t) bits_answer r.work w bits_left outcome.Done e (λ f. cc) few
      (λ told. (
        ap (λ (x : List ℕ). bits_answer (record { bytes = x; failed = false })) (all told) ∙ few,
        ap (λ (x : List ℕ). listing_of t (take most_input_bytes x)) (all told),
      ))
  listbits_at t w outcome.TooLong e own =
      bits_ended (list_bits path) (listing_of t) bits_answer r.work w bits_left outcome.TooLong e (λ f. cc) (ends_long w.pulled (w.ends.many e))
      (λ told. (
        ends_long r.work.old.input (longer (list_bits path) (listing_of t) bits_answer r.work w bits_left e told),
        ap (listing_of t) (most_taken (list_bits path) (listing_of t) bits_answer r.work w bits_left e told),
      ))
  listbits_at t w (outcome.ReadFault input.Line) e own =
      bits_failed (list_bits path) (listing_of t) bits_answer r.work w bits_left e (runs.causes.input e) (ends_failed w.pulled (w.ends.fault_within_limit e))
  listbits_at t w outcome.WriteFault e own =
      bits_cut (list_bits path) (listing_of t) bits_answer r.work w bits_left tt e (runs.causes.write e)
  listbits_at t w a e own = absurd own

  pub means_listbits : Core (list_bits path) r
  means_listbits = means_by_table (list_bits path) (λ t came image. writes (listing_of t (as_bits came)) (bits_answer came)) r told runs refl (λ g. refl)
      (λ why. line_rest (list_bits path) r (came_part []) (gave_none r.work (idle_keeps (list_bits path) r runs tt why)) (λ no. no) tt)
      runs.carries_out (λ past own.
      let i = listbits_at runs.carries_out.0 (runs.carries_out.3 past).lists r.work.answer refl own in
      record { rest = line_rest (list_bits path) r i.came i.given (λ no. no) tt; does = i.refines; all = i.all })

-- ---- decode

-- the place that is missing in the bytes that are taken of these
abbrev missing_in : List ℕ → Option ℕ
missing_in bytes = missing_place (bits_of_bytes (take most_input_bytes bytes))

-- what was decoded before a missing place, and more levels
decoded_same : (bytes more : List ℕ) (at : ℕ) → missing_place (bits_of_bytes bytes) ≡ Some at → decoded_bytes (bytes ++ more) ≡ decoded_bytes bytes
decoded_same bytes more at missing =
    ap (λ (x : List Bool). bytes_of_bits (cell_bits x)) (bits_of_all bytes more)
    ∙ ap bytes_of_bits (bits_before_missing (bits_of_bytes bytes) (bits_of_bytes more) at missing)

abbrev pub decode_end : Supplied → Outcome
decode_end came = levels_answer (missing_place (bits_of_bytes (as_bits came))) came

-- where no place is missing, levels end as bits do
pub ends_as_bits : (bytes : List ℕ) (failed : Bool) → missing_in bytes ≡ None
    → decode_end (record { bytes = bytes; failed = failed }) ≡ bits_answer (record { bytes = bytes; failed = failed })
ends_as_bits bytes failed none = ap (λ (x : Option ℕ). levels_answer x (record { bytes = bytes; failed = failed })) none

ends_missing : (bytes : List ℕ) (at : ℕ) → missing_in bytes ≡ Some at → decode_end (record { bytes = bytes; failed = false }) ≡ outcome.CellFault at
ends_missing bytes at some = ap (λ (x : Option ℕ). levels_answer x (record { bytes = bytes; failed = false })) some

module _ (r : CommandRun) (told : IsTold decode_levels r) (runs : RunsCommand decode_levels r) where
  decode_left : Becomes stays r.work.tells r.work.old r.work.new
  decode_left = stays_unused decode_levels r.work runs.unused (λ no. no)

  abbrev decodes : Supplied → Effect
  decodes came = writes (decoded_bytes (as_bits came)) (decode_end came)

  -- no place is missing where another answer is given
  none_missing : (d : DecodesLevels r.work.tells r.work.old r.work.new r.work.written_before r.work.written_now r.work.answer) (a : Outcome)
      → r.work.answer ≡ a → ((at : ℕ) → a ≢ outcome.CellFault at) → a ≢ outcome.WriteFault → missing_in d.decodes.pulled ≡ None
  none_missing d a e not_cell not_write = none_left (missing_in d.decodes.pulled) (λ at is. ⊎_elim
      (λ f. not_cell at (sym e ∙ f)) (λ f. not_write (sym e ∙ f)) (d.missing_always at is))

  decode_at : DecodesLevels r.work.tells r.work.old r.work.new r.work.written_before r.work.written_now r.work.answer
      → (a : Outcome) → r.work.answer ≡ a → IsOwn decode_levels a → MeansInput decode_levels decodes r.work
  decode_at d outcome.Done e own =
      let w = d.decodes in
      let ends = ends_as_bits w.pulled false (none_missing d outcome.Done e (λ at f. cc) (λ f. cc)) ∙ ends_done w.pulled (w.ends.done_within_limit e) in
      let all = all_taken decode_levels decoded_bytes decode_end r.work w decode_left e in
      bits_ended decode_levels decoded_bytes decode_end r.work w decode_left outcome.Done e (λ f. cc) ends
      (λ told. (
        ap (λ (x : List ℕ). decode_end (record { bytes = x; failed = false })) (all told) ∙ ends,
        ap (λ (x : List ℕ). decoded_bytes (take most_input_bytes x)) (all told),
      ))
  decode_at d outcome.TooLong e own =
      let w = d.decodes in
      let none = none_missing d outcome.TooLong e (λ at f. cc) (λ f. cc) in
      let most = most_taken decode_levels decoded_bytes decode_end r.work w decode_left e in
      bits_ended decode_levels decoded_bytes decode_end r.work w decode_left outcome.TooLong e (λ f. cc)
      (ends_as_bits w.pulled false none ∙ ends_long w.pulled (w.ends.many e))
      (λ told. (
        ends_as_bits r.work.old.input false (ap (λ (x : List ℕ). missing_place (bits_of_bytes x)) (most told) ∙ none)
            ∙ ends_long r.work.old.input (longer decode_levels decoded_bytes decode_end r.work w decode_left e told),
        ap decoded_bytes (most told),
      ))
  decode_at d (outcome.CellFault at) e own =
      let w = d.decodes in
      let missing = d.missing at e in
      bits_ended decode_levels decoded_bytes decode_end r.work w decode_left (outcome.CellFault at) e (λ f. cc) (ends_missing w.pulled at missing)
      (λ told. (
        ends_missing r.work.old.input at (d.missing_of_line at e told),
        let more = take_more most_input_bytes w.pulled r.work.new.input in
            ap decoded_bytes (ap (take most_input_bytes) (w.pieces.takes.input told) ∙ more.1)
            ∙ decoded_same (take most_input_bytes w.pulled) more.0 at missing,
      ))
  decode_at d (outcome.ReadFault input.Line) e own =
      let w = d.decodes in
      bits_failed decode_levels decoded_bytes decode_end r.work w decode_left e (runs.causes.input e)
      (ends_as_bits w.pulled true (none_missing d (outcome.ReadFault input.Line) e (λ at f. cc) (λ f. cc))
      ∙ ends_failed w.pulled (w.ends.fault_within_limit e))
  decode_at d outcome.WriteFault e own =
      bits_cut decode_levels decoded_bytes decode_end r.work d.decodes decode_left tt e
      (runs.causes.write e)
  decode_at d a e own = absurd own

  decode_any : (a : Outcome) → r.work.answer ≡ a → MayAnswer decode_levels a → MeansInput decode_levels decodes r.work
  decode_any outcome.NoMemory e may = by_any decode_levels decodes r.work [] (takes_none r.work.tells r.work.old r.work.new (runs.unused.memory tt e))
      (λ came. no_memory decode_levels r (decodes came) runs told e)
  decode_any outcome.Usage e may = absurd may
  decode_any (outcome.TableRefused row f) e may = absurd (cc)
  decode_any (outcome.ReadFault input.Table) e may = absurd (cc)
  decode_any (outcome.ReadFault input.Line) e may =
      decode_at (runs.carries_out (table_in []) (subst IsPastTable (sym e) tt)) (outcome.ReadFault input.Line) e may
  decode_any a e may = decode_at (runs.carries_out (table_in []) (subst IsPastTable (sym e) tt)) a e may

  pub means_decode : Core decode_levels r
  means_decode =
      let i = decode_any r.work.answer refl runs.answers in
      record {
        g = record { table = nothing; input = i.came; image = [] };
        given = record { table = λ no. absurd (cc); input = λ yes. i.given; image = λ no. absurd no };
        pulled = tt;
        does = i.refines;
        all = i.all;
      }
