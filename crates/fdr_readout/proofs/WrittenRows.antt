-- The line of a row out of texts that are ready.
use Rattle.std.proofs.Common.{refl, ◌≡◌, ℕ, ◌+◌, ◌-◌, ◌*◌, ◌/◌, ◌%◌, ◌<◌, ◌≤◌, List, get_or, map, ap, sym, ◌∙◌, arith, zero-add}
use Rattle.std.specs.List.{range_with_len}
use Rattle.std.proofs.lemmas.List.FromFn.{get_or-map-range_with_len}
use Rattle.fdr_listing.specs.Text.{row_line_text, row_place_text, row_start_text, row_text}
use Rattle.fdr_listing.proofs.RowLines.{row_line_is_row}
use Rattle.fdr_table.specs.Rows.{ParamRow, TableRows}
use Rattle.fdr_recon.specs.declared.Row.{Row}
use Rattle.fdr_recon.specs.Rows.{param_at}
use Rattle.fdr_readout.specs.Listing.{row_line_of}
use Rattle.fdr_readout.specs.Places.{place_text}

-- what is among ready texts
pub ready_text : (f : ℕ → List ℕ) (texts : List (List ℕ)) (n : ℕ) (text : List ℕ) → texts ≡ map f (range_with_len 0 4096) → n < 4096
    → text ≡ get_or texts n text → text ≡ f n
ready_text f texts n text ready within at =
    at ∙ ap (λ (ys : List (List ℕ)). get_or ys n text) ready ∙ get_or-map-range_with_len f 0 4096 n n text within (zero-add n)

-- the text of the place of a subframe and a word
pub ready_at : (texts : List (List ℕ)) (subframe word : ℕ) (text : List ℕ) → texts ≡ map place_text (range_with_len 0 4096)
    → 1 ≤ subframe → subframe ≤ 4 → 1 ≤ word → word ≤ 1024 → text ≡ get_or texts (1024 * (subframe - 1) + (word - 1)) text
    → text ≡ row_place_text subframe word
ready_at texts subframe word text ready low high first last at =
    let s : (1024 * (subframe - 1) + (word - 1)) / 1024 + 1 ≡ subframe = omega arith in
    let v : (1024 * (subframe - 1) + (word - 1)) % 1024 + 1 ≡ word = omega arith in
    ready_text place_text texts (1024 * (subframe - 1) + (word - 1)) text ready (omega arith) at ∙ rw (s, v) refl

pub written_row : (t : TableRows) (r : Row) (p : ParamRow) (start place : List ℕ) → param_at t.params r.param ≡ p
    → start ≡ row_start_text r.counter → place ≡ row_place_text r.subframe r.word
    → row_line_text start place p.name r.value p.decimals ≡ row_line_of t r
unfolding row_line_of
written_row t r p start place of starts places =
    row_line_is_row r.counter r.subframe r.word r.param r.value start place p.name p.decimals starts places
    ∙ ap (λ (q : ParamRow). row_text r q.name q.decimals) (sym of)
