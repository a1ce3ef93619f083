-- Where no image is made.
use Rattle.std.proofs.Common.{◌≡◌, ◌⊎◌, ⊎_elim, ℕ, List, [], Option, Some, None, refl, sym, ◌∙◌}
use Rattle.fdr_deck.specs.State.{State, Tells}
use Rattle.fdr_deck.specs.Moments.{IsSoundDeck}
use Rattle.fdr_deck.proofs.Moments.{IsDiskWork-here}
use Rattle.fdr_slot.specs.declared.image.Header.{Header}
use Rattle.fdr_ring.specs.Formatting.{Making}
use Rattle.fdr_ring.proofs.Made.{empty_stop}
use Rattle.fdr_table.specs.Rows.{TableRows}
use Rattle.fdr_top.specs.Stages.{IsOfTable, IsPastTable}
use Rattle.fdr_top.specs.Format.{Makes, new_header}
use Rattle.fdr_load.specs.Tables.{table_in}
use Rattle.fdr_top.specs.Tables.{ByTable}
use Rattle.fdr_top.specs.declared.outcome.Outcome.{Outcome}
use Rattle.fdr_top.specs.declared.outcome.Outcome.TheVariants as outcome
use Rattle.fdr_top.proofs.TableAnswers.{past_not_memory, table_not_past}

-- the table of a source that tells it, or any
pub table_or : Option (List ℕ) → TableRows
table_or None = table_in []
table_or (Some bytes) = table_in bytes

pub table_told : (rest : Option (List ℕ)) (bytes : List ℕ) → rest ≡ Some bytes → table_or rest ≡ table_in bytes
unfolding table_or
table_told rest bytes told = rw told refl

-- where the table isn't read, the deck isn't touched and no image is made
pub makes_nothing : (tells : Tells) (rest now : Option (List ℕ)) (slots payload : ℕ) (d : State) (answer : Outcome) → IsSoundDeck tells d
    → (answer ≡ outcome.NoMemory) ⊎ IsOfTable answer
    → ByTable rest now answer (λ (t : TableRows). Makes (new_header slots payload t.frame.words) tells d d answer)
makes_nothing tells rest now slots payload d answer sound either =
    let h : Header = new_header slots payload (table_or rest).frame.words in
    let done : answer ≡ outcome.Done → ⊥ = λ e. ⊎_elim
    (λ (m : answer ≡ outcome.NoMemory). let c : outcome.Done ≡ outcome.NoMemory = sym e ∙ m in cc)
    (λ (of : IsOfTable answer). rw e at of) either in
    let some : answer ≡ outcome.NotEmpty → ⊥ = λ e. ⊎_elim
    (λ (m : answer ≡ outcome.NoMemory). let c : outcome.NotEmpty ≡ outcome.NoMemory = sym e ∙ m in cc)
    (λ (of : IsOfTable answer). rw e at of) either in
    let failed : answer ≡ outcome.DiskFault → ⊥ = λ e. ⊎_elim
    (λ (m : answer ≡ outcome.NoMemory). let c : outcome.DiskFault ≡ outcome.NoMemory = sym e ∙ m in cc)
    (λ (of : IsOfTable answer). rw e at of) either in
    let early : IsPastTable answer → ⊥ = λ past. ⊎_elim
    (λ (m : answer ≡ outcome.NoMemory). past_not_memory answer past m)
    (λ (of : IsOfTable answer). table_not_past answer of past) either in (
      table_or rest,
      table_told rest,
      λ past. absurd (early past),
      record {
        empty = λ e. absurd (done e);
        held = λ e told. absurd (done e);
        formatted = λ e told. absurd (done e);
        settled = λ e told. absurd (done e);
        extent = λ e. absurd (done e);
        not_empty = λ e. absurd (some e);
        learns = λ e. absurd (some e);
        kept = λ e. absurd (some e);
        disk_work = IsDiskWork-here tells (Making h d) d sound
            (λ told image leaves. record { made = λ none settled. empty_stop tells h d image sound told none settled leaves; kept = λ some. leaves });
        cause = λ e. absurd (failed e);
        not_empty_always = λ past more. absurd (early past);
      },
    )
