-- What a reader of blocks took of one more block, since it was as it was at first.
use Rattle.std.proofs.Common.{◌≡◌, ◌∙◌, ℕ, List, [], ◌∷◌, ◌++◌, Option, Result, Ok, Err, sym, subst}
use Rattle.std.specs.Prelude.{OnErr, OnOk}
use Rattle.fdr_recover.specs.Blocks.{Block}
use Rattle.fdr_recover.specs.Payloads.{payloads_of}
use Rattle.fdr_table.specs.Rows.{TableRows}
use Rattle.fdr_readout.specs.declared.events.EventReader.{EventReader}
use Rattle.fdr_readout.specs.Entries.{Entry, entries_of}
use Rattle.fdr_readout.specs.Taken.{HasTaken}
use Rattle.fdr_readout.specs.Takers.{TakerLaws}
use Rattle.fdr_top.specs.Sessions.{entries_of_blocks}
use Rattle.fdr_top.specs.SessionsTaken.{HasBegunBlock, HasTakenBlocks}
use Rattle.fdr_top.proofs.SessionEntries.{block_failed, block_read}

-- what holds of a table and a version holds of the same ones
of_same : {R : Type 0} (P : R → ℕ → Type 0) (a b : R) (v w : ℕ) → a ≡ b → v ≡ w → P a v → P b w
of_same {R} P a b v w same equal holds = subst (P b) equal (subst (λ (x : R). P x v) same holds)

module _ {S O F R : Type 0} (took : TableRows → S → O → S → O → List Entry → Type 0) (failed_in : TableRows → S → O → O → List Entry → Type 0)
    (laws : TakerLaws took failed_in) (rows : R → TableRows) (table_of : F → R) (version_of : F → ℕ) (taker_of : F → S)
    (table : R) (version : ℕ) (open_session : Option ℕ) (r : EventReader) (b : Block) (now : S) (out_now : O)
  where
    -- these blocks were taken, as a reader tells it that has the same table and version
    abbrev TakenBy : F → O → List Block → Type 0
    TakenBy first out_first blocks = (table ≡ table_of first) × (version ≡ version_of first)
        × HasTakenBlocks took (rows (table_of first)) (version_of first) open_session r blocks (taker_of first) out_first now out_now

    pub taken_here : (first : F) (out_first : O) (blocks : List Block) → TakenBy first out_first blocks
        → HasTakenBlocks took (rows table) version open_session r blocks (taker_of first) out_first now out_now
    taken_here first out_first blocks had =
        of_same (λ x v. HasTakenBlocks took (rows x) v open_session r blocks (taker_of first) out_first now out_now)
        (table_of first) table (version_of first) version (sym had.0) (sym had.1) had.2

    -- where the block isn't begun
    pub unbegun : {T E : Type 0} (out_then : O) (result : Result T E)
        → ((first : S) (out_first : O) (blocks more : List Block)
        → HasTakenBlocks took (rows table) version open_session r blocks first out_first now out_now
        → failed_in (rows table) first out_first out_then (entries_of_blocks (rows table) version ((blocks ++ b ∷ []) ++ more)))
        → OnErr result ((first : F) (out_first : O) (blocks more : List Block) → TakenBy first out_first blocks
        → failed_in (rows (table_of first)) (taker_of first) out_first out_then
        (entries_of_blocks (rows (table_of first)) (version_of first) ((blocks ++ b ∷ []) ++ more)))
    unbegun out_then (Ok v) failed = tt
    unbegun out_then (Err e) failed = λ first out_first blocks more had.
        of_same (λ x v. failed_in (rows x) (taker_of first) out_first out_then (entries_of_blocks (rows x) v ((blocks ++ b ∷ []) ++ more)))
        table (table_of first) version (version_of first) had.0 had.1
        (failed (taker_of first) out_first blocks more (taken_here first out_first blocks had))

    -- where it is begun
    module _ (then_table : R) (then_version : ℕ) (same_table : then_table ≡ table) (same_version : then_version ≡ version)
        (then_open : Option ℕ) (begun_r : EventReader) (mid : S) (out_mid out_then : O)
        (begin : (first : S) (out_first : O) (blocks : List Block) → HasTakenBlocks took (rows table) version open_session r blocks first out_first now out_now
        → HasBegunBlock took (rows table) version then_open begun_r blocks b first out_first mid out_mid)
      where
        begun : (first : F) (out_first : O) (blocks : List Block) → TakenBy first out_first blocks
            → HasBegunBlock took (rows table) version then_open begun_r blocks b (taker_of first) out_first mid out_mid
        begun first out_first blocks had = begin (taker_of first) out_first blocks (taken_here first out_first blocks had)

        begun_bits : (first : F) (out_first : O) (blocks : List Block) → (had : TakenBy first out_first blocks)
            → HasTaken took (rows then_table) begun_r (payloads_of (begun first out_first blocks had).current) (begun first out_first blocks had).mid
            (begun first out_first blocks had).out_mid mid out_mid
        begun_bits first out_first blocks had =
            let x = begun first out_first blocks had in
            subst (λ (y : R). HasTaken took (rows y) begun_r (payloads_of x.current) x.mid x.out_mid mid out_mid) (sym same_table) x.bits

        -- and its bits are read
        pub was_read : {T E : Type 0} (last : EventReader) (then_now : S) (result : Result T E)
            → ((bytes : List ℕ) (first : S) (out_first : O) → HasTaken took (rows then_table) begun_r bytes first out_first mid out_mid
            → OnOk result (HasTaken took (rows then_table) last (bytes ++ b.payload) first out_first then_now out_then))
            → OnOk result ((first : F) (out_first : O) (blocks : List Block) → TakenBy first out_first blocks
            → (then_table ≡ table_of first) × (then_version ≡ version_of first)
            × HasTakenBlocks took (rows (table_of first)) (version_of first) then_open last (blocks ++ b ∷ []) (taker_of first) out_first then_now out_then)
        was_read last then_now (Ok v) read = λ first out_first blocks had.
            let x = begun first out_first blocks had in (
              same_table ∙ had.0,
              same_version ∙ had.1,
              of_same (λ y v. HasTakenBlocks took (rows y) v then_open last (blocks ++ b ∷ []) (taker_of first) out_first then_now out_then)
                  table (table_of first) version (version_of first) had.0 had.1
                  (block_read took failed_in laws (rows table) version then_open begun_r blocks b (taker_of first) out_first mid out_mid last then_now
                  out_then x
                  (subst (λ (y : R). HasTaken took (rows y) last (payloads_of x.current ++ b.payload) x.mid x.out_mid then_now out_then) same_table
                  (read (payloads_of x.current) x.mid x.out_mid (begun_bits first out_first blocks had)))),
            )
        was_read last then_now (Err e) read = tt

        -- or aren't
        pub was_cut : {T E : Type 0} (result : Result T E)
            → ((bytes more : List ℕ) (first : S) (out_first : O) → HasTaken took (rows then_table) begun_r bytes first out_first mid out_mid
            → OnErr result (failed_in (rows then_table) first out_first out_then (entries_of (rows then_table) ((bytes ++ b.payload) ++ more))))
            → OnErr result ((first : F) (out_first : O) (blocks more : List Block) → TakenBy first out_first blocks
            → failed_in (rows (table_of first)) (taker_of first) out_first out_then
            (entries_of_blocks (rows (table_of first)) (version_of first) ((blocks ++ b ∷ []) ++ more)))
        was_cut (Ok v) cut = tt
        was_cut (Err e) cut = λ first out_first blocks more had.
            let x = begun first out_first blocks had in
            of_same (λ y v. failed_in (rows y) (taker_of first) out_first out_then (entries_of_blocks (rows y) v ((blocks ++ b ∷ []) ++ more)))
            table (table_of first) version (version_of first) had.0 had.1
            (block_failed took failed_in laws (rows table) version then_open begun_r blocks b (taker_of first) out_first mid out_mid out_then more x
            (λ rest. subst (λ (y : R). failed_in (rows y) x.mid x.out_mid out_then (entries_of (rows y) ((payloads_of x.current ++ b.payload) ++ rest)))
            same_table (cut (payloads_of x.current) rest x.mid x.out_mid (begun_bits first out_first blocks had))))
