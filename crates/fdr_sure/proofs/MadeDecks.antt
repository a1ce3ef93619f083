-- A deck in memory as it is made, and what is recorded in it.
use Rattle.std.proofs.Common.{◌≡◌, ℕ, ◌-◌, List, [], ◌++◌, length, ap, sym, refl, subst, ◌∙◌, arith}
use Rattle.fdr_bus.specs.Records.{good_prefix}
use Rattle.fdr_deck.specs.State.{Moment}
use Rattle.fdr_deck.specs.Announced.{greatest_announced}
use Rattle.fdr_deck.specs.Disk.{IsSettled}
use Rattle.fdr_deck.specs.Memory.{Memory, held_in, memory_state, memory_tells}
use Rattle.fdr_table.specs.Rows.{TableRows}
use Rattle.fdr_recover.specs.Images.{recovered_run}
use Rattle.fdr_recover.specs.ImageHeader.{header_in}
use Rattle.fdr_ring.specs.Runs.{last_blocks}
use Rattle.fdr_recorder.specs.Keeping.{RecoversPrefix}
use Rattle.fdr_recorder.specs.Recording.{IsClose}
use Rattle.fdr_recorder.specs.NewBlocks.{MayRecord, new_blocks, next_in}
use Rattle.fdr_top.specs.Record.{RecordsTrace}
use Rattle.fdr_recover.specs.Payloads.{run_in}
use Rattle.fdr_top.specs.declared.outcome.Outcome.{Outcome}
use Rattle.fdr_sure.specs.InMemory.{IsRecordedInMemory}

pub made_may : (d : Memory) → IsSettled (memory_state d) → greatest_announced d.numbers.announced ≡ 0 → MayRecord (memory_state d)
made_may d settled none = record { settled = settled; greatest = omega (arith, none) }

pub recorded_in_memory : (t : TableRows) (image line : List ℕ) (made new : Memory) (answer : Outcome) → MayRecord (memory_state made)
    → held_in made ≡ image → made.input ≡ line → made.entries ≡ [] → RecordsTrace t memory_tells (memory_state made) (memory_state new) answer
    → IsRecordedInMemory t image line answer new
recorded_in_memory t image line made new answer may held same none is =
    let moment : (m : Moment) → (memory_state new).since 0 m → (memory_state new).since (length made.entries) m =
    λ m since. subst (λ n. (memory_state new).since n m) (sym (ap length none)) since in
    record {
      pulled = is.pulled;
      left = new.input;
      split = sym same ∙ is.pulls.takes.input refl;
      keeps = λ m since. subst (λ (i : List ℕ). RecoversPrefix (header_in i) i (run_in i) (new_blocks t i (good_prefix is.pulled)) m.announced m.image) held
          (is.blocks.moments may refl m (moment m since)).keeps;
      close = λ m since. subst (λ (i : List ℕ). IsClose (header_in i) (next_in i) m) held (is.blocks.moments may refl m (moment m since)).close;
      recorded = λ all. subst (λ (i : List ℕ). recovered_run (header_in i) (held_in new)
          ≡ last_blocks ((header_in i).slots - 1) (run_in i ++ new_blocks t i (good_prefix is.pulled))) held (is.blocks.recorded all refl).run;
    }
