-- The moments of a call of a deck over a storage.
use Rattle.std.proofs.Common.{inl, inr, ⊎_elim, ℕ, Bool, List, ◌∙◌, arith}
use Rattle.fdr_deck.specs.Moments.{EachMoment, Within}
use Rattle.fdr_storage.specs.Disk.{Told, StoredFile}
use Rattle.fdr_storage.specs.declared.numbers.Numbers.{Numbers}
use Rattle.fdr_storage_deck.specs.State.{deck_tells, deck_state}
use Rattle.fdr_storage_deck.specs.Runs.{Runs}

-- the moments of a call of a deck
pub Runs-moments : (told : Told) (input_told : Bool) (before after : Numbers) (old new : StoredFile) (known_old known_new : ℕ) (input_old input_new : List ℕ)
    (disk_faults_old disk_faults_new input_faults_old input_faults_new : ℕ) → Runs told before after old new
    → EachMoment (deck_tells told input_told) (deck_state told old known_old input_old before disk_faults_old input_faults_old)
    (deck_state told new known_new input_new after disk_faults_new input_faults_new)
    (Within (deck_state told old known_old input_old before disk_faults_old input_faults_old)
    (deck_state told new known_new input_new after disk_faults_new input_faults_new))
Runs-moments told input_told before after old new known_old known_new input_old input_new disk_faults_old disk_faults_new input_faults_old input_faults_new
    runs is m since = ⊎_elim
    (λ past. ⊎_elim
    (λ start. inl (record {
      image = start.image;
      least = start.least;
      greatest = start.greatest;
      pulled = record {
        taken = start.taken;
        pulled_before =
            start.pulled_before;
      };
    }))
    (λ amid. inr (record {
      image = amid.image;
      announced = omega (arith, amid.least, amid.greatest);
      pulled = inl (record { taken = amid.taken; pulled_before = amid.pulled_before });
    }))
    (runs.moments is m past))
    (λ late. ⊎_elim
    (λ fresh. inr (record {
      image = inr late.image;
      announced = omega (arith, late.least, late.greatest, fresh.least, fresh.greatest, runs.numbers.announced);
      pulled = inr (record { taken = late.taken; pulled_before = late.pulled_before });
    }))
    (λ none. ⊎_elim
    (λ fresh. inr (record {
      image = inr late.image;
      announced = omega (arith, late.least, late.greatest, fresh.least, fresh.greatest, runs.numbers.announced);
      pulled = inr (record { taken = late.taken; pulled_before = late.pulled_before });
    }))
    (λ same. inl (record {
      image = none m.image late.image;
      least = omega (arith, late.least, same.0);
      greatest = omega (arith, late.greatest, same.1);
      pulled = record { taken = late.taken ∙ runs.numbers.taken; pulled_before = late.pulled_before ∙ runs.numbers.pulled_before };
    }))
    runs.numbers.since)
    runs.started)
    since
