-- What calls of a twin over two storages leave, and what a turn does.
use Rattle.std.specs.Prelude.{◌≡◌, ◌≤◌, ℕ, List}
use Rattle.std.proofs.Common.{refl, sym, arith, subst}
use Rattle.fdr_storage.specs.declared.numbers.Numbers.{Numbers}
use Rattle.fdr_twin.specs.declared.side.Side.{Side}
use Rattle.fdr_twin.specs.declared.side.Side.TheVariants.{First, Second}
use Rattle.fdr_twin.specs.Pair.{Disk}
use Rattle.fdr_twin.specs.Same.{IsSameDisk, Turns}
use Rattle.fdr_twin.specs.Rest.{PairElapses, HasSameRest}
use Rattle.fdr_adapters.specs.Twins.{pair_over, first_disk_of}

as_it_was : (d : Disk) → IsSameDisk d d
as_it_was d = record { extent = refl; held = refl; no_more = λ image is. is; no_less = λ image is. is; faults = refl }

module _ (here here_after there : Disk) (input input_after : List ℕ) (numbers numbers_after : Numbers) (input_faults input_faults_after : ℕ) where
  no_time : (side : Side) → PairElapses (pair_over side here there input numbers input_faults)
      (pair_over side here_after there input_after numbers_after input_faults_after)
  no_time side = record {
    later = omega arith;
    earlier = λ t m le since. since;
    added = λ t m le since. since;
    no_more = λ t m le since. absurd since;
  }

  -- A call of a twin that leaves the other disk leaves the same rest.
  pub twin_rest : (side : Side) → here.faults ≤ here_after.faults
      → HasSameRest (pair_over side here there input numbers input_faults) (pair_over side here_after there input_after numbers_after input_faults_after)
  twin_rest First more = record {
    turned = refl;
    other = record { disk = as_it_was there; moments = λ m since. absurd since };
    own = record { faults = more; moments = λ m since. absurd since };
    time = no_time First;
  }
  twin_rest Second more = record {
    turned = refl;
    other = record { disk = as_it_was there; moments = λ m since. absurd since };
    own = record { faults = more; moments = λ m since. absurd since };
    time = no_time Second;
  }

module _ (here there : Disk) (input : List ℕ) (numbers : Numbers) (input_faults : ℕ) where
  -- A twin whose disks change places is turned to its other side.
  pub turns_over : (turned side : Side) → (turned ≡ side → ⊥)
      → Turns side (pair_over turned here there input numbers input_faults) (pair_over side there here input numbers input_faults)
  turns_over First First other = absurd (other refl)
  turns_over First Second other = record {
    turned = refl;
    first = as_it_was here;
    second = as_it_was there;
    clock = refl;
    moments = λ t m since. since;
    only = λ t m since. since;
    announced = refl;
    least = refl;
    greatest = refl;
    input = refl;
    taken = refl;
    pulled_before = refl;
    input_faults = refl;
  }
  turns_over Second First other = record {
    turned = refl;
    first = as_it_was there;
    second = as_it_was here;
    clock = refl;
    moments = λ t m since. since;
    only = λ t m since. since;
    announced = refl;
    least = refl;
    greatest = refl;
    input = refl;
    taken = refl;
    pulled_before = refl;
    input_faults = refl;
  }
  turns_over Second Second other = absurd (other refl)

  -- A twin is turned to its side.
  pub turns_here : (turned side : Side) → turned ≡ side
      → Turns side (pair_over turned here there input numbers input_faults) (pair_over turned here there input numbers input_faults)
  turns_here turned side same = record {
    turned = same;
    first = as_it_was (first_disk_of turned here there);
    second = as_it_was (first_disk_of turned there here);
    clock = refl;
    moments = λ t m since. since;
    only = λ t m since. since;
    announced = refl;
    least = refl;
    greatest = refl;
    input = refl;
    taken = refl;
    pulled_before = refl;
    input_faults = refl;
  }
