-- What was given: what came of the input, and which side failed.
use Rattle.std.proofs.Common.{◌≡◌, ◌⊎◌, ⊎_elim, inl, inr, ℕ, Bool, true, false, List, [], ◌++◌, Option, Some, IsTrue, refl, sym}
use Rattle.std.proofs.Common.{subst, arith}
use Rattle.std.proofs.lemmas.List.{append-nil}
use Rattle.fdr_io.specs.Faults.{Rose}
use Rattle.fdr_deck.specs.State.{Tells}
use Rattle.fdr_twin.specs.declared.side.Side.{Side}
use Rattle.fdr_twin.specs.declared.side.Side.TheVariants.{First, Second}
use Rattle.fdr_twin.specs.Pair.{Pair, disk_on}
use Rattle.fdr_twin.specs.Serving.{EachPairMoment}
use Rattle.fdr_pair.specs.PairMoments.{HasFailedBeforePull}
use Rattle.fdr_pair.specs.Bringing.{HasNoFault}
use Rattle.fdr_pair.specs.PairRun.{PairRun}
use Rattle.fdr_pair.specs.PairWork.{IsLineMoment, LeavesLine}
use Rattle.fdr_pair.specs.declared.outcome.PairOutcome.TheVariants as outcome
use Rattle.fdr_pair.specs.PairMeaning.{PairGiven}
use Rattle.fdr_pair.specs.PairDoing.{GavePairInput, GavePairTable, FailsOnly, KeepsOn, Pulls, WasPairGiven}
use Rattle.fdr_load.specs.Supplies.{Supplied}

-- ---- the input

-- all bytes where they are told, or those that were pulled
abbrev pub all_of : Bool → List ℕ → List ℕ → List ℕ
all_of true all pulled = all
all_of false all pulled = pulled

all_or : (b : Bool) (all pulled : List ℕ) → ((b ≡ true) × (all_of b all pulled ≡ all)) ⊎ ((b ≡ true → ⊥) × (all_of b all pulled ≡ pulled))
all_or true all pulled = inl (refl, refl)
all_or false all pulled = inr (λ told. cc, refl)

-- what holds of both holds of the one that came
pub all_elim : (P : List ℕ → Type 0) (b : Bool) (all pulled : List ℕ) → (IsTrue b → P all) → P pulled → P (all_of b all pulled)
all_elim P true all pulled told of = told refl
all_elim P false all pulled told of = of

-- all of the input came, where it is told; else what was pulled
abbrev pub came_all : PairRun → List ℕ → Supplied
came_all r pulled = record { bytes = all_of r.tells.input r.old.input pulled; failed = false }

-- what was pulled came, and then a read failed
abbrev pub came_cut : List ℕ → Supplied
came_cut pulled = record { bytes = pulled; failed = true }

-- what was pulled came, and no read failed
abbrev pub came_part : List ℕ → Supplied
came_part pulled = record { bytes = pulled; failed = false }

pub gave_all : (r : PairRun) (pulled : List ℕ) → Pulls pulled r → GavePairInput (came_all r pulled) r
gave_all r pulled takes = record {
  whole = λ no. ⊎_elim
      (λ told. inl (told.0, told.1))
      (λ untold. inr (subst (λ (bytes : List ℕ). Pulls bytes r) (sym untold.1) takes, λ told. absurd (untold.0 told)))
      (all_or r.tells.input r.old.input pulled);
  cut = λ yes. absurd (cc);
}

pub gave_cut : (r : PairRun) (pulled : List ℕ) → Pulls pulled r → Rose r.old.input_faults r.new.input_faults → GavePairInput (came_cut pulled) r
gave_cut r pulled takes rose = record { whole = λ no. absurd (cc); cut = λ yes. (rose, takes) }

pub gave_part : (r : PairRun) (pulled : List ℕ) → Pulls pulled r → r.answer ≡ outcome.DiskFault → GavePairInput (came_part pulled) r
gave_part r pulled takes cut = record { whole = λ no. inr (takes, λ told. cut); cut = λ yes. absurd (cc) }

-- what was pulled is a front part of it
pub front_all : (r : PairRun) (pulled : List ℕ) → Pulls pulled r → (rest : List ℕ) × ((came_all r pulled).bytes ≡ pulled ++ rest)
front_all r pulled takes = all_elim (λ (bytes : List ℕ). (rest : List ℕ) × (bytes ≡ pulled ++ rest)) r.tells.input r.old.input pulled
    (λ line. (r.new.input, takes.input line)) ([], sym (append-nil pulled))

pub front_same : (pulled : List ℕ) → (rest : List ℕ) × (pulled ≡ pulled ++ rest)
front_same pulled = ([], sym (append-nil pulled))

-- nothing was pulled
takes_none : (r : PairRun) → LeavesLine r.old r.new → Pulls [] r
takes_none r line = record { taken = omega (arith, line.taken); input = λ told. sym line.input }

pub gave_none : (r : PairRun) → LeavesLine r.old r.new → GavePairInput (came_all r []) r
gave_none r line = gave_all r [] (takes_none r line)

-- ---- the table

pub whole : (r : PairRun) (bytes : List ℕ) → r.rest_before ≡ Some bytes → GavePairTable (record { bytes = bytes; failed = false }) r
whole r bytes is = record { whole = λ no. is; cut = λ yes. absurd (cc) }

-- ---- the side that failed

-- what was given, by the side that failed
abbrev pub given_by : PairRun → Supplied → Supplied → Option Side → PairGiven
given_by r table came failed = record { table = table; input = came; image = λ (side : Side). (disk_on side r.old).held; failed = failed }

pub was_given : (r : PairRun) (table came : Supplied) (failed : Option Side) → GavePairTable table r → GavePairInput came r
    → ((side : Side) → failed ≡ Some side → HasFailedBeforePull r.tells side r.old r.new) → WasPairGiven (given_by r table came failed) r
was_given r table came failed of_table of_input of_side = record { table = of_table; input = of_input; image = refl; failed = of_side }

-- a side failed before anything was pulled, as nothing was
pub failed_idle : (tells : Tells) (side : Side) (old new : Pair) → EachPairMoment tells old new (IsLineMoment old)
    → Rose (disk_on side old).faults (disk_on side new).faults → HasFailedBeforePull tells side old new
failed_idle tells side old new idle rose =
    record { now = rose; moments = λ stops m since pulled. absurd (omega (arith, (idle stops m since).taken, pulled)) }

-- ---- nothing was pulled

-- where nothing is pulled, there is nothing to keep from the first pulled byte on
pub keeps_idle : (r : PairRun) (g : PairGiven) → LeavesLine r.old r.new → EachPairMoment r.tells r.old r.new (IsLineMoment r.old) → KeepsOn g r
keeps_idle r g line idle = record {
  pulled = [];
  pulls = takes_none r line;
  front = (g.input.bytes, refl);
  each = λ side none may stops m since pulled. absurd (omega (arith, (idle stops m since).taken, pulled));
  failed = λ side none may stops m since pulled. absurd (omega (arith, (idle stops m since).taken, pulled));
  in_time = λ may stops m since. record {
    pulled = inl (record { taken = (idle stops m since).taken; pulled_before = (idle stops m since).pulled_before });
  };
}

-- ---- no further side failed

pub none_failed : (r : PairRun) → HasNoFault r.old r.new → (s : Side) → (disk_on s r.new).faults ≡ (disk_on s r.old).faults
none_failed r none First = none.first
none_failed r none Second = none.second

pub fails_none : (r : PairRun) (g : PairGiven) → HasNoFault r.old r.new → FailsOnly g r
fails_none r g none side = inr (none_failed r none side)
