-- What of the payloads of a run goes out where reading them ends early.
use Rattle.std.proofs.Common.{ℕ, [], ◌++◌, List, Option, sym}
use Rattle.fdr_io.specs.Output.{Emits, EmitsPart}
use Rattle.fdr_io.proofs.Telling.{followed_by-nil}
use Rattle.fdr_io.proofs.OutputSteps.{EmitsPart-then}

-- nothing was written
nothing_emitted : (written : Option (List ℕ)) (waiting text : List ℕ) → EmitsPart written written waiting text
nothing_emitted written waiting text = record { count = 0; written = sym (followed_by-nil written) }

-- a front part of all went out, where the first bytes were added and some of them still wait
pub part_of_front : (a b : Option (List ℕ)) (waiting bytes rest : List ℕ) → Emits a b [] waiting bytes → EmitsPart a b [] (bytes ++ rest)
part_of_front a b waiting bytes rest emits = EmitsPart-then a b b [] waiting bytes rest emits (nothing_emitted b waiting rest)
