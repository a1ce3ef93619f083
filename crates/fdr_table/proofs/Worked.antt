-- The faults of some small tables.
use Rattle.std.proofs.Common.{◌≡◌, refl, ℕ, List, [], ◌∷◌, Option, Some, None}
use Rattle.std.specs.Prelude.{codes, map}
use Rattle.fdr_table.specs.Fields.{decimal_of, word_count_of, number_in, number_among, signed_within, label_field, sdi_field, subframes_of, sign_of, age_field}
use Rattle.fdr_table.specs.Fields.{is_name}
use Rattle.fdr_table.specs.Reading.{Row, field, row_kind, frame_misread, param_misread, place_misread, misnamed}
use Rattle.fdr_table.specs.Faults.{first_fault}
use Rattle.fdr_table.specs.declared.fault.TableFault.{TableFault}
use Rattle.fdr_table.specs.declared.fault.TableFault.TheVariants as fault

abbrev frame : Row
frame = codes "F" ∷ codes "64" ∷ codes "2" ∷ codes "1" ∷ []

abbrev param : List ℕ → Row
param name = codes "P" ∷ name ∷ codes "0" ∷ codes "203" ∷ [] ∷ codes "11" ∷ codes "12" ∷ codes "U" ∷ codes "1" ∷ codes "1" ∷ codes "0" ∷ codes "0" ∷ codes "16"
    ∷ []

abbrev telling : List ℕ → Row → Row
telling width rest = codes "P" ∷ codes "OK" ∷ codes "0" ∷ codes "203" ∷ [] ∷ codes "11" ∷ width ∷ codes "V" ∷ codes "1" ∷ codes "1" ∷ codes "0" ∷ codes "0"
    ∷ codes "16" ∷ rest

abbrev place : List ℕ → List ℕ → List ℕ → Row
place name cycle period = codes "L" ∷ name ∷ codes "1" ∷ codes "1" ∷ codes "10" ∷ codes "0" ∷ codes "1" ∷ codes "12" ∷ cycle ∷ period ∷ []

abbrev with_cycle : List ℕ → List ℕ → List Row
with_cycle cycle period = frame ∷ param (codes "ALT") ∷ place (codes "ALT") cycle period ∷ []

-- a table, and its first fault
abbrev Case : Type 0
Case = List Row × Option (ℕ × TableFault)

-- a cycle is below its period, or at most 15 where that doesn't read; a parameter that tells freshness has one bit, an age is 1 to 64,000,000, or empty, and
-- no field comes after it
cases : List Case
cases = ([], Some (0, fault.NoFrame)) ∷ ((codes "X" ∷ codes "1" ∷ []) ∷ [], Some (0, fault.Shape))
    ∷ ((codes "F" ∷ codes "64" ∷ codes "2" ∷ []) ∷ [], Some (0, fault.Shape))
    ∷ ((codes "F" ∷ codes "65" ∷ codes "2" ∷ codes "1" ∷ []) ∷ [], Some (0, fault.Number 1))
    ∷ (frame ∷ frame ∷ [], Some (1, fault.TwoFrames)) ∷ (param (codes "ALT") ∷ [], Some (0, fault.NoFrame))
    ∷ (frame ∷ param (codes "A B") ∷ place (codes "A B") (codes "0") (codes "1") ∷ [], Some (1, fault.Name))
    ∷ (frame ∷ param (codes "ALT") ∷ param (codes "ALT") ∷ [], Some (2, fault.Twice))
    ∷ (frame ∷ place (codes "ALT") (codes "0") (codes "1") ∷ [], Some (1, fault.Unknown))
    ∷ (with_cycle (codes "1") (codes "1"), Some (2, fault.Number 8)) ∷ (with_cycle (codes "5") (codes "3"), Some (2, fault.Number 9))
    ∷ (with_cycle (codes "16") (codes "3"), Some (2, fault.Number 8)) ∷ (with_cycle (codes "3") (codes "4"), None)
    ∷ (frame ∷ telling (codes "2") [] ∷ [], Some (1, fault.Number 7)) ∷ (frame ∷ telling (codes "1") [] ∷ [], None)
    ∷ (frame ∷ telling (codes "1") ([] ∷ []) ∷ [], None) ∷ (frame ∷ telling (codes "1") (codes "0" ∷ []) ∷ [], Some (1, fault.Number 13))
    ∷ (frame ∷ telling (codes "1") (codes "64000000" ∷ []) ∷ [], None)
    ∷ (frame ∷ telling (codes "1") (codes "64000001" ∷ []) ∷ [], Some (1, fault.Number 13))
    ∷ (frame ∷ telling (codes "1") (codes "1" ∷ [] ∷ []) ∷ [], Some (1, fault.Shape)) ∷ []

right : map (λ (e : Case). first_fault e.0) cases ≡ map (λ (e : Case). e.1) cases
unfolding cases row_kind field frame_misread param_misread place_misread misnamed word_count_of number_in number_among decimal_of signed_within label_field
    sdi_field sign_of age_field subframes_of is_name
right = refl
