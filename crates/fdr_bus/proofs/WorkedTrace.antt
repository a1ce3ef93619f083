-- The definitions on a short trace: a word at 15,625 microseconds, an end at 4 seconds, and a byte after it.
use Rattle.std.proofs.Common.{◌≡◌, ℕ, ◌∷◌, ◌++◌, [], List, Some, None, refl}
use Rattle.std.specs.Prelude.{replicate}
use Rattle.fdr_bus.specs.Records.{record_of, is_good, record_fault, whole_records, most_records, good_prefix, fault_after, trace_fault}
use Rattle.fdr_bus.specs.declared.BusRecord.{BusRecord}
use Rattle.fdr_bus.specs.declared.RecordKind.TheVariants.{Word, End}
use Rattle.fdr_bus.specs.declared.TraceFault.TheVariants as fault

word_bytes : List ℕ
word_bytes = 1 ∷ 0 ∷ 0 ∷ 0 ∷ 0 ∷ 0 ∷ 0x14 ∷ 0xc1 ∷ 0 ∷ 0 ∷ 0 ∷ 0 ∷ 0 ∷ 0 ∷ 0x3d ∷ 0x09 ∷ []

end_bytes : List ℕ
end_bytes = 2 ∷ 0 ∷ 0 ∷ 0 ∷ 0 ∷ 0 ∷ 0 ∷ 0 ∷ 0 ∷ 0 ∷ 0 ∷ 0 ∷ 0 ∷ 0x3d ∷ 0x09 ∷ 0 ∷ []

end_bytes_at_0 : List ℕ
end_bytes_at_0 = 2 ∷ replicate 15 0

word_record : BusRecord
word_record = record { kind = Word; bus = 0; word = 0x14c1; time = 15625 }

end_record : BusRecord
end_record = record { kind = End; bus = 0; word = 0; time = 4000000 }

good : good_prefix ((word_bytes ++ end_bytes) ++ 7 ∷ []) ≡ word_record ∷ end_record ∷ []
unfolding good_prefix whole_records most_records record_of is_good word_bytes end_bytes word_record end_record
good = refl

no_fault : trace_fault ((word_bytes ++ end_bytes) ++ 7 ∷ []) ≡ None
unfolding trace_fault fault_after record_fault good_prefix whole_records most_records record_of is_good word_bytes end_bytes
no_fault = refl

truncated : trace_fault (word_bytes ++ 7 ∷ []) ≡ Some (1, fault.Truncated)
unfolding trace_fault fault_after record_fault good_prefix whole_records most_records record_of is_good word_bytes
truncated = refl

goes_back : trace_fault ((word_bytes ++ end_bytes_at_0) ++ end_bytes) ≡ Some (1, fault.Back)
unfolding trace_fault fault_after record_fault good_prefix whole_records most_records record_of is_good word_bytes end_bytes end_bytes_at_0
goes_back = refl

wrong_kind : trace_fault (word_bytes ++ replicate 16 7) ≡ Some (1, fault.Kind)
unfolding trace_fault fault_after record_fault good_prefix whole_records most_records record_of is_good word_bytes
wrong_kind = refl
