-- A storage that tells nothing.
use Rattle.std.specs.Prelude.{[], false, IsTrue}
use Rattle.std.proofs.lemmas.Bool.{false≢true}
use Rattle.fdr_storage.specs.Disk.{Told, StoredFile, IsSoundDisk}

-- the storage of a program tells neither its bytes nor its stops
abbrev pub telling_nothing : Told
telling_nothing = record { bytes = false; stops = false }

-- what is seen of it
abbrev pub unknown_disk : StoredFile
unknown_disk = record {
  held = [];
  may_leave = λ image. ⊥;
  clock = 0;
  past = λ t m. ⊥;
  begun = record { least = 0; greatest = 0; taken = 0; pulled_before = 0 };
  faults = 0;
  interruptions = 0;
  whole = false;
  flushed = false;
}

-- A storage that tells nothing is sound.
pub unknown_is_sound : IsSoundDisk telling_nothing unknown_disk
unknown_is_sound = record {
  stops_need_bytes = λ told. absurd (false≢true told);
  fits = λ told. absurd (false≢true told);
  held = λ told. absurd (false≢true told);
  over = λ told m past. past;
  falls = λ told earlier t m le now past. past;
}

-- Of a storage that tells nothing it isn't said what isn't there.
pub nothing_is_absent : {P : Type 0} → IsTrue telling_nothing.bytes → P
nothing_is_absent told = absurd (false≢true told)
