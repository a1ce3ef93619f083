-- What opening a file by its name found.
use Rattle.std.specs.Prelude.{◌≡◌, Bool, false, ⊤}
use Rattle.fdr_storage_deck.specs.declared.opening.Found.{Found}
use Rattle.fdr_storage_deck.specs.declared.opening.Found.TheVariants.{Open, Unlocked, Missing, NoFile, Link}

-- What was found agrees with whether there is something of this name, where that is told. Where it is told, what is there is a
-- file, and has a lock.
abbrev pub Agrees : Found → Bool → Type 0
Agrees Open there = ⊤
Agrees (Unlocked node) there = ⊥
Agrees Missing there = there ≡ false
Agrees (NoFile kind) there = ⊥
Agrees Link there = ⊥
