-- A call of a deck over a storage.
use Rattle.std.specs.Prelude.{◌≡◌, ◌⊎◌, ℕ, ◌+◌, ◌<◌, ◌≤◌, List, cond, length, replicate, IsTrue}
use Rattle.fdr_deck.specs.State.{Moment}
use Rattle.fdr_deck.specs.Disk.{IsZeros}
use Rattle.fdr_deck.specs.Announced.{least_announced, greatest_announced}
use Rattle.fdr_storage.specs.Disk.{Told, StoredFile, IsIn, span_of, begun_of}
use Rattle.fdr_storage.specs.Calls.{IsFileSettled}
use Rattle.fdr_storage.specs.declared.numbers.Numbers.{Numbers}

-- The announced number is the only one since a call of the disk.
pub record HasFreshNumber (n : Numbers) : Type 0 where
  pub least : least_announced n.announced ≡ n.announced.number
  pub greatest : greatest_announced n.announced ≡ n.announced.number

-- The numbers are the same, but that no other one may have been announced since.
pub record KeepsNumbers (old new : Numbers) : Type 0 where
  pub taken : new.taken ≡ old.taken
  pub pulled_before : new.pulled_before ≡ old.pulled_before
  pub announced : new.announced.number ≡ old.announced.number
  pub since : HasFreshNumber new ⊎ ((least_announced new.announced ≡ least_announced old.announced)
      × (greatest_announced new.announced ≡ greatest_announced old.announced))

-- A file holds this many zeros, and is settled.
pub record IsFileFilled (told : Told) (size : ℕ) (new : StoredFile) : Type 0 where
  pub held : IsTrue told.bytes → new.held ≡ replicate size 0
  pub settled : IsTrue told.stops → IsFileSettled new

-- An empty file was given some zeros, at most `size` of them. A stop leaves some zeros, or what it could leave before.
pub record FillsPart (told : Told) (size : ℕ) (old new : StoredFile) : Type 0 where
  pub held : IsTrue told.bytes → IsZeros size new.held
  pub no_more : IsTrue told.stops → (image : List ℕ) → new.may_leave image → old.may_leave image ⊎ IsZeros size image
  pub no_less : IsTrue told.stops → (image : List ℕ) → old.may_leave image → new.may_leave image

-- Time went on by a call that began with these numbers, and left those: the moments from before are past, or still those of now.
-- Each moment that was added is the one at which the call began, or has an image from before it or after it and the number
-- announced last.
pub record Runs (told : Told) (before after : Numbers) (old new : StoredFile) : Type 0 where
  pub numbers : KeepsNumbers before after
  -- where the call couldn't begin, a stop leaves no image that it couldn't leave before
  pub started : HasFreshNumber after ⊎ ((image : List ℕ) → new.may_leave image → old.may_leave image)
  pub later : old.clock ≤ new.clock
  pub earlier : IsTrue told.stops → (t : ℕ) (m : Moment) → t ≤ old.clock → old.past t m → new.past t m
  pub kept : IsTrue told.stops → (t : ℕ) (m : Moment) → t ≤ old.clock → IsIn old.may_leave (span_of before) m
      → new.past t m ⊎ IsIn new.may_leave (span_of after) m
  pub no_more : IsTrue told.stops → (t : ℕ) (m : Moment) → t ≤ old.clock → new.past t m → old.past t m ⊎ new.past old.clock m
  pub moments : IsTrue told.stops → (m : Moment) → new.past old.clock m
      → IsIn old.may_leave (span_of before) m ⊎ IsIn (λ image. old.may_leave image ⊎ new.may_leave image) (begun_of before) m

-- Time went on by a call that began with these numbers, and left those, as in `Runs`, and at whose moments the images have the
-- property P.
pub record RunsBy (told : Told) (P : List ℕ → Type 0) (before after : Numbers) (old new : StoredFile) : Type 0 where
  pub numbers : KeepsNumbers before after
  pub started : HasFreshNumber after ⊎ ((image : List ℕ) → new.may_leave image → old.may_leave image)
  pub later : old.clock ≤ new.clock
  pub earlier : IsTrue told.stops → (t : ℕ) (m : Moment) → t ≤ old.clock → old.past t m → new.past t m
  pub kept : IsTrue told.stops → (t : ℕ) (m : Moment) → t ≤ old.clock → IsIn old.may_leave (span_of before) m
      → new.past t m ⊎ IsIn new.may_leave (span_of after) m
  pub no_more : IsTrue told.stops → (t : ℕ) (m : Moment) → t ≤ old.clock → new.past t m → old.past t m ⊎ new.past old.clock m
  pub moments : IsTrue told.stops → (m : Moment) → new.past old.clock m → IsIn old.may_leave (span_of before) m ⊎ IsIn P (begun_of before) m
  pub now : IsTrue told.stops → (image : List ℕ) → new.may_leave image → P image

-- The call has begun: no other number was announced since, and the storage has its numbers.
pub record HasBegun (told : Told) (before after : Numbers) (new : StoredFile) : Type 0 where
  pub fresh : HasFreshNumber after
  pub begun : IsTrue told.stops → new.begun ≡ begun_of before

-- A pull took n bytes.
pub record Takes (n : ℕ) (old new : Numbers) : Type 0 where
  pub fresh : HasFreshNumber new
  pub announced : new.announced.number ≡ old.announced.number
  pub taken : new.taken ≡ old.taken + n
  pub began : 0 < n → new.pulled_before ≡ old.taken
  pub ended : n ≡ 0 → new.pulled_before ≡ old.pulled_before

-- the length of a file: that of its bytes where they are told, and otherwise what is known of it, or 0
abbrev pub extent_of : Told → StoredFile → ℕ → ℕ
extent_of told d known = cond told.bytes (length d.held) known
