-- What a parameter table says: its frame row, its parameters and its places.
use Rattle.std.specs.Prelude.{ℕ, ℤ, Bool, List, Option}

-- what a frame row says: the words in a subframe, and the word and the subframe that carry the frame counter
pub record FrameRow : Type 0 where
  pub words : ℕ
  pub cword : ℕ
  pub csub : ℕ

-- what a parameter's row says: its name; the field of a bus word that it is read from; its scale, offset and decimals; its
-- samples in a superframe; for how many microseconds a bus word counts as fresh, where that ends at all, and whether the
-- parameter tells just that; and the row's number
pub record ParamRow : Type 0 where
  pub name : List ℕ
  pub bus : ℕ
  pub label : ℕ
  pub sdi : Option ℕ
  pub lsb : ℕ
  pub width : ℕ
  pub signed : Bool
  pub num : ℤ
  pub den : ℤ
  pub offset : ℤ
  pub decimals : ℕ
  pub rate : ℕ
  pub age : Option ℕ
  pub tells : Bool
  pub row : ℕ

-- what a place's row says, where a part of a parameter stands: the parameter and the part; the set of subframes, whose bit s - 1
-- says that subframe s is in it; the words and the bits; the frames; and the row's number
pub record PlaceRow : Type 0 where
  pub param : ℕ
  pub part : ℕ
  pub subs : ℕ
  pub word : ℕ
  pub step : ℕ
  pub lsb : ℕ
  pub width : ℕ
  pub cycle : ℕ
  pub period : ℕ
  pub row : ℕ

-- what a table says: its frame row, its parameters and its places in order, and the number of its rows
pub record TableRows : Type 0 where
  pub frame : FrameRow
  pub params : List ParamRow
  pub places : List PlaceRow
  pub rows : ℕ
