-- Stretches of a list of blocks: cut where two neighbours don't belong together.
use Rattle.std.specs.Prelude.{◌≡◌, ◌<◌, ℕ, false, Bool, if◌then◌else◌, List, [], ◌∷◌, ◌++◌, length, All, IsTrue}
use Rattle.std.specs.List.{flat_map}
use Rattle.fdr_recover.specs.Blocks.{Block}

-- the stretches of a list with one more block in front: it joins the first of them, where it belongs together with that one's
-- first block, and else is a stretch by itself
abbrev pub in_front : (Block → Block → Bool) → Block → List (List Block) → List (List Block)
in_front together b [] = (b ∷ []) ∷ []
in_front together b ([] ∷ rest) = (b ∷ []) ∷ rest
in_front together b ((c ∷ cs) ∷ rest) = if together b c then (b ∷ c ∷ cs) ∷ rest else (b ∷ []) ∷ (c ∷ cs) ∷ rest

-- the stretches of a list of blocks, cut exactly where two neighbours don't belong together
abbrev pub stretches : (Block → Block → Bool) → List Block → List (List Block)
stretches together [] = []
stretches together (b ∷ bs) = in_front together b (stretches together bs)

-- Two blocks are next to each other in a list.
abbrev pub AreNeighbours : List Block → Block → Block → Type 0
AreNeighbours blocks b c = (before after : List Block) × (blocks ≡ before ++ b ∷ c ∷ after)

-- One block is the last of a part, and the other the first of the next part.
abbrev pub MeetBetween : List (List Block) → Block → Block → Type 0
MeetBetween parts b c =
    (before after : List (List Block)) × (front back : List Block) × (parts ≡ before ++ (front ++ b ∷ []) ∷ (c ∷ back) ∷ after)

-- The parts are the stretches of the whole: put together they are the whole, none is empty, within each all neighbours belong
-- together, and where two of them meet they don't.
pub record AreStretches (together : Block → Block → Bool) (whole : List Block) (parts : List (List Block)) : Type 0 where
  pub all : flat_map (λ (part : List Block). part) parts ≡ whole
  pub not_empty : All (λ (part : List Block). 0 < length part) parts
  pub within : All (λ (part : List Block). (b c : Block) → AreNeighbours part b c → IsTrue (together b c)) parts
  pub apart : (b c : Block) → MeetBetween parts b c → together b c ≡ false

-- the session of the last block of a list, or 0 where there is none
abbrev pub last_session : List Block → ℕ
last_session [] = 0
last_session (b ∷ []) = b.session
last_session (b ∷ c ∷ bs) = last_session (c ∷ bs)
