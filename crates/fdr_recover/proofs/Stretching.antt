-- Stretches of a list of blocks: one block more, two lists, all together, and that there is one such cut.
use Rattle.std.proofs.Common.{◌≡◌, ⊎_elim, ◌<◌, ◌≤◌, Bool, true, false, List, [], ◌∷◌, ◌++◌, length, refl, sym, ap, ◌∙◌, subst, arith, length-append}
use Rattle.std.specs.Prelude.{if◌then◌else◌, All, IsTrue}
use Rattle.std.specs.List.{flat_map}
use Rattle.std.proofs.lemmas.Bool.{cases_Bool}
use Rattle.std.proofs.lemmas.List.{append-nil, append_assoc}
use Rattle.std.proofs.lemmas.Grind.{flat_map-append}
use Rattle.std.proofs.lemmas.List.Elements.{All-nil, All-cons, All-head, All-tail}
use Rattle.fdr_recover.specs.Blocks.{Block}
use Rattle.fdr_recover.specs.Stretches.{in_front, stretches, AreNeighbours, MeetBetween, AreStretches, last_session}

abbrev Test : Type 0
Test = Block → Block → Bool

in_front-with : (together : Test) (b c : Block) (cs : List Block) (rest : List (List Block)) → together b c ≡ true
    → in_front together b ((c ∷ cs) ∷ rest) ≡ (b ∷ c ∷ cs) ∷ rest
in_front-with together b c cs rest belong = rw belong refl

in_front-apart : (together : Test) (b c : Block) (cs : List Block) (rest : List (List Block)) → together b c ≡ false
    → in_front together b ((c ∷ cs) ∷ rest) ≡ (b ∷ []) ∷ (c ∷ cs) ∷ rest
in_front-apart together b c cs rest differ = rw differ refl

-- a first stretch that begins with this block
abbrev BeginsWith : Block → List (List Block) → Type 0
BeginsWith b parts = (bs : List Block) × (rest : List (List Block)) × (parts ≡ (b ∷ bs) ∷ rest)

in_front-begins : (together : Test) (b : Block) (parts : List (List Block)) → BeginsWith b (in_front together b parts)
in_front-begins together b [] = ([], [], refl)
in_front-begins together b ([] ∷ rest) = ([], rest, refl)
in_front-begins together b ((c ∷ cs) ∷ rest) = ⊎_elim
    (λ belong. (c ∷ cs, rest, in_front-with together b c cs rest belong))
    (λ differ. ([], (c ∷ cs) ∷ rest, in_front-apart together b c cs rest differ))
    (cases_Bool (together b c))

-- a block before stretches and further ones
in_front-more : (together : Test) (b c : Block) (cs : List Block) (rest more : List (List Block))
    → in_front together b ((c ∷ cs) ∷ rest ++ more) ≡ in_front together b ((c ∷ cs) ∷ rest) ++ more
in_front-more together b c cs rest more = ⊎_elim (λ belong. rw belong refl) (λ differ. rw differ refl) (cases_Bool (together b c))

-- the stretches of a list that isn't empty begin with its first block
stretches-begin : (together : Test) (b : Block) (bs : List Block) → BeginsWith b (stretches together (b ∷ bs))
stretches-begin together b bs = in_front-begins together b (stretches together bs)

-- a block before a list whose stretches are known to begin
front_more : (together : Test) (x y : Block) (ys : List Block) (more : List (List Block))
    → in_front together x (stretches together (y ∷ ys) ++ more) ≡ in_front together x (stretches together (y ∷ ys)) ++ more
front_more together x y ys more =
    let shape = stretches-begin together y ys in
    ap (λ parts. in_front together x (parts ++ more)) shape.2
    ∙ in_front-more together x y shape.0 shape.1 more
    ∙ ap (λ parts. in_front together x parts ++ more) (sym shape.2)

-- two lists, of which the last block and the first don't belong together
pub stretches-apart : (together : Test) (xs : List Block) (b c : Block) (ys : List Block) → together b c ≡ false
    → stretches together ((xs ++ b ∷ []) ++ c ∷ ys) ≡ stretches together (xs ++ b ∷ []) ++ stretches together (c ∷ ys)
stretches-apart together [] b c ys differ =
    let shape = stretches-begin together c ys in
    ap (in_front together b) shape.2
    ∙ in_front-apart together b c shape.0 shape.1 differ
    ∙ ap (λ parts. (b ∷ []) ∷ parts) (sym shape.2)
stretches-apart together (x ∷ []) b c ys differ =
    ap (in_front together x) (stretches-apart together [] b c ys differ) ∙ front_more together x b [] (stretches together (c ∷ ys))
stretches-apart together (x ∷ y ∷ xs) b c ys differ =
    ap (in_front together x) (stretches-apart together (y ∷ xs) b c ys differ) ∙ front_more together x y (xs ++ b ∷ []) (stretches together (c ∷ ys))

-- the last stretch, with a block more
abbrev with_last : List (List Block) → Block → List (List Block)
with_last [] c = []
with_last (part ∷ []) c = (part ++ c ∷ []) ∷ []
with_last (part ∷ next ∷ rest) c = part ∷ with_last (next ∷ rest) c

with_last-at : (closed : List (List Block)) (latest : List Block) (c : Block) → with_last (closed ++ latest ∷ []) c ≡ closed ++ (latest ++ c ∷ []) ∷ []
with_last-at [] latest c = refl
with_last-at (part ∷ []) latest c = refl
with_last-at (part ∷ next ∷ rest) latest c = ap (λ xs. part ∷ xs) (with_last-at (next ∷ rest) latest c)

in_front-last : (together : Test) (x y : Block) (ys : List Block) (rest : List (List Block)) (c : Block)
    → in_front together x (with_last ((y ∷ ys) ∷ rest) c) ≡ with_last (in_front together x ((y ∷ ys) ∷ rest)) c
in_front-last together x y ys [] c = ⊎_elim (λ belong. rw belong refl) (λ differ. rw differ refl) (cases_Bool (together x y))
in_front-last together x y ys (next ∷ rest) c = ⊎_elim (λ belong. rw belong refl) (λ differ. rw differ refl) (cases_Bool (together x y))

front_last : (together : Test) (x y : Block) (ys : List Block) (c : Block)
    → in_front together x (with_last (stretches together (y ∷ ys)) c) ≡ with_last (in_front together x (stretches together (y ∷ ys))) c
front_last together x y ys c =
    let shape = stretches-begin together y ys in
    ap (λ parts. in_front together x (with_last parts c)) shape.2
    ∙ in_front-last together x y shape.0 shape.1 c
    ∙ ap (λ parts. with_last (in_front together x parts) c) (sym shape.2)

stretches-with_last : (together : Test) (xs : List Block) (b c : Block) → together b c ≡ true
    → stretches together ((xs ++ b ∷ []) ++ c ∷ []) ≡ with_last (stretches together (xs ++ b ∷ [])) c
stretches-with_last together [] b c belong = in_front-with together b c [] [] belong
stretches-with_last together (x ∷ []) b c belong =
    ap (in_front together x) (stretches-with_last together [] b c belong) ∙ front_last together x b [] c
stretches-with_last together (x ∷ y ∷ xs) b c belong =
    ap (in_front together x) (stretches-with_last together (y ∷ xs) b c belong) ∙ front_last together x y (xs ++ b ∷ []) c

-- all parts make up the list
abbrev join : List (List Block) → List Block
join parts = flat_map (λ (part : List Block). part) parts

join-in_front : (together : Test) (b : Block) (parts : List (List Block)) → join (in_front together b parts) ≡ b ∷ join parts
join-in_front together b [] = refl
join-in_front together b ([] ∷ rest) = refl
join-in_front together b ((c ∷ cs) ∷ rest) = ⊎_elim (λ belong. rw belong refl) (λ differ. rw differ refl) (cases_Bool (together b c))

-- the stretches make up the list
pub stretches-all : (together : Test) (blocks : List Block) → flat_map (λ (part : List Block). part) (stretches together blocks) ≡ blocks
stretches-all together [] = refl
stretches-all together (b ∷ bs) = join-in_front together b (stretches together bs) ∙ ap (λ xs. b ∷ xs) (stretches-all together bs)

-- One block more, of stretches of which the last is open: it goes into that one, or begins another.
module _ (together : Test) (blocks : List Block) (closed : List (List Block)) (latest : List Block) (b c : Block)
    (is : stretches together blocks ≡ closed ++ (latest ++ b ∷ []) ∷ []) where
  the_blocks : blocks ≡ (flat_map (λ (part : List Block). part) closed ++ latest) ++ b ∷ []
  the_blocks =
      sym (stretches-all together blocks)
      ∙ ap (λ parts. flat_map (λ (part : List Block). part) parts) is
      ∙ flat_map-append (λ (part : List Block). part) closed ((latest ++ b ∷ []) ∷ [])
      ∙ ap (λ xs. flat_map (λ (part : List Block). part) closed ++ xs) (append-nil (latest ++ b ∷ []))
      ∙ sym (append_assoc (flat_map (λ (part : List Block). part) closed) latest (b ∷ []))

  pub stretches-push_with : together b c ≡ true → stretches together (blocks ++ c ∷ []) ≡ closed ++ ((latest ++ b ∷ []) ++ c ∷ []) ∷ []
  stretches-push_with belong =
      let front : List Block = flat_map (λ (part : List Block). part) closed ++ latest in
      ap (λ xs. stretches together (xs ++ c ∷ [])) the_blocks
      ∙ stretches-with_last together front b c belong
      ∙ ap (λ xs. with_last (stretches together xs) c) (sym the_blocks)
      ∙ ap (λ parts. with_last parts c) is
      ∙ with_last-at closed (latest ++ b ∷ []) c

  pub stretches-push_apart : together b c ≡ false → stretches together (blocks ++ c ∷ []) ≡ (closed ++ (latest ++ b ∷ []) ∷ []) ++ (c ∷ []) ∷ []
  stretches-push_apart differ =
      let front : List Block = flat_map (λ (part : List Block). part) closed ++ latest in
      ap (λ xs. stretches together (xs ++ c ∷ [])) the_blocks
      ∙ stretches-apart together front b c [] differ
      ∙ ap (λ xs. stretches together xs ++ (c ∷ []) ∷ []) (sym the_blocks)
      ∙ ap (λ parts. parts ++ (c ∷ []) ∷ []) is

-- a list in which any two blocks belong together is one stretch
pub stretches-one : (together : Test) (Kind : Block → Type 0) → ((x y : Block) → Kind x → Kind y → together x y ≡ true) → (b : Block) (bs : List Block)
    → All Kind (b ∷ bs) → stretches together (b ∷ bs) ≡ (b ∷ bs) ∷ []
stretches-one together Kind alike b [] kinds = refl
stretches-one together Kind alike b (c ∷ cs) kinds =
    let rest = All-tail Kind b (c ∷ cs) kinds in
    ap (in_front together b) (stretches-one together Kind alike c cs rest)
    ∙ in_front-with together b c cs [] (alike b c (All-head Kind b (c ∷ cs) kinds) (All-head Kind c cs rest))

-- one stretch, where all neighbours belong together
within_one : (together : Test) (b : Block) (bs : List Block) → ((x y : Block) → AreNeighbours (b ∷ bs) x y → IsTrue (together x y))
    → stretches together (b ∷ bs) ≡ (b ∷ bs) ∷ []
within_one together b [] within = refl
within_one together b (c ∷ cs) within =
    ap (in_front together b) (within_one together c cs (λ x y near. within x y (b ∷ near.0, near.1, ap (λ xs. b ∷ xs) near.2)))
    ∙ in_front-with together b c cs [] (within b c ([], cs, refl))

-- a block, and the neighbours after it
abbrev NeighboursBelong : Test → List Block → Type 0
NeighboursBelong together part = (b c : Block) → AreNeighbours part b c → IsTrue (together b c)

alone : (together : Test) (b : Block) → NeighboursBelong together (b ∷ [])
alone together b x y near = absurd (omega (arith, ap length near.2, length-append near.0 (x ∷ y ∷ near.1)))

with_first_at : (together : Test) (b c : Block) (cs : List Block) → together b c ≡ true → NeighboursBelong together (c ∷ cs)
    → (x y : Block) (before after : List Block) → b ∷ c ∷ cs ≡ before ++ x ∷ y ∷ after → together x y ≡ true
with_first_at together b c cs belong rest x y [] after is =
    let plain : b ∷ c ∷ cs ≡ x ∷ y ∷ after = is in
    let one : b ≡ x = cc in
    let two : c ≡ y = cc in
    subst (λ z. together x z ≡ true) two (subst (λ z. together z c ≡ true) one belong)
with_first_at together b c cs belong rest x y (z ∷ before) after is =
    let plain : b ∷ c ∷ cs ≡ z ∷ (before ++ x ∷ y ∷ after) = is in
    let tail : c ∷ cs ≡ before ++ x ∷ y ∷ after = cc in
    rest x y (before, after, tail)

with_first : (together : Test) (b c : Block) (cs : List Block) → together b c ≡ true → NeighboursBelong together (c ∷ cs)
    → NeighboursBelong together (b ∷ c ∷ cs)
with_first together b c cs belong rest x y near = with_first_at together b c cs belong rest x y near.0 near.1 near.2

-- of stretches in which all neighbours belong together
in_front-within : (together : Test) (b : Block) (parts : List (List Block)) → All (NeighboursBelong together) parts
    → All (NeighboursBelong together) (in_front together b parts)
in_front-within together b [] within = All-cons (NeighboursBelong together) (b ∷ []) [] (alone together b) (All-nil (NeighboursBelong together))
in_front-within together b ([] ∷ rest) within =
    All-cons (NeighboursBelong together) (b ∷ []) rest (alone together b) (All-tail (NeighboursBelong together) [] rest within)
in_front-within together b ((c ∷ cs) ∷ rest) within =
    let P = NeighboursBelong together in
    ⊎_elim
    (λ belong. subst (All P) (sym (in_front-with together b c cs rest belong))
    (All-cons P (b ∷ c ∷ cs) rest (with_first together b c cs belong (All-head P (c ∷ cs) rest within)) (All-tail P (c ∷ cs) rest within)))
    (λ differ. subst (All P) (sym (in_front-apart together b c cs rest differ)) (All-cons P (b ∷ []) ((c ∷ cs) ∷ rest) (alone together b) within))
    (cases_Bool (together b c))

stretches-within : (together : Test) (blocks : List Block) → All (NeighboursBelong together) (stretches together blocks)
stretches-within together [] = All-nil (NeighboursBelong together)
stretches-within together (b ∷ bs) = in_front-within together b (stretches together bs) (stretches-within together bs)

abbrev HasBlocks : List Block → Type 0
HasBlocks part = 0 < length part

in_front-not_empty : (together : Test) (b : Block) (parts : List (List Block)) → All HasBlocks parts → All HasBlocks (in_front together b parts)
in_front-not_empty together b [] some = All-cons HasBlocks (b ∷ []) [] (omega arith) (All-nil HasBlocks)
in_front-not_empty together b ([] ∷ rest) some = All-cons HasBlocks (b ∷ []) rest (omega arith) (All-tail HasBlocks [] rest some)
in_front-not_empty together b ((c ∷ cs) ∷ rest) some = ⊎_elim
    (λ belong. subst (All HasBlocks) (sym (in_front-with together b c cs rest belong))
    (All-cons HasBlocks (b ∷ c ∷ cs) rest (omega arith) (All-tail HasBlocks (c ∷ cs) rest some)))
    (λ differ. subst (All HasBlocks) (sym (in_front-apart together b c cs rest differ)) (All-cons HasBlocks (b ∷ []) ((c ∷ cs) ∷ rest) (omega arith) some))
    (cases_Bool (together b c))

stretches-not_empty : (together : Test) (blocks : List Block) → All HasBlocks (stretches together blocks)
stretches-not_empty together [] = All-nil HasBlocks
stretches-not_empty together (b ∷ bs) = in_front-not_empty together b (stretches together bs) (stretches-not_empty together bs)

-- between two parts no blocks belong together
abbrev PartsApart : Test → List (List Block) → Type 0
PartsApart together parts = (b c : Block) → MeetBetween parts b c → together b c ≡ false

two_parts : (parts : List (List Block)) (x y : Block) → MeetBetween parts x y → 2 ≤ length parts
two_parts parts x y meet = omega (arith, ap length meet.4, length-append meet.0 ((meet.2 ++ x ∷ []) ∷ (y ∷ meet.3) ∷ meet.1))

no_parts : (together : Test) → PartsApart together []
no_parts together x y meet = absurd (omega (arith, two_parts [] x y meet))

one_part : (together : Test) (part : List Block) → PartsApart together (part ∷ [])
one_part together part x y meet = absurd (omega (arith, two_parts (part ∷ []) x y meet))

-- a longer first part
longer_at : (together : Test) (b c : Block) (cs : List Block) (rest : List (List Block)) → PartsApart together ((c ∷ cs) ∷ rest)
    → (x y : Block) (before after : List (List Block)) (front back : List Block)
    → (b ∷ c ∷ cs) ∷ rest ≡ before ++ (front ++ x ∷ []) ∷ (y ∷ back) ∷ after → together x y ≡ false
longer_at together b c cs rest apart x y [] after [] back is =
    let plain : (b ∷ c ∷ cs) ∷ rest ≡ (x ∷ []) ∷ (y ∷ back) ∷ after = is in
    absurd (cc)
longer_at together b c cs rest apart x y [] after (z ∷ front) back is =
    let plain : (b ∷ c ∷ cs) ∷ rest ≡ (z ∷ (front ++ x ∷ [])) ∷ (y ∷ back) ∷ after = is in
    let tail : (c ∷ cs) ∷ rest ≡ (front ++ x ∷ []) ∷ (y ∷ back) ∷ after = cc in
    apart x y ([], after, front, back, tail)
longer_at together b c cs rest apart x y (z ∷ before) after front back is =
    let plain : (b ∷ c ∷ cs) ∷ rest ≡ z ∷ (before ++ (front ++ x ∷ []) ∷ (y ∷ back) ∷ after) = is in
    let tail : (c ∷ cs) ∷ rest ≡ (c ∷ cs) ∷ (before ++ (front ++ x ∷ []) ∷ (y ∷ back) ∷ after) = cc in
    apart x y ((c ∷ cs) ∷ before, after, front, back, tail)

longer_part : (together : Test) (b c : Block) (cs : List Block) (rest : List (List Block)) → PartsApart together ((c ∷ cs) ∷ rest)
    → PartsApart together ((b ∷ c ∷ cs) ∷ rest)
longer_part together b c cs rest apart x y meet = longer_at together b c cs rest apart x y meet.0 meet.1 meet.2 meet.3 meet.4

-- a part more, of one block
another_at : (together : Test) (b c : Block) (cs : List Block) (rest : List (List Block)) → together b c ≡ false
    → PartsApart together ((c ∷ cs) ∷ rest) → (x y : Block) (before after : List (List Block)) (front back : List Block)
    → (b ∷ []) ∷ (c ∷ cs) ∷ rest ≡ before ++ (front ++ x ∷ []) ∷ (y ∷ back) ∷ after → together x y ≡ false
another_at together b c cs rest differ apart x y [] after [] back is =
    let plain : (b ∷ []) ∷ (c ∷ cs) ∷ rest ≡ (x ∷ []) ∷ (y ∷ back) ∷ after = is in
    let one : b ≡ x = cc in
    let two : c ≡ y = cc in
    subst (λ z. together x z ≡ false) two (subst (λ z. together z c ≡ false) one differ)
another_at together b c cs rest differ apart x y [] after (z ∷ front) back is =
    let plain : (b ∷ []) ∷ (c ∷ cs) ∷ rest ≡ (z ∷ (front ++ x ∷ [])) ∷ (y ∷ back) ∷ after = is in
    let none : [] ≡ front ++ x ∷ [] = cc in
    absurd (omega (arith, ap length none, length-append front (x ∷ [])))
another_at together b c cs rest differ apart x y (z ∷ before) after front back is =
    let plain : (b ∷ []) ∷ (c ∷ cs) ∷ rest ≡ z ∷ (before ++ (front ++ x ∷ []) ∷ (y ∷ back) ∷ after) = is in
    let tail : (c ∷ cs) ∷ rest ≡ before ++ (front ++ x ∷ []) ∷ (y ∷ back) ∷ after = cc in
    apart x y (before, after, front, back, tail)

another_part : (together : Test) (b c : Block) (cs : List Block) (rest : List (List Block)) → together b c ≡ false
    → PartsApart together ((c ∷ cs) ∷ rest) → PartsApart together ((b ∷ []) ∷ (c ∷ cs) ∷ rest)
another_part together b c cs rest differ apart x y meet = another_at together b c cs rest differ apart x y meet.0 meet.1 meet.2 meet.3 meet.4

-- parts after an empty one are none, of stretches
in_front-parts : (together : Test) (b : Block) (parts : List (List Block)) → All HasBlocks parts → PartsApart together parts
    → PartsApart together (in_front together b parts)
in_front-parts together b [] some apart = one_part together (b ∷ [])
in_front-parts together b ([] ∷ rest) some apart = absurd (omega (arith, All-head HasBlocks [] rest some))
in_front-parts together b ((c ∷ cs) ∷ rest) some apart = ⊎_elim
    (λ belong. subst (PartsApart together) (sym (in_front-with together b c cs rest belong)) (longer_part together b c cs rest apart))
    (λ differ. subst (PartsApart together) (sym (in_front-apart together b c cs rest differ)) (another_part together b c cs rest differ apart))
    (cases_Bool (together b c))

stretches-parts : (together : Test) (blocks : List Block) → PartsApart together (stretches together blocks)
stretches-parts together [] = no_parts together
stretches-parts together (b ∷ bs) =
    in_front-parts together b (stretches together bs) (stretches-not_empty together bs) (stretches-parts together bs)

pub stretches-are : (together : Test) (blocks : List Block) → AreStretches together blocks (stretches together blocks)
stretches-are together blocks = record {
  all = stretches-all together blocks;
  not_empty = stretches-not_empty together blocks;
  within = stretches-within together blocks;
  apart = stretches-parts together blocks;
}

-- the last block of a list that isn't empty
last_of : (b : Block) (bs : List Block) → (front : List Block) × (last : Block) × (b ∷ bs ≡ front ++ last ∷ [])
last_of b [] = ([], b, refl)
last_of b (c ∷ cs) = let more = last_of c cs in (b ∷ more.0, more.1, ap (λ xs. b ∷ xs) more.2)

-- parts that are such a cut are the stretches of what they make up
parts_are : (together : Test) (parts : List (List Block)) → All HasBlocks parts → All (NeighboursBelong together) parts → PartsApart together parts
    → parts ≡ stretches together (join parts)
parts_are together [] some within apart = refl
parts_are together ([] ∷ rest) some within apart = absurd (omega (arith, All-head HasBlocks [] rest some))
parts_are together ((b ∷ bs) ∷ []) some within apart =
    sym (within_one together b bs (All-head (NeighboursBelong together) (b ∷ bs) [] within))
    ∙ ap (stretches together) (sym (append-nil (b ∷ bs)))
parts_are together ((b ∷ bs) ∷ [] ∷ rest) some within apart =
    absurd (omega (arith, All-head HasBlocks [] rest (All-tail HasBlocks (b ∷ bs) ([] ∷ rest) some)))
parts_are together ((b ∷ bs) ∷ (c ∷ cs) ∷ rest) some within apart =
    let P = NeighboursBelong together in
    let last = last_of b bs in
    let differ : together last.1 c ≡ false = apart last.1 c ([], rest, last.0, cs, ap (λ part. part ∷ (c ∷ cs) ∷ rest) last.2) in
    let later : PartsApart together ((c ∷ cs) ∷ rest) =
    λ x y meet. apart x y ((b ∷ bs) ∷ meet.0, meet.1, meet.2, meet.3, ap (λ parts. (b ∷ bs) ∷ parts) meet.4) in
    let tail = parts_are together ((c ∷ cs) ∷ rest) (All-tail HasBlocks (b ∷ bs) ((c ∷ cs) ∷ rest) some) (All-tail P (b ∷ bs) ((c ∷ cs) ∷ rest) within) later in
    let head = within_one together b bs (All-head P (b ∷ bs) ((c ∷ cs) ∷ rest) within) in
    ap (λ parts. (b ∷ bs) ∷ parts) tail
    ∙ ap (λ parts. parts ++ stretches together (join ((c ∷ cs) ∷ rest))) (sym head ∙ ap (stretches together) last.2)
    ∙ sym (stretches-apart together last.0 last.1 c (cs ++ join rest) differ)
    ∙ ap (λ xs. stretches together (xs ++ join ((c ∷ cs) ∷ rest))) (sym last.2)

pub stretches-only : (together : Test) (blocks : List Block) (parts : List (List Block)) → AreStretches together blocks parts
    → parts ≡ stretches together blocks
stretches-only together blocks parts are =
    parts_are together parts are.not_empty are.within are.apart ∙ ap (stretches together) are.all

-- the session of the last block
pub last_session-push : (blocks : List Block) (b : Block) → last_session (blocks ++ b ∷ []) ≡ b.session
last_session-push [] b = refl
last_session-push (x ∷ []) b = refl
last_session-push (x ∷ y ∷ blocks) b = last_session-push (y ∷ blocks) b
