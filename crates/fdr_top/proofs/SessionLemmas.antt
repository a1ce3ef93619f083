-- Sessions: one block more, what they are of blocks of one session number, and what is listed of them.
use Rattle.std.proofs.Common.{◌≡◌, ◌≢◌, ⊎_elim, ℕ, zero, suc, ◌+◌, ◌%◌, ◌^◌, ◌<◌, List, [], ◌∷◌, ◌++◌, length, length-append, length-drop, drop, true, ap}
use Rattle.std.proofs.Common.{sym, refl, ◌∙◌, arith, append_assoc, append-nil}
use Rattle.std.specs.Prelude.{All}
use Rattle.std.proofs.lemmas.Bool.{eq-eqb, ne_eqb}
use Rattle.std.proofs.lemmas.Bool.Decides.{eqb_tells}
use Rattle.fdr_recover.specs.Blocks.{Block}
use Rattle.fdr_recover.specs.Stretches.{last_session}
use Rattle.fdr_recover.proofs.Stretching.{stretches-apart, stretches-one, stretches-push_apart, stretches-push_with}
use Rattle.fdr_top.specs.Sessions.{IsLastSession, are_of_one_session, sessions_of}

-- ---- one block more

-- some blocks and the last of them
pub record EndsWith (blocks : List Block) : Type 0 where
  pub front : List Block
  pub last : Block
  pub whole : blocks ≡ front ++ last ∷ []
  pub session : last_session blocks ≡ last.session

ends_with : (blocks : List Block) → 0 < length blocks → EndsWith blocks
ends_with [] some = absurd (omega (arith, some))
ends_with (b ∷ []) some = record { front = []; last = b; whole = refl; session = refl }
ends_with (b ∷ c ∷ bs) some =
    let rest = ends_with (c ∷ bs) (omega arith) in
    record { front = b ∷ rest.front; last = rest.last; whole = ap (λ (x : List Block). b ∷ x) rest.whole; session = rest.session }

-- a block of the last session's number belongs to that session
pub sessions_same : (blocks : List Block) (closed : List (List Block)) (s : List Block) (b : Block) → 0 < length s
    → sessions_of blocks ≡ closed ++ s ∷ [] → last_session s ≡ b.session → sessions_of (blocks ++ b ∷ []) ≡ closed ++ (s ++ b ∷ []) ∷ []
sessions_same blocks closed s b some is same =
    let end = ends_with s some in
    stretches-push_with are_of_one_session blocks closed end.front end.last b (is ∙ ap (λ (x : List Block). closed ++ x ∷ []) end.whole)
    (eq-eqb _ _ (sym end.session ∙ same))
    ∙ ap (λ (x : List Block). closed ++ (x ++ b ∷ []) ∷ []) (sym end.whole)

-- and a block of another number begins a session
pub sessions_other : (blocks : List Block) (closed : List (List Block)) (s : List Block) (b : Block) → 0 < length s
    → sessions_of blocks ≡ closed ++ s ∷ [] → last_session s ≢ b.session
    → sessions_of (blocks ++ b ∷ []) ≡ (closed ++ s ∷ []) ++ (b ∷ []) ∷ []
sessions_other blocks closed s b some is other =
    let end = ends_with s some in
    stretches-push_apart are_of_one_session blocks closed end.front end.last b (is ∙ ap (λ (x : List Block). closed ++ x ∷ []) end.whole)
    (ne_eqb _ _ (λ same. other (end.session ∙ same)))
    ∙ ap (λ (x : List Block). (closed ++ x ∷ []) ++ (b ∷ []) ∷ []) (sym end.whole)

-- however the blocks go on, their last session is the front of one
pub sessions_ahead : (blocks : List Block) (closed : List (List Block)) (s : List Block) (more : List Block) → 0 < length s
    → sessions_of blocks ≡ closed ++ s ∷ []
    → (grown : List Block) × (later : List (List Block)) × (sessions_of (blocks ++ more) ≡ closed ++ (s ++ grown) ∷ later)
sessions_ahead blocks closed s [] some is =
    ([], [], ap sessions_of (append-nil blocks) ∙ is ∙ ap (λ (x : List Block). closed ++ x ∷ []) (sym (append-nil s)))
sessions_ahead blocks closed s (b ∷ more) some is =
    let one : (blocks ++ b ∷ []) ++ more ≡ blocks ++ b ∷ more = append_assoc blocks (b ∷ []) more in
    ⊎_elim
    (λ yes.
    let next = sessions_ahead (blocks ++ b ∷ []) closed (s ++ b ∷ []) more (longer s b) (sessions_same blocks closed s b some is yes.1) in
    (b ∷ next.0, next.1, ap sessions_of (sym one) ∙ next.2 ∙ ap (λ (x : List Block). closed ++ x ∷ next.1) (append_assoc s (b ∷ []) next.0)))
    (λ no.
    let next = sessions_ahead (blocks ++ b ∷ []) (closed ++ s ∷ []) (b ∷ []) more (omega arith)
    (sessions_other blocks closed s b some is no.1) in (
      [],
      (b ∷ next.0) ∷ next.1,
      ap sessions_of (sym one) ∙ next.2 ∙ append_assoc closed (s ∷ []) ((b ∷ next.0) ∷ next.1)
          ∙ ap (λ (x : List Block). closed ++ x ∷ (b ∷ next.0) ∷ next.1) (sym (append-nil s)),
    ))
    (eqb_tells (last_session s) b.session)
  where
    longer : (s : List Block) (b : Block) → 0 < length (s ++ b ∷ [])
    longer s b = omega (arith, length-append s (b ∷ []))

-- ---- blocks of one number

of_one : (n : ℕ) (x y : Block) → x.session ≡ n → y.session ≡ n → are_of_one_session x y ≡ true
of_one n x y first second = eq-eqb _ _ (first ∙ sym second)

-- blocks of one number, which isn't that of the block before them, are the last session
pub is_last_session : (xs ys : List Block) (n : ℕ) → 0 < length ys → All (λ (b : Block). b.session ≡ n) ys → (0 < length xs → last_session xs ≢ n)
    → IsLastSession ys (xs ++ ys)
is_last_session xs [] n some all other = absurd (omega (arith, some))
is_last_session [] (y ∷ ys) n some all other = ([], stretches-one are_of_one_session (λ (b : Block). b.session ≡ n) (of_one n) y ys all)
is_last_session (x ∷ xs) (y ∷ ys) n some all other =
    let end = ends_with (x ∷ xs) (omega arith) in
    let here : y.session ≡ n = all 0 y (omega arith) in (
      sessions_of (end.front ++ end.last ∷ []),
      ap (λ (l : List Block). sessions_of (l ++ y ∷ ys)) end.whole
          ∙ stretches-apart are_of_one_session end.front end.last y ys
          (ne_eqb _ _ (λ same. other (omega arith) (end.session ∙ same ∙ here)))
          ∙ ap (λ (l : List (List Block)). sessions_of (end.front ++ end.last ∷ []) ++ l)
          (stretches-one are_of_one_session (λ (b : Block). b.session ≡ n) (of_one n) y ys all),
    )

-- the last blocks of a list end as it does
pub last_session-drop : (k : ℕ) (blocks : List Block) → 0 < length (drop k blocks) → last_session (drop k blocks) ≡ last_session blocks
last_session-drop k [] some = absurd (omega (arith, some, length-drop {A = Block} k []))
last_session-drop zero (b ∷ bs) some = refl
last_session-drop (suc k) (b ∷ []) some = absurd (omega (arith, some, length-drop {A = Block} k []))
last_session-drop (suc k) (b ∷ c ∷ bs) some = last_session-drop k (c ∷ bs) some

-- no session is the one after it
pub session_goes_on : (s : ℕ) → s ≢ (s + 1) % 2 ^ 32
session_goes_on s same = omega arith
