-- One call more of the twin in memory.
use Rattle.std.proofs.Common.{◌≡◌, ◌⊎◌, inl, inr, ⊎_elim, ℕ, suc, ◌-◌, ◌≤◌, List, [], ◌∷◌, ◌++◌, length, sym, subst, arith}
use Rattle.std.proofs.lemmas.List.{append-nil}
use Rattle.fdr_deck.specs.Memory.{held_after, left_after}
use Rattle.fdr_twin.specs.declared.side.Side.{Side}
use Rattle.fdr_twin.specs.Pair.{PairMoment}
use Rattle.fdr_twin.specs.declared.calls.Span.{Span}
use Rattle.fdr_twin.specs.declared.calls.TwinEntry.{TwinEntry}
use Rattle.fdr_twin.specs.TwinMemory.{entries_on, held_step, left_step, both_within, IsPairBetween, IsPairAmid, pair_moments}
use Rattle.fdr_twin.specs.TwinSound.{left_both}

abbrev pub held_both : List TwinEntry → (Side → List ℕ) → Side → List ℕ
held_both es held side = held_after (entries_on side es) (held side)

-- the moments from before stay
pub pair_earlier : (es : List TwinEntry) (e : TwinEntry) (now : Span) (held : Side → List ℕ) (leaves : Side → List ℕ → Type 0) (t : ℕ) (m : PairMoment)
    → t ≤ length es → pair_moments es e.span held leaves t m → pair_moments (es ++ e ∷ []) now held leaves t m
unfolding pair_moments
pair_earlier [] e now held leaves t m le is = inl (omega arith, inl is)
pair_earlier (x ∷ es) e now held leaves t m le (inl here) = inl here
pair_earlier (x ∷ es) e now held leaves t m le (inr since) =
    inr (pair_earlier es e now (held_step x held) (left_step x held leaves) (t - 1) m (omega arith) since)

-- a moment since a call of a front part is one of that part, whatever its numbers are now, or of what is after it
pub pair_no_more : (es rest : List TwinEntry) (any now : Span) (held : Side → List ℕ) (leaves : Side → List ℕ → Type 0) (t : ℕ) (m : PairMoment)
    → t ≤ length es → pair_moments (es ++ rest) now held leaves t m
    → pair_moments es any held leaves t m ⊎ pair_moments (es ++ rest) now held leaves (length es) m
unfolding pair_moments
pair_no_more [] rest any now held leaves t m le since =
    let first : t ≡ 0 = omega (arith, le) in inr (subst (λ (k : ℕ). pair_moments rest now held leaves k m) first since)
pair_no_more (x ∷ es) rest any now held leaves t m le (inl here) = inl (inl here)
pair_no_more (x ∷ es) rest any now held leaves t m le (inr since) =
    let n : suc (length es) - 1 ≡ length es = omega arith in
    ⊎_elim (λ was. inl (inr was)) (λ is. inr (inr (subst (λ (k : ℕ). pair_moments (es ++ rest) now (held_step x held) (left_step x held leaves) k m)
    (sym n) is)))
    (pair_no_more es rest any now (held_step x held) (left_step x held leaves) (t - 1) m (omega arith) since)

-- the moments of the last call
pub pair_last_call : (es : List TwinEntry) (e : TwinEntry) (now : Span) (held : Side → List ℕ) (leaves : Side → List ℕ → Type 0) (t : ℕ) (m : PairMoment)
    → length es ≤ t → pair_moments (es ++ e ∷ []) now held leaves t m
    → (IsPairBetween (left_both es held leaves) e.span m ⊎ IsPairAmid (both_within e (held_both es held) (left_both es held leaves)) e.span m)
    ⊎ IsPairBetween (left_both (es ++ e ∷ []) held leaves) now m
unfolding entries_on held_after left_after pair_moments
pair_last_call [] e now held leaves t m late (inl here) = inl here.1
pair_last_call [] e now held leaves t m late (inr since) = inr since
pair_last_call (x ∷ es) e now held leaves t m late (inl here) = absurd (omega (arith, here.0))
pair_last_call (x ∷ es) e now held leaves t m late (inr since) =
    pair_last_call es e now (held_step x held) (left_step x held leaves) (t - 1) m (omega arith) since

-- nothing is entered, and more may have stood
pub pair_wider : (es : List TwinEntry) (now later : Span) (held : Side → List ℕ) (leaves : Side → List ℕ → Type 0) (t : ℕ) (m : PairMoment)
    → ((left : Side → List ℕ → Type 0) → IsPairBetween left now m → IsPairBetween left later m) → pair_moments es now held leaves t m
    → pair_moments es later held leaves t m
unfolding pair_moments
pair_wider [] now later held leaves t m more since = more leaves since
pair_wider (e ∷ es) now later held leaves t m more (inl here) = inl here
pair_wider (e ∷ es) now later held leaves t m more (inr since) =
    inr (pair_wider es now later (held_step e held) (left_step e held leaves) (t - 1) m more since)

pub pair_no_other : (es : List TwinEntry) (now later : Span) (held : Side → List ℕ) (leaves : Side → List ℕ → Type 0) (t : ℕ) (m : PairMoment) → t ≤ length es
    → pair_moments es later held leaves t m → pair_moments es now held leaves t m ⊎ pair_moments es later held leaves (length es) m
pair_no_other es now later held leaves t m le = rw (append-nil es) at (pair_no_more es [] now later held leaves t m le)
