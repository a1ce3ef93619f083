-- The next event of a scanner among all events of its bytes, however they go on.
use Rattle.std.proofs.Common.{◌≡◌, ℕ, ◌<◌, Bool, true, false, cond, List, [], ◌∷◌, ◌++◌, Some, None, length, sym, ap, ◌∙◌, ⊎_elim, arith}
use Rattle.std.proofs.Common.{append_assoc, append-nil}
use Rattle.std.specs.List.{slice_get}
use Rattle.std.proofs.lemmas.Bool.{cases_Bool}
use Rattle.std.proofs.lemmas.Option.{slice_get_past}
use Rattle.fdr_sync.specs.Events.{Event, decided_events, events_of}
use Rattle.fdr_resync.specs.Past.{ScannerPast, ScannerKept, RepresentsScanner, known_events}
use Rattle.fdr_resync.proofs.Following.{rest_from}
use Rattle.fdr_resync.proofs.Standing.{slice_get_seam, known_are}
use Rattle.fdr_resync.proofs.Growing.{events_extend}

-- what follows some events begins with the event at their number
rest_begins : (xs ys : List Event) (e : Event) → slice_get (xs ++ ys) (length xs) ≡ Some e → (zs : List Event) × (ys ≡ e ∷ zs)
rest_begins xs [] e is =
    let none : slice_get (xs ++ []) (length xs) ≡ None = slice_get_past (xs ++ []) (length xs) (omega (arith, ap length (append-nil xs))) in
    absurd (cc)
rest_begins xs (y ∷ ys) e is =
    let here : slice_get (xs ++ y ∷ ys) (length xs) ≡ Some y = slice_get_seam xs y ys in
    let same : y ≡ e = cc in
    (ys, ap (λ z. z ∷ ys) same)

pub next_of_all : (k : ScannerKept) (past : ScannerPast) (more : List ℕ) (e : Event) → RepresentsScanner k past → 0 < past.words
    → (past.finished ≡ true → more ≡ []) → slice_get (known_events past) (length past.taken) ≡ Some e
    → (after : List Event) × (events_of (past.bytes ++ more) past.words ≡ past.taken ++ e ∷ after)
next_of_all k past more e st some ends is =
    let known = known_are k past st in
    let rest = rest_begins past.taken (rest_from past.finished past.bytes past.words k.free) e (ap (λ es. slice_get es (length past.taken)) (sym known) ∙ is) in
    let begins : known_events past ≡ past.taken ++ e ∷ rest.0 = known ∙ ap (λ es. past.taken ++ es) rest.1 in
    let either : Bool → List Event = λ b. cond b (events_of past.bytes past.words) (decided_events past.bytes past.words) in
    ⊎_elim
    (λ (finished : past.finished ≡ true).
    let whole : past.bytes ++ more ≡ past.bytes = ap (λ m. past.bytes ++ m) (ends finished) ∙ append-nil past.bytes in
    (rest.0, ap (λ b. events_of b past.words) whole ∙ ap either (sym finished) ∙ begins))
    (λ (going : past.finished ≡ false).
    let longer = events_extend past.bytes more past.words some in
    (rest.0 ++ longer.0, longer.1 ∙ ap (λ es. es ++ longer.0) (ap either (sym going) ∙ begins) ∙ append_assoc past.taken (e ∷ rest.0) longer.0))
    (cases_Bool past.finished)
