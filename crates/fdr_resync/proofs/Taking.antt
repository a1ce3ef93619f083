-- The next event of a scanner, and what it stands for once that was taken.
use Rattle.std.proofs.Common.{◌≡◌, ℕ, ◌+◌, ◌-◌, ◌*◌, ◌<◌, ◌≤◌, Bool, true, false, List, [], ◌∷◌, ◌++◌, Option, None, Some, length, refl, sym, ap, ◌∙◌, subst}
use Rattle.std.proofs.Common.{⊎_elim, arith}
use Rattle.std.proofs.Common.{append-nil}
use Rattle.std.specs.List.{slice_get}
use Rattle.std.proofs.lemmas.Bool.{cases_lt}
use Rattle.fdr_bits.specs.Bits.{bits_in}
use Rattle.fdr_sync.specs.Frames.{IsFramePosition, IsFirstFrameFrom}
use Rattle.fdr_sync.specs.Events.{Event, Frame, Gap}
use Rattle.fdr_sync.proofs.FrameSteps.{word_count_some}
use Rattle.fdr_resync.specs.Past.{ScannerPast, ScannerKept, IsScannerKept, RepresentsScanner, scanner_with_events, known_events, bytes_pushed}
use Rattle.fdr_resync.proofs.Following.{rest_from, rest_frame, rest_gap, rest_decided, rest_last, rest_end}
use Rattle.fdr_resync.proofs.Standing.{stands_events, known_next, known_not_all, known_all, none_left}
use Rattle.fdr_resync.proofs.Windows.{first_ahead}

-- the search is at a frame that lies within the bytes
pub record IsAtFrame (k : ScannerKept) : Type 0 where
  pub frame : IsFramePosition k.window k.words (k.from - 8 * k.before)

some_words : (k : ScannerKept) (past : ScannerPast) (room : ℕ) → RepresentsScanner k past → IsScannerKept k room → 0 < past.words
some_words k past room st kept = let same : k.words ≡ past.words = st.words in omega (arith, word_count_some k.words kept.words)

gap_ahead : (k : ScannerKept) (past : ScannerPast) (room : ℕ) (all : Bool) (more : List ℕ) → RepresentsScanner k past → IsScannerKept k room → IsAtFrame k
    → k.free < k.from
    → rest_from all (past.bytes ++ more) past.words k.free ≡ Gap k.free (k.from - k.free) ∷ rest_from all (past.bytes ++ more) past.words k.from
gap_ahead k past room all more st kept at later =
    rest_gap all (past.bytes ++ more) past.words k.free k.from (some_words k past room st kept) later
    (first_ahead k past more st kept.words kept.behind kept.order at.frame)

frame_ahead : (k : ScannerKept) (past : ScannerPast) (room next : ℕ) (all : Bool) (more : List ℕ) → RepresentsScanner k past → IsScannerKept k room
    → IsAtFrame k
    → k.from ≤ k.free → next ≡ k.from + 48 * k.words
    → rest_from all (past.bytes ++ more) past.words k.free ≡ Frame k.from ∷ rest_from all (past.bytes ++ more) past.words next
frame_ahead k past room next all more st kept at here is =
    let same : k.free ≡ k.from = omega (arith, kept.order) in
    let first : IsFirstFrameFrom (past.bytes ++ more) past.words k.from k.from =
    subst (λ x. IsFirstFrameFrom (past.bytes ++ more) past.words x k.from) same (first_ahead k past more st kept.words kept.behind kept.order at.frame) in
    let end : k.from + 48 * past.words ≡ next = omega (arith, is, st.words) in
    ap (rest_from all (past.bytes ++ more) past.words) same
    ∙ rest_frame all (past.bytes ++ more) past.words k.from (some_words k past room st kept) first
    ∙ ap (λ x. Frame k.from ∷ rest_from all (past.bytes ++ more) past.words x) end

-- an event that is next however the bytes go on is next now
next_now : (k : ScannerKept) (past : ScannerPast) (e : Event) (free : ℕ) → RepresentsScanner k past
    → rest_from past.finished (past.bytes ++ []) past.words k.free ≡ e ∷ rest_from past.finished (past.bytes ++ []) past.words free
    → slice_get (known_events past) (length past.taken) ≡ Some e
next_now k past e free st is =
    let P : List ℕ → Type 0 = λ b. rest_from past.finished b past.words k.free ≡ e ∷ rest_from past.finished b past.words free in
    known_next k past e (rest_from past.finished past.bytes past.words free) st (subst P (append-nil past.bytes) is)

pub gap_next : (k : ScannerKept) (past : ScannerPast) (room : ℕ) → RepresentsScanner k past → IsScannerKept k room → IsAtFrame k → k.free < k.from
    → slice_get (known_events past) (length past.taken) ≡ Some (Gap k.free (k.from - k.free))
gap_next k past room st kept at later = next_now k past (Gap k.free (k.from - k.free)) k.from st (gap_ahead k past room past.finished [] st kept at later)

pub gap_taken : (k : ScannerKept) (past : ScannerPast) (room : ℕ) (f : Option ℕ) → RepresentsScanner k past → IsScannerKept k room → IsAtFrame k
    → k.free < k.from → f ≡ None
    → RepresentsScanner (record k { free = k.from; frame = f }) (scanner_with_events past (Gap k.free (k.from - k.free) ∷ []))
gap_taken k past room f st kept at later none =
    stands_events k past (Gap k.free (k.from - k.free) ∷ []) k.from k.from f st (λ all more ends. gap_ahead k past room all more st kept at later)
    (λ more q low high h. absurd (omega arith)) (λ a is. absurd (cc))

pub frame_next : (k : ScannerKept) (past : ScannerPast) (room : ℕ) → RepresentsScanner k past → IsScannerKept k room → IsAtFrame k → k.from ≤ k.free
    → slice_get (known_events past) (length past.taken) ≡ Some (Frame k.from)
frame_next k past room st kept at here =
    next_now k past (Frame k.from) (k.from + 48 * k.words) st (frame_ahead k past room (k.from + 48 * k.words) past.finished [] st kept at here refl)

pub frame_taken : (k : ScannerKept) (past : ScannerPast) (room next : ℕ) → RepresentsScanner k past → IsScannerKept k room → IsAtFrame k
    → k.from ≤ k.free → next ≡ k.from + 48 * k.words
    → RepresentsScanner (record k { free = next; from = next; frame = Some k.from }) (scanner_with_events past (Frame k.from ∷ []))
frame_taken k past room next st kept at here is =
    stands_events k past (Frame k.from ∷ []) next next (Some k.from) st (λ all more ends. frame_ahead k past room next all more st kept at here is)
    (λ more q low high h. absurd (omega arith)) (λ a is. let here : k.from ≡ a = cc in (past.taken, ap (λ x. past.taken ++ Frame x ∷ []) here))

-- where a frame is ahead, those that were taken are not all
pub not_all_taken : (k : ScannerKept) (past : ScannerPast) (room : ℕ) → RepresentsScanner k past → IsScannerKept k room → IsAtFrame k
    → past.taken ≡ known_events past → ⊥
not_all_taken k past room st kept at all =
    ⊎_elim (λ later. known_not_all past (Gap k.free (k.from - k.free)) (gap_next k past room st kept at later) all)
    (λ here. known_not_all past (Frame k.from) (frame_next k past room st kept at here) all)
    (cases_lt k.free k.from)

-- no frame is ahead, and more bytes may come
pub all_decided : (k : ScannerKept) (past : ScannerPast) → RepresentsScanner k past → 8 * bytes_pushed k < k.from + 48 * k.words → k.ended ≡ false
    → past.taken ≡ known_events past
all_decided k past st few going =
    let on : past.finished ≡ false = sym st.ended ∙ going in
    known_all k past st (ap (λ all. rest_from all past.bytes past.words k.free) on ∙ rest_decided past.bytes past.words k.free (none_left k past st few))

-- no frame is ahead, no more bytes come, and no bit is left
pub all_ended : (k : ScannerKept) (past : ScannerPast) → RepresentsScanner k past → 8 * bytes_pushed k < k.from + 48 * k.words → k.ended ≡ true
    → 8 * bytes_pushed k ≤ k.free → past.taken ≡ known_events past
all_ended k past st few ended empty =
    let finished : past.finished ≡ true = sym st.ended ∙ ended in
    known_all k past st (ap (λ all. rest_from all past.bytes past.words k.free) finished
    ∙ rest_end past.bytes past.words k.free (none_left k past st few) (omega (arith, st.pushed)))

-- no frame is ahead, no more bytes come, and some bits are left
last_ahead : (k : ScannerKept) (past : ScannerPast) (end : ℕ) → RepresentsScanner k past → 8 * bytes_pushed k < k.from + 48 * k.words → end ≡ 8 * bytes_pushed k
    → k.free < end → rest_from true past.bytes past.words k.free ≡ Gap k.free (end - k.free) ∷ rest_from true past.bytes past.words end
last_ahead k past end st few is some =
    let none = none_left k past st few in
    let here : bits_in past.bytes ≡ end = omega (arith, st.pushed) in
    rest_last past.bytes past.words k.free none (omega arith)
    ∙ ap (λ n. Gap k.free (n - k.free) ∷ []) here
    ∙ ap (λ es. Gap k.free (end - k.free) ∷ es) (sym (rest_end past.bytes past.words end (λ q low. none q (omega arith)) (omega arith)))

pub last_next : (k : ScannerKept) (past : ScannerPast) (end : ℕ) → RepresentsScanner k past → 8 * bytes_pushed k < k.from + 48 * k.words → k.ended ≡ true
    → end ≡ 8 * bytes_pushed k → k.free < end → slice_get (known_events past) (length past.taken) ≡ Some (Gap k.free (end - k.free))
last_next k past end st few ended is some =
    let finished : past.finished ≡ true = sym st.ended ∙ ended in
    known_next k past (Gap k.free (end - k.free)) (rest_from true past.bytes past.words end) st
    (ap (λ all. rest_from all past.bytes past.words k.free) finished ∙ last_ahead k past end st few is some)

pub last_taken : (k : ScannerKept) (past : ScannerPast) (end : ℕ) (f : Option ℕ) → RepresentsScanner k past → 8 * bytes_pushed k < k.from + 48 * k.words
    → k.ended ≡ true → end ≡ 8 * bytes_pushed k → k.free < end → f ≡ None
    → RepresentsScanner (record k { free = end; from = end; frame = f }) (scanner_with_events past (Gap k.free (end - k.free) ∷ []))
last_taken k past end f st few ended is some none =
    let finished : past.finished ≡ true = sym st.ended ∙ ended in
    stands_events k past (Gap k.free (end - k.free) ∷ []) end end f st
    (λ all more ends.
    let Q : Bool → List ℕ → Type 0 = λ x b. rest_from x b past.words k.free ≡ Gap k.free (end - k.free) ∷ rest_from x b past.words end in
    let whole : past.bytes ++ more ≡ past.bytes = ap (λ m. past.bytes ++ m) (ends finished).1 ∙ append-nil past.bytes in
    subst (λ b. Q all b) (sym whole) (subst (λ x. Q x past.bytes) (sym (ends finished).0) (last_ahead k past end st few is some)))
    (λ more q low high h. absurd (omega arith)) (λ a is. absurd (cc))
