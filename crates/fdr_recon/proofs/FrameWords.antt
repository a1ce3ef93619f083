-- The words of the last sixteen frames.
use Rattle.std.proofs.Common.{◌≡◌, ℕ, zero, suc, ◌+◌, ◌-◌, ◌*◌, ◌<◌, List, [], ◌∷◌, ◌++◌, length, drop, ap, sym, ◌∙◌, arith, length-append, length-drop, get_or}
use Rattle.std.specs.List.{All, flat_map}
use Rattle.std.proofs.lemmas.List.{get_or_append_left, get_or-append-add, get_or-drop, drop-drop, drop-append-le}
use Rattle.std.proofs.lemmas.List.Elements.{All-head, All-tail}
use Rattle.std.proofs.Math.Nat.{mul-le-mul_left}
use Rattle.circular_buffer.specs.Buffer.{keep_last}
use Rattle.fdr_recon.specs.Rows.{ReadFrame, frame_at}
use Rattle.fdr_recon.specs.Kept.{from_end}
use Rattle.fdr_recon.specs.Past.{IsWholeFrame}

-- the words of frames, one frame after another
abbrev pub words_of : List ReadFrame → List ℕ
words_of past = flat_map (λ (r : ReadFrame). r.words) past

pub length-words_of : (w : ℕ) (past : List ReadFrame) → All (IsWholeFrame w) past → length (words_of past) ≡ 4 * w * length past
length-words_of w [] whole = omega arith
length-words_of w (r ∷ past) whole =
    let first : length r.words ≡ 4 * w = (All-head (IsWholeFrame w) r past whole).whole in
    let rest = length-words_of w past (All-tail (IsWholeFrame w) r past whole) in
    omega (arith, length-append r.words (words_of past), first, rest)

-- a word of frame i among them
pub get_or-words_of : (w : ℕ) (past : List ReadFrame) (i place : ℕ) → All (IsWholeFrame w) past → i < length past → place < 4 * w →
    get_or (words_of past) (4 * w * i + place) 0 ≡ get_or (frame_at past i).words place 0
get_or-words_of w [] i place whole within low = absurd (omega arith)
get_or-words_of w (r ∷ past) zero place whole within low =
    let first : length r.words ≡ 4 * w = (All-head (IsWholeFrame w) r past whole).whole in
    let index : 4 * w * 0 + place ≡ place = omega arith in
    ap (λ j. get_or (r.words ++ words_of past) j 0) index ∙ get_or_append_left r.words (words_of past) 0 place (omega arith)
get_or-words_of w (r ∷ past) (suc i) place whole within low =
    let first : length r.words ≡ 4 * w = (All-head (IsWholeFrame w) r past whole).whole in
    let index : 4 * w * suc i + place ≡ length r.words + (4 * w * i + place) = omega arith in
    ap (λ j. get_or (r.words ++ words_of past) j 0) index ∙ get_or-append-add r.words (words_of past) (4 * w * i + place) 0
    ∙ get_or-words_of w past i place (All-tail (IsWholeFrame w) r past whole) (omega arith) low

-- the last c of a list to which more is added
pub keep_last-append : (c : ℕ) (xs ys : List ℕ) → keep_last c (keep_last c xs ++ ys) ≡ keep_last c (xs ++ ys)
keep_last-append c xs ys =
    let a = length xs - c in
    let moved : drop a xs ++ ys ≡ drop a (xs ++ ys) = sym (drop-append-le a xs ys (omega arith)) in
    let b = length (drop a xs ++ ys) - c in
    let sum : a + b ≡ length (xs ++ ys) - c = omega (arith, length-append (drop a xs) ys, length-append xs ys, length-drop a xs) in
    ap (drop b) moved ∙ drop-drop b a (xs ++ ys) ∙ ap (λ n. drop n (xs ++ ys)) sum

-- Among the last 64 w words there are whole frames of 4 w words: those of a frame that is fewer than 16 before the last.
pub from_end-within : (w m back place : ℕ) (xs : List ℕ) → length xs ≡ 4 * w * (m + back + 1) → back < 16 → place < 4 * w →
    from_end w back place < length (keep_last (64 * w) xs)
from_end-within w m back place xs len few low =
    let most = mul-le-mul_left w few in
    omega (arith, length-drop (length xs - 64 * w) xs, most)

pub keep_last-from_end : (w m back place : ℕ) (xs : List ℕ) → length xs ≡ 4 * w * (m + back + 1) → back < 16 → place < 4 * w →
    get_or (keep_last (64 * w) xs) (length (keep_last (64 * w) xs) - from_end w back place - 1) 0 ≡ get_or xs (4 * w * m + place) 0
keep_last-from_end w m back place xs len few low =
    let a = length xs - 64 * w in
    let j = length (keep_last (64 * w) xs) - from_end w back place - 1 in
    let within = from_end-within w m back place xs len few low in
    let index : a + j ≡ 4 * w * m + place = omega (arith, length-drop a xs, within) in
    get_or-drop a xs j 0 ∙ ap (λ n. get_or xs n 0) index

-- the last frame's words are kept
pub kept_last : (w place : ℕ) (before words : List ℕ) → length words ≡ 4 * w → place < 4 * w →
    let ks = keep_last (64 * w) (before ++ words) in
    (4 * w - 1 - place < length ks) × (get_or ks (length ks - (4 * w - 1 - place) - 1) 0 ≡ get_or words place 0)
kept_last w place before words whole low =
    let xs = before ++ words in
    let a = length xs - 64 * w in
    let ks = keep_last (64 * w) xs in
    let j = length ks - (4 * w - 1 - place) - 1 in
    let all : length xs ≡ length before + 4 * w = length-append before words ∙ ap (λ n. length before + n) whole in
    let within : 4 * w - 1 - place < length ks = omega (arith, length-drop a xs, all) in
    let index : a + j ≡ length before + place = omega (arith, length-drop a xs, all, within) in
    (within, get_or-drop a xs j 0 ∙ ap (λ n. get_or xs n 0) index ∙ get_or-append-add before words place 0)
