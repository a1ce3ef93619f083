-- The whole records of bytes that are followed by others.
use Rattle.std.proofs.Common.{◌≡◌, ◌≤◌, ◌<◌, ℕ, ◌+◌, ◌*◌, ◌/◌, List, [], ◌∷◌, ◌++◌, length, take, drop, map, sym, ap, ◌∙◌, arith}
use Rattle.std.proofs.Common.{length-append, length-drop, append_assoc}
use Rattle.std.specs.List.{range_with_len}
use Rattle.std.proofs.lemmas.List.{append-nil, take-append-le, take-append-drop, drop-append-le, take_all}
use Rattle.std.proofs.lemmas.List.FromFn.{map-range_with_len_more, take-map-range_with_len, length-map-range_with_len}
use Rattle.std.proofs.Math.Seq.{drop-append_seam}
use Rattle.fdr_bus.specs.Records.{record_bytes, whole_records}
use Rattle.fdr_lists.proofs.Ranges.{map-range-agree}

pub length-whole_records : (bytes : List ℕ) → length (whole_records bytes) ≡ length bytes / 16
unfolding whole_records
length-whole_records bytes = length-map-range_with_len (record_bytes bytes) 0 (length bytes / 16)

-- bytes that follow change no whole record
pub record_bytes-append : (bytes more : List ℕ) (i : ℕ) → 16 * i + 16 ≤ length bytes → record_bytes (bytes ++ more) i ≡ record_bytes bytes i
record_bytes-append bytes more i within =
    let start : 16 * i ≤ length bytes = omega arith in
    let room : 16 ≤ length (drop (16 * i) bytes) = omega (arith, length-drop (16 * i) bytes) in
    ap (take 16) (drop-append-le (16 * i) bytes more start) ∙ take-append-le 16 (drop (16 * i) bytes) more room

-- the record that begins where the bytes end
pub record_bytes-next : (bytes next more : List ℕ) (n : ℕ) → length bytes ≡ 16 * n → length next ≡ 16 → record_bytes ((bytes ++ next) ++ more) n ≡ next
record_bytes-next bytes next more n whole sixteen =
    let room : 16 ≤ length next = omega arith in
    ap (λ k. take 16 (drop k ((bytes ++ next) ++ more))) (sym whole)
    ∙ ap (λ xs. take 16 (drop (length bytes) xs)) (append_assoc bytes next more)
    ∙ ap (take 16) (drop-append_seam bytes (next ++ more))
    ∙ take-append-le 16 next more room
    ∙ take_all 16 next (omega arith)

first_records : (bytes more : List ℕ) (n : ℕ) → n ≤ length bytes / 16
    → map (record_bytes (bytes ++ more)) (range_with_len 0 n) ≡ map (record_bytes bytes) (range_with_len 0 n)
first_records bytes more n few =
    map-range-agree (record_bytes (bytes ++ more)) (record_bytes bytes) 0 n (λ i from below. record_bytes-append bytes more i (omega arith))

-- the records of the bytes come first
pub whole_records-append : (bytes more : List ℕ) → (later : List (List ℕ)) × (whole_records (bytes ++ more) ≡ whole_records bytes ++ later)
unfolding whole_records
whole_records-append bytes more =
    let n = length bytes / 16 in
    let all = map (record_bytes (bytes ++ more)) (range_with_len 0 (length (bytes ++ more) / 16)) in
    let fewer : n ≤ length (bytes ++ more) / 16 = omega (arith, length-append bytes more) in
    let front : take n all ≡ map (record_bytes bytes) (range_with_len 0 n) =
    take-map-range_with_len (record_bytes (bytes ++ more)) 0 (length (bytes ++ more) / 16) n fewer ∙ first_records bytes more n (omega arith) in
    (drop n all, sym (take-append-drop n all) ∙ ap (λ xs. xs ++ drop n all) front)

-- fewer than 16 bytes more make no record
pub whole_records-rest : (bytes rest : List ℕ) (n : ℕ) → length bytes ≡ 16 * n → length rest < 16 → whole_records (bytes ++ rest) ≡ whole_records bytes
unfolding whole_records
whole_records-rest bytes rest n whole few =
    let same : length (bytes ++ rest) / 16 ≡ length bytes / 16 = omega (arith, length-append bytes rest) in
    ap (λ k. map (record_bytes (bytes ++ rest)) (range_with_len 0 k)) same ∙ first_records bytes rest (length bytes / 16) (omega arith)

-- sixteen bytes more make one
pub whole_records-next : (bytes next : List ℕ) (n : ℕ) → length bytes ≡ 16 * n → length next ≡ 16
    → whole_records (bytes ++ next) ≡ whole_records bytes ++ next ∷ []
unfolding whole_records
whole_records-next bytes next n whole sixteen =
    let count : length bytes / 16 ≡ n = omega arith in
    let more : length (bytes ++ next) / 16 ≡ n + 1 = omega (arith, length-append bytes next) in
    let last : record_bytes (bytes ++ next) n ≡ next =
    ap (λ xs. record_bytes xs n) (sym (append-nil (bytes ++ next))) ∙ record_bytes-next bytes next [] n whole sixteen in
    ap (λ k. map (record_bytes (bytes ++ next)) (range_with_len 0 k)) more
    ∙ map-range_with_len_more (record_bytes (bytes ++ next)) 0 n n (omega arith)
    ∙ ap (λ xs. xs ++ record_bytes (bytes ++ next) n ∷ []) (first_records bytes next n (omega arith))
    ∙ ap (λ x. map (record_bytes bytes) (range_with_len 0 n) ++ x ∷ []) last
    ∙ ap (λ k. map (record_bytes bytes) (range_with_len 0 k) ++ next ∷ []) (sym count)
