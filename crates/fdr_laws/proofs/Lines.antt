-- Bits that come through the line code.
use Rattle.std.proofs.Common.{◌≡◌, ⊎_elim, ℕ, zero, suc, ◌+◌, ◌-◌, ◌*◌, ◌/◌, ◌%◌, ◌^◌, ◌<◌, ◌≤◌, Bool, true, false, List, [], ◌∷◌, ◌++◌, length, get_or}
use Rattle.std.proofs.Common.{map, take, drop, replicate, Option, Some, None, refl, sym, ap, ◌∙◌, arith, append-nil, length-append}
use Rattle.std.specs.Prelude.{not, ◌==◌, eqb, IsSome}
use Rattle.std.specs.List.{range_with_len}
use Rattle.std.proofs.lemmas.Bool.{cases_Bool, eqb-true, eqb-false}
use Rattle.std.proofs.lemmas.Nat.{shr-shr}
use Rattle.std.proofs.lemmas.List.{get_or-take, get_or-drop, get_or_append_left, get_or-replicate, length-take, length-take-le, length-drop, map-append}
use Rattle.std.proofs.lemmas.List.{take_all}
use Rattle.std.proofs.lemmas.List.FromFn.{get_or-map-range_with_len}
use Rattle.fdr_lists.proofs.Ranges.{map-range-agree}
use Rattle.fdr_lists.proofs.Options.{some_or_none}
use Rattle.fdr_bits.specs.Bits.{bits_in, bit_at, word_at}
use Rattle.fdr_bits.proofs.WordLemmas.{bit_at_below, number_of-bit}
use Rattle.fdr_biphase.specs.Cells.{bits_of_bytes, cells_of, level_at}
use Rattle.fdr_biphase.specs.Packed.{packed_bits, bytes_of_bits, decoded_bytes, encoded_bytes}
use Rattle.fdr_biphase.specs.Past.{DecoderPast}
use Rattle.fdr_biphase.specs.Phases.{fails_at, cell_bits}
use Rattle.fdr_biphase.specs.declared.decoder.Decoder.{Decoder}
use Rattle.fdr_biphase.specs.declared.decoder.Fitting.TheVariants.{One}
use Rattle.fdr_biphase.proofs.CellLemmas.{length-cells}
use Rattle.fdr_biphase.proofs.Packing.{length-bytes_of_bits}
use Rattle.fdr_biphase.proofs.PhaseLemmas.{ones_of_even, bits_of_even}
use Rattle.fdr_biphase.proofs.Staying.{answers_stay}
use Rattle.fdr_biphase.proofs.Struck.{bits_of_struck, struck_fits, each_element}
use Rattle.fdr_biphase.proofs.Turned.{same_bits_turned}
use Rattle.fdr_biphase.proofs.WordBytes.{length-bits}
use Rattle.std.specs.Int.{bit_at as nat_bit}
use Rattle.std.proofs.lemmas.Bool.{and_parts}
use Rattle.std.proofs.lemmas.Nat.{mul-le}
use Rattle.std.proofs.lemmas.List.{length-replicate}
use Rattle.fdr_bus.specs.declared.BusRecord.{BusRecord}
use Rattle.fdr_table.specs.Ranges.{IsInRange}
use Rattle.fdr_table.specs.Rows.{TableRows}
use Rattle.fdr_check.specs.Soundness.{IsSound}
use Rattle.fdr_frame.specs.Slots.{sync_word}
use Rattle.fdr_sampler.specs.Stream.{stream_of}
use Rattle.fdr_sync.specs.Frames.{is_frame_position, IsFramePosition}
use Rattle.fdr_sync.proofs.FrameLemmas.{frame_within, frame_by_syncs, some_words}
use Rattle.fdr_sync.proofs.SameLemmas.{frame_same}
use Rattle.fdr_readout.specs.SampledRows.{whole_frames}
use Rattle.fdr_readout.specs.Survival.{Survives, AreListed}
use Rattle.fdr_readout.proofs.SoundTables.{sound_recordable}
use Rattle.fdr_readout.proofs.StreamFrames.{next_frame}
use Rattle.fdr_readout.proofs.Surviving.{surviving_run_listed, survives_itself}
use Rattle.fdr_laws.specs.Line.{IsReceived, ComesWhole, missed, turned_where}

-- ---- bits as bytes

-- the number of a bit
abbrev pub one_of : Bool → ℕ
one_of true = 1
one_of false = 0

one_where : (bit : Bool) (n rest : ℕ) → n ≡ one_of bit + 2 * rest → n / 2 ^ 0 % 2 ≡ one_of bit
one_where true n rest is = omega arith
one_where false n rest is = omega arith

rest_where : (bit : Bool) (n rest : ℕ) → n ≡ one_of bit + 2 * rest → n / 2 ≡ rest
rest_where true n rest is = omega arith
rest_where false n rest is = omega arith

packed-cons : (bit : Bool) (bits : List Bool) → packed_bits (bit ∷ bits) ≡ one_of bit + 2 * packed_bits bits
packed-cons true bits = omega arith
packed-cons false bits = omega arith

packed_bit : (bits : List Bool) (j : ℕ) → j < length bits → packed_bits bits / 2 ^ j % 2 ≡ one_of (get_or bits j false)
packed_bit [] j within = absurd (omega arith)
packed_bit (bit ∷ bits) zero within = one_where bit (packed_bits (bit ∷ bits)) (packed_bits bits) (packed-cons bit bits)
packed_bit (bit ∷ bits) (suc j) within =
    let n = packed_bits (bit ∷ bits) in
    let e : 1 + j ≡ suc j = omega arith in
    ap (λ k. n / 2 ^ k % 2) (sym e)
    ∙ ap (λ k. k % 2) (sym (shr-shr n 1 j))
    ∙ ap (λ k. k / 2 ^ j % 2) (rest_where bit n (packed_bits bits) (packed-cons bit bits))
    ∙ packed_bit bits j (omega arith)

-- the bits of bytes that pack bits
pub bit_of_packed : (bits : List Bool) (p : ℕ) → p < length bits → bit_at (bytes_of_bits bits) p ≡ one_of (get_or bits p false)
unfolding bit_at bytes_of_bits
bit_of_packed bits p within =
    let byte = λ (i : ℕ). packed_bits (take 8 (drop (8 * i) bits)) in
    let part = take 8 (drop (8 * (p / 8)) bits) in
    let there : p / 8 < (length bits + 7) / 8 = omega arith in
    let inside : p % 8 < length part = omega (arith, length-take 8 (drop (8 * (p / 8)) bits), length-drop (8 * (p / 8)) bits) in
    let place : 8 * (p / 8) + p % 8 ≡ p = omega arith in
    ap (λ k. k / 2 ^ (p % 8) % 2) (get_or-map-range_with_len byte 0 ((length bits + 7) / 8) (p / 8) (p / 8) 0 there (omega arith))
    ∙ packed_bit part (p % 8) inside
    ∙ ap one_of (get_or-take 8 (drop (8 * (p / 8)) bits) (p % 8) false (omega arith)
    ∙ get_or-drop (8 * (p / 8)) bits (p % 8) false ∙ ap (λ k. get_or bits k false) place)

one_of_test : (n : ℕ) → n < 2 → one_of (n == 1) ≡ n
one_of_test zero low = refl
one_of_test (suc zero) low = refl
one_of_test (suc (suc n)) low = absurd (omega arith)

listed_bit : (b : List ℕ) (p : ℕ) (d : Bool) → p < bits_in b → get_or (bits_of_bytes b) p d ≡ (bit_at b p == 1)
listed_bit b p d within = get_or-map-range_with_len (λ p. bit_at b p == 1) 0 (bits_in b) p p d within (omega arith)

bit_is_listed : (b : List ℕ) (p : ℕ) → p < bits_in b → one_of (get_or (bits_of_bytes b) p false) ≡ bit_at b p
bit_is_listed b p within = ap one_of (listed_bit b p false within) ∙ one_of_test (bit_at b p) (bit_at_below b p)

-- ---- cells with any levels behind them

-- where one phase alone fits, its bits stay whatever follows
front_of_one : (v behind : List Bool) (phase : ℕ) → phase ≤ 1 → fails_at v phase ≡ None → IsSome (fails_at v (1 - phase))
    → (next : List Bool) × (cell_bits (v ++ behind) ≡ cell_bits v ++ next)
front_of_one v behind phase low fits fails =
    let d : Decoder = record { count = length v; last = level_at v (length v - 1); fitting = One phase; ended = false } in
    let past : DecoderPast = record { levels = v; bits = cell_bits v } in
    answers_stay d past behind (record { count = refl; last = λ some. refl; phases = (low, fits, fails); bits = sym (append-nil (cell_bits v)) })

some_is : (o : Option ℕ) (n : ℕ) → o ≡ Some n → IsSome o
some_is None n is = absurd (cc)
some_is (Some m) n is = refl

-- where both fit, all bits are 1
ones_of_both : (v : List Bool) (z : ℕ) → fails_at v 0 ≡ None → fails_at v 1 ≡ None → z < length (cell_bits v) → get_or (cell_bits v) z true ≡ true
ones_of_both v z even odd within =
    let is : cell_bits v ≡ replicate (length v / 2) true = bits_of_even v even ∙ ones_of_even v even odd in
    let count : length (cell_bits v) ≡ length v / 2 = ap length is ∙ length-replicate (length v / 2) true in
    ap (λ xs. get_or xs z true) is ∙ get_or-replicate (length v / 2) z true true (omega (arith, count, within))

module _ (first : Bool) (sent : List Bool) (struck : ℕ) (begun : struck ≤ 2 * length sent) where
  -- a 0 among the bits tells which phase is theirs
  pub bits_stand : (behind : List Bool) (z : ℕ) → z < length (drop ((struck + 1) / 2) sent) → get_or (drop ((struck + 1) / 2) sent) z true ≡ false
      → (next : List Bool) × (cell_bits (drop struck (cells_of first sent) ++ behind) ≡ drop ((struck + 1) / 2) sent ++ next)
  bits_stand behind z within is_zero =
      let v = drop struck (cells_of first sent) in
      let is : cell_bits v ≡ drop ((struck + 1) / 2) sent = bits_of_struck first sent struck begun in
      let not_both : fails_at v 0 ≡ None → fails_at v 1 ≡ None → ⊥ = λ even odd.
      let low : z < length (cell_bits v) = omega (arith, within, ap length is) in
      let one : true ≡ false = sym (ones_of_both v z even odd low) ∙ ap (λ xs. get_or xs z true) is ∙ is_zero in
      absurd (cc) in
      let by_phase : (phase : ℕ) → phase ≤ 1 → fails_at v phase ≡ None → IsSome (fails_at v (1 - phase))
      → (next : List Bool) × (cell_bits (v ++ behind) ≡ drop ((struck + 1) / 2) sent ++ next) = λ phase low fits fails.
      let stay = front_of_one v behind phase low fits fails in
      (stay.0, stay.1 ∙ ap (λ xs. xs ++ stay.0) is) in
      let even_case : struck % 2 ≡ 0 → (next : List Bool) × (cell_bits (v ++ behind) ≡ drop ((struck + 1) / 2) sent ++ next) = λ at.
      let fits : fails_at v 0 ≡ None = struck_fits first sent struck 0 begun at in
      ⊎_elim
      (λ none. absurd (not_both fits none))
      (λ some. by_phase 0 (omega arith) fits (some_is _ some.0 some.1))
      (some_or_none (fails_at v 1)) in
      let odd_case : struck % 2 ≡ 1 → (next : List Bool) × (cell_bits (v ++ behind) ≡ drop ((struck + 1) / 2) sent ++ next) = λ at.
      let fits : fails_at v 1 ≡ None = struck_fits first sent struck 1 begun at in
      ⊎_elim
      (λ none. absurd (not_both none fits))
      (λ some. by_phase 1 (omega arith) fits (some_is _ some.0 some.1))
      (some_or_none (fails_at v 0)) in
      ⊎_elim
      (λ holds. even_case (eqb-true (struck % 2) 0 holds))
      (λ misses. let h = eqb-false (struck % 2) 0 misses in odd_case (omega (arith, h)))
      (cases_Bool (eqb (struck % 2) 0))

twice_not : (xs : List Bool) → map not (map not xs) ≡ xs
twice_not [] = refl
twice_not (true ∷ xs) = ap (λ ys. true ∷ ys) (twice_not xs)
twice_not (false ∷ xs) = ap (λ ys. false ∷ ys) (twice_not xs)

-- turned levels read as the same bits, with others behind them
turned_front : (turned : Bool) (v behind : List Bool) → (other : List Bool) × (cell_bits (turned_where turned v ++ behind) ≡ cell_bits (v ++ other))
turned_front false v behind = (behind, refl)
turned_front true v behind = (
  map not behind,
  ap (λ xs. cell_bits (map not v ++ xs)) (sym (twice_not behind)) ∙ ap cell_bits (sym (map-append not v (map not behind)))
      ∙ same_bits_turned (v ++ map not behind),
)

-- ---- what was received

module _ (first : Bool) (sent : List ℕ) (turned : Bool) (struck count : ℕ) (received : List ℕ) (h : IsReceived first sent turned struck count received)
    (z : ℕ) (late : missed struck ≤ z) (early : z < count) (zero_bit : bit_at sent z ≡ 0) where
  count_is : length (take count (bits_of_bytes sent)) ≡ count
  count_is = length-take-le count (bits_of_bytes sent) (omega (arith, h.within, length-bits sent))

  left_is : length (drop (missed struck) (take count (bits_of_bytes sent))) ≡ count - missed struck
  left_is = length-drop (missed struck) (take count (bits_of_bytes sent)) ∙ ap (λ n. n - missed struck) count_is

  bit_left : (x : ℕ) (d : Bool) → missed struck + x < count → get_or (drop (missed struck) (take count (bits_of_bytes sent))) x d
      ≡ (bit_at sent (missed struck + x) == 1)
  bit_left x d low =
      get_or-drop (missed struck) (take count (bits_of_bytes sent)) x d
      ∙ get_or-take count (bits_of_bytes sent) (missed struck + x) d low
      ∙ listed_bit sent (missed struck + x) d (omega (arith, h.within))

  -- the bits of what was received are those that came whole, and others behind them
  received_bits : (next : List Bool) × (cell_bits (bits_of_bytes received) ≡ drop (missed struck) (take count (bits_of_bytes sent)) ++ next)
  received_bits =
      let v = drop struck (cells_of first (take count (bits_of_bytes sent))) in
      let plain = turned_front turned v h.behind in
      let begun : struck ≤ 2 * length (take count (bits_of_bytes sent)) = omega (arith, h.begun, count_is) in
      let there : missed struck + (z - missed struck) ≡ z = omega arith in
      let a_zero : get_or (drop (missed struck) (take count (bits_of_bytes sent))) (z - missed struck) true ≡ false =
      bit_left (z - missed struck) true (omega arith) ∙ ap (λ k. bit_at sent k == 1) there ∙ ap (λ k. k == 1) zero_bit in
      let stand = bits_stand first (take count (bits_of_bytes sent)) struck begun plain.0 (z - missed struck) (omega (arith, left_is)) a_zero in
      (stand.0, ap cell_bits h.levels ∙ plain.1 ∙ stand.1)

  pub decoded_bit : (x : ℕ) → missed struck + x < count → bit_at (decoded_bytes received) x ≡ bit_at sent (missed struck + x)
  decoded_bit x low =
      let got = received_bits in
      let front = drop (missed struck) (take count (bits_of_bytes sent)) in
      let inside : x < length front = omega (arith, left_is) in
      let long : x < length (cell_bits (bits_of_bytes received)) = omega (arith, inside, ap length got.1, length-append front got.0) in
      bit_of_packed (cell_bits (bits_of_bytes received)) x long
      ∙ ap (λ xs. one_of (get_or xs x false)) got.1
      ∙ ap one_of (get_or_append_left front got.0 false x inside ∙ bit_left x false low)
      ∙ one_of_test (bit_at sent (missed struck + x)) (bit_at_below sent (missed struck + x))

  pub decoded_size : count - missed struck ≤ bits_in (decoded_bytes received)
  decoded_size =
      let got = received_bits in
      let front = drop (missed struck) (take count (bits_of_bytes sent)) in
      omega (arith, left_is, ap length got.1, length-append front got.0, length-bytes_of_bits (cell_bits (bits_of_bytes received)))

-- ---- frames among it

-- the fourth bit of the first sync word is 0
sync_zero : (b : List ℕ) (w p : ℕ) → IsFramePosition b w p → bit_at b (p + 3) ≡ 0
unfolding word_at
sync_zero b w p position =
    let syncs = sym (frame_by_syncs b w p (frame_within b w p position)) ∙ position in
    let word : word_at b p ≡ sync_word 1 = eqb-true (word_at b p) (sync_word 1) (and_parts _ _ (and_parts _ _ (and_parts _ _ syncs).0).0).0 in
    sym (number_of-bit (λ j. bit_at b (p + j)) (λ j. bit_at_below b (p + j)) 12 3 (omega arith)) ∙ ap (λ n. nat_bit n 3) word

module _ (t : TableRows) (records : List BusRecord) (sent received : List ℕ) (first turned : Bool) (struck count q j m : ℕ)
    (range : IsInRange t) (sound : IsSound t) (h : IsReceived first sent turned struck count received)
    (c : ComesWhole t records sent struck count q j m) where
  one_frame : 48 * t.frame.words ≤ 48 * t.frame.words * m
  one_frame = let w = t.frame.words in let le : 48 * w * 1 ≤ 48 * w * m = mul-le (48 * w) 1 (48 * w) m (omega arith) (omega (arith, c.not_empty)) in
      omega (arith, le)

  recorded : IsFramePosition (stream_of t records) t.frame.words (48 * t.frame.words * j)
  recorded = (next_frame t records (sound_recordable t range sound) j (omega (arith, c.not_empty, c.whole))).position

  some : 0 < t.frame.words
  some = some_words (stream_of t records) t.frame.words (48 * t.frame.words * j) recorded

  zero_sent : bit_at sent (q + 3) ≡ 0
  zero_sent = c.stand.same 3 (omega (arith, some, one_frame)) ∙ sync_zero (stream_of t records) t.frame.words (48 * t.frame.words * j) recorded

  bit_back : (x : ℕ) → missed struck + x < count → bit_at (decoded_bytes received) x ≡ bit_at sent (missed struck + x)
  bit_back = decoded_bit first sent turned struck count received h (q + 3) (omega (arith, c.begun)) (omega (arith, c.ended, some, one_frame)) zero_sent

  size_back : count - missed struck ≤ bits_in (decoded_bytes received)
  size_back = decoded_size first sent turned struck count received h (q + 3) (omega (arith, c.begun)) (omega (arith, c.ended, some, one_frame)) zero_sent

  pub comes_whole : Survives t records (decoded_bytes received) (q - missed struck) j m
  comes_whole =
      let w = t.frame.words in
      let got = decoded_bytes received in
      let ended = c.ended in
      let begun = c.begun in
      record {
        not_empty = c.not_empty;
        whole = c.whole;
        stand = record {
          within = omega (arith, size_back, ended, begun);
          same = λ x low.
              let there : missed struck + (q - missed struck + x) ≡ q + x = omega arith in
              bit_back (q - missed struck + x) (omega arith) ∙ ap (bit_at sent) there ∙ c.stand.same x low;
        };
        clear = λ p before reaches position.
            let inside : missed struck + p + 48 * w ≤ count = omega (arith, one_frame) in
            let same : is_frame_position got w p ≡ is_frame_position sent w (missed struck + p) =
            frame_same got sent w p (missed struck + p) some (frame_within got w p position) (omega (arith, h.within))
            (λ x low. let place : missed struck + (p + x) ≡ missed struck + p + x = omega arith in
            bit_back (p + x) (omega arith) ∙ ap (bit_at sent) place) in
            c.clear (missed struck + p) (omega arith) (omega arith) (omega arith) (sym same ∙ position);
      }

  pub comes_listed : AreListed t records (decoded_bytes received) (q - missed struck) j m
  comes_listed = surviving_run_listed t records (decoded_bytes received) (q - missed struck) j m range sound comes_whole

one_of_bit : (bit : Bool) → (one_of bit == 1) ≡ bit
one_of_bit true = refl
one_of_bit false = refl

-- what is encoded is received whole
pub encoded_received : (first : Bool) (sent : List ℕ) → IsReceived first sent false 0 (bits_in sent) (encoded_bytes first sent)
encoded_received first sent =
    let cells = cells_of first (bits_of_bytes sent) in
    let size : length cells ≡ 8 * (2 * length sent) = omega (arith, length-cells first (bits_of_bytes sent), length-bits sent) in
    let bytes : length (bytes_of_bits cells) ≡ 2 * length sent = omega (arith, length-bytes_of_bits cells, size) in
    let all : bits_of_bytes (bytes_of_bits cells) ≡ cells =
    map-range-agree (λ p. bit_at (bytes_of_bits cells) p == 1) (λ p. get_or cells p false) 0 (bits_in (bytes_of_bits cells))
    (λ p low high. ap (λ n. n == 1) (bit_of_packed cells p (omega (arith, bytes, size))) ∙ one_of_bit (get_or cells p false))
    ∙ ap (λ n. map (λ p. get_or cells p false) (range_with_len 0 n)) (let n : bits_in (bytes_of_bits cells) ≡ length cells = omega (arith, bytes, size) in n)
    ∙ each_element [] cells in
    let whole : take (bits_in sent) (bits_of_bytes sent) ≡ bits_of_bytes sent = take_all (bits_in sent) (bits_of_bytes sent)
    (omega (arith, length-bits sent)) in
    record {
      within = omega arith;
      begun = omega arith;
      behind = [];
      levels = all ∙ sym (append-nil cells) ∙ ap (λ xs. cells_of first xs ++ []) (sym whole);
    }

-- of a recording's own stream all whole frames come whole
pub own_whole : (t : TableRows) (records : List BusRecord) (m : ℕ) → IsInRange t → IsSound t → 1 ≤ m → m ≤ whole_frames t records
    → ComesWhole t records (stream_of t records) 0 (bits_in (stream_of t records)) 0 0 m
own_whole t records m range sound some few =
    let own = survives_itself t records m range sound some few in
    record {
      not_empty = own.not_empty;
      whole = own.whole;
      stand = own.stand;
      begun = omega arith;
      ended = own.stand.within;
      clear = λ p low before reaches position. absurd (omega arith);
    }
