-- What is counted of blocks, session by session.
use Rattle.std.proofs.Common.{◌≡◌, ℕ, ◌+◌, ◌*◌, ◌%◌, ◌^◌, ◌<◌, ◌≤◌, ◌==◌, true, false, cond, List, [], ◌∷◌, ◌++◌, length, map, ap, sym, refl, ◌∙◌, arith}
use Rattle.std.proofs.Common.{append-nil, length-append}
use Rattle.std.specs.Prelude.{filter, sum_by}
use Rattle.std.specs.List.{flat_map}
use Rattle.std.proofs.lemmas.Grind.{flat_map-append}
use Rattle.std.proofs.lemmas.List.Elements.{filter_map-append, filter-append}
use Rattle.std.proofs.lemmas.List.Sums.{sum_by-append, sum_by-cons}
use Rattle.fdr_check.specs.Soundness.{IsSound}
use Rattle.fdr_recover.specs.Blocks.{Block}
use Rattle.fdr_recover.specs.Payloads.{payloads_of}
use Rattle.fdr_recover.proofs.Stretching.{stretches-all}
use Rattle.fdr_table.specs.Rows.{TableRows}
use Rattle.fdr_readout.specs.declared.tally.Summary.{Summary}
use Rattle.fdr_readout.specs.Entries.{Entry, entries_of, is_frame_entry, row_of_entry}
use Rattle.fdr_readout.specs.Summary.{Tallies, listed_rows, no_summary, rows_among, summary_of, value_bits}
use Rattle.fdr_readout.proofs.SummaryLemmas.{counted_is, few_frames, few_listed, frames_are, rows_are}
use Rattle.fdr_top.specs.Sessions.{are_of_one_session, entries_of_blocks, listed_apart, session_entries, sessions_of, summary_of_blocks}

module _ (t : TableRows) where
  abbrev part_summary : List Block → Summary
  part_summary part = summary_of t (payloads_of part)

  abbrev all_frames : List (List Block) → ℕ
  all_frames parts = sum_by (λ (s : Summary). s.frames) (map part_summary parts)

  part_frames : (part : List Block) → length (filter is_frame_entry (entries_of t (payloads_of part))) ≡ (part_summary part).frames
  unfolding summary_of
  part_frames part = frames_are t (payloads_of part)

  part_few : (part : List Block) → (part_summary part).frames ≤ 8 * length (payloads_of part)
  unfolding summary_of
  part_few part = few_frames (payloads_of part) t.frame.words

  part_few_rows : (part : List Block) → IsSound t → length (listed_rows t (payloads_of part)) ≤ 262144 * (part_summary part).frames
  unfolding summary_of
  part_few_rows part sound = few_listed t (payloads_of part) sound

  part_count : (part : List Block) → length (listed_rows t (payloads_of part)) ≡ (part_summary part).rows
  unfolding summary_of
  part_count part = refl

  part_sum : (part : List Block) → sum_by value_bits (listed_rows t (payloads_of part)) % 2 ^ 64 ≡ (part_summary part).sum
  unfolding summary_of
  part_sum part = refl

  -- ---- of sessions one after another

  frames_of_sessions : (parts : List (List Block)) → length (filter is_frame_entry (flat_map (session_entries t) parts)) ≡ all_frames parts
  frames_of_sessions [] = refl
  frames_of_sessions (part ∷ parts) =
      let one : List Entry = entries_of t (payloads_of part) in
      let rest : List Entry = flat_map (session_entries t) parts in
      ap length (filter-append is_frame_entry one rest)
      ∙ length-append (filter is_frame_entry one) (filter is_frame_entry rest)
      ∙ ap (λ n. n + length (filter is_frame_entry rest)) (part_frames part)
      ∙ ap (λ n. (part_summary part).frames + n) (frames_of_sessions parts)
      ∙ sym (sum_by-cons (λ (s : Summary). s.frames) (part_summary part) (map part_summary parts))

  rows_of_sessions : (parts : List (List Block))
      → rows_among (flat_map (session_entries t) parts) ≡ flat_map (λ (p : List Block). listed_rows t (payloads_of p)) parts
  rows_of_sessions [] = refl
  rows_of_sessions (part ∷ parts) =
      let one : List Entry = entries_of t (payloads_of part) in
      let rest : List Entry = flat_map (session_entries t) parts in
      filter_map-append row_of_entry one rest
      ∙ ap (λ l. l ++ rows_among rest) (rows_are t (payloads_of part))
      ∙ ap (λ l. listed_rows t (payloads_of part) ++ l) (rows_of_sessions parts)

  -- ---- of parts

  count_of_parts : (parts : List (List Block))
      → length (flat_map (λ (p : List Block). listed_rows t (payloads_of p)) parts) ≡ sum_by (λ (s : Summary). s.rows) (map part_summary parts)
  count_of_parts [] = refl
  count_of_parts (part ∷ parts) =
      length-append (listed_rows t (payloads_of part)) (flat_map (λ (p : List Block). listed_rows t (payloads_of p)) parts)
      ∙ ap (λ n. n + length (flat_map (λ (p : List Block). listed_rows t (payloads_of p)) parts)) (part_count part)
      ∙ ap (λ n. (part_summary part).rows + n) (count_of_parts parts)
      ∙ sym (sum_by-cons (λ (s : Summary). s.rows) (part_summary part) (map part_summary parts))

  sum_of_parts : (parts : List (List Block))
      → sum_by value_bits (flat_map (λ (p : List Block). listed_rows t (payloads_of p)) parts) % 2 ^ 64
      ≡ sum_by (λ (s : Summary). s.sum) (map part_summary parts) % 2 ^ 64
  sum_of_parts [] = refl
  sum_of_parts (part ∷ parts) =
      let one : ℕ = sum_by value_bits (listed_rows t (payloads_of part)) in
      let rest : ℕ = sum_by value_bits (flat_map (λ (p : List Block). listed_rows t (payloads_of p)) parts) in
      ap (λ n. n % 2 ^ 64) (sum_by-append value_bits (listed_rows t (payloads_of part)) (flat_map (λ (p : List Block). listed_rows t (payloads_of p)) parts))
      ∙ by_parts one rest (part_summary part).sum (sum_by (λ (s : Summary). s.sum) (map part_summary parts)) (part_sum part) (sum_of_parts parts)
      ∙ ap (λ n. n % 2 ^ 64) (sym (sum_by-cons (λ (s : Summary). s.sum) (part_summary part) (map part_summary parts)))
    where
      by_parts : (a b c d : ℕ) → a % 2 ^ 64 ≡ c → b % 2 ^ 64 ≡ d % 2 ^ 64 → (a + b) % 2 ^ 64 ≡ (c + d) % 2 ^ 64
      by_parts a b c d first second = omega arith

  few_of_parts : (parts : List (List Block)) → all_frames parts ≤ 8 * length (payloads_of (flat_map (λ (part : List Block). part) parts))
  few_of_parts [] = omega arith
  few_of_parts (part ∷ parts) =
      let rest : List Block = flat_map (λ (p : List Block). p) parts in
      omega (
        arith,
        sum_by-cons (λ (s : Summary). s.frames) (part_summary part) (map part_summary parts),
        part_few part,
        few_of_parts parts,
        ap length (flat_map-append (λ (b : Block). b.payload) part rest),
        length-append (payloads_of part) (payloads_of rest),
      )

  few_rows_of_parts : (parts : List (List Block)) → IsSound t
      → length (flat_map (λ (p : List Block). listed_rows t (payloads_of p)) parts) ≤ 262144 * all_frames parts
  few_rows_of_parts [] sound = omega arith
  few_rows_of_parts (part ∷ parts) sound =
      omega (
        arith,
        sum_by-cons (λ (s : Summary). s.frames) (part_summary part) (map part_summary parts),
        length-append (listed_rows t (payloads_of part)) (flat_map (λ (p : List Block). listed_rows t (payloads_of p)) parts),
        part_few_rows part sound,
        few_rows_of_parts parts sound,
      )

  -- ---- of blocks

  frames_of_blocks : (version : ℕ) (blocks : List Block)
      → length (filter is_frame_entry (entries_of_blocks t version blocks)) ≡ all_frames (listed_apart version blocks)
  unfolding entries_of_blocks
  frames_of_blocks version blocks =
      elim (version == 2) as (λ v.
      length (filter is_frame_entry (cond v (flat_map (session_entries t) (sessions_of blocks)) (entries_of t (payloads_of blocks))))
      ≡ all_frames (cond v (sessions_of blocks) (blocks ∷ []))) [
        | true ↦ frames_of_sessions (sessions_of blocks)
        | false ↦ omega (arith, part_frames blocks)
      ]

  rows_of_blocks : (version : ℕ) (blocks : List Block)
      → rows_among (entries_of_blocks t version blocks)
      ≡ flat_map (λ (p : List Block). listed_rows t (payloads_of p)) (listed_apart version blocks)
  unfolding entries_of_blocks
  rows_of_blocks version blocks =
      elim (version == 2) as (λ v. rows_among (cond v (flat_map (session_entries t) (sessions_of blocks)) (entries_of t (payloads_of blocks)))
      ≡ flat_map (λ (p : List Block). listed_rows t (payloads_of p)) (cond v (sessions_of blocks) (blocks ∷ []))) [
        | true ↦ rows_of_sessions (sessions_of blocks)
        | false ↦ rows_are t (payloads_of blocks) ∙ sym (append-nil (listed_rows t (payloads_of blocks)))
      ]

  all_blocks_apart : (version : ℕ) (blocks : List Block) → flat_map (λ (part : List Block). part) (listed_apart version blocks) ≡ blocks
  all_blocks_apart version blocks =
      elim (version == 2) as (λ v. flat_map (λ (part : List Block). part) (cond v (sessions_of blocks) (blocks ∷ [])) ≡ blocks) [
        | true ↦ stretches-all are_of_one_session blocks
        | false ↦ append-nil blocks
      ]

  few_in_parts : (version : ℕ) (blocks : List Block) → length (payloads_of blocks) ≤ 2 ^ 28 → all_frames (listed_apart version blocks) ≤ 2 ^ 31
  few_in_parts version blocks short =
      omega (arith, few_of_parts (listed_apart version blocks), short, ap (λ (l : List Block). length (payloads_of l)) (all_blocks_apart version blocks))

  -- the rows of blocks are few enough to be counted
  pub few_rows_of_blocks : (version : ℕ) (blocks : List Block) → IsSound t → length (payloads_of blocks) ≤ 2 ^ 28
      → length (rows_among (entries_of_blocks t version blocks)) ≤ 2 ^ 63
  few_rows_of_blocks version blocks sound short =
      let parts : List (List Block) = listed_apart version blocks in
      omega (arith, ap length (rows_of_blocks version blocks), few_rows_of_parts parts sound, few_in_parts version blocks short)

  -- what is counted of blocks, from nothing on, is their summary
  pub summary_of_blocks_is : (version : ℕ) (blocks : List Block) (now : Summary) → IsSound t → length (payloads_of blocks) ≤ 2 ^ 28
      → Tallies no_summary now (entries_of_blocks t version blocks) → now ≡ summary_of_blocks t version blocks
  unfolding summary_of_blocks
  summary_of_blocks_is version blocks now sound short tallied =
      let parts : List (List Block) = listed_apart version blocks in
      let rows = flat_map (λ (p : List Block). listed_rows t (payloads_of p)) parts in
      let few = few_in_parts version blocks short in
      let few_rows : length rows < 2 ^ 64 = omega (arith, few_rows_of_parts parts sound, few) in
      counted_is (entries_of_blocks t version blocks) (all_frames parts) rows now (frames_of_blocks version blocks) (rows_of_blocks version blocks)
      (omega (arith, few)) few_rows tallied
      ∙ ap (λ (n : ℕ). record { frames = all_frames parts; rows = n; sum = sum_by value_bits rows % 2 ^ 64 }) (count_of_parts parts)
      ∙ ap (λ (n : ℕ). record { frames = all_frames parts; rows = sum_by (λ (s : Summary). s.rows) (map part_summary parts); sum = n }) (sum_of_parts parts)
