-- The blocks that are written while a record is fed.
use Rattle.std.proofs.Common.{◌≡◌, ℕ, ◌+◌, ◌*◌, ◌<◌, ◌≤◌, min, ◌⊎◌, inl, inr, ⊎_elim, List, [], ◌∷◌, ◌++◌, length, take, drop, Option, Some, None, ap, sym}
use Rattle.std.proofs.Common.{refl, ◌∙◌, subst, arith}
use Rattle.std.proofs.lemmas.List.{length-take, take_all, take-append-drop, take-take}
use Rattle.std.proofs.lemmas.Bool.{cases_lt}
use Rattle.std.proofs.lemmas.Nat.{mul-le}
use Rattle.std.proofs.Math.Seq.{take-add}
use Rattle.fdr_io.specs.Told.{followed_by}
use Rattle.fdr_io.proofs.Telling.{followed_by-followed_by}
use Rattle.fdr_bus.specs.declared.BusRecord.{BusRecord}
use Rattle.fdr_bus.specs.Records.{last_time}
use Rattle.fdr_table.specs.Rows.{TableRows}
use Rattle.fdr_sampler.specs.Stream.{slot_count, stream_of, stream_words}
use Rattle.fdr_stream.specs.Blocks.{cut_block, due_blocks}
use Rattle.fdr_stream.specs.Kept.{StreamKept}
use Rattle.fdr_stream.specs.Past.{StreamPast, MayFeedStream, RepresentsStream, with_block, stream_with_record}
use Rattle.fdr_stream.proofs.Later.{take-block, due_blocks-fill, stream_of-later}
use Rattle.fdr_top.specs.Streaming.{past_of, due_text, ComesNext, IsStreamed}
use Rattle.fdr_sampler.proofs.StreamWords.{length-stream_words}
use Rattle.fdr_bus.proofs.TraceLemmas.{time_of-push}

-- while a record is fed: how many blocks were given, and at which record the last one was
abbrev pub giving : TableRows → List BusRecord → Option BusRecord → ℕ → StreamPast
giving t records begun blocks = record { table = t; payload = 4096; records = records; begun = begun; blocks = blocks }

-- after i blocks of the record
pub record IsGiving (k : StreamKept) (t : TableRows) (records : List BusRecord) (r : BusRecord) (i : ℕ) (begun : Option BusRecord) (blocks : ℕ) : Type 0 where
  pub stands : RepresentsStream k (giving t records begun blocks)
  pub same : (begun ≡ None) ⊎ (begun ≡ Some r)
  pub rises : i ≤ blocks
  pub due : (i ≡ 0) ⊎ (blocks ≤ due_blocks t 4096 (records ++ r ∷ []))

-- the text of the first blocks
abbrev pub blocks_text : TableRows → List BusRecord → ℕ → List ℕ
blocks_text t records n = take (4096 * n) (stream_of t records)

pub MayFeed-giving : (t : TableRows) (records : List BusRecord) (r : BusRecord) (begun : Option BusRecord) (blocks : ℕ) → ComesNext records r
    → (begun ≡ None) ⊎ (begun ≡ Some r) → MayFeedStream (giving t records begun blocks) r
MayFeed-giving t records r begun blocks next same = record { order = next.order; in_time = next.in_time; unended = next.unended; same = same }

pub IsGiving-first : (k : StreamKept) (t : TableRows) (records : List BusRecord) (r : BusRecord) → RepresentsStream k (past_of t records)
    → IsGiving k t records r 0 None (due_blocks t 4096 records)
IsGiving-first k t records r stands = record { stands = stands; same = inl refl; rises = omega arith; due = inl refl }

-- what was written before is the same front part of the longer stream
pub text-first : (t : TableRows) (records : List BusRecord) (r : BusRecord) → ComesNext records r
    → due_text t records ≡ blocks_text t (records ++ r ∷ []) (due_blocks t 4096 records)
text-first t records r next = sym (stream_of-later t records r (4096 * due_blocks t 4096 records) next.order (due_blocks-fill t 4096 records))

pub IsGiving-block : (k : StreamKept) (t : TableRows) (records : List BusRecord) (r : BusRecord) (i : ℕ) (begun : Option BusRecord) (blocks : ℕ)
    (k' : StreamKept) → IsGiving k t records r i begun blocks → blocks < due_blocks t 4096 (records ++ r ∷ [])
    → RepresentsStream k' (with_block (giving t records begun blocks) r) →
    IsGiving k' t records r (i + 1) (Some r) (blocks + 1)
IsGiving-block k t records r i begun blocks k' giving due stands = record {
  stands = stands;
  same = inr refl;
  rises = omega (arith, giving.rises);
  due = inr (omega (arith, due));
}

-- a block more
pub text-block : (before before_block now : Option (List ℕ)) (t : TableRows) (records : List BusRecord) (n : ℕ) (block : List ℕ) → length block ≡ 4096
    → take 4096 block ≡ cut_block 4096 (stream_of t records) n →
    before_block ≡ followed_by before (blocks_text t records n) → now ≡ followed_by before_block block
    → now ≡ followed_by before (blocks_text t records (n + 1))
text-block before before_block now t records n block whole is written more =
    let all : block ≡ cut_block 4096 (stream_of t records) n = sym (take_all 4096 block (omega (arith, whole))) ∙ is in
    more ∙ ap (λ told. followed_by told block) written ∙ followed_by-followed_by before (blocks_text t records n) block
    ∙ ap (followed_by before) (ap (λ (x : List ℕ). blocks_text t records n ++ x) all ∙ sym (take-block 4096 (stream_of t records) n))

pub take_min : (k n : ℕ) (xs : List ℕ) → take k (take n xs) ≡ take (min k n) xs
take_min k n xs = ⊎_elim
    (λ (less : n < k). let is : min k n ≡ n = omega arith in take_all k (take n xs) (omega (arith, length-take n xs)) ∙ ap (λ m. take m xs) (sym is))
    (λ (within : k ≤ n). let is : min k n ≡ k = omega arith in take-take k n xs within ∙ ap (λ m. take m xs) (sym is))
    (cases_lt n k)

-- a part of a block more
pub part-block : (before before_block now : Option (List ℕ)) (t : TableRows) (records : List BusRecord) (n : ℕ) (block : List ℕ) (k : ℕ) → length block ≡ 4096
    → take 4096 block ≡ cut_block 4096 (stream_of t records) n → n < due_blocks t 4096 records →
    before_block ≡ followed_by before (blocks_text t records n) → now ≡ followed_by before_block (take k block)
    → (m : ℕ) × (now ≡ followed_by before (take m (due_text t records)))
part-block before before_block now t records n block k whole is due written more =
    let s = stream_of t records in
    let all : block ≡ cut_block 4096 s n = sym (take_all 4096 block (omega (arith, whole))) ∙ is in
    let some = min k 4096 in
    let m = 4096 * n + some in
    let within : m ≤ 4096 * due_blocks t 4096 records = omega (arith, due) in (
      m,
      more ∙ ap (λ told. followed_by told (take k block)) written ∙ followed_by-followed_by before (blocks_text t records n) (take k block)
          ∙ ap (followed_by before) (ap (λ (x : List ℕ). blocks_text t records n ++ take k x) all
          ∙ ap (λ (x : List ℕ). blocks_text t records n ++ x) (take_min k 4096 (drop (4096 * n) s)) ∙ sym (take-add (4096 * n) some s)
          ∙ sym (take-take m (4096 * due_blocks t 4096 records) s within)),
    )

-- all blocks that are due were given
pub IsStreamed-taken : (k' : StreamKept) (t : TableRows) (records : List BusRecord) (r : BusRecord) (begun : Option BusRecord) (blocks : ℕ)
    (before now : Option (List ℕ)) → RepresentsStream k' (stream_with_record (giving t records begun blocks) r)
    → now ≡ followed_by before (blocks_text t (records ++ r ∷ []) blocks) →
    IsStreamed k' t (records ++ r ∷ []) before now
IsStreamed-taken k' t records r begun blocks before now stands written =
    let all : blocks ≡ due_blocks t 4096 (records ++ r ∷ []) = stands.blocks refl in
    record {
      stands = subst (λ n. RepresentsStream k' (giving t (records ++ r ∷ []) None n)) all stands;
      written = written ∙ ap (λ n. followed_by before (blocks_text t (records ++ r ∷ []) n)) all;
    }

-- a recording has fewer blocks
pub due_blocks-few : (t : TableRows) (records : List BusRecord) (r : BusRecord) → t.frame.words ≤ 1024 → r.time ≤ last_time
    → due_blocks t 4096 (records ++ r ∷ []) < 540001
due_blocks-few t records r words in_time =
    let count : length (stream_words t (records ++ r ∷ [])) ≡ slot_count t.frame.words r.time =
    length-stream_words t (records ++ r ∷ []) ∙ ap (slot_count t.frame.words) (time_of-push records r) in
    let most : r.time * t.frame.words ≤ 1440000000000 * 1024 = mul-le r.time t.frame.words 1440000000000 1024 in_time words in
    omega (arith, count, most)

-- the bytes after the blocks that are due
pub text-rest : (before before_rest now : Option (List ℕ)) (t : TableRows) (records : List BusRecord) (block : List ℕ) (count : ℕ)
    → take count block ≡ drop (4096 * due_blocks t 4096 records) (stream_of t records) →
    before_rest ≡ followed_by before (due_text t records) → now ≡ followed_by before_rest (take count block) → now ≡ followed_by before (stream_of t records)
text-rest before before_rest now t records block count is written more =
    more ∙ ap (λ told. followed_by told (take count block)) written ∙ followed_by-followed_by before (due_text t records) (take count block)
    ∙ ap (followed_by before) (ap (λ (x : List ℕ). due_text t records ++ x) is ∙ take-append-drop (4096 * due_blocks t 4096 records) (stream_of t records))

pub part-rest : (before before_rest now : Option (List ℕ)) (t : TableRows) (records : List BusRecord) (block : List ℕ) (count k : ℕ)
    → take count block ≡ drop (4096 * due_blocks t 4096 records) (stream_of t records) →
    before_rest ≡ followed_by before (due_text t records) → now ≡ followed_by before_rest (take k (take count block))
    → (m : ℕ) × (now ≡ followed_by before (take m (stream_of t records)))
part-rest before before_rest now t records block count k is written more =
    let all = 4096 * due_blocks t 4096 records in (
      all + k,
      more ∙ ap (λ told. followed_by told (take k (take count block))) written ∙ followed_by-followed_by before (due_text t records) (take k (take count block))
          ∙ ap (followed_by before) (ap (λ (x : List ℕ). due_text t records ++ take k x) is ∙ sym (take-add all k (stream_of t records))),
    )
