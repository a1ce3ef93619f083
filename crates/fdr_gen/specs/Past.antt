-- What a generator was made from, and how many records it gave since.
use Rattle.std.specs.Prelude.{ℕ, ◌≡◌, ◌<◌, ◌≤◌, ◌+◌, ◌*◌, Bool, true, if◌then◌else◌, List, length, map}
use Rattle.fdr_table.specs.Rows.{TableRows}
use Rattle.fdr_gen.specs.Draws.{state_after}
use Rattle.fdr_gen.specs.Trace.{Sender, sender_of, most_frames}

-- what a generator was made from, and how many records it gave since: a table, a seed, a number of frames, and that count
pub record GeneratorPast : Type 0 where
  pub table : TableRows
  pub seed : ℕ
  pub frames : ℕ
  pub given : ℕ

-- the past of a generator that was just made
abbrev pub generator_made : TableRows → ℕ → ℕ → GeneratorPast
generator_made t seed frames = record { table = t; seed = seed; frames = frames; given = 0 }

-- the past of a generator after it gave one more record
abbrev pub generator_with_record : GeneratorPast → GeneratorPast
generator_with_record past = record past { given = past.given + 1 }

-- what a generator keeps: the senders of the table's parameters, how many seconds the trace has, the second and the sender of the
-- next word, the state of the draws, and whether the end was given. After the last word the second is the number of seconds
pub record GeneratorKept : Type 0 where
  pub senders : List Sender
  pub seconds : ℕ
  pub second : ℕ
  pub place : ℕ
  pub state : ℕ
  pub ended : Bool

-- What holds of every generator: its numbers are within the trace, which has at most 400,000 seconds, and the end is given only
-- after the last word.
pub record IsGeneratorKept (k : GeneratorKept) : Type 0 where
  pub seconds : k.seconds ≤ 4 * most_frames
  pub second : k.second ≤ k.seconds
  pub place : k.second < k.seconds → k.place < length k.senders
  pub first_place : k.second ≡ k.seconds → k.place ≡ 0
  pub ended : k.ended ≡ true → k.second ≡ k.seconds

-- how many words a generator gave, by what it keeps
abbrev pub words_given : GeneratorKept → ℕ
words_given k = k.second * length k.senders + k.place

-- What the generator keeps stands for this past: it was made by this table, of this seed and for this many frames, and gave this
-- many records.
pub record RepresentsGenerator (k : GeneratorKept) (past : GeneratorPast) : Type 0 where
  pub senders : k.senders ≡ map sender_of past.table.params
  pub seconds : k.seconds ≡ 4 * past.frames
  pub state : k.state ≡ state_after past.seed (words_given k)
  pub given : past.given ≡ words_given k + (if k.ended then 1 else 0)
