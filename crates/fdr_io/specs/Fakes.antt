-- What is seen of the fakes.
use Rattle.std.specs.Prelude.{ℕ, List}

-- the numbers of the calls of a source or sink in memory that are to fail, and the number of the next call
pub record Plan : Type 0 where
  pub failing : List ℕ
  pub next : ℕ

-- what is seen of a source in memory: the bytes that are left, which of its calls are to fail, and its count of faults
pub record Supply : Type 0 where
  pub left : List ℕ
  pub plan : Plan
  pub faults : ℕ

-- what is seen of a sink in memory: the bytes that were written, which of its calls are to fail, and its count of faults
pub record Record : Type 0 where
  pub written : List ℕ
  pub plan : Plan
  pub faults : ℕ
