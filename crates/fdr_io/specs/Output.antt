-- What went out to a sink through a buffer.
use Rattle.std.specs.Prelude.{◌≡◌, ℕ, List, ◌++◌, take, Option}
use Rattle.fdr_io.specs.Told.{followed_by}

-- All of a text went out: the sink has taken more bytes, and these and what waits now in the buffer are what waited before and
-- then the text.
pub record Emits (written_before written_now : Option (List ℕ)) (waiting_before waiting_now text : List ℕ) : Type 0 where
  pub gone : List ℕ
  pub written : written_now ≡ followed_by written_before gone
  pub waits : gone ++ waiting_now ≡ waiting_before ++ text

-- A front part went out: the sink has taken the first bytes of what waited before in the buffer and then the text.
pub record EmitsPart (written_before written_now : Option (List ℕ)) (waiting_before text : List ℕ) : Type 0 where
  pub count : ℕ
  pub written : written_now ≡ followed_by written_before (take count (waiting_before ++ text))
