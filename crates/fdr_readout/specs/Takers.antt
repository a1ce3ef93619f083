-- What holds of each taker of entries, whose state is of type S and beside which a sink of type O stands.
use Rattle.std.specs.Prelude.{List, [], ◌++◌}
use Rattle.fdr_table.specs.Rows.{TableRows}
use Rattle.fdr_readout.specs.Entries.{Entry}

-- What holds of each taker of entries, whose state is of type S and beside which a sink of type O stands: it may take nothing,
-- and entries one after another. It fails in some entries also where it took others before them, and where more would have
-- followed.
pub record TakerLaws {S O : Type 0} (took : TableRows → S → O → S → O → List Entry → Type 0)
    (failed_in : TableRows → S → O → O → List Entry → Type 0) : Type 0 where
  pub nothing : (t : TableRows) (s : S) (o : O) → took t s o s o []
  pub then : (t : TableRows) (a b c : S) (o p q : O) (xs ys : List Entry) → took t a o b p xs → took t b p c q ys → took t a o c q (xs ++ ys)
  pub fails_then : (t : TableRows) (a b : S) (o p q : O) (xs ys : List Entry) → took t a o b p xs → failed_in t b p q ys → failed_in t a o q (xs ++ ys)
  pub fails_before : (t : TableRows) (a : S) (o p : O) (xs ys : List Entry) → failed_in t a o p xs → failed_in t a o p (xs ++ ys)
