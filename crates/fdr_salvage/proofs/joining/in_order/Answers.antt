use Rattle.std.proofs.Common.{rules}
use Rattle.std.proofs.lemmas.List.Sorted.{IsNonDecreasingBy-from_sort}
use Rattle.fdr_salvage.proofs.joining.in_order.Goals as goal

pub returns : goal.returns
returns c = record { permutation = search rules; order = IsNonDecreasingBy-from_sort (λ x. x) _ (search rules) }
