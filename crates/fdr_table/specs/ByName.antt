-- Parameters that are found by their names.
use Rattle.std.specs.Prelude.{◌≡◌, ◌≤◌, ℕ, List, All, length, bytes_eq}
use Rattle.std.specs.HashMap.{get_by}
use Rattle.fdr_table.specs.Bounds.{most_params}
use Rattle.fdr_table.specs.Draft.{index_named}
use Rattle.fdr_table.specs.Ranges.{IsParamInRange}
use Rattle.fdr_table.specs.declared.params.Params.TheInside.{Inside}

-- Each parameter is found by its name: a look-up of any name gives the index of the parameter that has it, or none.
pub record AreByName (p : Inside) : Type 0 where
  pub count : length p.list.items ≤ most_params
  pub ranges : All IsParamInRange p.list.items
  pub names : (name : List ℕ) → get_by (λ key. bytes_eq name key.items) p.by_name ≡ index_named p.list.items name
