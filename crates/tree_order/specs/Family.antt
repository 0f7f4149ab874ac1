-- The rows right under a row, or the tops. `over` gives the row over each row.
use Rattle.std.specs.Prelude.{◌≡◌, ℕ, zero, suc, ◌<◌, List, [], ◌∷◌, length, Option, Some, None, IfSome, nat_eq, if◌then◌else◌}
use Rattle.std.specs.Option.{option_eq}
use Rattle.tree_order.specs.Climbs.{entry}
use Rattle.tree_order.specs.declared.family.Family.{Family}

-- those of so many rows that stand under a place, which is a row or none, the last of them first
unfoldable pub rows_under : (ℕ → Option ℕ) → Option ℕ → ℕ → List ℕ
rows_under over place zero = []
rows_under over place (suc n) = if option_eq nat_eq (over n) place then n ∷ rows_under over place n else rows_under over place n

-- a list gives the row before each row, and so leads from the first of these rows through all of them
unfoldable pub Leads : List (Option ℕ) → Option ℕ → List ℕ → Type 0
Leads before start [] = start ≡ None
Leads before start (row ∷ rows) = (start ≡ Some row) × Leads before (entry before row) rows

-- the last row under a place
abbrev pub last_under : Family → Option ℕ → Option ℕ
last_under family None = family.last_top
last_under family (Some row) = entry family.last.items row

-- the family of so many rows
pub record IsFamily (over : ℕ → Option ℕ) (rows : ℕ) (family : Family) : Type 0 where
  pub count : length family.before.items ≡ rows
  pub leads : (place : Option ℕ) → Leads family.before.items (last_under family place) (rows_under over place rows)
  pub falls : (row : ℕ) → IfSome (entry family.before.items row) (λ before. before < row)
