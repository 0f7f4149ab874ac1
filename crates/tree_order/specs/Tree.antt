-- The order of a tree of rows.
use Rattle.std.specs.Prelude.{ℕ, zero, suc, ◌-◌, List, [], ◌∷◌, ◌++◌, length, map, Option, option_map, unwrap_or}
use Rattle.std.specs.BTreeSet.{insert_key}
use Rattle.std.specs.Cmp.Lexicographic.{slice_cmp}
use Rattle.std.specs.Ordering.{nat_cmp}
use Rattle.tree_order.specs.Parents.{parent}
use Rattle.tree_order.specs.Tops.{over}
use Rattle.tree_order.specs.declared.key.Key.{Key}
use Rattle.tree_order.specs.declared.branch.Branch.{Branch}

-- The path of a row: the path of the row over it, where one is, and then the row. At most so many rows are over a row.
unfoldable pub path_under : (ℕ → Option ℕ) → ℕ → ℕ → List ℕ
path_under over zero row = row ∷ []
path_under over (suc n) row = unwrap_or (option_map (path_under over n) (over row)) [] ++ row ∷ []

abbrev pub path : List Key → ℕ → List ℕ
path keys = path_under (over (parent keys) (length keys)) (length keys)

-- so many rows, sorted by their paths: a path stands before those that continue it
unfoldable pub sorted_rows : (ℕ → List ℕ) → ℕ → List ℕ
sorted_rows path zero = []
sorted_rows path (suc n) = insert_key (λ row other. slice_cmp nat_cmp (path row) (path other)) (sorted_rows path n) n

-- a row with its depth: the length of its path minus 1
abbrev pub branch : (ℕ → List ℕ) → ℕ → Branch
branch path row = record { row = row; depth = length (path row) - 1 }

-- so many rows sorted by their paths, each with its depth
abbrev pub branches : (ℕ → List ℕ) → ℕ → List Branch
branches path n = map (branch path) (sorted_rows path n)

-- the rows of a list of keys
abbrev pub tree : List Key → List Branch
tree keys = branches (path keys) (length keys)
