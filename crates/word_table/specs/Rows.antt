-- The texts of the words of a table.
use Rattle.std.specs.Prelude.{ℕ, ◌+◌, List, [], ◌∷◌, ◌++◌, Option}

-- the texts of words, the first of which has this index
unfoldable pub rows_from : (ℕ → Option ℕ → List ℕ) → ℕ → List (Option ℕ) → List ℕ
rows_from row index [] = []
rows_from row index (word ∷ words) = row index word ++ rows_from row (index + 1) words
