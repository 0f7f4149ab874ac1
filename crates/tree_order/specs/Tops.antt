-- Which rows are tops. `up` gives the parent of each row.
use Rattle.std.specs.Prelude.{ℕ, zero, suc, min, Bool, false, ◌||◌, ◌==◌, Option, Some, None, is_none, option_and_then, if◌then◌else◌}

-- a row, or another one that stands before it
abbrev pub first_of : ℕ → Option ℕ → ℕ
first_of row None = row
first_of row (Some other) = min row other

-- the first of so many rows above a row: of its parent, the parent of that, and so on
unfoldable pub first_above : (ℕ → Option ℕ) → ℕ → ℕ → Option ℕ
first_above up zero row = None
first_above up (suc n) row = option_and_then (λ parent. Some (first_of parent (first_above up n parent))) (up row)

-- whether a row that is there is this one
abbrev pub is_row : ℕ → Option ℕ → Bool
is_row row None = false
is_row row (Some other) = other == row

-- A row is a top where it has no parent, or where the first of the rows above it is this row itself. Then it is the first
-- row of a ring of parents; one that is its own parent is a ring of one. A ring is at most as long as there are rows.
abbrev pub is_top : (ℕ → Option ℕ) → ℕ → ℕ → Bool
is_top up rows row = is_none (up row) || is_row row (first_above up rows row)

-- the row under which a row stands in the tree: its parent, and none for a top
abbrev pub over : (ℕ → Option ℕ) → ℕ → ℕ → Option ℕ
over up rows row = if is_top up rows row then None else up row
