-- What a read of memory adds to what was read.
use Rattle.std.specs.Prelude.{◌≡◌, ℕ, ◌+◌, ◌-◌, ◌<◌, ◌≤◌, List, ◌++◌, length, Option}
use Rattle.layer_base.specs.AddressSpace.{AddressSpace, bytes_from}

-- new is old with the cells of the addresses from `at` on behind it
abbrev pub AddsCells : AddressSpace → ℕ → List (Option ℕ) → List (Option ℕ) → Type 0
AddsCells memory at old new = new ≡ old ++ bytes_from memory at (length new - length old)

-- at least one cell more, and at most so many
abbrev pub IsCountWithin : ℕ → List (Option ℕ) → List (Option ℕ) → Type 0
IsCountWithin most old new = (length old < length new) × (length new ≤ length old + most)
