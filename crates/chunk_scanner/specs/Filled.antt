-- What was read into a buffer.
use Rattle.std.specs.Prelude.{◌≡◌, ◌≢◌, ℕ, ◌+◌, ◌<◌, ◌≤◌, List, map, take, None, Some, IfSome, MatchOption}
use Rattle.layer_base.specs.AddressSpace.{AddressSpace, bytes_from}
use Rattle.chunk_scanner.specs.declared.filled.Filled.{Filled}

-- the buffer is full, or its bytes end before a hole that begins right behind them
abbrev pub IsFilledWithin : ℕ → ℕ → Filled → Type 0
IsFilledWithin at room filled = MatchOption filled.hole (filled.count ≡ room) (λ last. (filled.count < room) × (at + filled.count ≤ last))

-- where a hole is told, all its addresses are absent
abbrev pub IsHoleBehind : AddressSpace → ℕ → Filled → Type 0
IsHoleBehind memory at filled = IfSome filled.hole (λ last. (a : ℕ) → at + filled.count ≤ a → a ≤ last → memory a ≡ None)

-- the bytes from an address on stand in the front of the buffer, and a hole is where it is told
pub record IsFilledFrom (memory : AddressSpace) (at : ℕ) (buf : List ℕ) (filled : Filled) : Type 0 where
  pub bytes : bytes_from memory at filled.count ≡ map Some (take filled.count buf)
  pub hole : IsHoleBehind memory at filled

-- At least one byte was read, of at most so many addresses behind the first; and at least 4,096 where some of these are
-- left. Or a hole begins within these addresses.
abbrev pub IsReadWithin : ℕ → ℕ → Filled → Type 0
IsReadWithin at more filled =
    MatchOption filled.hole
    ((1 ≤ filled.count) × (filled.count ≤ more + 1) × (filled.count ≢ more + 1 → 4096 ≤ filled.count))
    (λ hole. (at + filled.count ≤ hole) × (filled.count ≤ more))
