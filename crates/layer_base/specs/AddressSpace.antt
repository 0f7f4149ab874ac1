-- Memory as a function from addresses to bytes.
use Rattle.std.specs.Prelude.{ℕ, zero, suc, ◌+◌, List, [], ◌∷◌, Option}

-- the byte at each address, None in a hole
abbrev pub AddressSpace : Type 0
AddressSpace = ℕ → Option ℕ

-- the n optional bytes from an address on
unfoldable pub bytes_from : AddressSpace → ℕ → ℕ → List (Option ℕ)
bytes_from memory at zero = []
bytes_from memory at (suc n) = memory at ∷ bytes_from memory (at + 1) n
