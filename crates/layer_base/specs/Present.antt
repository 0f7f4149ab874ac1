-- The bytes that are present in a row.
use Rattle.std.specs.Prelude.{ℕ, zero, suc, ◌+◌, List, [], ◌∷◌, Option, None, Some}
use Rattle.layer_base.specs.AddressSpace.{AddressSpace}

-- a byte and those after it, where it is present
abbrev pub while_present : Option ℕ → List ℕ → List ℕ
while_present None more = []
while_present (Some byte) more = byte ∷ more

-- the bytes that are present in a row from an address on, and at most n of them
unfoldable pub present_from : AddressSpace → ℕ → ℕ → List ℕ
present_from memory at zero = []
present_from memory at (suc n) = while_present (memory at) (present_from memory (at + 1) n)
