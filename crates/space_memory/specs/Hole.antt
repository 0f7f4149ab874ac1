-- Where bytes are absent.
use Rattle.std.specs.Prelude.{◌≡◌, ℕ, zero, suc, ◌+◌, ◌-◌, ◌<◌, ◌≤◌, List, length, map, take, Option, None, Some}
use Rattle.layer_base.specs.AddressSpace.{AddressSpace, bytes_from}
use Rattle.space_memory.specs.declared.memory.Got.{Got}
use Rattle.space_memory.specs.declared.memory.Got.TheVariants.{All, Hole}

-- an address whose byte is absent, or else another
abbrev pub absent_or : Option ℕ → ℕ → Option ℕ → Option ℕ
absent_or None a other = Some a
absent_or (Some byte) a other = other

-- the least absent address among so many from an address on
unfoldable pub hole : AddressSpace → ℕ → ℕ → Option ℕ
hole memory at zero = None
hole memory at (suc n) = absent_or (memory at) at (hole memory (at + 1) n)

-- the address of a hole is one of those that were asked for
abbrev pub IsGotWithin : ℕ → ℕ → Got → Type 0
IsGotWithin at n All = Unit {0}
IsGotWithin at n (Hole a) = (at ≤ a) × (a < at + n)

-- A buffer was filled with the bytes from an address on where none of them is absent. Else the answer is the least
-- absent address, and the bytes before it stand in the front of the buffer.
abbrev pub IsGot : AddressSpace → ℕ → List ℕ → Got → Type 0
IsGot memory at buf All = (hole memory at (length buf) ≡ None) × (bytes_from memory at (length buf) ≡ map Some buf)
IsGot memory at buf (Hole a) = (hole memory at (length buf) ≡ Some a) × (bytes_from memory at (a - at) ≡ map Some (take (a - at) buf))
