-- Numbers in memory.
use Rattle.std.specs.Prelude.{ℕ, nat_lt, if◌then◌else◌, List, length, Option, None, Some}
use Rattle.byteorder.specs.Endian.{little_number}
use Rattle.layer_base.specs.AddressSpace.{AddressSpace}
use Rattle.layer_base.specs.Present.{present_from}

-- the number in eight bytes, None where one is absent
abbrev pub word_of : List ℕ → Option ℕ
word_of present = if nat_lt (length present) 8 then None else Some (little_number 8 present)

-- the little-endian number in the eight bytes from an address on
unfoldable pub word : AddressSpace → ℕ → Option ℕ
word memory at = word_of (present_from memory at 8)
