-- The bytes of an object.
use Rattle.std.specs.Prelude.{ℕ, ◌+◌, ◌^◌, nat_le, if◌then◌else◌, List, Option, None, Some, Result, Ok, Err}
use Rattle.layer_base.specs.AddressSpace.{AddressSpace}
use Rattle.layer_base.specs.Present.{present_from}
use Rattle.space_memory.specs.Hole.{hole}
use Rattle.type_layout.specs.declared.fault.TypeFault.TheVariants.{PastEnd}
use Rattle.typed_object.specs.declared.fault.ObjectFault.{ObjectFault}
use Rattle.typed_object.specs.declared.fault.ObjectFault.TheVariants.{Fault, Hole}

-- bytes, unless there is an address that has none
abbrev pub unless_absent : Option ℕ → List ℕ → Result (List ℕ) ObjectFault
unless_absent None bytes = Ok bytes
unless_absent (Some a) bytes = Err (Hole a)

-- so many bytes from an address on. None of them lies behind the last address, and none is absent.
unfoldable pub bytes_of : AddressSpace → ℕ → ℕ → Result (List ℕ) ObjectFault
bytes_of memory at size =
    if nat_le (at + size) (2 ^ 64)
    then unless_absent (hole memory at size) (present_from memory at size)
    else Err (Fault PastEnd)
