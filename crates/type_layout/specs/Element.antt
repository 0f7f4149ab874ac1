-- The element of an index.
use Rattle.std.specs.Prelude.{ℕ, ◌*◌, ◌^◌, nat_lt, if◌then◌else◌, Result, Ok, Err}
use Rattle.isf_reader.specs.Table.{Sections}
use Rattle.isf_reader.specs.declared.type_ref.TypeRef.{TypeRef, out-TypeRef}
use Rattle.isf_reader.specs.declared.type_ref.TypeRef.TheOpen.{TypeRef-F}
use Rattle.type_layout.specs.Member.{Spot}
use Rattle.type_layout.specs.Size.{size_of}
use Rattle.type_layout.specs.declared.fault.TypeFault.{TypeFault}
use Rattle.type_layout.specs.declared.fault.TypeFault.TheVariants.{NotArray, PastEnd}

-- where the element of an index stands: the index times the size of an element further on; a fault of the size is its fault
abbrev pub element_at : ℕ → TypeRef → Result ℕ TypeFault → Result Spot TypeFault
element_at index of (Ok size) = Ok (index * size, of)
element_at index of (Err fault) = Err fault

-- the element of an index, which must be below the count
abbrev pub element_among : Sections → ℕ → ℕ → TypeRef → Result Spot TypeFault
element_among table index count of = if nat_lt index count then element_at index of (size_of table of) else Err PastEnd

-- the element of an index in one level of a type, which must be an array
abbrev pub element_in : Sections → ℕ → TypeRef-F TypeRef → Result Spot TypeFault
element_in table index (TypeRef-F.Array count of) = element_among table index count of
element_in table index other = Err NotArray

-- the element of an index in an array, or its fault
abbrev pub element : Sections → TypeRef → ℕ → Result Spot TypeFault
element table of index = element_in table index (out-TypeRef of)

-- two addresses are at most 2 ^ 64 - 1 apart: a spot further on is past the end
abbrev pub within_addresses : Result Spot TypeFault → Result Spot TypeFault
within_addresses (Ok s) = if nat_lt s.0 (2 ^ 64) then Ok s else Err PastEnd
within_addresses (Err fault) = Err fault
