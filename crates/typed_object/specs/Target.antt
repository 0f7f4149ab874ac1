-- Where a pointer leads.
use Rattle.std.specs.Prelude.{ℕ, Result, Ok, Err}
use Rattle.layer_base.specs.AddressSpace.{AddressSpace}
use Rattle.layer_base.specs.Number.{low_word}
use Rattle.layer_base.specs.declared.number.Number.{Number}
use Rattle.isf_reader.specs.Table.{IsfTable}
use Rattle.isf_reader.specs.declared.type_ref.TypeRef.{TypeRef, out-TypeRef}
use Rattle.isf_reader.specs.declared.type_ref.TypeRef.TheOpen.{TypeRef-F}
use Rattle.type_layout.specs.Member.{Spot}
use Rattle.type_layout.specs.declared.fault.TypeFault.TheVariants.{NotPointer}
use Rattle.typed_object.specs.Number.{number}
use Rattle.typed_object.specs.declared.fault.ObjectFault.{ObjectFault}
use Rattle.typed_object.specs.declared.fault.ObjectFault.TheVariants.{Fault}

-- the address that a number is, and the type that stands there
abbrev pub led_to : TypeRef → Result Number ObjectFault → Result Spot ObjectFault
led_to of (Ok n) = Ok (low_word n, of)
led_to of (Err fault) = Err fault

-- the type that a pointer points to
abbrev pub pointee : TypeRef-F TypeRef → Result TypeRef ObjectFault
pointee (TypeRef-F.Base name) = Err (Fault NotPointer)
pointee (TypeRef-F.Pointer of) = Ok of
pointee (TypeRef-F.Array count of) = Err (Fault NotPointer)
pointee (TypeRef-F.Struct name) = Err (Fault NotPointer)
pointee (TypeRef-F.Union name) = Err (Fault NotPointer)
pointee (TypeRef-F.Class name) = Err (Fault NotPointer)
pointee (TypeRef-F.Enum name) = Err (Fault NotPointer)
pointee (TypeRef-F.Bits position length of) = Err (Fault NotPointer)
pointee TypeRef-F.Function = Err (Fault NotPointer)

abbrev pub target_of : Result Number ObjectFault → Result TypeRef ObjectFault → Result Spot ObjectFault
target_of n (Ok of) = led_to of n
target_of n (Err fault) = Err fault

-- where the pointer at an address of a memory leads, in the same memory
unfoldable pub target : AddressSpace → IsfTable → ℕ → TypeRef → Result Spot ObjectFault
target memory table at of = target_of (number memory table at of) (pointee (out-TypeRef of))
