-- The size of a type.
use Rattle.std.specs.Prelude.{ℕ, ◌*◌, ◌-◌, ◌^◌, List, nat_le, if◌then◌else◌, option_map, ok_or, Result, Ok, Err, codes}
use Rattle.std.specs.Option.{option_map_or}
use Rattle.isf_reader.specs.Depth.{entry_named}
use Rattle.isf_reader.specs.Table.{IsfTable}
use Rattle.isf_reader.specs.declared.type_ref.TypeRef.{TypeRef}
use Rattle.isf_reader.specs.declared.type_ref.TypeRef.TheOpen.{TypeRef-F}
use Rattle.isf_reader.specs.declared.type_ref.TypeRef.TheFolds.{fold-TypeRef}
use Rattle.type_layout.specs.declared.fault.TypeFault.{TypeFault}
use Rattle.type_layout.specs.declared.fault.TypeFault.TheVariants.{NoType, TooBig}

-- a base type, an enum and a user type have the size of their entry; a name that nothing defines is no type
abbrev pub base_size : IsfTable → List ℕ → Result ℕ TypeFault
base_size table name = ok_or (option_map (λ base. base.size) (entry_named name table.bases)) NoType

abbrev pub enum_size : IsfTable → List ℕ → Result ℕ TypeFault
enum_size table name = ok_or (option_map (λ enumeration. enumeration.size) (entry_named name table.enums)) NoType

abbrev pub user_size : IsfTable → List ℕ → Result ℕ TypeFault
user_size table name = ok_or (option_map (λ user. user.size) (entry_named name table.users)) NoType

-- a pointer has the size of the base type `pointer`, or 8
abbrev pub pointer_size : IsfTable → ℕ
pointer_size table = option_map_or (λ base. base.size) (entry_named (codes "pointer") table.bases) 8

-- the size of so many elements, at most 2 ^ 63 - 1
abbrev pub times : ℕ → ℕ → Result ℕ TypeFault
times count size = if nat_le (count * size) (2 ^ 63 - 1) then Ok (count * size) else Err TooBig

-- the size of an array of so many elements; a fault of the element's size is the array's
abbrev pub array_size : ℕ → Result ℕ TypeFault → Result ℕ TypeFault
array_size count (Ok size) = times count size
array_size count (Err fault) = Err fault

-- the size of one level of a type, with the size of the type within in its place
abbrev pub size_step : IsfTable → TypeRef-F (Result ℕ TypeFault) → Result ℕ TypeFault
size_step table (TypeRef-F.Base name) = base_size table name
size_step table (TypeRef-F.Pointer of) = Ok (pointer_size table)
size_step table (TypeRef-F.Array count of) = array_size count of
size_step table (TypeRef-F.Struct name) = user_size table name
size_step table (TypeRef-F.Union name) = user_size table name
size_step table (TypeRef-F.Class name) = user_size table name
size_step table (TypeRef-F.Enum name) = enum_size table name
size_step table (TypeRef-F.Bits position length of) = of
size_step table TypeRef-F.Function = Ok 0

-- the size of a type, or its fault
abbrev pub size_of : IsfTable → TypeRef → Result ℕ TypeFault
size_of table = fold-TypeRef (Result ℕ TypeFault) (size_step table)
