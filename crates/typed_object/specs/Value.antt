-- The value of an object. The first of these rules that holds decides.
--
--     1. An object behind the last address is absent.
--     2. A type whose size is at fault is unknown.
--     3. So is a number, a pointer or an enum whose number is at fault, but where its bytes pass the last address.
--     4. So is a float of more than 16 bytes.
--     5. An object is absent where a byte that it needs is, or lies behind the last address. A text needs its bytes up to
--        the first zero byte; another array, a struct, a union, a class, void and a function need none.
--     6. Else it has the value of its type.
use Rattle.std.specs.Prelude.{ℕ, ◌^◌, Bool, nat_le, nat_lt, if◌then◌else◌, List, reverse, find, Option, None, Some, option_map, Result, Ok, Err}
use Rattle.std.specs.Ordering.{int_eq}
use Rattle.layer_base.specs.AddressSpace.{AddressSpace}
use Rattle.layer_base.specs.Number.{low_word}
use Rattle.layer_base.specs.declared.number.Number.{Number}
use Rattle.kernel_records.specs.Whole.{whole}
use Rattle.kernel_records.specs.declared.value.Value.{Value}
use Rattle.kernel_records.specs.declared.value.Value.TheVariants as values
use Rattle.isf_reader.specs.Depth.{entry_named}
use Rattle.isf_reader.specs.Table.{IsfTable}
use Rattle.isf_reader.specs.declared.base_type.BaseKind.{BaseKind}
use Rattle.isf_reader.specs.declared.base_type.BaseKind.TheVariants as kinds
use Rattle.isf_reader.specs.declared.base_type.BaseType.{BaseType}
use Rattle.isf_reader.specs.declared.enum_type.Constant.{Constant}
use Rattle.isf_reader.specs.declared.enum_type.EnumType.{EnumType}
use Rattle.isf_reader.specs.declared.type_ref.TypeRef.{TypeRef, out-TypeRef}
use Rattle.isf_reader.specs.declared.type_ref.TypeRef.TheOpen.{TypeRef-F}
use Rattle.type_layout.specs.Size.{size_of}
use Rattle.type_layout.specs.declared.fault.TypeFault.{TypeFault}
use Rattle.type_layout.specs.declared.fault.TypeFault.TheVariants.{PastEnd}
use Rattle.typed_object.specs.Bytes.{bytes_of}
use Rattle.typed_object.specs.Number.{number}
use Rattle.typed_object.specs.Text.{is_character, text_from}
use Rattle.typed_object.specs.declared.fault.ObjectFault.{ObjectFault}
use Rattle.typed_object.specs.declared.fault.ObjectFault.TheVariants.{Fault, Hole, Device}
use Rattle.typed_object.specs.declared.fault.ValueFault.{ValueFault}
use Rattle.typed_object.specs.declared.fault.ValueFault.TheVariants as faults

-- the value of an object whose type is at fault
abbrev pub value_of_type_fault : TypeFault → Value
value_of_type_fault PastEnd = values.Absent
value_of_type_fault _ = values.Unknown

-- the value of an object that has no number or no bytes; no definition has a failed device
abbrev pub value_of_fault : ObjectFault → Value
value_of_fault (Fault fault) = value_of_type_fault fault
value_of_fault (Hole at) = values.Absent
value_of_fault Device = values.Absent

-- what a call answers for such an object; a failed device is a fault of the call
abbrev pub answer_of_fault : ObjectFault → Result Value ValueFault
answer_of_fault (Fault fault) = Ok (value_of_type_fault fault)
answer_of_fault (Hole at) = Ok values.Absent
answer_of_fault Device = Err faults.Device

-- what is made of an object's number, bytes or text
abbrev pub value_by : {A : Type 0} → (A → Value) → Result A ObjectFault → Value
value_by make (Ok a) = make a
value_by make (Err fault) = value_of_fault fault

-- bytes, the most significant one first
abbrev pub most_significant_first : Bool → List ℕ → List ℕ
most_significant_first big bytes = if big then bytes else reverse bytes

-- the bytes of a float, of which there are at most 16
abbrev pub float_value : AddressSpace → ℕ → BaseType → Value
float_value memory at base = if nat_le base.size 16 then value_by (λ bytes. values.Raw (most_significant_first base.big bytes)) (bytes_of memory at base.size) else values.Unknown

abbrev pub value_of_kind : Value → Value → BaseKind → Value
value_of_kind whole float kinds.Int = whole
value_of_kind whole float kinds.Char = whole
value_of_kind whole float kinds.Bool = whole
value_of_kind whole float kinds.Float = float
value_of_kind whole float kinds.Void = values.Void

-- a base type has the bytes of a float, the value of void, or a number
abbrev pub base_value : AddressSpace → ℕ → Result Number ObjectFault → Option BaseType → Value
base_value memory at n None = values.Unknown
base_value memory at n (Some base) = value_of_kind (value_by values.Number n) (float_value memory at base) base.kind

-- the first name that constants have for a number
abbrev pub name_of : Number → List Constant → Option (List ℕ)
name_of n constants = option_map (λ constant. constant.name) (find (λ constant. int_eq constant.value (whole n)) constants)

-- an enum has a number and the first name of it
abbrev pub enum_value : Result Number ObjectFault → Option EnumType → Value
enum_value n None = values.Unknown
enum_value n (Some enumeration) = value_by (λ m. values.Enum m (name_of m enumeration.constants)) n

-- an array of characters has a text
abbrev pub array_value : AddressSpace → ℕ → ℕ → Bool → Value
array_value memory at count characters = if characters then value_by values.Text (text_from memory at count) else values.Array count

-- the value of a type, of the number that it has
abbrev pub value_in : AddressSpace → IsfTable → ℕ → Result Number ObjectFault → TypeRef-F TypeRef → Value
value_in memory table at n (TypeRef-F.Base name) = base_value memory at n (entry_named name table.bases)
value_in memory table at n (TypeRef-F.Pointer of) = value_by (λ m. values.Pointer (low_word m)) n
value_in memory table at n (TypeRef-F.Array count of) = array_value memory at count (is_character table of)
value_in memory table at n (TypeRef-F.Struct name) = values.Compound
value_in memory table at n (TypeRef-F.Union name) = values.Compound
value_in memory table at n (TypeRef-F.Class name) = values.Compound
value_in memory table at n (TypeRef-F.Enum name) = enum_value n (entry_named name table.enums)
value_in memory table at n (TypeRef-F.Bits position length of) = value_by values.Number n
value_in memory table at n TypeRef-F.Function = values.Function

-- a type whose size is at fault has no known value
abbrev pub unless_sizeless : Result ℕ TypeFault → Value → Value
unless_sizeless (Ok size) value = value
unless_sizeless (Err fault) value = values.Unknown

-- the value of a type at an address of a memory
unfoldable pub value : AddressSpace → IsfTable → ℕ → TypeRef → Value
value memory table at of =
    if nat_lt at (2 ^ 64)
    then unless_sizeless (size_of table of) (value_in memory table at (number memory table at of) (out-TypeRef of))
    else values.Absent
