-- What is printed of an object: its type, address and size, and the values in it; or the first of these that holds.
--
--     nothing has the name                          error: no type
--     a name of the path leads nowhere              error: no member NAME, error: not a compound type, error: no type
--     the place is above 2 ^ 64 - 1                 error: out of range
--     the size of the type at the place is at fault error: no type, error: too big
use Rattle.std.specs.Prelude.{ℕ, ◌+◌, List, [], ◌++◌, codes, slice_get, unwrap_or, Option, None, Some, option_and_then, Result, Ok, Err}
use Rattle.std.specs.Fmt.{decimal}
use Rattle.std.specs.List.{flat_map}
use Rattle.std.specs.Result.{result_map_both}
use Rattle.layer_base.specs.AddressSpace.{AddressSpace}
use Rattle.kernel_records.specs.declared.value.Value.{Value}
use Rattle.hex_text.specs.DumpRow.{address_cell}
use Rattle.cell_text.specs.TextCell.{text_cell}
use Rattle.cell_text.specs.TypeCell.{type_cell}
use Rattle.cell_text.specs.ValueCell.{value_cell}
use Rattle.isf_reader.specs.Depth.{entry_named, user_name}
use Rattle.isf_reader.specs.Table.{IsfTable}
use Rattle.isf_reader.specs.declared.type_ref.TypeRef.{TypeRef}
use Rattle.isf_reader.specs.declared.user_type.Field.{Field}
use Rattle.isf_reader.specs.declared.user_type.UserType.{UserType}
use Rattle.type_layout.specs.Member.{Spot}
use Rattle.type_layout.specs.Path.{resolve}
use Rattle.type_layout.specs.Size.{size_of}
use Rattle.type_layout.specs.declared.fault.TypeFault.{TypeFault}
use Rattle.type_layout.specs.declared.fault.TypeFault.TheVariants.{NoType}
use Rattle.type_layout.specs.declared.path.PathRefusal.{PathRefusal}
use Rattle.typed_object.specs.Place.{placed}
use Rattle.typed_object.specs.Value.{value}
use Rattle.object_text.specs.Fault.{fault_text}
use Rattle.object_text.specs.Named.{named_type}

-- the line of an object: its type, address and size
unfoldable pub head_line : TypeRef → ℕ → ℕ → List ℕ
head_line of at size = type_cell of ++ codes " at " ++ address_cell at ++ codes " size " ++ decimal size ++ codes "\n"

-- a row: an offset, a name, a type and a value
unfoldable pub row : ℕ → List ℕ → TypeRef → Value → List ℕ
row offset name of v = decimal offset ++ codes "\t" ++ text_cell name ++ codes "\t" ++ type_cell of ++ codes "\t" ++ value_cell v ++ codes "\n"

-- the row of what stands at an offset from an address
abbrev pub row_at : AddressSpace → IsfTable → ℕ → ℕ → List ℕ → TypeRef → List ℕ
row_at memory table at offset name of = row offset name of (value memory table (at + offset) of)

abbrev pub field_row : AddressSpace → IsfTable → ℕ → Field → List ℕ
field_row memory table at field = row_at memory table at field.offset field.name field.of

-- a user type has a row for each field, every other type one without a name
abbrev pub rows_by : AddressSpace → IsfTable → ℕ → TypeRef → Option UserType → List ℕ
rows_by memory table at of (Some user) = flat_map (field_row memory table at) user.fields
rows_by memory table at of None = row_at memory table at 0 (codes "-") of

-- the user type that a type is
abbrev pub user_type : IsfTable → TypeRef → Option UserType
user_type table of = option_and_then (λ name. entry_named name table.users) (user_name of)

abbrev pub rows : AddressSpace → IsfTable → Spot → List ℕ
rows memory table s = rows_by memory table s.0 s.1 (user_type table s.1)

-- an object: its address and type, and its size
abbrev pub Object : Type 0
Object = Spot × ℕ

abbrev pub with_size : IsfTable → Result Spot TypeFault → Result Object TypeFault
with_size table (Ok s) = result_map_both (λ size. (s, size)) (λ fault. fault) (size_of table s.1)
with_size table (Err fault) = Err fault

-- the object at a spot from an address, or its fault
abbrev pub object_at : IsfTable → ℕ → Spot → Result Object TypeFault
object_at table at s = with_size table (placed at s)

abbrev pub text_of_object : AddressSpace → IsfTable → Result Object TypeFault → List ℕ
text_of_object memory table (Ok object) = head_line object.0.1 object.0.0 object.1 ++ rows memory table object.0
text_of_object memory table (Err fault) = fault_text [] fault

-- the name of a path with an index
abbrev pub name_at : List (List ℕ) → ℕ → List ℕ
name_at path index = unwrap_or (slice_get path index) []

abbrev pub text_of_spot : AddressSpace → IsfTable → ℕ → List (List ℕ) → Result Spot PathRefusal → List ℕ
text_of_spot memory table at path (Ok s) = text_of_object memory table (object_at table at s)
text_of_spot memory table at path (Err refusal) = fault_text (name_at path refusal.index) refusal.fault

abbrev pub text_of_type : AddressSpace → IsfTable → ℕ → List (List ℕ) → Option TypeRef → List ℕ
text_of_type memory table at path None = fault_text [] NoType
text_of_type memory table at path (Some of) = text_of_spot memory table at path (resolve table of path)

-- what is printed of the object at an address of a memory: of the type with a name, or of what a path leads to in it
unfoldable pub object_text : AddressSpace → IsfTable → ℕ → List ℕ → List (List ℕ) → List ℕ
object_text memory table at name path = text_of_type memory table at path (named_type table name)
