-- What is printed of a type: how it is laid out.
use Rattle.std.specs.Prelude.{ℕ, Bool, true, false, List, ◌++◌, codes, Option, None, Some}
use Rattle.std.specs.Fmt.{decimal, signed_decimal}
use Rattle.std.specs.List.{flat_map}
use Rattle.cell_text.specs.TextCell.{text_cell}
use Rattle.cell_text.specs.TypeCell.{type_cell}
use Rattle.isf_reader.specs.Depth.{entry_named}
use Rattle.isf_reader.specs.Table.{IsfTable}
use Rattle.isf_reader.specs.declared.base_type.BaseKind.{BaseKind}
use Rattle.isf_reader.specs.declared.base_type.BaseKind.TheVariants as bases
use Rattle.isf_reader.specs.declared.base_type.BaseType.{BaseType}
use Rattle.isf_reader.specs.declared.enum_type.Constant.{Constant}
use Rattle.isf_reader.specs.declared.enum_type.EnumType.{EnumType}
use Rattle.isf_reader.specs.declared.user_type.Field.{Field}
use Rattle.isf_reader.specs.declared.user_type.UserKind.{UserKind}
use Rattle.isf_reader.specs.declared.user_type.UserKind.TheVariants as users
use Rattle.isf_reader.specs.declared.user_type.UserType.{UserType}

-- a field: its offset, its name and its type
unfoldable pub field_row : Field → List ℕ
field_row field = decimal field.offset ++ codes "\t" ++ text_cell field.name ++ codes "\t" ++ type_cell field.of ++ codes "\n"

abbrev pub user_word : UserKind → List ℕ
user_word users.Struct = codes "struct "
user_word users.Union = codes "union "
user_word users.Class = codes "class "

-- a user type and its fields
unfoldable pub user_text : List ℕ → UserType → List ℕ
user_text name user = user_word user.kind ++ text_cell name ++ codes " size " ++ decimal user.size ++ codes "\n" ++ flat_map field_row user.fields

-- a constant: its value and its name
unfoldable pub constant_row : Constant → List ℕ
constant_row constant = signed_decimal constant.value ++ codes "\t" ++ text_cell constant.name ++ codes "\n"

-- an enum and its constants
unfoldable pub enum_text : List ℕ → EnumType → List ℕ
enum_text name enumeration = codes "enum " ++ text_cell name ++ codes " size " ++ decimal enumeration.size ++ codes " base " ++ text_cell enumeration.base ++ codes "\n" ++ flat_map constant_row enumeration.constants

abbrev pub base_word : BaseKind → List ℕ
base_word bases.Int = codes " int"
base_word bases.Char = codes " char"
base_word bases.Bool = codes " bool"
base_word bases.Float = codes " float"
base_word bases.Void = codes " void"

abbrev pub sign_word : Bool → List ℕ
sign_word true = codes " signed"
sign_word false = codes " unsigned"

abbrev pub order_word : Bool → List ℕ
order_word true = codes " big\n"
order_word false = codes " little\n"

-- a base type
unfoldable pub base_text : List ℕ → BaseType → List ℕ
base_text name base = codes "base " ++ text_cell name ++ codes " size " ++ decimal base.size ++ base_word base.kind ++ sign_word base.signed ++ order_word base.big

-- the layout of a name: of the user type, else of the enum, else of the base type
abbrev pub layout_by : List ℕ → Option UserType → Option EnumType → Option BaseType → List ℕ
layout_by name (Some user) enumeration base = user_text name user
layout_by name None (Some enumeration) base = enum_text name enumeration
layout_by name None None (Some base) = base_text name base
layout_by name None None None = codes "error: no type\n"

abbrev pub layout_text : IsfTable → List ℕ → List ℕ
layout_text table name = layout_by name (entry_named name table.users) (entry_named name table.enums) (entry_named name table.bases)
