-- The type that a name stands for.
use Rattle.std.specs.Prelude.{ℕ, List, Option, None, Some}
use Rattle.isf_reader.specs.Depth.{entry_named}
use Rattle.isf_reader.specs.Table.{IsfTable}
use Rattle.isf_reader.specs.declared.base_type.BaseType.{BaseType}
use Rattle.isf_reader.specs.declared.enum_type.EnumType.{EnumType}
use Rattle.isf_reader.specs.declared.type_ref.TypeRef.{TypeRef, Base, Struct, Union, Class, Enum}
use Rattle.isf_reader.specs.declared.user_type.UserKind.{UserKind}
use Rattle.isf_reader.specs.declared.user_type.UserKind.TheVariants as kinds
use Rattle.isf_reader.specs.declared.user_type.UserType.{UserType}

-- a user type of a name, by its kind
abbrev pub user_of : UserKind → List ℕ → TypeRef
user_of kinds.Struct name = Struct name
user_of kinds.Union name = Union name
user_of kinds.Class name = Class name

-- the user type, else the enum, else the base type
abbrev pub first_of : List ℕ → Option UserType → Option EnumType → Option BaseType → Option TypeRef
first_of name (Some user) enumeration base = Some (user_of user.kind name)
first_of name None (Some enumeration) base = Some (Enum name)
first_of name None None (Some base) = Some (Base name)
first_of name None None None = None

-- the type that a name stands for in a table, where it stands for one
abbrev pub named_type : IsfTable → List ℕ → Option TypeRef
named_type table name = first_of name (entry_named name table.users) (entry_named name table.enums) (entry_named name table.bases)
