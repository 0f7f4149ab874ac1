-- The types of a symbol file: base types and structs.
use Rattle.std.specs.Prelude.{ℕ, List, [], ◌∷◌, map, Bool, true, false, codes}
use Rattle.serde_json.specs.Data.{Data, boolean, string}
use Rattle.image_maker.specs.Json.{object_of, whole, named, pointer, array_of}
use Rattle.image_maker.specs.Structures.{Field, structures, structure_name, structure_size, fields_of}
use Rattle.image_maker.specs.declared.structure.Structure.{Structure}
use Rattle.image_maker.specs.declared.structure.FieldType.{FieldType}
use Rattle.image_maker.specs.declared.structure.FieldType.TheVariants.{Int, UnsignedInt, UnsignedLong, Pointer, Chars, Struct}

pub record BaseType : Type 0 where
  pub name : List ℕ
  pub size : ℕ
  pub signed : Bool
  pub kind : List ℕ

abbrev pub base : List ℕ → ℕ → Bool → List ℕ → BaseType
base name size signed kind = record { name = name; size = size; signed = signed; kind = kind }

abbrev pub base_types : List BaseType
base_types =
    base (codes "int") 4 true (codes "int")
    ∷ base (codes "unsigned int") 4 false (codes "int")
    ∷ base (codes "long unsigned int") 8 false (codes "int")
    ∷ base (codes "char") 1 true (codes "char")
    ∷ base (codes "void") 0 false (codes "void")
    ∷ []

-- all of them little-endian
abbrev pub base_value : BaseType → Data
base_value of = object_of ((codes "size", whole of.size) ∷ (codes "signed", boolean of.signed) ∷ (codes "kind", string of.kind) ∷ (codes "endian", string (codes "little")) ∷ [])

abbrev pub base_member : BaseType → List ℕ × Data
base_member of = (of.name, base_value of)

-- the descriptor of a field's type
abbrev pub descriptor : FieldType → Data
descriptor Int = named (codes "base") (codes "int")
descriptor UnsignedInt = named (codes "base") (codes "unsigned int")
descriptor UnsignedLong = named (codes "base") (codes "long unsigned int")
descriptor Pointer = pointer
descriptor (Chars count) = array_of count (named (codes "base") (codes "char"))
descriptor (Struct structure) = named (codes "struct") (structure_name structure)

abbrev pub field_value : Field → Data
field_value field = object_of ((codes "offset", whole field.offset) ∷ (codes "type", descriptor field.of) ∷ [])

abbrev pub field_member : Field → List ℕ × Data
field_member field = (field.name, field_value field)

abbrev pub structure_value : Structure → Data
structure_value structure =
    object_of ((codes "size", whole (structure_size structure)) ∷ (codes "kind", string (codes "struct")) ∷ (codes "fields", object_of (map field_member (fields_of structure))) ∷ [])

abbrev pub structure_member : Structure → List ℕ × Data
structure_member structure = (structure_name structure, structure_value structure)

unfoldable pub base_types_value : Data
base_types_value = object_of (map base_member base_types)

unfoldable pub user_types_value : Data
user_types_value = object_of (map structure_member structures)
