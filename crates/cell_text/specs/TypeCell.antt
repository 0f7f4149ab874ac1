-- The text of a type.
use Rattle.std.specs.Prelude.{ℕ, List, ◌++◌, codes, decimal}
use Rattle.isf_reader.specs.declared.type_ref.TypeRef.{TypeRef, fold-TypeRef}
use Rattle.isf_reader.specs.declared.type_ref.TypeRef.TheOpen.{TypeRef-F}
use Rattle.cell_text.specs.TextCell.{text_cell}

-- a type, in which another type stands as its text
abbrev pub type_layer : TypeRef-F (List ℕ) → List ℕ
type_layer (TypeRef-F.Base name) = text_cell name
type_layer (TypeRef-F.Pointer of) = of ++ codes "*"
type_layer (TypeRef-F.Array count of) = of ++ codes "[" ++ decimal count ++ codes "]"
type_layer (TypeRef-F.Struct name) = codes "struct " ++ text_cell name
type_layer (TypeRef-F.Union name) = codes "union " ++ text_cell name
type_layer (TypeRef-F.Class name) = codes "class " ++ text_cell name
type_layer (TypeRef-F.Enum name) = codes "enum " ++ text_cell name
type_layer (TypeRef-F.Bits position length of) = of ++ codes ":" ++ decimal position ++ codes ":" ++ decimal length
type_layer TypeRef-F.Function = codes "function"

-- the text of a type
unfoldable pub type_cell : TypeRef → List ℕ
type_cell of = fold-TypeRef (List ℕ) type_layer of
