-- How deep anonymous fields nest. The fields of an anonymous field of kind struct, union or class count as fields of the
-- type around it, so a search for a field goes into them.
use Rattle.std.specs.Prelude.{ℕ, zero, suc, List, filter, find, Bool, true, false, if◌then◌else◌, Option, Some, None, is_some, option_map, option_and_then}
use Rattle.std.specs.Cmp.Lexicographic.{slice_cmp}
use Rattle.std.specs.BTreeMap.{is_at}
use Rattle.std.specs.List.{list_any}
use Rattle.std.specs.Map.{lookup}
use Rattle.std.specs.Option.{option_map_or}
use Rattle.std.specs.Ordering.{nat_cmp}
use Rattle.isf_reader.specs.declared.type_ref.TypeRef.{TypeRef, out-TypeRef}
use Rattle.isf_reader.specs.declared.type_ref.TypeRef.TheOpen.{TypeRef-F}
use Rattle.isf_reader.specs.declared.user_type.Field.{Field}
use Rattle.isf_reader.specs.declared.user_type.UserType.{UserType}

-- the entry of a name
abbrev pub entry_named : {E : Type 0} → List ℕ → List (List ℕ × E) → Option E
entry_named name entries = lookup (is_at (slice_cmp nat_cmp name)) entries

-- the user type that a descriptor names, whichever of the three kinds it has
abbrev pub user_name_in : TypeRef-F TypeRef → Option (List ℕ)
user_name_in (TypeRef-F.Base name) = None
user_name_in (TypeRef-F.Pointer of) = None
user_name_in (TypeRef-F.Array count of) = None
user_name_in (TypeRef-F.Struct name) = Some name
user_name_in (TypeRef-F.Union name) = Some name
user_name_in (TypeRef-F.Class name) = Some name
user_name_in (TypeRef-F.Enum name) = None
user_name_in (TypeRef-F.Bits position length of) = None
user_name_in TypeRef-F.Function = None

abbrev pub user_name : TypeRef → Option (List ℕ)
user_name of = user_name_in (out-TypeRef of)

-- the name of the user type whose fields an anonymous field brings in
abbrev pub brought_in : Field → Option (List ℕ)
brought_in field = if field.anonymous then user_name field.of else None

-- whether what stands under the name that a field brings in passes a test
abbrev pub brings : {E : Type 0} → (E → Bool) → List (List ℕ × E) → Field → Bool
brings test entries field = option_map_or test (option_and_then (λ name. entry_named name entries) (brought_in field)) false

-- whether anonymous fields nest at least so deep in a user type: each brings in a type that is defined
unfoldable pub nests : List (List ℕ × UserType) → ℕ → UserType → Bool
nests users zero user = true
nests users (suc n) user = list_any (brings (nests users n) users) user.fields

-- anonymous fields nest at most so deep in a table
abbrev pub deepest : ℕ
deepest = 32

-- the first user type in which anonymous fields nest deeper
unfoldable pub first_too_deep : List (List ℕ × UserType) → Option (List ℕ)
first_too_deep users = option_map (λ e. e.0) (find (λ e. nests users (suc deepest) e.1) users)

-- the user types in which anonymous fields nest at least so deep
abbrev pub nesting : List (List ℕ × UserType) → ℕ → List (List ℕ × UserType)
nesting users n = filter (λ e. nests users n e.1) users

-- whether a field brings in one of these types
abbrev pub brings_in : List (List ℕ × UserType) → Field → Bool
brings_in types field = is_some (option_and_then (λ name. entry_named name types) (brought_in field))

abbrev pub brings_one_of : List (List ℕ × UserType) → UserType → Bool
brings_one_of types user = list_any (brings_in types) user.fields

-- those of these types that bring in one of them
abbrev pub deeper : List (List ℕ × UserType) → List (List ℕ × UserType)
deeper types = filter (λ e. brings_one_of types e.1) types
