-- The table that a symbol file is: an object with four sections. The sections are read in the order `base_types`, `enums`,
-- `user_types`, `symbols`, and the first fault is the answer.
use Rattle.std.specs.Prelude.{◌≡◌, ◌<◌, ◌≤◌, ℕ, ◌^◌, List, [], map, length, nat_lt, if◌then◌else◌, Option, Some, None, IfSome, Result, Ok, Err, codes}
use Rattle.std.specs.Cmp.Lexicographic.{slice_cmp}
use Rattle.std.specs.List.{AllByRecursion}
use Rattle.std.specs.List.Sorted.{IsStrictlySortedBy}
use Rattle.std.specs.Map.{keys_of}
use Rattle.std.specs.Ordering.{nat_cmp}
use Rattle.std.specs.Str.{is_utf8}
use Rattle.serde_json.specs.Data.{Data, null, boolean, number, string, array, object, Members}
use Rattle.serde_json.specs.Find.{get_member}
use Rattle.serde_json.specs.Read.{read}
use Rattle.isf_reader.specs.BaseTypes.{base_of}
use Rattle.isf_reader.specs.Depth.{entry_named, first_too_deep}
use Rattle.isf_reader.specs.Enums.{enum_of, by_value}
use Rattle.isf_reader.specs.Sections.{section_of}
use Rattle.isf_reader.specs.Symbols.{symbol_of}
use Rattle.isf_reader.specs.UserTypes.{user_of, by_offset}
use Rattle.isf_reader.specs.declared.base_type.BaseType.{BaseType}
use Rattle.isf_reader.specs.declared.enum_type.EnumType.{EnumType}
use Rattle.isf_reader.specs.declared.refusal.IsfRefusal.{IsfRefusal}
use Rattle.isf_reader.specs.declared.refusal.IsfRefusal.TheVariants.{TooLarge, NotJson, BadEntry, AnonDepth, Memory}
use Rattle.isf_reader.specs.declared.refusal.Key.{Key}
use Rattle.isf_reader.specs.declared.refusal.Key.TheVariants.{Whole}
use Rattle.isf_reader.specs.declared.refusal.Section.{Section}
use Rattle.isf_reader.specs.declared.refusal.Section.TheVariants as parts
use Rattle.isf_reader.specs.declared.symbol.Symbol.{Symbol}
use Rattle.isf_reader.specs.declared.user_type.Field.{Field}
use Rattle.isf_reader.specs.declared.user_type.UserType.{UserType}

-- the entries of the four sections, by their names in byte order
pub record IsfTable : Type 0 where
  pub bases : List (List ℕ × BaseType)
  pub enums : List (List ℕ × EnumType)
  pub users : List (List ℕ × UserType)
  pub symbols : List (List ℕ × Symbol)

-- the entries of a section; a fault is told with the section
abbrev pub in_section : {E : Type 0} → Section → Result (List (List ℕ × E)) (List ℕ × Key) → Result (List (List ℕ × E)) IsfRefusal
in_section section (Ok entries) = Ok entries
in_section section (Err fault) = Err (BadEntry section fault.0 fault.1)

-- what was read, and then what is read behind it; a refusal is the answer
abbrev pub and_then_read : {A B : Type 0} → Result A IsfRefusal → (A → Result B IsfRefusal) → Result B IsfRefusal
and_then_read (Ok a) behind = behind a
and_then_read (Err refusal) behind = Err refusal

-- the four sections, each of which may be missing
abbrev pub sections_of : Option Data → Option Data → Option Data → Option Data → Result IsfTable IsfRefusal
sections_of bases enums users symbols =
    and_then_read (in_section parts.BaseTypes (section_of base_of bases)) (λ bases.
    and_then_read (in_section parts.Enums (section_of (λ name. enum_of) enums)) (λ enums.
    and_then_read (in_section parts.UserTypes (section_of (λ name. user_of) users)) (λ users.
    and_then_read (in_section parts.Symbols (section_of (λ name. symbol_of) symbols)) (λ symbols.
    Ok (record { bases = bases; enums = enums; users = users; symbols = symbols })))))

abbrev pub sections_in : Members → Result IsfTable IsfRefusal
sections_in ms = sections_of (get_member (codes "base_types") ms) (get_member (codes "enums") ms) (get_member (codes "user_types") ms) (get_member (codes "symbols") ms)

-- the sections of a file, which is an object
abbrev pub file_of : Data → Result IsfTable IsfRefusal
file_of null = Err (BadEntry parts.File [] Whole)
file_of (boolean b) = Err (BadEntry parts.File [] Whole)
file_of (number n) = Err (BadEntry parts.File [] Whole)
file_of (string s) = Err (BadEntry parts.File [] Whole)
file_of (array ds) = Err (BadEntry parts.File [] Whole)
file_of (object ms) = sections_in ms

-- the sections, unless anonymous fields nest too deep in a user type
abbrev pub unless_deep : Option (List ℕ) → IsfTable → Result IsfTable IsfRefusal
unless_deep None table = Ok table
unless_deep (Some name) table = Err (AnonDepth name)

abbrev pub depth_checked : IsfTable → Result IsfTable IsfRefusal
depth_checked table = unless_deep (first_too_deep table.users) table

-- the JSON value that bytes are; a text is UTF-8
abbrev pub tree_of : List ℕ → Option Data
tree_of json = if is_utf8 json then read json else None

abbrev pub from_tree : Option Data → Result IsfTable IsfRefusal
from_tree None = Err NotJson
from_tree (Some d) = and_then_read (file_of d) depth_checked

-- a symbol file has at most 134,217,728 bytes
abbrev pub most_bytes : ℕ
most_bytes = 2 ^ 27

-- the table that a symbol file is, or why it is refused
unfoldable pub table_of : List ℕ → Result IsfTable IsfRefusal
table_of json = if nat_lt most_bytes (length json) then Err (TooLarge (length json)) else from_tree (tree_of json)

-- a refusal is the definition's, unless memory ran out
abbrev pub RefusesAs : {A : Type 0} → Result A IsfRefusal → IsfRefusal → Type 0
RefusesAs wanted (TooLarge len) = wanted ≡ Err (TooLarge len)
RefusesAs wanted NotJson = wanted ≡ Err NotJson
RefusesAs wanted (BadEntry section name key) = wanted ≡ Err (BadEntry section name key)
RefusesAs wanted (AnonDepth name) = wanted ≡ Err (AnonDepth name)
RefusesAs wanted Memory = Unit {0}

-- fields stand by offset, and then by name
abbrev pub field_place : Field → ℕ × List ℕ
field_place field = (field.offset, field.name)

abbrev pub HasFieldsInOrder : List ℕ × UserType → Type 0
HasFieldsInOrder entry = IsStrictlySortedBy by_offset (map field_place (entry.1).fields)

-- offsets are counts
abbrev pub IsNear : Field → Type 0
IsNear field = field.offset < 2 ^ 32

abbrev pub HasNearFields : List ℕ × UserType → Type 0
HasNearFields entry = AllByRecursion IsNear (entry.1).fields

-- sizes are counts
abbrev pub HasBaseSize : List ℕ × BaseType → Type 0
HasBaseSize entry = (entry.1).size < 2 ^ 32

abbrev pub HasEnumSize : List ℕ × EnumType → Type 0
HasEnumSize entry = (entry.1).size < 2 ^ 32

abbrev pub HasUserSize : List ℕ × UserType → Type 0
HasUserSize entry = (entry.1).size < 2 ^ 32

-- a pointer has 1 to 8 bytes
abbrev pub HasPointerSize : List (List ℕ × BaseType) → Type 0
HasPointerSize bases = IfSome (entry_named (codes "pointer") bases) (λ base. (1 ≤ base.size) × (base.size ≤ 8))

-- constants stand by value, and then by name
abbrev pub HasConstantsInOrder : List ℕ × EnumType → Type 0
HasConstantsInOrder entry = IsStrictlySortedBy by_value (map (λ constant. (constant.value, constant.name)) (entry.1).constants)

-- names stand in byte order, each once
abbrev pub HasNamesInOrder : {E : Type 0} → List (List ℕ × E) → Type 0
HasNamesInOrder entries = IsStrictlySortedBy (slice_cmp nat_cmp) (keys_of entries)

-- what every table keeps
pub record IsTable (table : IsfTable) : Type 0 where
  pub bases : HasNamesInOrder table.bases
  pub enums : HasNamesInOrder table.enums
  pub users : HasNamesInOrder table.users
  pub symbols : HasNamesInOrder table.symbols
  pub shallow : first_too_deep table.users ≡ None
  pub fields : AllByRecursion HasFieldsInOrder table.users
  pub offsets : AllByRecursion HasNearFields table.users
  pub base_sizes : AllByRecursion HasBaseSize table.bases
  pub pointer : HasPointerSize table.bases
  pub enum_sizes : AllByRecursion HasEnumSize table.enums
  pub user_sizes : AllByRecursion HasUserSize table.users
  pub constants : AllByRecursion HasConstantsInOrder table.enums
