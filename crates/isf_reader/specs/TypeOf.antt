-- What a descriptor of a type is.
--
--     kind                              keys beside it
--     base, struct, union, class, enum  name
--     pointer                           subtype
--     array                             count, subtype
--     bitfield                          bit_position, bit_length, type
--     function
use Rattle.std.specs.Prelude.{ℕ, ◌+◌, List, nat_le, if◌then◌else◌, Option, Some, None, option_map, option_and_then, bytes_eq, codes}
use Rattle.std.specs.Ordering.{nat_cmp, match_ordering}
use Rattle.std.specs.Cmp.Lexicographic.{slice_cmp}
use Rattle.serde_json.specs.Data.{Data, null, boolean, number, string, array, object, Members, no_members, member}
use Rattle.serde_json.specs.Find.{get}
use Rattle.isf_reader.specs.Json.{count_at, text_at}
use Rattle.isf_reader.specs.declared.type_ref.TypeRef.{TypeRef, Base, Pointer, Array, Struct, Union, Class, Enum, Bits, Function}
use Rattle.isf_reader.specs.declared.type_of.Shape.{Shape}
use Rattle.isf_reader.specs.declared.type_of.Shape.TheVariants as shapes

-- the kind that a text names
unfoldable pub shape_of : List ℕ → Option Shape
shape_of text =
    if bytes_eq text (codes "base") then Some shapes.Base
    else if bytes_eq text (codes "pointer") then Some shapes.Pointer
    else if bytes_eq text (codes "array") then Some shapes.Array
    else if bytes_eq text (codes "struct") then Some shapes.Struct
    else if bytes_eq text (codes "union") then Some shapes.Union
    else if bytes_eq text (codes "class") then Some shapes.Class
    else if bytes_eq text (codes "enum") then Some shapes.Enum
    else if bytes_eq text (codes "bitfield") then Some shapes.Bits
    else if bytes_eq text (codes "function") then Some shapes.Function
    else None

abbrev pub array_of : Option ℕ → Option TypeRef → Option TypeRef
array_of count of = option_and_then (λ n. option_map (Array n) of) count

-- a bit field ends within 128 bits
abbrev pub bits_within : ℕ → ℕ → Option TypeRef → Option TypeRef
bits_within position length of = if nat_le (position + length) 128 then option_map (Bits position length) of else None

abbrev pub bits_of : Option ℕ → Option ℕ → Option TypeRef → Option TypeRef
bits_of position length of = option_and_then (λ p. option_and_then (λ n. bits_within p n of) length) position

-- a descriptor of a kind, whose keys `subtype` and `type` hold these types
abbrev pub shaped : Data → Option TypeRef → Option TypeRef → Shape → Option TypeRef
shaped d subtype inner shapes.Base = option_map Base (text_at (codes "name") d)
shaped d subtype inner shapes.Pointer = option_map Pointer subtype
shaped d subtype inner shapes.Array = array_of (count_at (codes "count") d) subtype
shaped d subtype inner shapes.Struct = option_map Struct (text_at (codes "name") d)
shaped d subtype inner shapes.Union = option_map Union (text_at (codes "name") d)
shaped d subtype inner shapes.Class = option_map Class (text_at (codes "name") d)
shaped d subtype inner shapes.Enum = option_map Enum (text_at (codes "name") d)
shaped d subtype inner shapes.Bits = bits_of (count_at (codes "bit_position") d) (count_at (codes "bit_length") d) inner
shaped d subtype inner shapes.Function = Some Function

-- the kind of a descriptor
abbrev pub shape_at : Data → Option Shape
shape_at d = option_and_then shape_of (text_at (codes "kind") d)

abbrev pub described : Data → Option TypeRef → Option TypeRef → Option TypeRef
described d subtype inner = option_and_then (shaped d subtype inner) (shape_at d)

unfoldable mutual
  -- the type that a descriptor describes
  pub type_of : Data → Option TypeRef
  type_of null = None
  type_of (boolean b) = None
  type_of (number n) = None
  type_of (string s) = None
  type_of (array ds) = None
  type_of (object ms) = described (object ms) (type_in (codes "subtype") ms) (type_in (codes "type") ms)

  -- the type that a member describes
  pub type_in : List ℕ → Members → Option TypeRef
  type_in key no_members = None
  type_in key (member name d ms) = match_ordering (slice_cmp nat_cmp key name) (type_in key ms) (type_of d) (type_in key ms)

-- the type at a key
abbrev pub type_at : List ℕ → Data → Option TypeRef
type_at key d = option_and_then type_of (get key d)
