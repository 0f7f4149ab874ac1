-- An entry of the section `user_types`. Its keys, in the order in which they are read:
--
--     size     a count
--     kind     struct, union or class
--     fields   an object of fields; missing or null is empty
--
-- A field has the keys `offset` (a count), `type` (a descriptor) and `anonymous` (true or false; missing or null is false).
use Rattle.std.specs.Prelude.{ℕ, List, [], map, Bool, false, if◌then◌else◌, Option, Some, None, option_map, option_and_then, Result, Ok, bytes_eq, codes}
use Rattle.std.specs.Cmp.Lexicographic.{slice_cmp}
use Rattle.std.specs.BTreeMap.{insert_entry}
use Rattle.std.specs.declared.cmp.Ordering.{Ordering}
use Rattle.std.specs.Ordering.{nat_cmp, ordering_then}
use Rattle.serde_json.specs.Data.{Data, Members, no_members, member}
use Rattle.serde_json.specs.Find.{as_bool, as_object}
use Rattle.isf_reader.specs.Entry.{with_key}
use Rattle.isf_reader.specs.Json.{given, count_at, text_at}
use Rattle.isf_reader.specs.TypeOf.{type_at}
use Rattle.isf_reader.specs.declared.refusal.Key.{Key}
use Rattle.isf_reader.specs.declared.refusal.Key.TheVariants as keys
use Rattle.isf_reader.specs.declared.type_ref.TypeRef.{TypeRef}
use Rattle.isf_reader.specs.declared.user_type.Field.{Field}
use Rattle.isf_reader.specs.declared.user_type.UserKind.{UserKind}
use Rattle.isf_reader.specs.declared.user_type.UserKind.TheVariants as kinds
use Rattle.isf_reader.specs.declared.user_type.UserType.{UserType}

-- the kind that a text names
unfoldable pub user_kind_of : List ℕ → Option UserKind
user_kind_of text =
    if bytes_eq text (codes "struct") then Some kinds.Struct
    else if bytes_eq text (codes "union") then Some kinds.Union
    else if bytes_eq text (codes "class") then Some kinds.Class
    else None

-- true or false; false where the key is missing or null
abbrev pub flag_or_false : Option Data → Option Bool
flag_or_false None = Some false
flag_or_false (Some d) = as_bool d

-- a field's place among the fields, and what stands there
abbrev pub PlacedField : Type 0
PlacedField = (ℕ × List ℕ) × (TypeRef × Bool)

-- fields stand by offset, and then by name in byte order
abbrev pub by_offset : ℕ × List ℕ → ℕ × List ℕ → Ordering
by_offset a b = ordering_then (nat_cmp a.0 b.0) (slice_cmp nat_cmp a.1 b.1)

-- the field of that name
abbrev pub placed_of : List ℕ → Data → Option PlacedField
placed_of name d =
    option_and_then (λ offset. option_and_then (λ of. option_map (λ anonymous. ((offset, name), (of, anonymous))) (flag_or_false (given (codes "anonymous") d))) (type_at (codes "type") d)) (count_at (codes "offset") d)

-- the fields that these members are beside those found so far
abbrev pub fields_onto : List PlacedField → Members → Option (List PlacedField)
fields_onto found no_members = Some found
fields_onto found (member name d ms) = option_and_then (λ p. fields_onto (insert_entry by_offset found p.0 p.1) ms) (placed_of name d)

abbrev pub field_at : PlacedField → Field
field_at p = record { name = (p.0).1; offset = (p.0).0; of = (p.1).0; anonymous = (p.1).1 }

abbrev pub fields_in : Members → Option (List Field)
fields_in ms = option_map (map field_at) (fields_onto [] ms)

-- no fields where the key is missing or null
abbrev pub fields_of : Option Data → Option (List Field)
fields_of None = Some []
fields_of (Some d) = option_and_then fields_in (as_object d)

-- the user type, or its first key at fault
abbrev pub user_of : Data → Result UserType Key
user_of d =
    with_key (count_at (codes "size") d) keys.Size (λ size.
    with_key (option_and_then user_kind_of (text_at (codes "kind") d)) keys.Kind (λ kind.
    with_key (fields_of (given (codes "fields") d)) keys.Fields (λ fields.
    Ok (record { size = size; kind = kind; fields = fields }))))
