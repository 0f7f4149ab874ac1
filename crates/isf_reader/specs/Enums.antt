-- An entry of the section `enums`. Its keys, in the order in which they are read:
--
--     size        a count
--     base        a text, the name of a base type
--     constants   an object of whole numbers; missing or null is empty
use Rattle.std.specs.Prelude.{ℕ, ℤ, List, [], map, Option, Some, None, option_map, option_and_then, Result, Ok, codes}
use Rattle.std.specs.Cmp.Lexicographic.{slice_cmp}
use Rattle.std.specs.BTreeSet.{insert_key}
use Rattle.std.specs.declared.cmp.Ordering.{Ordering}
use Rattle.std.specs.Ordering.{nat_cmp, int_cmp, ordering_then}
use Rattle.serde_json.specs.Data.{Data, Members, no_members, member}
use Rattle.serde_json.specs.Find.{as_object}
use Rattle.isf_reader.specs.Entry.{with_key}
use Rattle.isf_reader.specs.Json.{given, count_at, text_at, integer_of}
use Rattle.isf_reader.specs.declared.enum_type.Constant.{Constant}
use Rattle.isf_reader.specs.declared.enum_type.EnumType.{EnumType}
use Rattle.isf_reader.specs.declared.refusal.Key.{Key}
use Rattle.isf_reader.specs.declared.refusal.Key.TheVariants as keys

-- constants stand by value, and then by name in byte order
abbrev pub by_value : ℤ × List ℕ → ℤ × List ℕ → Ordering
by_value a b = ordering_then (int_cmp a.0 b.0) (slice_cmp nat_cmp a.1 b.1)

-- the values and names of these members beside those found so far; each member is a whole number
abbrev pub values_onto : List (ℤ × List ℕ) → Members → Option (List (ℤ × List ℕ))
values_onto found no_members = Some found
values_onto found (member name d ms) = option_and_then (λ value. values_onto (insert_key by_value found (value, name)) ms) (integer_of d)

abbrev pub constant_at : ℤ × List ℕ → Constant
constant_at p = record { name = p.1; value = p.0 }

abbrev pub constants_in : Members → Option (List Constant)
constants_in ms = option_map (map constant_at) (values_onto [] ms)

-- no constants where the key is missing or null
abbrev pub constants_of : Option Data → Option (List Constant)
constants_of None = Some []
constants_of (Some d) = option_and_then constants_in (as_object d)

-- the enum, or its first key at fault
abbrev pub enum_of : Data → Result EnumType Key
enum_of d =
    with_key (count_at (codes "size") d) keys.Size (λ size.
    with_key (text_at (codes "base") d) keys.Base (λ base.
    with_key (constants_of (given (codes "constants") d)) keys.Constants (λ constants.
    Ok (record { size = size; base = base; constants = constants }))))
