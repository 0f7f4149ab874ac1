-- An entry of the section `base_types`. Its keys, in the order in which they are read:
--
--     size     a count; 1 to 8 where the entry is named `pointer`
--     signed   true or false
--     kind     int, char, bool, float or void
--     endian   little or big
use Rattle.std.specs.Prelude.{ℕ, List, Bool, true, false, ◌&&◌, ◌||◌, not, nat_le, if◌then◌else◌, Option, Some, None, option_and_then, Result, Ok, bytes_eq, codes}
use Rattle.serde_json.specs.Data.{Data}
use Rattle.isf_reader.specs.Entry.{with_key}
use Rattle.isf_reader.specs.Json.{count_at, text_at, flag_at}
use Rattle.isf_reader.specs.declared.base_type.BaseKind.{BaseKind}
use Rattle.isf_reader.specs.declared.base_type.BaseKind.TheVariants as kinds
use Rattle.isf_reader.specs.declared.base_type.BaseType.{BaseType}
use Rattle.isf_reader.specs.declared.refusal.Key.{Key}
use Rattle.isf_reader.specs.declared.refusal.Key.TheVariants as keys

-- the kind that a text names
unfoldable pub base_kind_of : List ℕ → Option BaseKind
base_kind_of text =
    if bytes_eq text (codes "int") then Some kinds.Int
    else if bytes_eq text (codes "char") then Some kinds.Char
    else if bytes_eq text (codes "bool") then Some kinds.Bool
    else if bytes_eq text (codes "float") then Some kinds.Float
    else if bytes_eq text (codes "void") then Some kinds.Void
    else None

-- whether the byte order that a text names has the most significant byte first
unfoldable pub big_of : List ℕ → Option Bool
big_of text = if bytes_eq text (codes "little") then Some false else if bytes_eq text (codes "big") then Some true else None

-- a pointer has 1 to 8 bytes
unfoldable pub size_fits : List ℕ → ℕ → Bool
size_fits name size = not (bytes_eq name (codes "pointer")) || (nat_le 1 size && nat_le size 8)

abbrev pub if_fits : List ℕ → ℕ → Option ℕ
if_fits name size = if size_fits name size then Some size else None

-- the base type of that name, or its first key at fault
abbrev pub base_of : List ℕ → Data → Result BaseType Key
base_of name d =
    with_key (option_and_then (if_fits name) (count_at (codes "size") d)) keys.Size (λ size.
    with_key (flag_at (codes "signed") d) keys.Signed (λ signed.
    with_key (option_and_then base_kind_of (text_at (codes "kind") d)) keys.Kind (λ kind.
    with_key (option_and_then big_of (text_at (codes "endian") d)) keys.Endian (λ big.
    Ok (record { size = size; signed = signed; kind = kind; big = big })))))
