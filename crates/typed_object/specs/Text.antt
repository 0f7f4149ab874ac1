-- The text of an array of characters.
use Rattle.std.specs.Prelude.{◌≡◌, ◌≢◌, ◌<◌, ◌≤◌, ℕ, zero, suc, ◌+◌, ◌-◌, ◌^◌, Bool, true, false, ◌&&◌, ◌==◌, nat_lt, if◌then◌else◌, List, [], ◌∷◌, ◌++◌, length, take, slice_index, Option, None, Some, Result, Ok, Err}
use Rattle.std.specs.Result.{result_map_both}
use Rattle.layer_base.specs.AddressSpace.{AddressSpace}
use Rattle.isf_reader.specs.Depth.{entry_named}
use Rattle.isf_reader.specs.Table.{IsfTable}
use Rattle.isf_reader.specs.declared.base_type.BaseKind.{BaseKind}
use Rattle.isf_reader.specs.declared.base_type.BaseKind.TheVariants as kinds
use Rattle.isf_reader.specs.declared.base_type.BaseType.{BaseType}
use Rattle.isf_reader.specs.declared.type_ref.TypeRef.{TypeRef, out-TypeRef}
use Rattle.isf_reader.specs.declared.type_ref.TypeRef.TheOpen.{TypeRef-F}
use Rattle.type_layout.specs.declared.fault.TypeFault.TheVariants.{NotArray, PastEnd}
use Rattle.typed_object.specs.declared.fault.ObjectFault.{ObjectFault}
use Rattle.typed_object.specs.declared.fault.ObjectFault.TheVariants.{Fault, Hole}

-- a character is of kind char and has one byte
abbrev pub is_char_kind : BaseKind → Bool
is_char_kind kinds.Int = false
is_char_kind kinds.Char = true
is_char_kind kinds.Bool = false
is_char_kind kinds.Float = false
is_char_kind kinds.Void = false

abbrev pub is_character_base : Option BaseType → Bool
is_character_base None = false
is_character_base (Some base) = is_char_kind base.kind && base.size == 1

abbrev pub is_character_in : IsfTable → TypeRef-F TypeRef → Bool
is_character_in table (TypeRef-F.Base name) = is_character_base (entry_named name table.bases)
is_character_in table (TypeRef-F.Pointer of) = false
is_character_in table (TypeRef-F.Array count of) = false
is_character_in table (TypeRef-F.Struct name) = false
is_character_in table (TypeRef-F.Union name) = false
is_character_in table (TypeRef-F.Class name) = false
is_character_in table (TypeRef-F.Enum name) = false
is_character_in table (TypeRef-F.Bits position length of) = false
is_character_in table TypeRef-F.Function = false

abbrev pub is_character : IsfTable → TypeRef → Bool
is_character table of = is_character_in table (out-TypeRef of)

-- how many characters an array of characters has
abbrev pub characters_in : IsfTable → TypeRef-F TypeRef → Option ℕ
characters_in table (TypeRef-F.Base name) = None
characters_in table (TypeRef-F.Pointer of) = None
characters_in table (TypeRef-F.Array count of) = if is_character table of then Some count else None
characters_in table (TypeRef-F.Struct name) = None
characters_in table (TypeRef-F.Union name) = None
characters_in table (TypeRef-F.Class name) = None
characters_in table (TypeRef-F.Enum name) = None
characters_in table (TypeRef-F.Bits position length of) = None
characters_in table TypeRef-F.Function = None

abbrev pub characters : IsfTable → TypeRef → Option ℕ
characters table of = characters_in table (out-TypeRef of)

-- what is said of an absent byte: a hole, or that it lies behind the last address
abbrev pub missing : ℕ → ObjectFault
missing at = if nat_lt at (2 ^ 64) then Hole at else Fault PastEnd

-- bytes in front of a text
abbrev pub put_before : List ℕ → Result (List ℕ) ObjectFault → Result (List ℕ) ObjectFault
put_before front text = result_map_both (λ bytes. front ++ bytes) (λ fault. fault) text

-- a text whose first byte is this: it ends before a zero byte
abbrev pub from_byte : ℕ → Option ℕ → Result (List ℕ) ObjectFault → Result (List ℕ) ObjectFault
from_byte at None rest = Err (missing at)
from_byte at (Some byte) rest = if byte == 0 then Ok [] else put_before (byte ∷ []) rest

-- the bytes from an address on before the first zero byte, or so many; each byte up to there is needed
unfoldable pub text_from : AddressSpace → ℕ → ℕ → Result (List ℕ) ObjectFault
text_from memory at zero = Ok []
text_from memory at (suc n) = from_byte at (memory at) (text_from memory (at + 1) n)

abbrev pub text_of : AddressSpace → ℕ → Option ℕ → Result (List ℕ) ObjectFault
text_of memory at None = Err (Fault NotArray)
text_of memory at (Some count) = text_from memory at count

-- the text of an array of characters at an address of a memory
abbrev pub text : AddressSpace → IsfTable → ℕ → TypeRef → Result (List ℕ) ObjectFault
text memory table at of = text_of memory at (characters table of)

-- bytes are taken up to this one, which is zero where a text ends, and else behind the last
abbrev pub StopsAt : List ℕ → ℕ → Bool → Type 0
StopsAt bytes n true = (n < length bytes) × (slice_index bytes n ≡ 0)
StopsAt bytes n false = n ≡ length bytes

-- the bytes before the first zero byte, or all, were put behind a text, and it is told whether there is one
pub record TakesBeforeZero (old new bytes : List ℕ) (ended : Bool) : Type 0 where
  pub count : ℕ
  pub within : count ≤ length bytes
  pub put : new ≡ old ++ take count bytes
  pub not_zero : (k : ℕ) → k < count → slice_index bytes k ≢ 0
  pub stops : StopsAt bytes count ended

-- Bytes were put behind a text so far, of which at most so many more are missing: all that is missing where the text has
-- ended, else a front of it.
abbrev pub AddsText : AddressSpace → ℕ → ℕ → List ℕ → List ℕ → Bool → Type 0
AddsText memory at missing old new ended = (piece : List ℕ) × (new ≡ old ++ piece) × (text_from memory at missing ≡ (if ended then Ok piece else put_before piece (text_from memory (at + length piece) (missing - length piece))))

-- a text that goes on has grown, and by no more than is missing
abbrev pub GrowsWithin : ℕ → List ℕ → List ℕ → Bool → Type 0
GrowsWithin missing old new ended = (length new ≤ length old + missing) × (ended ≡ false → length old < length new)
