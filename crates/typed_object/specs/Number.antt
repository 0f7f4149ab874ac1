-- The number of an object.
use Rattle.std.specs.Prelude.{ℕ, ◌/◌, ◌%◌, ◌^◌, List, if◌then◌else◌, Result, Ok, Err}
use Rattle.std.specs.Result.{result_map_both}
use Rattle.byteorder.specs.Endian.{big_number, little_number, twos_complement}
use Rattle.layer_base.specs.AddressSpace.{AddressSpace}
use Rattle.layer_base.specs.declared.number.Number.{Number}
use Rattle.layer_base.specs.declared.number.Number.TheVariants.{Unsigned, Signed}
use Rattle.isf_reader.specs.Table.{IsfTable}
use Rattle.isf_reader.specs.declared.type_ref.TypeRef.{TypeRef}
use Rattle.isf_reader.specs.declared.type_ref.TypeRef.TheOpen.{TypeRef-F}
use Rattle.isf_reader.specs.declared.type_ref.TypeRef.TheFolds.{fold-TypeRef}
use Rattle.type_layout.specs.declared.fault.TypeFault.{TypeFault}
use Rattle.typed_object.specs.Bytes.{bytes_of}
use Rattle.typed_object.specs.Form.{number_form}
use Rattle.typed_object.specs.declared.fault.ObjectFault.{ObjectFault}
use Rattle.typed_object.specs.declared.fault.ObjectFault.TheVariants.{Fault}
use Rattle.typed_object.specs.declared.form.Form.{Form}

-- the number in the bytes of a form, without a sign; no bytes give 0
abbrev pub number_in : Form → List ℕ → ℕ
number_in form bytes = if form.big then big_number form.size bytes else little_number form.size bytes

-- so many bits of a number from a position on
abbrev pub bits_of : ℕ → ℕ → ℕ → ℕ
bits_of position length n = n / 2 ^ position % 2 ^ length

-- what one level of a type takes of a number: a bit field its bits, every other type the whole
abbrev pub part_step : TypeRef-F (ℕ → ℕ) → ℕ → ℕ
part_step (TypeRef-F.Base name) n = n
part_step (TypeRef-F.Pointer of) n = n
part_step (TypeRef-F.Array count of) n = n
part_step (TypeRef-F.Struct name) n = n
part_step (TypeRef-F.Union name) n = n
part_step (TypeRef-F.Class name) n = n
part_step (TypeRef-F.Enum name) n = n
part_step (TypeRef-F.Bits position length of) n = bits_of position length (of n)
part_step TypeRef-F.Function n = n

abbrev pub part_of : TypeRef → ℕ → ℕ
part_of = fold-TypeRef (ℕ → ℕ) part_step

-- what bytes are in a form: in two's complement where it has a sign
abbrev pub decoded : TypeRef → Form → List ℕ → Number
decoded of form bytes = if form.signed then Signed (twos_complement form.size (number_in form bytes)) else Unsigned (part_of of (number_in form bytes))

abbrev pub number_by : AddressSpace → ℕ → TypeRef → Result Form TypeFault → Result Number ObjectFault
number_by memory at of (Ok form) = result_map_both (decoded of form) (λ fault. fault) (bytes_of memory at form.size)
number_by memory at of (Err fault) = Err (Fault fault)

-- The number of a type at an address of a memory. A fault of the type comes first, then that its bytes pass the last
-- address, then the first absent one.
unfoldable pub number : AddressSpace → IsfTable → ℕ → TypeRef → Result Number ObjectFault
number memory table at of = number_by memory at of (number_form table of)
