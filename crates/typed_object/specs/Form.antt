-- How the number of a type is read.
--
--     base type (int, char, bool)   its size, sign and byte order
--     pointer                       its size, unsigned, the byte order of the base type `pointer`, or little-endian
--     enum                          its own size, the sign and byte order of its base type
--     bit field                     the size and byte order of its type, unsigned
use Rattle.std.specs.Prelude.{ℕ, false, nat_le, if◌then◌else◌, Option, None, Some, Result, Ok, Err, codes}
use Rattle.std.specs.Option.{option_map_or}
use Rattle.std.specs.Result.{result_map_both}
use Rattle.isf_reader.specs.Depth.{entry_named}
use Rattle.isf_reader.specs.Table.{IsfTable}
use Rattle.isf_reader.specs.declared.base_type.BaseKind.{BaseKind}
use Rattle.isf_reader.specs.declared.base_type.BaseKind.TheVariants as kinds
use Rattle.isf_reader.specs.declared.base_type.BaseType.{BaseType}
use Rattle.isf_reader.specs.declared.enum_type.EnumType.{EnumType}
use Rattle.isf_reader.specs.declared.type_ref.TypeRef.{TypeRef}
use Rattle.isf_reader.specs.declared.type_ref.TypeRef.TheOpen.{TypeRef-F}
use Rattle.isf_reader.specs.declared.type_ref.TypeRef.TheFolds.{fold-TypeRef}
use Rattle.type_layout.specs.Size.{pointer_size}
use Rattle.type_layout.specs.declared.fault.TypeFault.{TypeFault}
use Rattle.type_layout.specs.declared.fault.TypeFault.TheVariants.{NoType, NotNumber, TooBig}
use Rattle.typed_object.specs.declared.form.Form.{Form}

-- a base type of kind int, char or bool has a number
abbrev pub form_of_kind : BaseType → BaseKind → Result Form TypeFault
form_of_kind base kinds.Int = Ok (record { size = base.size; signed = base.signed; big = base.big })
form_of_kind base kinds.Char = Ok (record { size = base.size; signed = base.signed; big = base.big })
form_of_kind base kinds.Bool = Ok (record { size = base.size; signed = base.signed; big = base.big })
form_of_kind base kinds.Float = Err NotNumber
form_of_kind base kinds.Void = Err NotNumber

abbrev pub base_form : Option BaseType → Result Form TypeFault
base_form None = Err NoType
base_form (Some base) = form_of_kind base base.kind

-- a pointer has no sign
abbrev pub pointer_form : IsfTable → Form
pointer_form table = record { size = pointer_size table; signed = false; big = option_map_or (λ base. base.big) (entry_named (codes "pointer") table.bases) false }

-- an enum has a size of its own, and the sign and byte order of its base type
abbrev pub form_with_base : ℕ → Option BaseType → Result Form TypeFault
form_with_base size None = Err NoType
form_with_base size (Some base) = Ok (record { size = size; signed = base.signed; big = base.big })

abbrev pub enum_form : IsfTable → Option EnumType → Result Form TypeFault
enum_form table None = Err NoType
enum_form table (Some enumeration) = form_with_base enumeration.size (entry_named enumeration.base table.bases)

-- a bit field has no sign
abbrev pub unsigned : Form → Form
unsigned form = record { size = form.size; signed = false; big = form.big }

-- the form of one level of a type, with that of the type within in its place
abbrev pub form_step : IsfTable → TypeRef-F (Result Form TypeFault) → Result Form TypeFault
form_step table (TypeRef-F.Base name) = base_form (entry_named name table.bases)
form_step table (TypeRef-F.Pointer of) = Ok (pointer_form table)
form_step table (TypeRef-F.Array count of) = Err NotNumber
form_step table (TypeRef-F.Struct name) = Err NotNumber
form_step table (TypeRef-F.Union name) = Err NotNumber
form_step table (TypeRef-F.Class name) = Err NotNumber
form_step table (TypeRef-F.Enum name) = enum_form table (entry_named name table.enums)
form_step table (TypeRef-F.Bits position length of) = result_map_both unsigned (λ fault. fault) of
form_step table TypeRef-F.Function = Err NotNumber

-- the form of a type's number, or its fault
abbrev pub form_of : IsfTable → TypeRef → Result Form TypeFault
form_of table = fold-TypeRef (Result Form TypeFault) (form_step table)

-- a number has at most 16 bytes
abbrev pub unless_big : Result Form TypeFault → Result Form TypeFault
unless_big (Ok form) = if nat_le form.size 16 then Ok form else Err TooBig
unless_big (Err fault) = Err fault

abbrev pub number_form : IsfTable → TypeRef → Result Form TypeFault
number_form table of = unless_big (form_of table of)
