-- The text of a value.
use Rattle.std.specs.Prelude.{ℕ, List, [], ◌++◌, codes, decimal, Option, None, Some}
use Rattle.std.specs.Fmt.{signed_decimal}
use Rattle.std.specs.List.{flat_map}
use Rattle.layer_base.specs.declared.number.Number.{Number}
use Rattle.layer_base.specs.declared.number.Number.TheVariants.{Unsigned, Signed}
use Rattle.kernel_records.specs.declared.value.Value.{Value}
use Rattle.kernel_records.specs.declared.value.Value.TheVariants as values
use Rattle.hex_text.specs.DumpRow.{hex_digits, address_cell}
use Rattle.cell_text.specs.TextCell.{text_cell, quoted_cell}

-- a number in decimal, with `-` before a negative one
abbrev pub number_cell : Number → List ℕ
number_cell (Unsigned n) = decimal n
number_cell (Signed z) = signed_decimal z

-- the name of a number of an enum, behind a blank
abbrev pub constant_cell : Option (List ℕ) → List ℕ
constant_cell None = []
constant_cell (Some name) = codes " " ++ text_cell name

-- the text of a value
unfoldable pub value_cell : Value → List ℕ
value_cell (values.Number n) = number_cell n
value_cell (values.Raw bytes) = codes "0x" ++ flat_map (hex_digits 2) bytes
value_cell (values.Pointer at) = address_cell at
value_cell (values.Enum n name) = number_cell n ++ constant_cell name
value_cell (values.Text text) = quoted_cell text
value_cell (values.Array count) = codes "[" ++ decimal count ++ codes "]"
value_cell values.Compound = codes "{}"
value_cell values.Void = codes "void"
value_cell values.Function = codes "function"
value_cell values.Absent = codes "-"
value_cell values.Unknown = codes "?"
