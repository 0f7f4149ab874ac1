-- Cells of what may be absent, which is a dash.
use Rattle.std.specs.Prelude.{ℕ, List, codes, Option, None, Some}
use Rattle.layer_base.specs.declared.number.Number.{Number}
use Rattle.hex_text.specs.DumpRow.{address_cell}
use Rattle.cell_text.specs.TextCell.{text_cell}
use Rattle.cell_text.specs.ValueCell.{number_cell}

-- a number in decimal
abbrev pub optional_number_cell : Option Number → List ℕ
optional_number_cell None = codes "-"
optional_number_cell (Some number) = number_cell number

-- a text; an empty one is empty
abbrev pub optional_text_cell : Option (List ℕ) → List ℕ
optional_text_cell None = codes "-"
optional_text_cell (Some bytes) = text_cell bytes

-- an address
abbrev pub optional_address_cell : Option ℕ → List ℕ
optional_address_cell None = codes "-"
optional_address_cell (Some at) = address_cell at
