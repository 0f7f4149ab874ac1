-- What is printed of symbols, by name and by address.
use Rattle.std.specs.Prelude.{ℕ, ◌-◌, List, ◌++◌, codes, Option, None, Some}
use Rattle.std.specs.Fmt.{decimal}
use Rattle.hex_text.specs.DumpRow.{address_cell}
use Rattle.cell_text.specs.ErrorLine.{no_symbol_text}
use Rattle.cell_text.specs.TextCell.{text_cell}
use Rattle.cell_text.specs.TypeCell.{type_cell}
use Rattle.isf_reader.specs.Table.{IsfTable}
use Rattle.isf_reader.specs.declared.type_ref.TypeRef.{TypeRef}
use Rattle.symbol_index.specs.Index.{Told, by_name, at_or_before}

-- the type of a symbol, or that it has none
abbrev pub type_or_none : Option TypeRef → List ℕ
type_or_none None = codes "-"
type_or_none (Some of) = type_cell of

-- a symbol's address and its type
unfoldable pub symbol_row : Told → List ℕ
symbol_row symbol = address_cell symbol.address ++ codes "\t" ++ type_or_none symbol.of ++ codes "\n"

abbrev pub symbol_or_none : List ℕ → Option Told → List ℕ
symbol_or_none name None = no_symbol_text name
symbol_or_none name (Some symbol) = symbol_row symbol

abbrev pub symbol_text : IsfTable → List ℕ → List ℕ
symbol_text table name = symbol_or_none name (by_name name table.symbols)

-- a symbol's address and name, and how far behind it a number is
unfoldable pub near_row : ℕ → Told → List ℕ
near_row number symbol = address_cell symbol.address ++ codes "\t" ++ text_cell symbol.name ++ codes "\t+" ++ decimal (number - symbol.address) ++ codes "\n"

abbrev pub near_or_none : ℕ → Option Told → List ℕ
near_or_none number None = codes "error: no symbol\n"
near_or_none number (Some symbol) = near_row number symbol

abbrev pub near_text : IsfTable → ℕ → List ℕ
near_text table number = near_or_none number (at_or_before number table.symbols)
