-- Rows of tables, as the code holds them.
use Rattle.std.specs.Prelude.{ℕ, List}
use Rattle.std.specs.Borrow.{Bor}
use Rattle.image_maker.specs.Structures.{Field, field}
use Rattle.image_maker.specs.Symbols.{Symbol, symbol}
use Rattle.image_maker.specs.Types.{BaseType, base}
use Rattle.image_maker.specs.declared.structure.FieldType.{FieldType}
use Rattle.image_maker.specs.declared.types.BaseRow.{BaseRow}

abbrev pub field_seen : Bor (List ℕ) × FieldType × ℕ → Field
field_seen row = field row.0.now row.1 row.2

abbrev pub base_seen : BaseRow → BaseType
base_seen row = base row.name.now row.size row.signed row.kind.now

abbrev pub symbol_seen : Bor (List ℕ) × ℕ → Symbol
symbol_seen row = symbol row.0.now row.1
