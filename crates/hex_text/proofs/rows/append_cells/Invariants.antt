use Rattle.std.proofs.Common.{◌≡◌, ◌++◌, take}
use Rattle.std.specs.Prelude.{codes}
use Rattle.std.specs.List.{flat_map}
use Rattle.hex_text.specs.DumpRow.{byte_cell}
use Rattle.hex_text.proofs.rows.append_cells.Given as goal

abbrev pub invariant-loop-cell : goal.invariant-loop-cell
invariant-loop-cell l = l.text.items ≡ l.fn.text.items ++ flat_map (λ cell. codes " " ++ byte_cell cell) (take l.cell-index l.cells)
