use Rattle.std.proofs.Common.{◌≡◌, ◌++◌, take, map}
use Rattle.hex_text.specs.DumpRow.{character}
use Rattle.hex_text.proofs.rows.append_characters.Given as goal

abbrev pub invariant-loop-cell : goal.invariant-loop-cell
invariant-loop-cell l = l.text.items ≡ l.fn.text.items ++ map character (take l.cell-index l.cells)
