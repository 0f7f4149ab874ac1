-- The lines that are still to come of a task's open files.
use Rattle.std.specs.Prelude.{ℕ, List, ◌∷◌, Option}
use Rattle.layer_base.specs.AddressSpace.{AddressSpace}
use Rattle.space_memory.specs.InSpace.{in_space}
use Rattle.typed_object.specs.Ground.{kernel_memory}
use Rattle.word_table.specs.Kept.{words_left}
use Rattle.file_plugins.specs.Rows.{file_cells, lines_from, lines_left}
use Rattle.file_plugins.specs.declared.lines.FileLines.{FileLines}

-- the cells of the file at an address, over a physical memory
abbrev pub cells_over : AddressSpace → FileLines → ℕ → List ℕ
cells_over physical lines file = file_cells (kernel_memory physical lines.paths.kernel) lines.paths.table.now lines.paths.kernel file

-- what is still to come
abbrev pub rest_of : AddressSpace → FileLines → List ℕ
rest_of physical lines = lines_left (cells_over physical lines) (in_space physical lines.slots.space) lines.slots

-- what is still to come behind a word of this index, with the lines of that word
abbrev pub rest_from : AddressSpace → FileLines → ℕ → Option ℕ → List ℕ
rest_from physical lines index word = lines_from (cells_over physical lines) lines.slots.table index (word ∷ words_left (in_space physical lines.slots.space) lines.slots)
