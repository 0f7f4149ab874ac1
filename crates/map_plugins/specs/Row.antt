-- The row of an area.
use Rattle.std.specs.Prelude.{ℕ, ◌==◌, if◌then◌else◌, List, ◌++◌, codes, Option, None, Some}
use Rattle.layer_base.specs.AddressSpace.{AddressSpace}
use Rattle.layer_base.specs.Number.{low_word}
use Rattle.layer_base.specs.declared.number.Number.{Number}
use Rattle.isf_reader.specs.Table.{IsfTable}
use Rattle.kernel_records.specs.declared.area.Area.{Area}
use Rattle.kernel_records.specs.declared.kernel.Kernel.{Kernel}
use Rattle.hex_text.specs.DumpRow.{address_cell}
use Rattle.cell_text.specs.OptionalCell.{optional_number_cell}
use Rattle.path_walk.specs.Cell.{file_path_cell}
use Rattle.map_plugins.specs.Flags.{flags_cell}

-- the low 64 bits of a number as an address, where it is present
abbrev pub bound_cell : Option Number → List ℕ
bound_cell None = codes "-"
bound_cell (Some number) = address_cell (low_word number)

-- the path of an area's file; an area with the file 0 has none
abbrev pub path_cell : AddressSpace → IsfTable → Kernel → Option ℕ → List ℕ
path_cell memory table kernel None = codes "-"
path_cell memory table kernel (Some file) = if file == 0 then codes "[anon]" else file_path_cell memory table kernel file

-- where an area begins and ends
abbrev pub bound_cells : Area → List ℕ
bound_cells area = bound_cell area.start ++ codes "\t" ++ bound_cell area.end

-- the same, what may be done with the area, and how many pages into its file it begins
abbrev pub area_cells : Area → List ℕ
area_cells area = bound_cells area ++ codes "\t" ++ flags_cell area.flags ++ codes "\t" ++ optional_number_cell area.pgoff

-- the cells of an area and a path, on a line
abbrev pub area_line : Area → List ℕ → List ℕ
area_line area path = area_cells area ++ codes "\t" ++ path ++ codes "\n"

-- the row of an area, over the memory of a kernel
abbrev pub area_row : AddressSpace → IsfTable → Kernel → Area → List ℕ
area_row memory table kernel area = area_line area (path_cell memory table kernel area.file)
