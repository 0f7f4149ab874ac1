-- The path of a file in a row.
use Rattle.std.specs.Prelude.{ℕ, List, Option, None, Some, codes}
use Rattle.layer_base.specs.AddressSpace.{AddressSpace}
use Rattle.isf_reader.specs.Table.{IsfTable}
use Rattle.kernel_records.specs.declared.kernel.Kernel.{Kernel}
use Rattle.cell_text.specs.TextCell.{text_cell}
use Rattle.typed_object.specs.Members.{member_word}
use Rattle.path_walk.specs.Path.{path_text}
use Rattle.path_walk.specs.Spots.{file_mount, file_dentry}

abbrev pub cell_by : AddressSpace → IsfTable → Kernel → Option ℕ → Option ℕ → List ℕ
cell_by memory table kernel (Some mnt) (Some dentry) = text_cell (path_text memory table kernel mnt dentry).text
cell_by memory table kernel (Some mnt) None = codes "-"
cell_by memory table kernel None dentry = codes "-"

-- the cell of the file at an address of a kernel's memory: its path, or `-` where its mount or its dentry is absent
unfoldable pub file_path_cell : AddressSpace → IsfTable → Kernel → ℕ → List ℕ
file_path_cell memory table kernel file = cell_by memory table kernel (member_word memory table (file_mount table) file) (member_word memory table (file_dentry table) file)
