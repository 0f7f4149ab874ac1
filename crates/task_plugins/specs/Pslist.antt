-- What the command `pslist` prints.
use Rattle.std.specs.Prelude.{ℕ, List, ◌++◌, codes, flat_map}
use Rattle.layer_base.specs.AddressSpace.{AddressSpace}
use Rattle.isf_reader.specs.Table.{IsfTable}
use Rattle.kernel_records.specs.Groups.{task_needs}
use Rattle.kernel_records.specs.declared.kernel.Kernel.{Kernel}
use Rattle.kernel_records.specs.declared.stop.Stop.{Stop}
use Rattle.kernel_records.specs.declared.task.Task.{Task}
use Rattle.typed_object.specs.Needs.{first_missing}
use Rattle.hex_text.specs.DumpRow.{address_cell}
use Rattle.cell_text.specs.ErrorLine.{unless_missing}
use Rattle.cell_text.specs.OptionalCell.{optional_number_cell, optional_text_cell}
use Rattle.walk_text.specs.Added.{end_line}
use Rattle.task_plugins.specs.Tasks.{tasks, task_stop}

-- the numbers of a task's process, its own and its parent's, in cells
abbrev pub number_cells : Task → List ℕ
number_cells task = optional_number_cell task.pid ++ codes "\t" ++ optional_number_cell task.tid ++ codes "\t" ++ optional_number_cell task.ppid

-- the address of a task, its numbers and its name, on a line
unfoldable pub task_row : Task → List ℕ
task_row task = address_cell task.at ++ codes "\t" ++ number_cells task ++ codes "\t" ++ optional_text_cell task.comm ++ codes "\n"

-- a line of the names of the columns, a row for each task, and why their ring ended
abbrev pub list_text : List Task → Stop → List ℕ
list_text rows stop = codes "OFFSET\tPID\tTID\tPPID\tCOMM\n" ++ (flat_map task_row rows ++ end_line stop)

-- the line of the first missing name, else the tasks of a kernel in a physical memory
unfoldable pub pslist_text : AddressSpace → IsfTable → Kernel → List ℕ
pslist_text physical table kernel = unless_missing (first_missing table task_needs) (list_text (tasks physical table kernel) (task_stop physical table kernel))
