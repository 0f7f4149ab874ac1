-- What the command `lsof` prints.
use Rattle.std.specs.Prelude.{ℕ, List, ◌++◌, Option, None, Some, Result, Ok, Err, codes}
use Rattle.layer_base.specs.AddressSpace.{AddressSpace}
use Rattle.isf_reader.specs.Table.{IsfTable}
use Rattle.kernel_records.specs.Groups.{lsof_needs}
use Rattle.kernel_records.specs.declared.kernel.Kernel.{Kernel}
use Rattle.kernel_records.specs.declared.stop.Stop.{Stop}
use Rattle.cell_text.specs.ErrorLine.{unless_missing, no_task_text}
use Rattle.task_plugins.specs.Pid.{task_of_pid}
use Rattle.typed_object.specs.Ground.{kernel_memory}
use Rattle.typed_object.specs.Needs.{first_missing}
use Rattle.walk_text.specs.Added.{end_line}
use Rattle.word_table.specs.Table.{words_of}
use Rattle.word_table.specs.declared.table.WordTable.{WordTable}
use Rattle.file_plugins.specs.FileTable.{file_table}
use Rattle.file_plugins.specs.Rows.{file_cells, lines_from}

-- the names of the columns
unfoldable pub head : List ℕ
head = codes "FD\tFILE\tPATH\n"

-- the lines of a table's words, or why there is no table
abbrev pub table_lines : AddressSpace → IsfTable → Kernel → Result WordTable Stop → List ℕ
table_lines memory table kernel (Ok words) = lines_from (file_cells memory table kernel) words 0 (words_of memory words)
table_lines memory table kernel (Err stop) = end_line stop

-- the open files of the task at an address of the kernel's memory
abbrev pub files_text : AddressSpace → IsfTable → Kernel → ℕ → List ℕ
files_text memory table kernel task = head ++ table_lines memory table kernel (file_table memory table task)

-- the open files of a task that there is, or that no task has the PID
abbrev pub text_by : AddressSpace → IsfTable → Kernel → ℕ → Option ℕ → List ℕ
text_by memory table kernel pid None = no_task_text pid
text_by memory table kernel pid (Some task) = files_text memory table kernel task

-- the line of the first missing name, else the open files of the task of a PID, over a physical memory
unfoldable pub lsof_text : AddressSpace → IsfTable → Kernel → ℕ → List ℕ
lsof_text physical table kernel pid = unless_missing (first_missing table lsof_needs) (text_by (kernel_memory physical kernel) table kernel pid (task_of_pid physical table kernel pid))
