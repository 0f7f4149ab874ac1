-- What the command `pstree` prints.
use Rattle.std.specs.Prelude.{ℕ, List, [], map, ◌++◌, codes, decimal, flat_map, slice_get, Option, None, Some}
use Rattle.layer_base.specs.AddressSpace.{AddressSpace}
use Rattle.isf_reader.specs.Table.{IsfTable}
use Rattle.kernel_records.specs.Groups.{task_needs}
use Rattle.kernel_records.specs.declared.kernel.Kernel.{Kernel}
use Rattle.kernel_records.specs.declared.stop.Stop.{Stop}
use Rattle.kernel_records.specs.declared.task.Task.{Task}
use Rattle.typed_object.specs.Needs.{first_missing}
use Rattle.cell_text.specs.ErrorLine.{unless_missing}
use Rattle.tree_order.specs.Tree.{tree}
use Rattle.tree_order.specs.declared.branch.Branch.{Branch}
use Rattle.tree_order.specs.declared.key.Key.{Key}
use Rattle.walk_text.specs.Added.{end_line}
use Rattle.task_plugins.specs.Pslist.{task_row}
use Rattle.task_plugins.specs.Tasks.{tasks, task_stop}

-- what a task says of its place in the tree: its PID, and that of its parent
abbrev pub key_of : Task → Key
key_of task = record { pid = task.pid; ppid = task.ppid }

-- a task behind its depth in the tree
abbrev pub row_behind : ℕ → Option Task → List ℕ
row_behind depth None = []
row_behind depth (Some task) = decimal depth ++ codes "\t" ++ task_row task

-- the row of a place in the tree of some tasks
abbrev pub branch_row : List Task → Branch → List ℕ
branch_row rows branch = row_behind branch.depth (slice_get rows branch.row)

-- a line of the names of the columns, rows of places in the tree, and why the ring of the tasks ended
abbrev pub branches_text : List Task → List Branch → Stop → List ℕ
branches_text rows branches stop = codes "DEPTH\tOFFSET\tPID\tTID\tPPID\tCOMM\n" ++ (flat_map (branch_row rows) branches ++ end_line stop)

-- the rows in the order of the tree of the tasks
abbrev pub tree_text : List Task → Stop → List ℕ
tree_text rows stop = branches_text rows (tree (map key_of rows)) stop

-- the line of the first missing name, else the tree of the tasks of a kernel in a physical memory
unfoldable pub pstree_text : AddressSpace → IsfTable → Kernel → List ℕ
pstree_text physical table kernel = unless_missing (first_missing table task_needs) (tree_text (tasks physical table kernel) (task_stop physical table kernel))
