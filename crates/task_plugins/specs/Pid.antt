-- The task of a PID.
use Rattle.std.specs.Prelude.{ℕ, Bool, false, pos, Option, None, Some, option_map, find}
use Rattle.std.specs.Ordering.{int_eq}
use Rattle.layer_base.specs.AddressSpace.{AddressSpace}
use Rattle.layer_base.specs.declared.number.Number.{Number}
use Rattle.isf_reader.specs.Table.{IsfTable}
use Rattle.kernel_records.specs.Whole.{whole}
use Rattle.kernel_records.specs.declared.kernel.Kernel.{Kernel}
use Rattle.type_layout.specs.Member.{Spot}
use Rattle.typed_object.specs.Members.{member_number}
use Rattle.task_plugins.specs.Tasks.{tasks}

-- whether a number that may be absent is present and is a whole number, however it was read
abbrev pub is_number : ℕ → Option Number → Bool
is_number n None = false
is_number n (Some number) = int_eq (whole number) (pos n)

-- whether the task at an address has a PID, which stands at a place in it
abbrev pub has_pid : AddressSpace → IsfTable → Option Spot → ℕ → ℕ → Bool
has_pid memory table tgid pid at = is_number pid (member_number memory table tgid at)

-- the address of the first task of a kernel whose PID is a number
unfoldable pub task_of_pid : AddressSpace → IsfTable → Kernel → ℕ → Option ℕ
task_of_pid physical table kernel pid = option_map (λ task. task.at) (find (λ task. is_number pid task.pid) (tasks physical table kernel))
