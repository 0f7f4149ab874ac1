-- The space of a task.
use Rattle.std.specs.Prelude.{ℕ, ◌==◌, if◌then◌else◌, Option, None, Some, option_and_then}
use Rattle.layer_base.specs.AddressSpace.{AddressSpace}
use Rattle.layer_base.specs.Space.{page_address}
use Rattle.layer_base.specs.declared.space.Space.TheVariants.{Paged}
use Rattle.intel_paging.specs.Block.{translation}
use Rattle.isf_reader.specs.Table.{IsfTable}
use Rattle.kernel_records.specs.declared.kernel.Kernel.{Kernel}
use Rattle.kernel_records.specs.declared.need.Need.TheVariants as needs
use Rattle.typed_object.specs.Ground.{kernel_memory, kernel_space}
use Rattle.typed_object.specs.Members.{member_word}
use Rattle.typed_object.specs.Needs.{needed_member}
use Rattle.task_plugins.specs.Pid.{task_of_pid}
use Rattle.task_plugins.specs.declared.task_space.TaskSpace.{TaskSpace}
use Rattle.task_plugins.specs.declared.task_space.TaskSpace.TheVariants.{Found, NoTask, NoSpace}

-- the physical address of the page tables of the memory descriptor at an address, by the kernel's address of them in `pgd`
abbrev pub root_of : AddressSpace → IsfTable → Kernel → ℕ → Option ℕ
root_of physical table kernel mm =
    option_and_then (translation physical (kernel_space kernel)) (member_word (kernel_memory physical kernel) table (needed_member table needs.MmStructPgd) mm)

-- the space of a root, with as many levels as the kernel's; without a root there is none
abbrev pub space_from : Kernel → Option ℕ → TaskSpace
space_from kernel None = NoSpace
space_from kernel (Some root) = Found (Paged (page_address root) kernel.levels)

-- the space of a memory descriptor; an absent one has none, and neither has one at 0
abbrev pub space_of : AddressSpace → IsfTable → Kernel → Option ℕ → TaskSpace
space_of physical table kernel None = NoSpace
space_of physical table kernel (Some mm) = if mm == 0 then NoSpace else space_from kernel (root_of physical table kernel mm)

-- the space of the task at an address, by the memory descriptor in its `mm`
abbrev pub space_at : AddressSpace → IsfTable → Kernel → Option ℕ → TaskSpace
space_at physical table kernel None = NoTask
space_at physical table kernel (Some task) = space_of physical table kernel (member_word (kernel_memory physical kernel) table (needed_member table needs.TaskStructMm) task)

-- the space of the task of a PID, or why there is none
unfoldable pub task_space : AddressSpace → IsfTable → Kernel → ℕ → TaskSpace
task_space physical table kernel pid = space_at physical table kernel (task_of_pid physical table kernel pid)
