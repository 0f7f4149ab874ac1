-- The tasks of a kernel. They are linked in a ring, whose head stands in the kernel's first task and is not listed.
use Rattle.std.specs.Prelude.{ℕ, ◌+◌, ◌^◌, nat_lt, if◌then◌else◌, List, [], map, Result, Ok, Err}
use Rattle.layer_base.specs.AddressSpace.{AddressSpace}
use Rattle.isf_reader.specs.Table.{IsfTable}
use Rattle.kernel_records.specs.declared.kernel.Kernel.{Kernel}
use Rattle.kernel_records.specs.declared.need.Need.TheVariants as needs
use Rattle.kernel_records.specs.declared.stop.Stop.{Stop}
use Rattle.kernel_records.specs.declared.stop.Stop.TheVariants.{Outside}
use Rattle.kernel_records.specs.declared.task.Task.{Task}
use Rattle.list_walk.specs.Objects.{objects, stop_of}
use Rattle.list_walk.specs.State.{WalkState, ring_walk}
use Rattle.typed_object.specs.Ground.{kernel_memory, kernel_space}
use Rattle.typed_object.specs.Members.{offset_of}
use Rattle.typed_object.specs.Needs.{needed_member}
use Rattle.task_plugins.specs.Task.{task_members, task_at}

-- how far the link of a task stands behind its start
abbrev pub link_offset : IsfTable → ℕ
link_offset table = offset_of (needed_member table needs.TaskStructTasks)

-- a walk over the ring from a head; none stands above 2^64 - 1, which is outside at the kernel's task
abbrev pub walk_from : IsfTable → Kernel → ℕ → Result WalkState Stop
walk_from table kernel head =
    if nat_lt head (2 ^ 64) then Ok (ring_walk (kernel_space kernel) head (link_offset table) (offset_of (needed_member table needs.ListHeadNext)))
    else Err (Outside kernel.task)

-- a walk over the tasks of a kernel, or why there are none
unfoldable pub task_walk : IsfTable → Kernel → Result WalkState Stop
task_walk table kernel = walk_from table kernel (kernel.task + link_offset table)

-- where the tasks start that a walk gives
abbrev pub places_of : AddressSpace → Result WalkState Stop → List ℕ
places_of memory (Ok walk) = objects memory walk
places_of memory (Err stop) = []

-- why it ends
abbrev pub stop_for : AddressSpace → Result WalkState Stop → Stop
stop_for memory (Ok walk) = stop_of memory walk
stop_for memory (Err stop) = stop

-- the tasks of a kernel, over a physical memory, in the order of their ring
unfoldable pub tasks : AddressSpace → IsfTable → Kernel → List Task
tasks physical table kernel = map (task_at (kernel_memory physical kernel) table (task_members table)) (places_of (kernel_memory physical kernel) (task_walk table kernel))

-- why the ring ends
unfoldable pub task_stop : AddressSpace → IsfTable → Kernel → Stop
task_stop physical table kernel = stop_for (kernel_memory physical kernel) (task_walk table kernel)
