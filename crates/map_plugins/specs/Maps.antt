-- What the command `maps` prints.
use Rattle.std.specs.Prelude.{ℕ, List, [], ◌++◌, codes, Option, None, Some}
use Rattle.std.specs.List.{flat_map}
use Rattle.layer_base.specs.AddressSpace.{AddressSpace}
use Rattle.isf_reader.specs.Table.{IsfTable}
use Rattle.kernel_records.specs.Groups.{maps_needs}
use Rattle.kernel_records.specs.declared.area.Area.{Area}
use Rattle.kernel_records.specs.declared.kernel.Kernel.{Kernel}
use Rattle.kernel_records.specs.declared.need.Need.TheVariants.{TaskStructMm}
use Rattle.kernel_records.specs.declared.stop.Stop.{Stop}
use Rattle.typed_object.specs.Ground.{kernel_memory}
use Rattle.typed_object.specs.Members.{member_word, absent_stop}
use Rattle.typed_object.specs.Needs.{needed_member, first_missing}
use Rattle.cell_text.specs.ErrorLine.{unless_missing, no_task_text}
use Rattle.walk_text.specs.Added.{end_line}
use Rattle.vma_walk.specs.Areas.{areas, area_stop}
use Rattle.task_plugins.specs.Pid.{task_of_pid}
use Rattle.map_plugins.specs.Row.{area_row}

-- the names of the columns
abbrev pub head : List ℕ
head = codes "START\tEND\tFLAGS\tPGOFF\tPATH\n"

-- a row for each area, and why there are no more
abbrev pub rows_text : AddressSpace → IsfTable → Kernel → List Area → Stop → List ℕ
rows_text physical table kernel rows stop = flat_map (area_row (kernel_memory physical kernel) table kernel) rows ++ end_line stop

-- the areas of the memory descriptor at an address
abbrev pub areas_text : AddressSpace → IsfTable → Kernel → ℕ → List ℕ
areas_text physical table kernel mm = head ++ rows_text physical table kernel (areas physical table kernel mm) (area_stop physical table kernel mm)

-- the areas of a task's memory descriptor; where that is absent there are none, which ends where it should stand
abbrev pub descriptor_text : AddressSpace → IsfTable → Kernel → ℕ → Option ℕ → List ℕ
descriptor_text physical table kernel task None = head ++ end_line (absent_stop (needed_member table TaskStructMm) task)
descriptor_text physical table kernel task (Some mm) = areas_text physical table kernel mm

-- the memory descriptor of the task at an address
abbrev pub descriptor : AddressSpace → IsfTable → Kernel → ℕ → Option ℕ
descriptor physical table kernel task = member_word (kernel_memory physical kernel) table (needed_member table TaskStructMm) task

-- the areas of the task at an address, or the line that no task has the PID
abbrev pub task_text : AddressSpace → IsfTable → Kernel → ℕ → Option ℕ → List ℕ
task_text physical table kernel pid None = no_task_text pid
task_text physical table kernel pid (Some task) = descriptor_text physical table kernel task (descriptor physical table kernel task)

-- the line of the first missing name, else the areas of the first task that has a PID, over a physical memory
unfoldable pub maps_text : AddressSpace → IsfTable → Kernel → ℕ → List ℕ
maps_text physical table kernel pid = unless_missing (first_missing table maps_needs) (task_text physical table kernel pid (task_of_pid physical table kernel pid))
