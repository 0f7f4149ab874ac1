-- The areas of a memory descriptor. They are linked in a chain: the descriptor's `mmap` leads to the first area, and the
-- `vm_next` of each area to the next.
use Rattle.std.specs.Prelude.{ℕ, ◌+◌, ◌^◌, ◌==◌, nat_lt, if◌then◌else◌, List, [], map, Result, Ok, Err}
use Rattle.layer_base.specs.AddressSpace.{AddressSpace}
use Rattle.isf_reader.specs.Table.{IsfTable}
use Rattle.kernel_records.specs.declared.area.Area.{Area}
use Rattle.kernel_records.specs.declared.kernel.Kernel.{Kernel}
use Rattle.kernel_records.specs.declared.need.Need.TheVariants as needs
use Rattle.kernel_records.specs.declared.stop.Stop.{Stop}
use Rattle.kernel_records.specs.declared.stop.Stop.TheVariants.{End, Outside}
use Rattle.list_walk.specs.Objects.{objects, stop_of}
use Rattle.list_walk.specs.State.{WalkState, chain_walk}
use Rattle.typed_object.specs.Ground.{kernel_memory, kernel_space}
use Rattle.typed_object.specs.Members.{offset_of}
use Rattle.typed_object.specs.Needs.{needed_member}
use Rattle.vma_walk.specs.Area.{area_members, area_at}

-- where the word stands that leads to the first area of a memory descriptor
abbrev pub first_place : IsfTable → ℕ → ℕ
first_place table mm = mm + offset_of (needed_member table needs.MmStructMmap)

-- a walk along the chain that begins at a place; none does above 2^64 - 1, which is outside at the descriptor
abbrev pub walk_from : IsfTable → Kernel → ℕ → ℕ → Result WalkState Stop
walk_from table kernel mm place =
    if nat_lt place (2 ^ 64) then Ok (chain_walk (kernel_space kernel) place 0 (offset_of (needed_member table needs.VmAreaStructVmNext)))
    else Err (Outside mm)

-- a walk along the areas of the memory descriptor at an address, or why there are none; 0 is no descriptor
unfoldable pub area_walk : IsfTable → Kernel → ℕ → Result WalkState Stop
area_walk table kernel mm = if mm == 0 then Err End else walk_from table kernel mm (first_place table mm)

-- the areas that a walk gives
abbrev pub areas_of : AddressSpace → IsfTable → Result WalkState Stop → List Area
areas_of memory table (Ok walk) = map (area_at memory table (area_members table)) (objects memory walk)
areas_of memory table (Err stop) = []

-- why it ends
abbrev pub stop_for : AddressSpace → Result WalkState Stop → Stop
stop_for memory (Ok walk) = stop_of memory walk
stop_for memory (Err stop) = stop

-- the areas of the memory descriptor at an address, over a physical memory, in the order of their chain
unfoldable pub areas : AddressSpace → IsfTable → Kernel → ℕ → List Area
areas physical table kernel mm = areas_of (kernel_memory physical kernel) table (area_walk table kernel mm)

-- why the chain ends
unfoldable pub area_stop : AddressSpace → IsfTable → Kernel → ℕ → Stop
area_stop physical table kernel mm = stop_for (kernel_memory physical kernel) (area_walk table kernel mm)
