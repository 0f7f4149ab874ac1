-- The kernel that a hit gives.
use Rattle.std.specs.Prelude.{ℕ, ◌&&◌, if◌then◌else◌, List, [], ◌∷◌, ◌++◌, codes, replicate, Option, None, Some, option_and_then}
use Rattle.std.specs.Option.{option_or}
use Rattle.layer_base.specs.AddressSpace.{AddressSpace}
use Rattle.layer_base.specs.declared.space.Levels.{Levels}
use Rattle.layer_base.specs.declared.space.Levels.TheVariants.{Four, Five}
use Rattle.layer_base.specs.declared.space.Space.TheVariants.{Phys}
use Rattle.space_memory.specs.InSpace.{in_space}
use Rattle.isf_reader.specs.Table.{IsfTable}
use Rattle.needle_search.specs.declared.hit.Hit.{Hit}
use Rattle.kernel_records.specs.declared.kernel.Kernel.{Kernel}
use Rattle.kernel_find.specs.Banner.{all_hits}
use Rattle.kernel_find.specs.Criteria.{difference, is_first_task, is_page, leads_to, link_base, physical_of, shift_of, sum_of, task_at}
use Rattle.kernel_find.specs.Layout.{init_task, root_table}

-- the name of the first task, with a number or without one
abbrev pub task_names : List (List ℕ)
task_names = (codes "swapper/0" ++ replicate 6 0) ∷ (codes "swapper" ++ replicate 8 0) ∷ []

-- the kernel that stands so far from where it is linked to stand, with so many levels of page tables
abbrev pub kernel_of : IsfTable → ℕ → ℕ → Levels → Kernel
kernel_of table physical shift levels = record {
  task = sum_of (init_task table) shift;
  physical = physical;
  shift = shift;
  root = sum_of (difference (root_table table) link_base) physical;
  levels = levels;
}

-- the kernel whose page tables lead to its first task, four levels of them or else five
abbrev pub by_levels : AddressSpace → ℕ → (Levels → Kernel) → Option Kernel
by_levels memory task kernel =
    if leads_to memory task (kernel Four) then Some (kernel Four)
    else if leads_to memory task (kernel Five) then Some (kernel Five)
    else None

-- The kernel whose first task is at this address and whose addresses are shifted by so much: the shift is whole pages, the
-- task passes for the first one, and the page tables lead to it.
abbrev pub kernel_shifted : AddressSpace → IsfTable → ℕ → ℕ → Option Kernel
kernel_shifted memory table task shift =
    if is_page shift && is_first_task (in_space memory Phys) table task
    then by_levels memory task (kernel_of table (physical_of table task) shift)
    else None

-- the kernel of a physical memory whose first task is at this address: it stands whole pages from where it is linked to
abbrev pub kernel_at : AddressSpace → IsfTable → ℕ → Option Kernel
kernel_at memory table task =
    if is_page (physical_of table task)
    then option_and_then (kernel_shifted memory table task) (shift_of (in_space memory Phys) table task)
    else None

-- the kernel whose first task has its name at an address
unfoldable pub kernel_named_at : AddressSpace → IsfTable → ℕ → Option Kernel
kernel_named_at memory table at = option_and_then (kernel_at memory table) (task_at table at)

-- what the first accepted of these hits gives
unfoldable pub first_accepted : (ℕ → Option Kernel) → List Hit → Option Kernel
first_accepted kernel_from [] = None
first_accepted kernel_from (hit ∷ found) = option_or (kernel_from hit.at) (first_accepted kernel_from found)

-- the kernel of a physical memory: what the first accepted of all hits of the names gives
unfoldable pub kernel_in : AddressSpace → IsfTable → Option Kernel
kernel_in memory table = first_accepted (kernel_named_at memory table) (all_hits (in_space memory Phys) task_names)
