-- What the first task of a kernel is known by.
use Rattle.std.specs.Prelude.{ℕ, ◌+◌, ◌-◌, ◌%◌, ◌^◌, Bool, true, false, ◌==◌, ◌&&◌, nat_le, if◌then◌else◌, Option, None, Some, option_map, pos}
use Rattle.std.specs.Ordering.{int_eq}
use Rattle.layer_base.specs.AddressSpace.{AddressSpace}
use Rattle.layer_base.specs.declared.number.Number.{Number}
use Rattle.layer_base.specs.declared.number.Number.TheVariants.{Unsigned, Signed}
use Rattle.isf_reader.specs.Table.{IsfTable}
use Rattle.type_layout.specs.Member.{Spot}
use Rattle.kernel_records.specs.declared.kernel.Kernel.{Kernel}
use Rattle.intel_paging.specs.Block.{translation}
use Rattle.typed_object.specs.Ground.{kernel_space}
use Rattle.typed_object.specs.Members.{member_number, member_word}
use Rattle.kernel_find.specs.Layout.{files_member, init_files, init_task, name_offset, new_state, old_state, pid_member}

-- a sum and a difference of addresses, modulo 2 ^ 64
abbrev pub sum_of : ℕ → ℕ → ℕ
sum_of a b = (a + b) % 2 ^ 64

abbrev pub difference : ℕ → ℕ → ℕ
difference a b = (a + (2 ^ 64 - b)) % 2 ^ 64

-- where kernels are linked to begin; physical address 0 stands there before they are moved
abbrev pub link_base : ℕ
link_base = 0xFFFFFFFF80000000

-- the physical address of the task whose name stands at an address; its name stands so far behind its start
abbrev pub task_at : IsfTable → ℕ → Option ℕ
task_at table at = if nat_le (name_offset table) at then Some (at - name_offset table) else None

-- how far the kernel stands from where it is linked to stand in physical memory, if its first task is at this address
abbrev pub physical_of : IsfTable → ℕ → ℕ
physical_of table task = difference task (difference (init_task table) link_base)

-- how far its addresses stand from those of its symbols, by where its first task has its open files
abbrev pub shift_of : AddressSpace → IsfTable → ℕ → Option ℕ
shift_of memory table task = option_map (λ files. difference files (init_files table)) (member_word memory table (files_member table) task)

-- the low 12 bits are zero
abbrev pub is_page : ℕ → Bool
is_page address = address % 2 ^ 12 == 0

abbrev pub is_zero : Number → Bool
is_zero (Unsigned n) = n == 0
is_zero (Signed z) = int_eq z (pos 0)

-- a number that is there, and is 0
abbrev pub is_present_zero : Option Number → Bool
is_present_zero None = false
is_present_zero (Some number) = is_zero number

-- the task has number 0
abbrev pub has_pid_zero : AddressSpace → IsfTable → ℕ → Bool
has_pid_zero memory table task = is_present_zero (member_number memory table (pid_member table) task)

-- a state is 0, where tasks have this state
abbrev pub is_state_zero : AddressSpace → IsfTable → Option Spot → ℕ → Bool
is_state_zero memory table None task = true
is_state_zero memory table (Some state) task = is_present_zero (member_number memory table (Some state) task)

-- each state that tasks have is 0: the task runs
abbrev pub is_running : AddressSpace → IsfTable → ℕ → Bool
is_running memory table task = is_state_zero memory table (old_state table) task && is_state_zero memory table (new_state table) task

-- what the memory of a task must hold for it to be the first one
abbrev pub is_first_task : AddressSpace → IsfTable → ℕ → Bool
is_first_task memory table task = has_pid_zero memory table task && is_running memory table task

-- an address, where there is one, is this
abbrev pub is_address : ℕ → Option ℕ → Bool
is_address wanted None = false
is_address wanted (Some address) = address == wanted

-- the page tables of a kernel in a physical memory lead from the address of its first task to where that stands
abbrev pub leads_to : AddressSpace → ℕ → Kernel → Bool
leads_to memory task kernel = is_address task (translation memory (kernel_space kernel) kernel.task)
