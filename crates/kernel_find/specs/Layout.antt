-- What a symbol file says of the first task. The search for it begins once what it needs is there, so the numbers that
-- stand here for what is not there are never used.
use Rattle.std.specs.Prelude.{◌≡◌, ℕ, codes, Option, option_map, unwrap_or}
use Rattle.isf_reader.specs.Table.{IsfTable}
use Rattle.layer_base.specs.declared.space.Space.TheVariants.{Phys}
use Rattle.type_layout.specs.Member.{Spot, spot}
use Rattle.kernel_records.specs.declared.need.Need.TheVariants as needs
use Rattle.typed_object.specs.Members.{offset_of}
use Rattle.typed_object.specs.Needs.{member_of_type, needed_member, root_address, symbol_address}
use Rattle.kernel_find.specs.declared.layout.Layout.{Layout}

-- the address of the first task
abbrev pub init_task : IsfTable → ℕ
init_task table = unwrap_or (symbol_address table (codes "init_task")) 0

-- the address of its open files
abbrev pub init_files : IsfTable → ℕ
init_files table = unwrap_or (symbol_address table (codes "init_files")) 0

-- the address of the first page table
abbrev pub root_table : IsfTable → ℕ
root_table table = unwrap_or (root_address table) 0

-- how far from the start of a task its name stands
abbrev pub name_offset : IsfTable → ℕ
name_offset table = offset_of (needed_member table needs.TaskStructComm)

-- the member that is the number of a task
abbrev pub pid_member : IsfTable → Option Spot
pid_member table = needed_member table needs.TaskStructPid

-- the member that is the address of a task's open files
abbrev pub files_member : IsfTable → Option Spot
files_member table = needed_member table needs.TaskStructFiles

-- the member that is a task's state in older kernels
abbrev pub old_state : IsfTable → Option Spot
old_state table = member_of_type table (codes "task_struct") (codes "state")

-- the same in newer kernels
abbrev pub new_state : IsfTable → Option Spot
new_state table = member_of_type table (codes "task_struct") (codes "__state")

-- the table that a layout is of
abbrev pub table_of : Layout → IsfTable
table_of layout = layout.objects.table.now

-- a layout says what its table says, and its objects are those of physical memory
pub record IsLayout (layout : Layout) : Type 0 where
  pub space_is : layout.objects.space ≡ Phys
  pub task_is : layout.init_task ≡ init_task (table_of layout)
  pub files_are : layout.init_files ≡ init_files (table_of layout)
  pub root_is : layout.root ≡ root_table (table_of layout)
  pub name_is : layout.name ≡ name_offset (table_of layout)
  pub pid_is : option_map spot layout.pid ≡ pid_member (table_of layout)
  pub files_at : option_map spot layout.files ≡ files_member (table_of layout)
  pub old_is : option_map spot layout.old_state ≡ old_state (table_of layout)
  pub new_is : option_map spot layout.new_state ≡ new_state (table_of layout)
