-- What the command `lsmod` prints.
use Rattle.std.specs.Prelude.{ℕ, List, ◌++◌, codes, Option, option_map}
use Rattle.std.specs.Option.{unwrap_or}
use Rattle.layer_base.specs.AddressSpace.{AddressSpace}
use Rattle.layer_base.specs.declared.number.Number.TheVariants.{Unsigned}
use Rattle.kernel_records.specs.Groups.{module_needs}
use Rattle.kernel_records.specs.Need.{need_text}
use Rattle.kernel_records.specs.Shift.{shifted}
use Rattle.kernel_records.specs.declared.kernel.Kernel.{Kernel}
use Rattle.kernel_records.specs.declared.need.Need.TheVariants.{Modules, ModuleList, ListHeadNext, ModuleName}
use Rattle.isf_reader.specs.Table.{IsfTable}
use Rattle.type_layout.specs.Member.{Spot}
use Rattle.typed_object.specs.Ground.{kernel_space, kernel_memory}
use Rattle.typed_object.specs.Members.{member_text, offset_of}
use Rattle.typed_object.specs.Needs.{symbol_address, needed_member, first_missing}
use Rattle.hex_text.specs.DumpRow.{address_cell}
use Rattle.cell_text.specs.ErrorLine.{unless_missing}
use Rattle.cell_text.specs.OptionalCell.{optional_number_cell, optional_text_cell}
use Rattle.list_walk.specs.State.{WalkState, ring_walk}
use Rattle.walk_text.specs.WalkText.{walk_text}
use Rattle.module_plugins.specs.Size.{SizeParts, size_parts, size_at}

-- what is read of a module: where its name stands, and the parts of its size
pub record ModuleMembers : Type 0 where
  pub name : Option Spot
  pub size : SizeParts

abbrev pub module_members : IsfTable → ModuleMembers
module_members table = record { name = needed_member table ModuleName; size = size_parts table }

-- the address, the name and the size of a module, on a line
abbrev pub module_cells : ℕ → Option (List ℕ) → Option ℕ → List ℕ
module_cells at name size =
    address_cell at ++ codes "\t" ++ optional_text_cell name ++ codes "\t" ++ optional_number_cell (option_map Unsigned size) ++ codes "\n"

-- the row of the module at an address of a memory
abbrev pub module_row : AddressSpace → IsfTable → ModuleMembers → ℕ → List ℕ
module_row memory table members at = module_cells at (member_text memory table members.name at) (size_at memory table members.size at)

-- the address of the list of modules
abbrev pub modules_at : IsfTable → Kernel → ℕ
modules_at table kernel = shifted kernel (unwrap_or (symbol_address table (need_text Modules)) 0)

-- the ring of modules
abbrev pub module_walk : IsfTable → Kernel → WalkState
module_walk table kernel = ring_walk (kernel_space kernel) (modules_at table kernel) (offset_of (needed_member table ModuleList)) (offset_of (needed_member table ListHeadNext))

-- a line of the names of the columns, a row for each module of the ring, and why it ended
abbrev pub modules_text : AddressSpace → IsfTable → WalkState → List ℕ
modules_text memory table walk = codes "OFFSET\tNAME\tSIZE\n" ++ walk_text (module_row memory table (module_members table)) memory walk

-- the line of the first missing name, else the modules of a kernel in a physical memory
unfoldable pub lsmod_text : AddressSpace → IsfTable → Kernel → List ℕ
lsmod_text memory table kernel = unless_missing (first_missing table module_needs) (modules_text (kernel_memory memory kernel) table (module_walk table kernel))
