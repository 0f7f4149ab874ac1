-- What a command says.
use Rattle.std.specs.Prelude.{ℕ, Bool, if◌then◌else◌, List, [], ◌++◌, codes, Option, None, Some}
use Rattle.layer_base.specs.AddressSpace.{AddressSpace, bytes_from}
use Rattle.layer_base.specs.declared.space.Space.TheVariants.{Phys}
use Rattle.intel_paging.specs.Block.{translation}
use Rattle.space_memory.specs.InSpace.{in_space}
use Rattle.command_words.specs.declared.command.Command.{Command}
use Rattle.command_words.specs.declared.command.Command.TheVariants as commands
use Rattle.isf_reader.specs.Table.{IsfTable}
use Rattle.kernel_find.specs.FoundText.{found_text}
use Rattle.hex_text.specs.DumpRow.{address_cell, dump_text}
use Rattle.object_text.specs.Object.{object_text}
use Rattle.scan_text.specs.Banners.{banners_text}
use Rattle.scan_text.specs.Scan.{scan_text}
use Rattle.symbol_texts.specs.Layout.{layout_text}
use Rattle.symbol_texts.specs.Symbols.{symbol_text, near_text}
use Rattle.session.specs.Dump.{dump_said, no_dump_text}
use Rattle.session.specs.Evidence.{Evidence}
use Rattle.session.specs.Kernel.{found_in}
use Rattle.session.specs.KernelCommand.{text_at_kernel}
use Rattle.session.specs.Place.{text_at, said_at}
use Rattle.session.specs.Said.{Said, prints}
use Rattle.session.specs.declared.kernel_command.KernelCommand.TheVariants as kernels
use Rattle.session.specs.declared.place.Place.{Place}

-- the rows of so many bytes from a place on
abbrev pub read_text : AddressSpace → ℕ → Place → List ℕ
read_text memory len place = dump_text place.at (bytes_from (in_space memory place.space) place.at len)

-- a physical address, or that there is none
abbrev pub physical_cell : Option ℕ → List ℕ
physical_cell None = codes "-"
physical_cell (Some at) = address_cell at

-- an address and where it is in physical memory
unfoldable pub translation_row : ℕ → Option ℕ → List ℕ
translation_row at to = address_cell at ++ codes "\t" ++ physical_cell to ++ codes "\n"

abbrev pub translate_text : AddressSpace → Place → List ℕ
translate_text memory place = translation_row place.at (translation memory place.space place.at)

-- the object at a place
abbrev pub type_text : AddressSpace → IsfTable → List ℕ → List (List ℕ) → Place → List ℕ
type_text memory table name path place = object_text (in_space memory place.space) table place.at name path

-- the places of a needle among so many bytes from a place on
abbrev pub hits_text : AddressSpace → ℕ → List ℕ → Place → List ℕ
hits_text memory len needle place = scan_text (in_space memory place.space) place.at len needle

-- what a command prints that dumps nothing
unfoldable pub command_text : Evidence → Command → List ℕ
command_text evidence commands.Nothing = []
command_text evidence commands.Quit = []
command_text evidence (commands.Read space at len) = text_at evidence space at len (read_text evidence.memory len)
command_text evidence (commands.Translate space at) = text_at evidence space at 0 (translate_text evidence.memory)
command_text evidence (commands.Show space at name path) = text_at evidence space at 0 (type_text evidence.memory evidence.table name path)
command_text evidence (commands.Layout name) = layout_text evidence.table name
command_text evidence (commands.Symbol name) = symbol_text evidence.table name
command_text evidence (commands.Near number) = near_text evidence.table number
command_text evidence commands.Banners = banners_text (in_space evidence.memory Phys)
command_text evidence commands.Kernel = found_text (found_in evidence)
command_text evidence commands.Pslist = text_at_kernel evidence kernels.Pslist
command_text evidence commands.Pstree = text_at_kernel evidence kernels.Pstree
command_text evidence commands.Lsmod = text_at_kernel evidence kernels.Lsmod
command_text evidence commands.CheckSyscall = text_at_kernel evidence kernels.CheckSyscall
command_text evidence (commands.Maps pid) = text_at_kernel evidence (kernels.Maps pid)
command_text evidence (commands.Lsof pid) = text_at_kernel evidence (kernels.Lsof pid)
command_text evidence (commands.Dump space at len) = no_dump_text
command_text evidence (commands.Scan space at len needle) = text_at evidence space at len (hits_text evidence.memory len needle)

-- what a command says where there is a file for dumps
unfoldable pub with_dump_said : Evidence → Command → Said
with_dump_said evidence (commands.Dump space at len) = said_at evidence space at len (dump_said evidence.memory len)
with_dump_said evidence command = prints (command_text evidence command)

-- what a command says, by whether there is a file for dumps
abbrev pub command_said : Bool → Evidence → Command → Said
command_said has_dump evidence command = if has_dump then with_dump_said evidence command else prints (command_text evidence command)
