-- What a search for the kernel finds.
use Rattle.std.specs.Prelude.{if◌then◌else◌, Option, None, Some}
use Rattle.layer_base.specs.AddressSpace.{AddressSpace}
use Rattle.layer_base.specs.declared.space.Space.TheVariants.{Phys}
use Rattle.space_memory.specs.InSpace.{in_space}
use Rattle.isf_reader.specs.Table.{IsfTable}
use Rattle.kernel_records.specs.Groups.{find_needs}
use Rattle.kernel_records.specs.Meaning.{Meant, Symbol, RootSymbol, Member, meaning}
use Rattle.kernel_records.specs.declared.kernel.Kernel.{Kernel}
use Rattle.kernel_records.specs.declared.need.Need.{Need}
use Rattle.typed_object.specs.Needs.{first_missing}
use Rattle.kernel_find.specs.Banner.{banner, banner_occurs}
use Rattle.kernel_find.specs.Candidate.{kernel_in}
use Rattle.kernel_find.specs.declared.found.Found.{Found}
use Rattle.kernel_find.specs.declared.found.Found.TheVariants as found

-- a need that is not met, by what it asks for
abbrev pub missing_by : Need → Meant → Found
missing_by need (Symbol name) = found.NoSymbol need
missing_by need RootSymbol = found.NoSymbol need
missing_by need (Member user name) = found.NoMember need

abbrev pub missing : Need → Found
missing need = missing_by need (meaning need)

abbrev pub kernel_or_none : Option Kernel → Found
kernel_or_none None = found.NoTask
kernel_or_none (Some kernel) = found.Kernel kernel

-- the kernel of a physical memory, where the banner of the symbol file occurs there
abbrev pub found_in : AddressSpace → IsfTable → Found
found_in memory table = if banner_occurs (in_space memory Phys) (banner table) then kernel_or_none (kernel_in memory table) else found.NoBanner

abbrev pub unless_missing : Option Need → Found → Found
unless_missing None answer = answer
unless_missing (Some need) answer = missing need

-- What a search finds in a physical memory with a symbol file: the first name that it needs and the file lacks, else that
-- the file's banner occurs nowhere, else the kernel, or none.
unfoldable pub find : AddressSpace → IsfTable → Found
find memory table = unless_missing (first_missing table find_needs) (found_in memory table)
