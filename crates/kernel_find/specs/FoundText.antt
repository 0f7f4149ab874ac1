-- What the command `kernel` prints.
use Rattle.std.specs.Prelude.{ℕ, List, ◌++◌, codes}
use Rattle.layer_base.specs.declared.space.Levels.{Levels}
use Rattle.layer_base.specs.declared.space.Levels.TheVariants.{Four, Five}
use Rattle.kernel_records.specs.declared.kernel.Kernel.{Kernel}
use Rattle.hex_text.specs.DumpRow.{address_cell}
use Rattle.cell_text.specs.ErrorLine.{missing_text}
use Rattle.kernel_find.specs.declared.found.Found.{Found}
use Rattle.kernel_find.specs.declared.found.Found.TheVariants as found

abbrev pub levels_cell : Levels → List ℕ
levels_cell Four = codes "4"
levels_cell Five = codes "5"

-- the line of a kernel
abbrev pub kernel_text : Kernel → List ℕ
kernel_text kernel =
    codes "task " ++ address_cell kernel.task
    ++ codes "\tphysical " ++ address_cell kernel.physical
    ++ codes "\tshift " ++ address_cell kernel.shift
    ++ codes "\troot " ++ address_cell kernel.root
    ++ codes "\tlevels " ++ levels_cell kernel.levels ++ codes "\n"

-- the text over a kernel that was found, or the error line that says why none was
abbrev pub with_kernel : (Kernel → List ℕ) → Found → List ℕ
with_kernel text_of (found.Kernel kernel) = text_of kernel
with_kernel text_of (found.NoSymbol need) = missing_text need
with_kernel text_of (found.NoMember need) = missing_text need
with_kernel text_of found.NoBanner = codes "error: no banner\n"
with_kernel text_of found.NoTask = codes "error: no task\n"

-- the line of the kernel, or the error line
unfoldable pub found_text : Found → List ℕ
found_text = with_kernel kernel_text
