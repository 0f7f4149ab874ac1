-- The kernel that a script is run over.
use Rattle.std.specs.Prelude.{◌≡◌, List, Option, IfSome, Result, Ok, Err}
use Rattle.layer_base.specs.View.{View, physical}
use Rattle.isf_reader.specs.Table.{IsfTable}
use Rattle.kernel_find.specs.Find.{find}
use Rattle.kernel_find.specs.declared.found.Found.{Found}
use Rattle.kernel_find.specs.declared.found.Found.TheVariants as founds
use Rattle.kernel_records.specs.declared.kernel.Kernel.{Kernel}
use Rattle.session.specs.Evidence.{Evidence}
use Rattle.session.specs.declared.refusal.CommandRefusal.{CommandRefusal}
use Rattle.session.specs.declared.refusal.CommandRefusal.TheVariants.{NoKernel}

-- what the search for the kernel comes to
abbrev pub found_in : Evidence → Found
found_in evidence = find evidence.memory evidence.table

-- the kernel of such an answer, or that there is none
abbrev pub kernel_or_refusal : Found → Result Kernel CommandRefusal
kernel_or_refusal (founds.Kernel kernel) = Ok kernel
kernel_or_refusal found = Err (NoKernel found)

abbrev pub kernel_of : Evidence → Result Kernel CommandRefusal
kernel_of evidence = kernel_or_refusal (found_in evidence)

-- where the image tells what it shows, an answer that is kept is that of the search
pub record KeepsKernel (image : Option View) (table : IsfTable) (kept : Option Found) : Type 0 where
  pub is_true : IfSome image (λ view. IfSome kept (λ found. found ≡ find (physical view) table))
