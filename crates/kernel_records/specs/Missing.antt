-- What a call that first looks for the names that it needs answers.
use Rattle.std.specs.Prelude.{◌≡◌, Option, None, Some, Result, Ok, Err}
use Rattle.kernel_records.specs.declared.fault.TaskFault.{TaskFault}
use Rattle.kernel_records.specs.declared.fault.TaskFault.TheVariants.{Missing, Device, Memory}
use Rattle.kernel_records.specs.declared.need.Need.{Need}

-- the first name that is missing is told, and nothing else comes where one is
abbrev pub TellsMissing : {A : Type 0} → Option Need → Result A TaskFault → Type 0
TellsMissing missing (Ok a) = missing ≡ None
TellsMissing missing (Err (Missing need)) = missing ≡ Some need
TellsMissing missing (Err Device) = missing ≡ None
TellsMissing missing (Err Memory) = missing ≡ None
