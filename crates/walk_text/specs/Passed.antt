-- What was written of a text and of the lines that are still to come behind it.
use Rattle.std.specs.Prelude.{ℕ, Bool, true, false, List, ◌++◌, Option, Result, Ok, Err}
use Rattle.std.specs.Io.KnownBytes.{Appends}
use Rattle.layer_base.specs.Known.{AppendsPrefix}
use Rattle.kernel_records.specs.declared.fault.PluginFault.{PluginFault}
use Rattle.kernel_records.specs.declared.fault.PluginFault.TheVariants as faults
use Rattle.walk_text.specs.Front.{WritesFront}

-- A writer was cut short at a line. Before a fault of the image was answered, all of the text before that line was written.
abbrev pub CutShort : Option (List ℕ) → Option (List ℕ) → List ℕ → List ℕ → PluginFault → Type 0
CutShort written written' text rest faults.Device = Appends written written' text
CutShort written written' text rest faults.Out = AppendsPrefix written written' (text ++ rest)
CutShort written written' text rest faults.Memory = AppendsPrefix written written' (text ++ rest)

-- A line was passed: of the text and the rest a front was written. Or the rest was the last line, and none is left.
abbrev pub Passes : Option (List ℕ) → Option (List ℕ) → List ℕ → List ℕ → List ℕ → List ℕ → Result Bool PluginFault → Type 0
Passes written written' rest rest' text text' (Ok true) = WritesFront written written' (text ++ rest) (text' ++ rest')
Passes written written' rest rest' text text' (Ok false) = WritesFront written written' (text ++ rest) text'
Passes written written' rest rest' text text' (Err fault) = CutShort written written' text rest fault
