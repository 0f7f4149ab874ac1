-- The error lines of lines that are no command.
use Rattle.std.specs.Prelude.{ℕ, List, [], ◌++◌, codes}
use Rattle.std.specs.Fmt.{decimal}
use Rattle.command_words.specs.declared.fault.LineFault.{LineFault}
use Rattle.command_words.specs.declared.fault.LineFault.TheVariants as faults

abbrev pub unknown_text : List ℕ
unknown_text = codes "error: unknown command\n"

abbrev pub out_of_range_text : List ℕ
out_of_range_text = codes "error: out of range\n"

unfoldable pub wanted_text : ℕ → List ℕ
wanted_text wanted = codes "error: wanted " ++ decimal wanted ++ codes " words\n"

abbrev pub fault_text : LineFault → List ℕ
fault_text faults.TooLong = codes "error: line too long\n"
fault_text faults.Unknown = unknown_text
fault_text (faults.Words wanted) = wanted_text wanted
fault_text faults.SpaceName = codes "error: bad space\n"
fault_text faults.Number = codes "error: bad number\n"
fault_text faults.Hex = codes "error: bad hex\n"
fault_text faults.Range = out_of_range_text
fault_text faults.Memory = []
