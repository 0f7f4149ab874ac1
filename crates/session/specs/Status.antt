-- The numbers of the statuses, and the status that a fault leads to.
use Rattle.std.specs.Prelude.{ℕ, Result, Ok, Err}
use Rattle.layer_base.specs.declared.sink.SinkFault.{SinkFault}
use Rattle.layer_base.specs.declared.sink.SinkFault.TheVariants as sink
use Rattle.kernel_records.specs.declared.fault.PluginFault.{PluginFault}
use Rattle.kernel_records.specs.declared.fault.PluginFault.TheVariants as plugin
use Rattle.session.specs.declared.status.Status.{Status}
use Rattle.session.specs.declared.status.Status.TheVariants as status
use Rattle.session.specs.declared.status.CommandFault.{CommandFault}
use Rattle.session.specs.declared.status.CommandFault.TheVariants as fault

abbrev pub number_of_status : Status → ℕ
number_of_status status.Ok = 0
number_of_status status.Usage = 2
number_of_status status.ImageRefused = 3
number_of_status status.SymbolsRefused = 4
number_of_status status.ImageFault = 5
number_of_status status.SymbolsFault = 6
number_of_status status.ScriptFault = 7
number_of_status status.OutFault = 8
number_of_status status.DumpFault = 9
number_of_status status.ScriptTooLong = 10
number_of_status status.Memory = 11

-- a status that says what the script came to, and neither a fault nor out of memory
abbrev pub IsAnswer : Status → Type 0
IsAnswer status.Ok = Unit {0}
IsAnswer status.Usage = Unit {0}
IsAnswer status.ImageRefused = Unit {0}
IsAnswer status.SymbolsRefused = Unit {0}
IsAnswer status.ScriptTooLong = Unit {0}
IsAnswer _ = ⊥

abbrev pub fault_of_sink : SinkFault → CommandFault
fault_of_sink sink.Failed = fault.Out
fault_of_sink sink.Memory = fault.Memory

abbrev pub fault_of_plugin : PluginFault → CommandFault
fault_of_plugin plugin.Device = fault.Image
fault_of_plugin plugin.Out = fault.Out
fault_of_plugin plugin.Memory = fault.Memory

-- of what writes to the dump
abbrev pub fault_of_dump : PluginFault → CommandFault
fault_of_dump plugin.Device = fault.Image
fault_of_dump plugin.Out = fault.Dump
fault_of_dump plugin.Memory = fault.Memory

abbrev pub status_of_fault : CommandFault → Status
status_of_fault fault.Image = status.ImageFault
status_of_fault fault.Out = status.OutFault
status_of_fault fault.Dump = status.DumpFault
status_of_fault fault.Memory = status.Memory

-- the status of a run whose last line came to this
abbrev pub status_after : Status → Result (Unit {0}) CommandFault → Status
status_after done (Ok _) = done
status_after done (Err fault) = status_of_fault fault

-- what the writing of a line came to, as what the line came to
abbrev pub line_result : Result (Unit {0}) SinkFault → Result (Unit {0}) CommandFault
line_result (Ok _) = Ok tt
line_result (Err fault) = Err (fault_of_sink fault)

-- the status of a run that ends with a line of its own, the writing of which came to this
abbrev pub status_after_line : Status → Result (Unit {0}) SinkFault → Status
status_after_line done written = status_after done (line_result written)
