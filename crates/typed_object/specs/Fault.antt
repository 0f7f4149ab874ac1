-- What a value that wasn't read is to a command.
use Rattle.kernel_records.specs.declared.fault.PluginFault.{PluginFault}
use Rattle.kernel_records.specs.declared.fault.PluginFault.TheVariants as plugins
use Rattle.typed_object.specs.declared.fault.ValueFault.{ValueFault}
use Rattle.typed_object.specs.declared.fault.ValueFault.TheVariants as values

-- the fault of a command that reads a value
abbrev pub plugin_fault_of_value : ValueFault → PluginFault
plugin_fault_of_value values.Device = plugins.Device
plugin_fault_of_value values.Memory = plugins.Memory
