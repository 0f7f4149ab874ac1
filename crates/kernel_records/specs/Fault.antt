-- What a fault below is to a command.
use Rattle.layer_base.specs.declared.sink.SinkFault.{SinkFault}
use Rattle.layer_base.specs.declared.sink.SinkFault.TheVariants as sinks
use Rattle.kernel_records.specs.declared.fault.PluginFault.{PluginFault}
use Rattle.kernel_records.specs.declared.fault.PluginFault.TheVariants as plugins
use Rattle.kernel_records.specs.declared.fault.TaskFault.{TaskFault}
use Rattle.kernel_records.specs.declared.fault.TaskFault.TheVariants as tasks
use Rattle.kernel_records.specs.declared.fault.WalkFault.{WalkFault}
use Rattle.kernel_records.specs.declared.fault.WalkFault.TheVariants as walks

-- the fault of a command whose output refused a write
abbrev pub plugin_fault_of_sink : SinkFault → PluginFault
plugin_fault_of_sink sinks.Failed = plugins.Out
plugin_fault_of_sink sinks.Memory = plugins.Memory

-- the fault of a command whose walk failed
abbrev pub plugin_fault_of_walk : WalkFault → PluginFault
plugin_fault_of_walk walks.Device = plugins.Device
plugin_fault_of_walk walks.Memory = plugins.Memory

-- the fault of a list over tasks whose walk failed
abbrev pub task_fault_of_walk : WalkFault → TaskFault
task_fault_of_walk walks.Device = tasks.Device
task_fault_of_walk walks.Memory = tasks.Memory
