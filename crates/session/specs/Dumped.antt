-- How far a dump came.
use Rattle.std.specs.Prelude.{ℕ, Result, Ok, Err}
use Rattle.kernel_records.specs.declared.fault.PluginFault.{PluginFault}
use Rattle.session.specs.declared.dump.Passed.{Passed}

-- how many bytes were dumped, or were to be dumped where that failed
abbrev pub count_of : ℕ → Result Passed PluginFault → ℕ
count_of most (Ok passed) = passed.count
count_of most (Err fault) = most
