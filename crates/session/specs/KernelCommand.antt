-- What the commands print that list what the kernel's memory holds.
use Rattle.std.specs.Prelude.{ℕ, List}
use Rattle.layer_base.specs.AddressSpace.{AddressSpace}
use Rattle.file_plugins.specs.Lsof.{lsof_text}
use Rattle.isf_reader.specs.Table.{IsfTable}
use Rattle.kernel_records.specs.declared.kernel.Kernel.{Kernel}
use Rattle.map_plugins.specs.Maps.{maps_text}
use Rattle.module_plugins.specs.Modules.{lsmod_text}
use Rattle.module_plugins.specs.Syscalls.{check_syscall_text}
use Rattle.task_plugins.specs.Pslist.{pslist_text}
use Rattle.task_plugins.specs.Pstree.{pstree_text}
use Rattle.session.specs.Evidence.{Evidence}
use Rattle.session.specs.Kernel.{kernel_of}
use Rattle.session.specs.Refusal.{text_over}
use Rattle.session.specs.declared.kernel_command.KernelCommand.{KernelCommand}
use Rattle.session.specs.declared.kernel_command.KernelCommand.TheVariants as commands

-- what a command prints of a kernel in a physical memory
unfoldable pub kernel_text : AddressSpace → IsfTable → KernelCommand → Kernel → List ℕ
kernel_text memory table commands.Pslist kernel = pslist_text memory table kernel
kernel_text memory table commands.Pstree kernel = pstree_text memory table kernel
kernel_text memory table commands.Lsmod kernel = lsmod_text memory table kernel
kernel_text memory table commands.CheckSyscall kernel = check_syscall_text memory table kernel
kernel_text memory table (commands.Maps pid) kernel = maps_text memory table kernel pid
kernel_text memory table (commands.Lsof pid) kernel = lsof_text memory table kernel pid

-- what a command prints of the kernel, or why there is none
abbrev pub text_at_kernel : Evidence → KernelCommand → List ℕ
text_at_kernel evidence command = text_over (kernel_of evidence) (kernel_text evidence.memory evidence.table command)
