-- What each command needs of a symbol file, in the order in which it is looked for.
use Rattle.std.specs.Prelude.{List, [], ◌∷◌, ◌++◌}
use Rattle.kernel_records.specs.declared.need.Need.{Need}
use Rattle.kernel_records.specs.declared.need.Need.TheVariants as needs

-- what the kernel is found by
abbrev pub find_needs : List Need
find_needs = needs.InitTask ∷ needs.InitFiles ∷ needs.SwapperPgDir ∷ needs.TaskStructComm ∷ needs.TaskStructPid ∷ needs.TaskStructFiles ∷ []

-- what a list of tasks needs
abbrev pub task_needs : List Need
task_needs = needs.TaskStructTasks ∷ needs.ListHeadNext ∷ needs.TaskStructTgid ∷ needs.TaskStructRealParent ∷ []

-- what the space of a task needs
abbrev pub space_needs : List Need
space_needs = task_needs ++ needs.TaskStructMm ∷ needs.MmStructPgd ∷ []

-- what the path of a file needs
abbrev pub path_needs : List Need
path_needs = needs.FileFPath ∷ needs.PathMnt ∷ needs.PathDentry ∷ needs.DentryDParent ∷ needs.DentryDName ∷ needs.QstrName ∷ needs.MountMntParent ∷ needs.MountMntMountpoint ∷ needs.MountMnt ∷ needs.VfsmountMntRoot ∷ []

-- what the areas of a memory descriptor need
abbrev pub area_needs : List Need
area_needs = needs.MmStructMmap ∷ needs.VmAreaStructVmStart ∷ needs.VmAreaStructVmEnd ∷ needs.VmAreaStructVmNext ∷ needs.VmAreaStructVmFlags ∷ needs.VmAreaStructVmPgoff ∷ needs.VmAreaStructVmFile ∷ []

-- what a list of areas needs
abbrev pub maps_needs : List Need
maps_needs = task_needs ++ needs.TaskStructMm ∷ area_needs ++ path_needs

-- what a list of open files needs
abbrev pub lsof_needs : List Need
lsof_needs = task_needs ++ needs.TaskStructFiles ∷ needs.FilesStructFdt ∷ needs.FdtableMaxFds ∷ needs.FdtableFd ∷ path_needs

-- what a list of modules needs
abbrev pub module_needs : List Need
module_needs = needs.Modules ∷ needs.ModuleList ∷ needs.ListHeadNext ∷ needs.ModuleName ∷ []

-- what a list of system calls needs
abbrev pub syscall_needs : List Need
syscall_needs = needs.SysCallTable ∷ []
