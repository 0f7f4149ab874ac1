-- The structs of a made kernel: their sizes, and their fields by name, type and offset.
use Rattle.std.specs.Prelude.{ℕ, List, [], ◌∷◌, codes}
use Rattle.image_maker.specs.declared.structure.Structure.{Structure}
use Rattle.image_maker.specs.declared.structure.Structure.TheVariants.{ListHead, TaskStruct, MmStruct, VmAreaStruct, FilesStruct, Fdtable, Path, File, Qstr, Dentry, Inode, DentryOperations, Vfsmount, Mount, ModuleLayout, Module}
use Rattle.image_maker.specs.declared.structure.FieldType.{FieldType}
use Rattle.image_maker.specs.declared.structure.FieldType.TheVariants.{Int, UnsignedInt, UnsignedLong, Pointer, Chars, Struct}

pub record Field : Type 0 where
  pub name : List ℕ
  pub of : FieldType
  pub offset : ℕ

abbrev pub field : List ℕ → FieldType → ℕ → Field
field name of offset = record { name = name; of = of; offset = offset }

abbrev pub structures : List Structure
structures = ListHead ∷ TaskStruct ∷ MmStruct ∷ VmAreaStruct ∷ FilesStruct ∷ Fdtable ∷ Path ∷ File ∷ Qstr ∷ Dentry ∷ Inode ∷ DentryOperations ∷ Vfsmount ∷ Mount ∷ ModuleLayout ∷ Module ∷ []

abbrev pub structure_name : Structure → List ℕ
structure_name ListHead = codes "list_head"
structure_name TaskStruct = codes "task_struct"
structure_name MmStruct = codes "mm_struct"
structure_name VmAreaStruct = codes "vm_area_struct"
structure_name FilesStruct = codes "files_struct"
structure_name Fdtable = codes "fdtable"
structure_name Path = codes "path"
structure_name File = codes "file"
structure_name Qstr = codes "qstr"
structure_name Dentry = codes "dentry"
structure_name Inode = codes "inode"
structure_name DentryOperations = codes "dentry_operations"
structure_name Vfsmount = codes "vfsmount"
structure_name Mount = codes "mount"
structure_name ModuleLayout = codes "module_layout"
structure_name Module = codes "module"

abbrev pub structure_size : Structure → ℕ
structure_size ListHead = 16
structure_size TaskStruct = 256
structure_size MmStruct = 64
structure_size VmAreaStruct = 64
structure_size FilesStruct = 16
structure_size Fdtable = 32
structure_size Path = 16
structure_size File = 32
structure_size Qstr = 16
structure_size Dentry = 64
structure_size Inode = 16
structure_size DentryOperations = 8
structure_size Vfsmount = 16
structure_size Mount = 48
structure_size ModuleLayout = 8
structure_size Module = 128

abbrev pub fields_of : Structure → List Field
fields_of ListHead = field (codes "next") Pointer 0 ∷ field (codes "prev") Pointer 8 ∷ []
fields_of TaskStruct =
    field (codes "__state") UnsignedInt 0
    ∷ field (codes "tasks") (Struct ListHead) 16
    ∷ field (codes "mm") Pointer 32
    ∷ field (codes "pid") Int 48
    ∷ field (codes "tgid") Int 52
    ∷ field (codes "real_parent") Pointer 56
    ∷ field (codes "files") Pointer 64
    ∷ field (codes "comm") (Chars 16) 80
    ∷ []
fields_of MmStruct = field (codes "mmap") Pointer 0 ∷ field (codes "pgd") Pointer 8 ∷ []
fields_of VmAreaStruct =
    field (codes "vm_start") UnsignedLong 0
    ∷ field (codes "vm_end") UnsignedLong 8
    ∷ field (codes "vm_next") Pointer 16
    ∷ field (codes "vm_flags") UnsignedLong 24
    ∷ field (codes "vm_pgoff") UnsignedLong 32
    ∷ field (codes "vm_file") Pointer 40
    ∷ []
fields_of FilesStruct = field (codes "fdt") Pointer 0 ∷ []
fields_of Fdtable = field (codes "max_fds") UnsignedInt 0 ∷ field (codes "fd") Pointer 8 ∷ []
fields_of Path = field (codes "mnt") Pointer 0 ∷ field (codes "dentry") Pointer 8 ∷ []
fields_of File = field (codes "f_path") (Struct Path) 0 ∷ []
fields_of Qstr = field (codes "name") Pointer 8 ∷ []
fields_of Dentry =
    field (codes "d_parent") Pointer 0
    ∷ field (codes "d_name") (Struct Qstr) 8
    ∷ field (codes "d_inode") Pointer 24
    ∷ field (codes "d_op") Pointer 32
    ∷ []
fields_of Inode = field (codes "i_ino") UnsignedLong 0 ∷ []
fields_of DentryOperations = field (codes "d_dname") Pointer 0 ∷ []
fields_of Vfsmount = field (codes "mnt_root") Pointer 0 ∷ []
fields_of Mount =
    field (codes "mnt_parent") Pointer 0
    ∷ field (codes "mnt_mountpoint") Pointer 8
    ∷ field (codes "mnt") (Struct Vfsmount) 16
    ∷ []
fields_of ModuleLayout = field (codes "size") UnsignedInt 0 ∷ []
fields_of Module =
    field (codes "list") (Struct ListHead) 8
    ∷ field (codes "name") (Chars 56) 24
    ∷ field (codes "core_layout") (Struct ModuleLayout) 80
    ∷ field (codes "init_layout") (Struct ModuleLayout) 88
    ∷ []
