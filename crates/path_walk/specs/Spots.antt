-- Where the members stand that a path is followed by.
--
--     file.f_path      a path        mnt, dentry
--     mount.mnt        a vfsmount    mnt_root
--     dentry.d_name    a qstr        name
use Rattle.std.specs.Prelude.{Option, option_map, option_and_then, codes}
use Rattle.isf_reader.specs.Table.{IsfTable}
use Rattle.kernel_records.specs.declared.need.Need.TheVariants as needs
use Rattle.type_layout.specs.Member.{Spot, further}
use Rattle.typed_object.specs.Needs.{needed_member, member_of_type}

-- a member of an object that is a member itself, from where the object around it starts
abbrev pub embedded : Option Spot → Option Spot → Option Spot
embedded outer inner = option_and_then (λ around. option_map (further around.0) inner) outer

-- the mount and the dentry of a file
unfoldable pub file_mount : IsfTable → Option Spot
file_mount table = embedded (needed_member table needs.FileFPath) (needed_member table needs.PathMnt)

unfoldable pub file_dentry : IsfTable → Option Spot
file_dentry table = embedded (needed_member table needs.FileFPath) (needed_member table needs.PathDentry)

-- the part of a mount that files point to
unfoldable pub mount_part : IsfTable → Option Spot
mount_part table = needed_member table needs.MountMnt

-- the dentry that is the root of a mount
unfoldable pub mount_root : IsfTable → Option Spot
mount_root table = embedded (needed_member table needs.MountMnt) (needed_member table needs.VfsmountMntRoot)

-- the mount on which a mount stands, and the dentry there
unfoldable pub mount_parent : IsfTable → Option Spot
mount_parent table = needed_member table needs.MountMntParent

unfoldable pub mount_point : IsfTable → Option Spot
mount_point table = needed_member table needs.MountMntMountpoint

-- the dentry above a dentry, and where the bytes of its name are
unfoldable pub dentry_parent : IsfTable → Option Spot
dentry_parent table = needed_member table needs.DentryDParent

unfoldable pub dentry_name : IsfTable → Option Spot
dentry_name table = embedded (needed_member table needs.DentryDName) (needed_member table needs.QstrName)

-- the functions of a dentry, and the one of them that writes its name; its inode, and the number of that. No command
-- needs them.
unfoldable pub dentry_operations : IsfTable → Option Spot
dentry_operations table = member_of_type table (codes "dentry") (codes "d_op")

unfoldable pub name_function : IsfTable → Option Spot
name_function table = member_of_type table (codes "dentry_operations") (codes "d_dname")

unfoldable pub dentry_inode : IsfTable → Option Spot
dentry_inode table = member_of_type table (codes "dentry") (codes "d_inode")

unfoldable pub inode_number : IsfTable → Option Spot
inode_number table = member_of_type table (codes "inode") (codes "i_ino")
