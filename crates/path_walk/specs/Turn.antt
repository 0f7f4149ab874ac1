-- One turn along a path: from a mount and a dentry in it to the mount and the dentry above, or to an end.
--
--     at the root of the mount     to where the mount stands; the mount that stands on itself is the head
--     at any other dentry          to its parent, with its name; a dentry that is its own parent is an end
--
-- The members are read in the order root, parent and mount point, or root, parent and name. The first that is absent is
-- the stop.
use Rattle.std.specs.Prelude.{ℕ, List, ◌==◌, if◌then◌else◌, Option, None, Some, Result, Ok, Err}
use Rattle.layer_base.specs.AddressSpace.{AddressSpace}
use Rattle.isf_reader.specs.Table.{IsfTable}
use Rattle.kernel_records.specs.declared.stop.Stop.{Stop}
use Rattle.kernel_records.specs.declared.stop.Stop.TheVariants as stops
use Rattle.typed_object.specs.Members.{member_word, absent_stop}
use Rattle.typed_object.specs.Text.{text_from}
use Rattle.typed_object.specs.declared.fault.ObjectFault.{ObjectFault}
use Rattle.typed_object.specs.declared.fault.ObjectFault.TheVariants as objects
use Rattle.path_walk.specs.Spots.{mount_root, mount_parent, mount_point, dentry_parent, dentry_name}
use Rattle.path_walk.specs.declared.turn.Turn.{Turn}
use Rattle.path_walk.specs.declared.turn.Turn.TheVariants as turns

-- the bytes of a name at an address: those before the first zero byte, at most 255
unfoldable pub name_at : AddressSpace → ℕ → Result (List ℕ) ObjectFault
name_at memory at = text_from memory at 255

-- an absent byte of a dentry's name, or one above 2 ^ 64 - 1
abbrev pub name_stop : ℕ → ObjectFault → Stop
name_stop dentry (objects.Hole at) = stops.Unreadable at
name_stop dentry (objects.Fault fault) = stops.Outside dentry
name_stop dentry objects.Device = stops.Outside dentry

abbrev pub with_name : ℕ → ℕ → Result (List ℕ) ObjectFault → Turn
with_name dentry parent (Ok name) = turns.Named name parent
with_name dentry parent (Err fault) = turns.Stopped (name_stop dentry fault)

abbrev pub with_name_address : AddressSpace → IsfTable → ℕ → ℕ → Option ℕ → Turn
with_name_address memory table dentry parent None = turns.Stopped (absent_stop (dentry_name table) dentry)
with_name_address memory table dentry parent (Some at) = with_name dentry parent (name_at memory at)

abbrev pub with_parent : AddressSpace → IsfTable → ℕ → Option ℕ → Turn
with_parent memory table dentry None = turns.Stopped (absent_stop (dentry_parent table) dentry)
with_parent memory table dentry (Some parent) =
    if parent == dentry then turns.Stopped stops.End
    else with_name_address memory table dentry parent (member_word memory table (dentry_name table) dentry)

-- to the parent of a dentry, with the dentry's name
unfoldable pub past_dentry : AddressSpace → IsfTable → ℕ → Turn
past_dentry memory table dentry = with_parent memory table dentry (member_word memory table (dentry_parent table) dentry)

abbrev pub with_mount_point : IsfTable → ℕ → ℕ → Option ℕ → Turn
with_mount_point table mount parent None = turns.Stopped (absent_stop (mount_point table) mount)
with_mount_point table mount parent (Some dentry) = turns.Mounted parent dentry

abbrev pub with_mount_parent : AddressSpace → IsfTable → ℕ → Option ℕ → Turn
with_mount_parent memory table mount None = turns.Stopped (absent_stop (mount_parent table) mount)
with_mount_parent memory table mount (Some parent) =
    if parent == mount then turns.Stopped stops.Head
    else with_mount_point table mount parent (member_word memory table (mount_point table) mount)

-- to where a mount stands
unfoldable pub past_mount : AddressSpace → IsfTable → ℕ → Turn
past_mount memory table mount = with_mount_parent memory table mount (member_word memory table (mount_parent table) mount)

abbrev pub with_root : AddressSpace → IsfTable → ℕ → ℕ → Option ℕ → Turn
with_root memory table mount dentry None = turns.Stopped (absent_stop (mount_root table) mount)
with_root memory table mount dentry (Some root) = if root == dentry then past_mount memory table mount else past_dentry memory table dentry

-- the turn at a mount and a dentry
unfoldable pub turn : AddressSpace → IsfTable → ℕ → ℕ → Turn
turn memory table mount dentry = with_root memory table mount dentry (member_word memory table (mount_root table) mount)
