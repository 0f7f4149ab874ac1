-- Dentries whose names a function of the kernel writes.
--
--     sockfs_dname           socket:[I]          I is the number of the dentry's inode, or `-`
--     pipefs_dname           pipe:[I]
--     anon_inodefs_dname     anon_inode:NAME     NAME is the dentry's name, or `-`
use Rattle.std.specs.Prelude.{ℕ, List, ◌++◌, ◌==◌, Bool, false, if◌then◌else◌, Option, None, Some, option_and_then, codes}
use Rattle.std.specs.Option.{option_map_or}
use Rattle.std.specs.Result.{result_ok}
use Rattle.layer_base.specs.AddressSpace.{AddressSpace}
use Rattle.layer_base.specs.declared.number.Number.{Number}
use Rattle.isf_reader.specs.Table.{IsfTable}
use Rattle.kernel_records.specs.Shift.{unshifted}
use Rattle.kernel_records.specs.declared.kernel.Kernel.{Kernel}
use Rattle.cell_text.specs.OptionalCell.{optional_number_cell}
use Rattle.typed_object.specs.Members.{member_number, member_word}
use Rattle.typed_object.specs.Needs.{symbol_address}
use Rattle.path_walk.specs.Spots.{dentry_operations, name_function, dentry_inode, inode_number, dentry_name}
use Rattle.path_walk.specs.Turn.{name_at}
use Rattle.path_walk.specs.declared.special.Special.{Special}
use Rattle.path_walk.specs.declared.special.Special.TheVariants as specials

-- the symbol of the function that writes such a name
abbrev pub function_name : Special → List ℕ
function_name specials.Socket = codes "sockfs_dname"
function_name specials.Pipe = codes "pipefs_dname"
function_name specials.AnonInode = codes "anon_inodefs_dname"

-- the address of a symbol, where there is one
abbrev pub is_symbol : IsfTable → List ℕ → ℕ → Bool
is_symbol table name address = option_map_or (λ of_symbol. of_symbol == address) (symbol_address table name) false

-- what the function at an address of the symbol file writes; sockets come first, then pipes
abbrev pub special_at : IsfTable → ℕ → Option Special
special_at table address =
    if is_symbol table (function_name specials.Socket) address then Some specials.Socket
    else if is_symbol table (function_name specials.Pipe) address then Some specials.Pipe
    else if is_symbol table (function_name specials.AnonInode) address then Some specials.AnonInode
    else None

abbrev pub special_by_function : IsfTable → Kernel → Option ℕ → Option Special
special_by_function table kernel function = option_and_then (λ at. special_at table (unshifted kernel at)) function

-- a dentry has no functions where their address is zero or absent
abbrev pub special_by_operations : AddressSpace → IsfTable → Kernel → Option ℕ → Option Special
special_by_operations memory table kernel None = None
special_by_operations memory table kernel (Some operations) =
    if operations == 0 then None else special_by_function table kernel (member_word memory table (name_function table) operations)

-- what is special of a dentry
unfoldable pub special : AddressSpace → IsfTable → Kernel → ℕ → Option Special
special memory table kernel dentry = special_by_operations memory table kernel (member_word memory table (dentry_operations table) dentry)

-- the number of the inode at an address
abbrev pub inode_by : AddressSpace → IsfTable → Option ℕ → Option Number
inode_by memory table inode = option_and_then (member_number memory table (inode_number table)) inode

-- the number of a dentry's inode
unfoldable pub inode_of : AddressSpace → IsfTable → ℕ → Option Number
inode_of memory table dentry = inode_by memory table (member_word memory table (dentry_inode table) dentry)

-- the name at an address, where none of its bytes is absent
abbrev pub name_by : AddressSpace → Option ℕ → Option (List ℕ)
name_by memory address = option_and_then (λ at. result_ok (name_at memory at)) address

-- the name of a dentry
unfoldable pub name_of : AddressSpace → IsfTable → ℕ → Option (List ℕ)
name_of memory table dentry = name_by memory (member_word memory table (dentry_name table) dentry)

abbrev pub name_or_dash : Option (List ℕ) → List ℕ
name_or_dash None = codes "-"
name_or_dash (Some name) = name

-- the text of a dentry with the number of its inode
unfoldable pub numbered_text : List ℕ → Option Number → List ℕ
numbered_text word number = word ++ optional_number_cell number ++ codes "]"

-- the text of a dentry with its name
unfoldable pub named_text : Option (List ℕ) → List ℕ
named_text name = codes "anon_inode:" ++ name_or_dash name

-- the text of a special dentry
unfoldable pub special_text : AddressSpace → IsfTable → ℕ → Special → List ℕ
special_text memory table dentry specials.Socket = numbered_text (codes "socket:[") (inode_of memory table dentry)
special_text memory table dentry specials.Pipe = numbered_text (codes "pipe:[") (inode_of memory table dentry)
special_text memory table dentry specials.AnonInode = named_text (name_of memory table dentry)
