-- What is looked up once for all paths.
use Rattle.std.specs.Prelude.{◌≡◌, Option, option_map}
use Rattle.std.specs.Coded.{coded_option, coded×, coded_ℕ, Coded-set}
use Rattle.isf_reader.specs.Table.{IsfTable}
use Rattle.isf_reader.specs.contracts.type_ref.TypeRef as type_ref
use Rattle.type_layout.specs.Member.{Spot, spot}
use Rattle.typed_object.specs.Needs.{symbol_address}
use Rattle.path_walk.specs.Special.{function_name}
use Rattle.path_walk.specs.Spots as spots
use Rattle.path_walk.specs.declared.places.Functions.{Functions}
use Rattle.path_walk.specs.declared.places.Places.{Places}
use Rattle.path_walk.specs.declared.special.Special.TheVariants as specials

-- the places are those that the table has
pub record ArePlaces (table : IsfTable) (places : Places) : Type 0 where
  pub file_mount : option_map spot places.file_mount ≡ spots.file_mount table
  pub file_dentry : option_map spot places.file_dentry ≡ spots.file_dentry table
  pub mount_part : option_map spot places.mount_part ≡ spots.mount_part table
  pub mount_root : option_map spot places.mount_root ≡ spots.mount_root table
  pub mount_parent : option_map spot places.mount_parent ≡ spots.mount_parent table
  pub mount_point : option_map spot places.mount_point ≡ spots.mount_point table
  pub dentry_parent : option_map spot places.dentry_parent ≡ spots.dentry_parent table
  pub dentry_name : option_map spot places.dentry_name ≡ spots.dentry_name table
  pub dentry_operations : option_map spot places.dentry_operations ≡ spots.dentry_operations table
  pub name_function : option_map spot places.name_function ≡ spots.name_function table
  pub dentry_inode : option_map spot places.dentry_inode ≡ spots.dentry_inode table
  pub inode_number : option_map spot places.inode_number ≡ spots.inode_number table

spots-set : (s t : Option Spot) → IsProp (s ≡ t)
spots-set = Coded-set (coded_option (coded× coded_ℕ type_ref.the_row.coded))

-- there is one proof of that at most
pub ArePlaces-prop : (table : IsfTable) (places : Places) → IsProp (ArePlaces table places)
ArePlaces-prop table places = hlevel spots-set

-- the addresses are those of the functions in the table
pub record AreFunctions (table : IsfTable) (functions : Functions) : Type 0 where
  pub socket : functions.socket ≡ symbol_address table (function_name specials.Socket)
  pub pipe : functions.pipe ≡ symbol_address table (function_name specials.Pipe)
  pub anon_inode : functions.anon_inode ≡ symbol_address table (function_name specials.AnonInode)
