-- The size of a module.
use Rattle.std.specs.Prelude.{ℕ, ◌+◌, ◌%◌, ◌^◌, List, Option, None, Some, option_map, option_and_then, codes}
use Rattle.std.specs.Result.{result_ok}
use Rattle.layer_base.specs.AddressSpace.{AddressSpace}
use Rattle.isf_reader.specs.Table.{IsfTable}
use Rattle.type_layout.specs.Member.{Spot, further, member}
use Rattle.typed_object.specs.Members.{member_word}
use Rattle.typed_object.specs.Needs.{member_of_type}

-- the two parts that a module's size is the sum of, each where the table has it
pub record SizeParts : Type 0 where
  pub core : Option Spot
  pub initial : Option Spot

-- where a module has a member
abbrev pub module_member : IsfTable → List ℕ → Option Spot
module_member table name = member_of_type table (codes "module") name

-- where a layout has its size, by the type that the table gives the layout
abbrev pub size_within : IsfTable → Spot → Option Spot
size_within table layout = option_map (further layout.0) (result_ok (member table layout.1 (codes "size")))

abbrev pub layout_size : IsfTable → List ℕ → Option Spot
layout_size table name = option_and_then (size_within table) (module_member table name)

-- the sizes of two layouts where modules have a `core_layout`, else the two sizes that they have themselves
abbrev pub parts_by : IsfTable → Option Spot → SizeParts
parts_by table (Some layout) = record { core = size_within table layout; initial = layout_size table (codes "init_layout") }
parts_by table None = record { core = module_member table (codes "core_size"); initial = module_member table (codes "init_size") }

abbrev pub size_parts : IsfTable → SizeParts
size_parts table = parts_by table (module_member table (codes "core_layout"))

-- the sum of two words, where both are present
abbrev pub word_sum : Option ℕ → Option ℕ → Option ℕ
word_sum None b = None
word_sum (Some a) b = option_map (λ n. (a + n) % 2 ^ 64) b

-- the size of the module at an address of a memory, of parts that stand at these places
abbrev pub size_at : AddressSpace → IsfTable → SizeParts → ℕ → Option ℕ
size_at memory table parts at = word_sum (member_word memory table parts.core at) (member_word memory table parts.initial at)
