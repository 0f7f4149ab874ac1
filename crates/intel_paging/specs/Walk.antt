-- What a walk through the tables answers.
use Rattle.std.specs.Prelude.{◌≡◌, ℕ, Bool, false}
use Rattle.layer_base.specs.AddressSpace.{AddressSpace}
use Rattle.layer_base.specs.Mapped.{Holds}
use Rattle.layer_base.specs.declared.space.Mapped.{Mapped}
use Rattle.layer_base.specs.declared.space.Space.{Space}
use Rattle.layer_base.specs.declared.space.Space.TheVariants.{Phys, Paged}
use Rattle.intel_paging.specs.Block.{block_of}
use Rattle.intel_paging.specs.Paging.{count_of, is_canonical}

-- the run is the block of each address that it holds
abbrev pub IsBlock : AddressSpace → Space → Mapped → Type 0
IsBlock memory space run = (a : ℕ) → Holds run a → block_of memory space a ≡ run

-- the tables are read at this address: the space is paged, and the address canonical
abbrev pub asks_tables : Space → ℕ → Bool
asks_tables Phys a = false
asks_tables (Paged root levels) a = is_canonical levels a

-- the number of levels of a space, none of physical memory
abbrev pub levels_of : Space → ℕ
levels_of Phys = 0
levels_of (Paged root levels) = count_of levels
