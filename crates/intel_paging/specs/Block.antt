-- What an address of a space is mapped to.
use Rattle.std.specs.Prelude.{ℕ, zero, suc, ◌+◌, ◌-◌, ◌^◌, if◌then◌else◌, Option, None, Some, option_map}
use Rattle.layer_base.specs.AddressSpace.{AddressSpace}
use Rattle.layer_base.specs.Mapped.{block_around, block_size}
use Rattle.layer_base.specs.Space.{page_address}
use Rattle.layer_base.specs.declared.space.Levels.{Levels}
use Rattle.layer_base.specs.declared.space.Mapped.{Mapped}
use Rattle.layer_base.specs.declared.space.Space.{Space}
use Rattle.layer_base.specs.declared.space.Space.TheVariants.{Phys, Paged}
use Rattle.intel_paging.specs.Entry.{entry_of}
use Rattle.intel_paging.specs.Paging.{count_of, half_size, is_canonical, entry_address}
use Rattle.intel_paging.specs.Word.{word}
use Rattle.intel_paging.specs.declared.entry.Entry.{Entry}
use Rattle.intel_paging.specs.declared.entry.Entry.TheVariants.{Hole, Frame, Table}

-- what an entry of a level maps around an address; where it names a table, what that maps
abbrev pub block_by : ℕ → ℕ → Entry → (ℕ → Mapped) → Mapped
block_by size a Hole below = block_around size a None
block_by size a (Frame to) below = block_around size a (Some to)
block_by size a (Table at) below = below at

-- what a table of a level maps around an address
unfoldable pub block_from : AddressSpace → ℕ → ℕ → ℕ → Mapped
block_from memory zero table a = block_around (2 ^ 12) a None
block_from memory (suc level) table a =
    block_by (block_size (suc level)) a (entry_of (suc level) (word memory (entry_address (suc level) table a))) (λ below. block_from memory level below a)

-- the addresses that are not canonical
abbrev pub non_canonical : Levels → Mapped
non_canonical levels = record { first = half_size levels; last = 2 ^ 64 - half_size levels - 1; to = None }

-- The block of an address: physical memory is one block, mapped to itself. A paged space maps what its tables map from
-- the root on, and nothing at the addresses that are not canonical.
unfoldable pub block_of : AddressSpace → Space → ℕ → Mapped
block_of memory Phys a = record { first = 0; last = 2 ^ 64 - 1; to = Some 0 }
block_of memory (Paged root levels) a = if is_canonical levels a then block_from memory (count_of levels) (page_address root) a else non_canonical levels

-- the physical address of an address: as far from where its block is mapped to as it is from the block's first
abbrev pub place_in : Mapped → ℕ → Option ℕ
place_in block a = option_map (λ to. to + (a - block.first)) block.to

abbrev pub translation : AddressSpace → Space → ℕ → Option ℕ
translation memory space a = place_in (block_of memory space a) a
