-- Which bits of an address lead where: 4-level and 5-level paging, Intel SDM, volume 3, "Paging".
use Rattle.std.specs.Prelude.{ℕ, ◌+◌, ◌-◌, ◌*◌, ◌/◌, ◌%◌, ◌^◌, Bool, ◌||◌, nat_le, nat_lt}
use Rattle.layer_base.specs.Mapped.{block_size}
use Rattle.layer_base.specs.declared.space.Levels.{Levels}
use Rattle.layer_base.specs.declared.space.Levels.TheVariants.{Four, Five}

abbrev pub count_of : Levels → ℕ
count_of Four = 4
count_of Five = 5

-- half as many addresses as the tables map
abbrev pub half_size : Levels → ℕ
half_size levels = 2 ^ (9 * count_of levels + 11)

-- An address is canonical where its bits from the greatest that the tables look at on are equal: it lies in the lower
-- half of what they map, or as far from the end of all addresses.
abbrev pub is_canonical : Levels → ℕ → Bool
is_canonical levels a = nat_lt a (half_size levels) || nat_le (2 ^ 64 - half_size levels) a

-- the place of an address's entry in a table of a level
abbrev pub entry_address : ℕ → ℕ → ℕ → ℕ
entry_address level table a = table + 8 * (a / block_size level % 512)
