-- What names a run in a cache: its space, by what counts of the space's root and levels, and its addresses.
use Rattle.std.specs.Prelude.{ℕ, ◌+◌, ◌-◌, ◌*◌, ◌/◌, Bool, true, false, Option}
use Rattle.layer_base.specs.Mapped.{block_size, KeptRun}
use Rattle.layer_base.specs.Space.{page_address}
use Rattle.layer_base.specs.declared.space.Levels.{Levels}
use Rattle.layer_base.specs.declared.space.Levels.TheVariants.{Four, Five}
use Rattle.layer_base.specs.declared.space.Mapped.{Mapped}
use Rattle.layer_base.specs.declared.space.Space.TheVariants.{Paged}
use Rattle.run_cache.specs.declared.key.HeldRun.{HeldRun}
use Rattle.run_cache.specs.declared.key.RunKey.{RunKey}

abbrev pub are_five : Levels → Bool
are_five Four = false
are_five Five = true

abbrev pub levels_from : Bool → Levels
levels_from true = Five
levels_from false = Four

-- of a root the bits 51 to 12 alone count
abbrev pub key_of : ℕ → Levels → ℕ → ℕ → RunKey
key_of root levels first last = record { root = page_address root; five_levels = are_five levels; first = first; last = last }

-- the block of a level around an address
abbrev pub key_around : ℕ → Levels → ℕ → ℕ → RunKey
key_around root levels level at = key_of root levels (at / block_size level * block_size level) (at / block_size level * block_size level + (block_size level - 1))

-- the run of a key, and what it is mapped to
abbrev pub run_at_key : RunKey → Option ℕ → Mapped
run_at_key key to = record { first = key.first; last = key.last; to = to }

abbrev pub kept_at : RunKey → Option ℕ → KeptRun
kept_at key to = record { space = Paged key.root (levels_from key.five_levels); run = run_at_key key to }

abbrev pub kept_entry : RunKey × Option ℕ → KeptRun
kept_entry entry = kept_at entry.0 entry.1

abbrev pub kept_held : HeldRun → KeptRun
kept_held held = kept_at held.key held.to
