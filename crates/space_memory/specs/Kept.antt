-- The runs that a memory keeps.
use Rattle.std.specs.Prelude.{◌≡◌, ℕ, ◌<◌, ◌⊎◌, true, false, Option, None, Some, IfSome}
use Rattle.layer_base.specs.AddressSpace.{AddressSpace}
use Rattle.layer_base.specs.Mapped.{Holds}
use Rattle.layer_base.specs.View.{View, physical}
use Rattle.layer_base.specs.declared.space.Mapped.{Mapped}
use Rattle.layer_base.specs.declared.space.Space.{Space}
use Rattle.intel_paging.specs.Walk.{IsBlock, asks_tables}
use Rattle.run_cache.specs.Cache.{CacheState, EachKept, HoldsIn, IsCache, NoneHolds, kept_run}
use Rattle.run_cache.specs.Changes.{IsFound, in_front}
use Rattle.space_memory.specs.State.{MemoryState}

abbrev pub cache_in : MemoryState → CacheState
cache_in memory = record { capacity = memory.capacity; kept = memory.kept; last = memory.last }

-- each kept run is true of a physical memory: it is the block of each address of its space that it holds
abbrev pub AreBlocks : AddressSpace → CacheState → Type 0
AreBlocks memory cache = EachKept (λ kept. IsBlock memory kept.space kept.run) cache

-- what is true of every memory's cache
pub record IsTrueCache (told : Option View) (cache : CacheState) : Type 0 where
  pub valid : IsCache cache
  pub blocks : IfSome told (λ view. AreBlocks (physical view) cache)

-- a run of the space that holds the address is kept
abbrev pub IsHeld : Space → ℕ → CacheState → Type 0
IsHeld space at cache = NoneHolds space at cache → ⊥

-- and each that is, is mapped to nothing
pub record IsHeldHole (space : Space) (at : ℕ) (cache : CacheState) : Type 0 where
  pub held : IsHeld space at cache
  pub holes : EachKept (λ kept. HoldsIn space at kept → kept.run.to ≡ None) cache

-- a run of the space that holds the address was found among the kept ones: it went to the front of the list, or was the
-- last run
pub record WasFound (space : Space) (at : ℕ) (old new : CacheState) : Type 0 where
  pub run : Mapped
  pub holds : Holds run at
  pub found : IsFound (kept_run space run) old new

-- A run of the space that holds the address was kept: as the last run, and in front of the list, whose end is dropped
-- where it was full. The list is as it was where there was no memory for it.
pub record WasKept (space : Space) (at : ℕ) (old new : CacheState) : Type 0 where
  pub run : Mapped
  pub holds : Holds run at
  pub room : 0 < old.capacity
  pub capacity : new.capacity ≡ old.capacity
  pub last : new.last ≡ Some (kept_run space run)
  pub list : (new.kept ≡ in_front old.capacity (kept_run space run) old.kept) ⊎ (new.kept ≡ old.kept)

-- What a call at an address makes of the kept runs. Nothing changes where no table is read there, and where the last run
-- holds the address. Else a run of the list that holds it is found. Where no kept run holds it, the one that the tables
-- give is kept, or nothing changes.
pub record RunsBehind (space : Space) (at : ℕ) (old new : CacheState) : Type 0 where
  pub unasked : asks_tables space at ≡ false → new ≡ old
  pub held_last : IfSome old.last (λ last. HoldsIn space at last → new ≡ old)
  pub held : asks_tables space at ≡ true → IsHeld space at old → WasFound space at old new
  pub missed : NoneHolds space at old → (new ≡ old) ⊎ WasKept space at old new

-- the same, as one fact for a caller who looks into no cache
unfoldable pub KeepsRuns : Space → ℕ → CacheState → CacheState → Type 0
KeepsRuns space at old new = RunsBehind space at old new
