-- What a cache of runs is to its callers.
use Rattle.std.specs.Prelude.{◌≡◌, ℕ, ◌≤◌, List, [], ◌∷◌, length, Option, None, IfSome, All}
use Rattle.layer_base.specs.Mapped.{Holds, IsAligned, KeptRun}
use Rattle.layer_base.specs.Space.{page_address}
use Rattle.layer_base.specs.declared.space.Mapped.{Mapped}
use Rattle.layer_base.specs.declared.space.Space.{Space}
use Rattle.layer_base.specs.declared.space.Space.TheVariants.{Phys, Paged}

-- how many runs may be kept in the list; those that are, the one used last in front; and the last run, beside the list
pub record CacheState : Type 0 where
  pub capacity : ℕ
  pub kept : List KeptRun
  pub last : Option KeptRun

-- the space with the bits of its root that count
abbrev pub cleared : Space → Space
cleared Phys = Phys
cleared (Paged root levels) = Paged (page_address root) levels

abbrev pub IsPaged : Space → Type 0
IsPaged Phys = ⊥
IsPaged (Paged root levels) = Unit {0}

-- a run as it is kept
abbrev pub kept_run : Space → Mapped → KeptRun
kept_run space run = record { space = cleared space; run = run }

-- a kept run is of a space and holds an address
pub record HoldsIn (space : Space) (at : ℕ) (kept : KeptRun) : Type 0 where
  pub space_is : kept.space ≡ cleared space
  pub holds : Holds kept.run at

-- a fact of each kept run: of those in the list, and of the last run
pub record EachKept (P : KeptRun → Type 0) (cache : CacheState) : Type 0 where
  pub list : All P cache.kept
  pub last : IfSome cache.last P

-- no kept run of a space holds an address
abbrev pub NoneHolds : Space → ℕ → CacheState → Type 0
NoneHolds space at cache = EachKept (λ kept. HoldsIn space at kept → ⊥) cache

-- the runs are of one space, and have the same first and last address
pub record AreAlike (one other : KeptRun) : Type 0 where
  pub space_is : one.space ≡ other.space
  pub first_is : one.run.first ≡ other.run.first
  pub last_is : one.run.last ≡ other.run.last

-- no run of a list is like one after it
abbrev pub AreUnlike : List KeptRun → Type 0
AreUnlike [] = Unit {0}
AreUnlike (kept ∷ others) = All (λ other. AreAlike kept other → ⊥) others × AreUnlike others

-- what is true of every cache
pub record IsCache (cache : CacheState) : Type 0 where
  pub aligned : EachKept (λ kept. IsAligned kept.run) cache
  pub unlike : AreUnlike cache.kept
  pub few : length cache.kept ≤ cache.capacity
  pub off : cache.capacity ≡ 0 → cache.last ≡ None
