-- How a cache changes.
use Rattle.std.specs.Prelude.{◌≡◌, ℕ, ◌-◌, List, ◌∷◌, ◌++◌, take, Some, ◌⊎◌}
use Rattle.layer_base.specs.Mapped.{KeptRun}
use Rattle.run_cache.specs.Cache.{CacheState}

-- one run of a list went to its front
pub record IsMovedToFront {X : Type 0} (moved : X) (old new : List X) : Type 0 where
  pub before : List X
  pub behind : List X
  pub old_is : old ≡ before ++ moved ∷ behind
  pub new_is : new ≡ moved ∷ (before ++ behind)

-- a run of the list was found: it went to the front, and nothing else changed
pub record IsFoundInList (found : KeptRun) (old new : CacheState) : Type 0 where
  pub list : IsMovedToFront found old.kept new.kept
  pub rest : new ≡ record { capacity = old.capacity; kept = new.kept; last = old.last }

-- The last run was found, and nothing changed; or one of the list.
abbrev pub IsFound : KeptRun → CacheState → CacheState → Type 0
IsFound found old new = ((old.last ≡ Some found) × (new ≡ old)) ⊎ IsFoundInList found old new

-- a run in front of a list, whose end is dropped where it was full
abbrev pub in_front : ℕ → KeptRun → List KeptRun → List KeptRun
in_front capacity kept list = kept ∷ take (capacity - 1) list
