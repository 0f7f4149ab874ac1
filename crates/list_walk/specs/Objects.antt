-- All that a walk gives.
use Rattle.std.specs.Prelude.{◌≡◌, ◌≢◌, ℕ, zero, suc, ◌+◌, ◌-◌, ◌^◌, ◌≤◌, false, List, [], ◌∷◌, length}
use Rattle.layer_base.specs.AddressSpace.{AddressSpace}
use Rattle.kernel_records.specs.declared.stop.Stop.{Stop}
use Rattle.kernel_records.specs.declared.stop.Stop.TheVariants.{Limit}
use Rattle.list_walk.specs.State.{WalkState}
use Rattle.list_walk.specs.Turn.{turn, after, is_given, end_link}
use Rattle.list_walk.specs.declared.turn.Turn.{Turn}
use Rattle.list_walk.specs.declared.turn.Turn.TheVariants.{Object, Stopped}

-- how many links are left that a walk can give: each is a new address
unfoldable pub links_left : WalkState → ℕ
links_left walk = 2 ^ 64 - length walk.given

-- an object in front of those behind it, or none at a stop
abbrev pub object_before : Turn → List ℕ → List ℕ
object_before (Object at) rest = at ∷ rest
object_before (Stopped stop) rest = []

-- the stop that was told, or else the one behind an object
abbrev pub stop_before : Turn → Stop → Stop
stop_before (Object at) rest = rest
stop_before (Stopped stop) rest = stop

-- the objects of at most so many turns
unfoldable pub objects_within : AddressSpace → ℕ → WalkState → List ℕ
objects_within memory zero walk = []
objects_within memory (suc n) walk = object_before (turn memory walk) (objects_within memory n (after walk (turn memory walk)))

-- the stop that is told within so many turns, else that there were no more turns
unfoldable pub stop_within : AddressSpace → ℕ → WalkState → Stop
stop_within memory zero walk = Limit (2 ^ 64)
stop_within memory (suc n) walk = stop_before (turn memory walk) (stop_within memory n (after walk (turn memory walk)))

-- where the objects start that a walk still gives over the memory of its space
unfoldable pub objects : AddressSpace → WalkState → List ℕ
objects memory walk = objects_within memory (suc (links_left walk)) walk

-- why it stops then
unfoldable pub stop_of : AddressSpace → WalkState → Stop
stop_of memory walk = stop_within memory (suc (links_left walk)) walk

-- no object is left, and the stop is told
pub record IsAtEnd (memory : AddressSpace) (walk : WalkState) (stop : Stop) : Type 0 where
  pub none : objects memory walk ≡ []
  pub told : stop_of memory walk ≡ stop

-- a turn gives the first of the objects that were left and leaves the others, or there was none and the stop is told
abbrev pub GoesOn : AddressSpace → WalkState → WalkState → Turn → Type 0
GoesOn memory old new (Object at) = (objects memory old ≡ at ∷ objects memory new) × (stop_of memory old ≡ stop_of memory new)
GoesOn memory old new (Stopped stop) = IsAtEnd memory old stop × IsAtEnd memory new stop

-- an object takes one of the links that are left, a stop none
abbrev pub HasOneLess : WalkState → WalkState → Turn → Type 0
HasOneLess old new (Object at) = links_left old ≡ links_left new + 1
HasOneLess old new (Stopped stop) = links_left new ≡ links_left old

-- a link that wasn't given before and isn't the end, and whose object starts at an address
pub record IsFreeLink (walk : WalkState) (link : ℕ) : Type 0 where
  pub new : is_given walk link ≡ false
  pub no_end : link ≢ end_link walk
  pub start : walk.back ≤ link

-- an object has a free link, and the word that follows it has room
abbrev pub HasNewLink : WalkState → Turn → Type 0
HasNewLink walk (Object at) = IsFreeLink walk (at + walk.back) × (at + walk.back + walk.next ≤ 2 ^ 64 - 8)
HasNewLink walk (Stopped stop) = Unit {0}
