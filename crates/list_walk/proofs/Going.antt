-- How the objects that a walk gives go on with each turn.
use Rattle.std.proofs.Common.{◌≡◌, ℕ, ◌+◌, List, ◌∷◌, refl, sym, ap, ◌∙◌, arith}
use Rattle.layer_base.specs.AddressSpace.{AddressSpace}
use Rattle.kernel_records.specs.declared.stop.Stop.{Stop}
use Rattle.list_walk.specs.Objects.{links_left, object_before, stop_before, objects_within, stop_within, objects, stop_of, IsAtEnd, GoesOn, HasOneLess}
use Rattle.list_walk.specs.State.{WalkState}
use Rattle.list_walk.specs.Turn.{turn, after}
use Rattle.list_walk.specs.declared.turn.Turn.{Turn}
use Rattle.list_walk.specs.declared.turn.Turn.TheVariants.{Object, Stopped}

-- the objects begin with what the next turn gives
objects-turn : (memory : AddressSpace) (walk : WalkState) (found : Turn) → found ≡ turn memory walk → objects memory walk ≡ object_before found (objects_within memory (links_left walk) (after walk found))
unfolding objects objects_within
objects-turn memory walk found is = ap (λ t. object_before t (objects_within memory (links_left walk) (after walk t))) (sym is)

stop-turn : (memory : AddressSpace) (walk : WalkState) (found : Turn) → found ≡ turn memory walk → stop_of memory walk ≡ stop_before found (stop_within memory (links_left walk) (after walk found))
unfolding stop_of stop_within
stop-turn memory walk found is = ap (λ t. stop_before t (stop_within memory (links_left walk) (after walk t))) (sym is)

-- so many turns are left behind an object as the walk has links left, and one
behind-objects : (memory : AddressSpace) (old new : WalkState) → links_left old ≡ links_left new + 1 → objects_within memory (links_left old) new ≡ objects memory new
unfolding objects
behind-objects memory old new fewer = ap (λ n. objects_within memory n new) (omega (arith, fewer))

behind-stop : (memory : AddressSpace) (old new : WalkState) → links_left old ≡ links_left new + 1 → stop_within memory (links_left old) new ≡ stop_of memory new
unfolding stop_of
behind-stop memory old new fewer = ap (λ n. stop_within memory n new) (omega (arith, fewer))

-- a walk that was stopped tells the stop
stopped : (memory : AddressSpace) (old : WalkState) (stop : Stop) → Stopped stop ≡ turn memory (after old (Stopped stop))
unfolding turn
stopped memory old stop = refl

at-end : (memory : AddressSpace) (walk : WalkState) (stop : Stop) → Stopped stop ≡ turn memory walk → IsAtEnd memory walk stop
at-end memory walk stop is = record { none = objects-turn memory walk (Stopped stop) is; told = stop-turn memory walk (Stopped stop) is }

-- a turn gives the first of the objects that were left, or the stop
pub goes-on : (memory : AddressSpace) (old new : WalkState) (found : Turn) → found ≡ turn memory old → new ≡ after old found → HasOneLess old new found → GoesOn memory old new found
goes-on memory old new (Object at) is state fewer = (
  objects-turn memory old (Object at) is ∙ ap (λ (rest : List ℕ). at ∷ rest) (ap (objects_within memory (links_left old)) (sym state) ∙ behind-objects memory old new fewer),
  stop-turn memory old (Object at) is ∙ ap (stop_within memory (links_left old)) (sym state) ∙ behind-stop memory old new fewer,
)
goes-on memory old new (Stopped stop) is state fewer =
    (at-end memory old stop is, at-end memory new stop (stopped memory old stop ∙ ap (turn memory) (sym state)))

-- a stopped walk stays where it is
pub stays : (memory : AddressSpace) (walk : WalkState) (stop : Stop) → Stopped stop ≡ turn memory walk → GoesOn memory walk walk (Stopped stop)
stays memory walk stop is = (at-end memory walk stop is, at-end memory walk stop is)
