-- The text of a walk.
use Rattle.std.specs.Prelude.{ℕ, List, ◌++◌}
use Rattle.std.specs.List.{flat_map}
use Rattle.layer_base.specs.AddressSpace.{AddressSpace}
use Rattle.list_walk.specs.Objects.{objects, stop_of}
use Rattle.list_walk.specs.State.{WalkState}
use Rattle.walk_text.specs.Added.{end_line}

-- the rows of the objects of a walk, and the line of its stop, over the memory of the walk's space
abbrev pub walk_text : (ℕ → List ℕ) → AddressSpace → WalkState → List ℕ
walk_text row memory walk = flat_map row (objects memory walk) ++ end_line (stop_of memory walk)
