use Rattle.std.proofs.Common.{◌≡◌, ◌++◌}
use Rattle.std.specs.Prelude.{map, IfSome}
use Rattle.layer_base.specs.View.{physical}
use Rattle.list_walk.specs.Objects.{objects, stop_of, links_left}
use Rattle.space_memory.specs.InSpace.{in_space}
use Rattle.space_memory.specs.State.{IsSameMemory}
use Rattle.vma_walk.specs.Area.{area_at}
use Rattle.vma_walk.specs.Members.{members_of}
use Rattle.vma_walk.proofs.listed.read_areas.Given as goal

-- the areas read so far, and those that the walk still gives, are all that it gave at first
abbrev pub invariant-areas : goal.invariant-areas
invariant-areas g l = record {
  memory : IsSameMemory l.initial.memory l.memory;
  space : l.walk.space ≡ l.initial.walk.space;
  rows : IfSome l.initial.memory.view (λ view.
      l.rows ++ map (area_at (in_space (physical view) l.reader.objects.space) l.reader.objects.table.now (members_of l.reader)) (objects (in_space (physical view) l.walk.space) l.walk)
      ≡ map (area_at (in_space (physical view) l.reader.objects.space) l.reader.objects.table.now (members_of l.reader)) (objects (in_space (physical view) l.initial.walk.space) l.initial.walk));
  stop : IfSome l.initial.memory.view (λ view. stop_of (in_space (physical view) l.walk.space) l.walk ≡ stop_of (in_space (physical view) l.initial.walk.space) l.initial.walk);
}

abbrev pub decreases-areas : goal.decreases-areas
decreases-areas g l = links_left l.walk
