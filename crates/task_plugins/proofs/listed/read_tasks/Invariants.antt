use Rattle.std.proofs.Common.{◌≡◌, ◌++◌}
use Rattle.std.specs.Prelude.{map, IfSome}
use Rattle.layer_base.specs.View.{physical}
use Rattle.list_walk.specs.Objects.{objects, stop_of, links_left}
use Rattle.space_memory.specs.InSpace.{in_space}
use Rattle.space_memory.specs.State.{IsSameMemory}
use Rattle.task_plugins.specs.Members.{members_of}
use Rattle.task_plugins.specs.Task.{task_at}
use Rattle.task_plugins.proofs.listed.read_tasks.Given as goal

-- the tasks read so far, and those that the walk still gives, are all that it gave at first
abbrev pub invariant-tasks : goal.invariant-tasks
invariant-tasks g l = record {
  memory : IsSameMemory l.initial.memory l.memory;
  space : l.walk.space ≡ l.initial.walk.space;
  rows : IfSome l.initial.memory.view (λ view.
      l.rows ++ map (task_at (in_space (physical view) l.reader.objects.space) l.reader.objects.table.now (members_of l.reader)) (objects (in_space (physical view) l.walk.space) l.walk)
      ≡ map (task_at (in_space (physical view) l.reader.objects.space) l.reader.objects.table.now (members_of l.reader)) (objects (in_space (physical view) l.initial.walk.space) l.initial.walk));
  stop : IfSome l.initial.memory.view (λ view. stop_of (in_space (physical view) l.walk.space) l.walk ≡ stop_of (in_space (physical view) l.initial.walk.space) l.initial.walk);
}

abbrev pub decreases-tasks : goal.decreases-tasks
decreases-tasks g l = links_left l.walk
