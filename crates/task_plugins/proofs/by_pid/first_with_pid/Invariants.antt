use Rattle.std.proofs.Common.{◌≡◌}
use Rattle.std.specs.Prelude.{find, option_map, IfSome}
use Rattle.layer_base.specs.View.{physical}
use Rattle.list_walk.specs.Objects.{objects, links_left}
use Rattle.space_memory.specs.InSpace.{in_space}
use Rattle.space_memory.specs.State.{IsSameMemory}
use Rattle.type_layout.specs.Member.{spot}
use Rattle.task_plugins.specs.Pid.{has_pid}
use Rattle.task_plugins.proofs.by_pid.first_with_pid.Given as goal

-- the first with the PID among the tasks that the walk still gives is the first of all that it gave at first
abbrev pub invariant-tasks : goal.invariant-tasks
invariant-tasks g l = record {
  memory : IsSameMemory l.initial.memory l.memory;
  space : l.walk.space ≡ l.initial.walk.space;
  first : IfSome l.initial.memory.view (λ view.
      find (has_pid (in_space (physical view) l.objects.space) l.objects.table.now (option_map spot l.tgid) l.pid) (objects (in_space (physical view) l.walk.space) l.walk)
      ≡ find (has_pid (in_space (physical view) l.objects.space) l.objects.table.now (option_map spot l.tgid) l.pid) (objects (in_space (physical view) l.initial.walk.space) l.initial.walk));
}

abbrev pub decreases-tasks : goal.decreases-tasks
decreases-tasks g l = links_left l.walk
