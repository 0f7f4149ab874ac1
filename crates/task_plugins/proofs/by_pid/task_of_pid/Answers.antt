use Rattle.std.proofs.Common.{◌≡◌, ℕ, Option, Ok, Err, find, subst, ◌∙◌}
use Rattle.std.specs.Prelude.{IfOk, IfSome}
use Rattle.layer_base.specs.AddressSpace.{AddressSpace}
use Rattle.layer_base.specs.View.{physical}
use Rattle.layer_base.proofs.Told.{IfSome-always}
use Rattle.list_walk.specs.Objects.{objects}
use Rattle.space_memory.specs.InSpace.{in_space}
use Rattle.task_plugins.specs.Pid.{has_pid}
use Rattle.task_plugins.proofs.Pids.{first-of-walk}
use Rattle.task_plugins.proofs.by_pid.task_of_pid.Goals as goal

pub returns-in-Ok-clause-task : goal.returns-in-Ok-clause-task
returns-in-Ok-clause-task g c =
    subst (λ (task_in : AddressSpace → Option ℕ). IfSome c.args.memory.now.view (λ view. IfOk c.first_with_pid.result (λ task. task ≡ task_in (physical view))))
    (λ i memory. ((λ j. find (has_pid (in_space memory (c.objects.ensures.space j)) (c.objects.ensures.table j) (c.needed_member-tgid.ensures.place j) c.args.pid) (objects (in_space memory (c.in-Ok.ensures.space j)) c.in-Ok.walk))
    ∙ first-of-walk memory c.args.ground.table.now c.args.ground.kernel c.args.pid (Ok c.in-Ok.walk) c.in-Ok.ensures.walk) i)
    c.first_with_pid.ensures.task

pub returns-in-Err-clause-task : goal.returns-in-Err-clause-task
returns-in-Err-clause-task g c =
    IfSome-always c.args.memory.now.view (λ view. first-of-walk (physical view) c.args.ground.table.now c.args.ground.kernel c.args.pid (Err c.in-Err.field-0) c.in-Err.ensures.walk)
