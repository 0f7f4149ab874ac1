use Rattle.std.proofs.Common.{◌≡◌}
use Rattle.image_maker.specs.Task.{tasks}
use Rattle.image_maker.specs.Written.{written}
use Rattle.image_maker.proofs.task.write_tasks.Given as goal

-- the tasks so far are written
abbrev pub invariant-loop-done : goal.invariant-loop-done
invariant-loop-done l = l.bytes ≡ written (tasks l.number l.done) l.fn.bytes
