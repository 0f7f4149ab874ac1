use Rattle.std.proofs.Common.{◌≡◌, map, take}
use Rattle.task_plugins.specs.Pstree.{key_of}
use Rattle.task_plugins.proofs.tree.keys_of.Given as goal

-- the keys of the tasks so far were put down
abbrev pub invariant-loop-task : goal.invariant-loop-task
invariant-loop-task l = l.keys.items ≡ map key_of (take l.task-index l.rows)
