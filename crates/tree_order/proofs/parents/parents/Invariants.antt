use Rattle.std.proofs.Common.{◌≡◌, map, take}
use Rattle.tree_order.specs.Parents.{parent_by}
use Rattle.tree_order.proofs.parents.parents.Given as goal

abbrev pub invariant-loop-key : goal.invariant-loop-key
invariant-loop-key l = l.parents.items ≡ map (λ key. parent_by l.keys key.ppid) (take l.key-index l.keys)
