use Rattle.std.specs.Prelude.{IfSome}
use Rattle.layer_base.specs.View.{physical}
use Rattle.space_memory.specs.State.{IsSameMemory}
use Rattle.typed_object.specs.Ground.{kernel_memory}
use Rattle.path_walk.proofs.Ways.{IsLeft}
use Rattle.path_walk.proofs.follow.follow.Given as goal

-- the path that is left is that of the beginning
abbrev pub invariant-loop-turns : goal.invariant-loop-turns
invariant-loop-turns g l = record {
  memory : IsSameMemory l.fn.memory l.memory;
  path : IfSome l.fn.memory.view (λ told. IsLeft (kernel_memory (physical told) l.paths.kernel) l.paths.table.now l.fn.way l.turns l.way);
}
