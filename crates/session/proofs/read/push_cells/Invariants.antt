use Rattle.std.proofs.Common.{◌≡◌, ◌-◌, ◌≤◌, length}
use Rattle.std.specs.Prelude.{IfSome, vec_capacity}
use Rattle.layer_base.specs.AddressSpace.{bytes_from}
use Rattle.layer_base.specs.View.{physical}
use Rattle.space_memory.specs.InSpace.{in_space}
use Rattle.space_memory.specs.State.{IsSameMemory}
use Rattle.session.proofs.read.push_cells.Given as goal

-- the cells so far are the bytes so far
abbrev pub invariant-loop-place : goal.invariant-loop-place
invariant-loop-place g l = record {
  cells : IfSome l.fn.memory.view (λ view. l.cells.items ≡ bytes_from (in_space (physical view) l.place.space) l.place.at (length l.cells.items));
  within : length l.cells.items ≤ l.fn.len;
  capacity : vec_capacity l.cells ≡ vec_capacity l.fn.cells;
  memory : IsSameMemory l.fn.memory l.memory;
}

abbrev pub decreases-loop-place : goal.decreases-loop-place
decreases-loop-place g l = l.len - length l.cells.items
