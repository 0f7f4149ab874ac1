use Rattle.std.proofs.Common.{◌-◌, ◌≤◌, length}
use Rattle.std.specs.Prelude.{IfSome}
use Rattle.layer_base.specs.View.{physical}
use Rattle.space_memory.specs.InSpace.{in_space}
use Rattle.space_memory.specs.State.{IsSameMemory}
use Rattle.typed_object.proofs.Texts.{IsText}
use Rattle.typed_object.proofs.text.read_text.Given as goal

-- the bytes so far are the front of the text
abbrev pub invariant-pieces : goal.invariant-pieces
invariant-pieces g l = record {
  front : IfSome l.fn.memory.view (λ told. IsText (in_space (physical told) l.space) l.at l.count l.text.items);
  within : length l.text.items ≤ l.count;
  memory : IsSameMemory l.fn.memory l.memory;
}

abbrev pub decreases-pieces : goal.decreases-pieces
decreases-pieces g l = l.count - length l.text.items
