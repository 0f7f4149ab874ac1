use Rattle.std.proofs.Common.{◌+◌, ◌-◌, ◌*◌, ◌≤◌, length}
use Rattle.intel_paging.specs.Walk.{levels_of}
use Rattle.space_memory.specs.State.{IsSameMemory}
use Rattle.space_memory.proofs.Reading.{AreRead}
use Rattle.space_memory.proofs.memory.Memory.read.Given as goal

-- the bytes so far stand in front
abbrev pub invariant-loop-done : goal.invariant-loop-done
invariant-loop-done g l = record {
  within : l.done ≤ length l.fn.buf;
  bytes : AreRead l.fn.self.view l.space l.at l.done l.buf;
  steps : l.steps ≤ l.fn.steps + l.done * (1 + levels_of l.space);
  calls : l.self.calls ≤ l.fn.self.calls + l.done * (1 + 8 * levels_of l.space);
  memory : IsSameMemory l.fn.self l.self;
}

abbrev pub decreases-loop-done : goal.decreases-loop-done
decreases-loop-done g l = length l.buf - l.done
