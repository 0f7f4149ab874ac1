use Rattle.std.proofs.Common.{◌-◌, ◌≤◌, length}
use Rattle.space_memory.specs.State.{IsSameMemory}
use Rattle.space_memory.proofs.Reading.{AreRead}
use Rattle.chunk_scanner.proofs.filled.fill.Given as goal

-- the bytes so far stand in front
abbrev pub invariant-loop-count : goal.invariant-loop-count
invariant-loop-count g l = record {
  within : l.count ≤ length l.fn.buf;
  bytes : AreRead l.fn.memory.view l.space l.at l.count l.buf;
  memory : IsSameMemory l.fn.memory l.memory;
}

abbrev pub decreases-loop-count : goal.decreases-loop-count
decreases-loop-count g l = length l.buf - l.count
