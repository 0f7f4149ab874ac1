use Rattle.std.proofs.Common.{◌-◌, ◌≤◌}
use Rattle.session.proofs.Taking.{HasTaken}
use Rattle.session.proofs.symbols.take_symbols.Given as goal

-- the bytes so far stand at the front of the room for them
abbrev pub invariant-loop-taken : goal.invariant-loop-taken
invariant-loop-taken g l = record {
  so_far : HasTaken (g.J.Source.left l.fn.symbols) (g.J.Source.left l.symbols) l.bytes.items l.taken;
  kept : g.J.Source.faults l.fn.symbols ≤ g.J.Source.faults l.symbols;
}

abbrev pub decreases-loop-taken : goal.decreases-loop-taken
decreases-loop-taken g l = 134217729 - l.taken
