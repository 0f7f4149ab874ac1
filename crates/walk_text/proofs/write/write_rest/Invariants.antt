use Rattle.std.proofs.Common.{◌≤◌, ◌++◌}
use Rattle.std.specs.Prelude.{IfSome}
use Rattle.layer_base.specs.View.{physical}
use Rattle.space_memory.specs.State.{IsSameMemory}
use Rattle.walk_text.specs.Front.{WritesFront}
use Rattle.walk_text.proofs.write.write_rest.Given as goal

-- of the text and the lines behind it a front was written
abbrev pub invariant-lines : goal.invariant-lines
invariant-lines g l = record {
  written : IfSome l.fn.memory.view (λ view.
      WritesFront (g.O.Sink.written l.fn.out) (g.O.Sink.written l.out) (l.fn.text.items ++ g.N.Lines.rest l.fn.lines (physical view)) (l.text.items ++ g.N.Lines.rest l.lines (physical view)));
  memory : IsSameMemory l.fn.memory l.memory;
  out : g.O.Sink.faults l.fn.out ≤ g.O.Sink.faults l.out;
}

abbrev pub decreases-lines : goal.decreases-lines
decreases-lines g l = g.N.Lines.left l.lines
