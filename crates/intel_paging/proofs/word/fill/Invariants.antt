use Rattle.std.proofs.Common.{◌≤◌, ◌+◌, ◌-◌, take, length}
use Rattle.layer_base.specs.SameLayer.{IsSameLayer}
use Rattle.layer_base.specs.View.{physical}
use Rattle.layer_base.proofs.Filling.{Stands}
use Rattle.intel_paging.proofs.word.fill.Given as goal

-- the bytes so far are present in a row, each call gave one at least
abbrev pub invariant-loop-done : goal.invariant-loop-done
invariant-loop-done g l = record {
  within : l.done ≤ length l.buf;
  same : IsSameLayer g.Y.Layer.view g.Y.Layer.kind g.Y.Layer.faults g.Y.Layer.calls l.fn.phys l.phys;
  calls : g.Y.Layer.calls l.phys ≤ g.Y.Layer.calls l.fn.phys + l.done;
  bytes : Stands physical (take l.done l.buf) l.at l.done (g.Y.Layer.view l.fn.phys);
}

abbrev pub decreases-loop-done : goal.decreases-loop-done
decreases-loop-done g l = length l.initial.buf - l.done
