use Rattle.std.proofs.Common.{◌≡◌, ◌≤◌, ◌-◌, take}
use Rattle.layer_base.proofs.Filling.{Stands}
use Rattle.lime_layer.proofs.Device.{held_memory}
use Rattle.lime_layer.proofs.read.fill.Given as goal

-- the bytes so far are present in a row
abbrev pub invariant-loop-done : goal.invariant-loop-done
invariant-loop-done g l = record {
  within : l.done ≤ l.room;
  same : g.D.Device.held l.device ≡ g.D.Device.held l.fn.device;
  kept : g.D.Device.faults l.fn.device ≤ g.D.Device.faults l.device;
  bytes : Stands held_memory (take l.done l.buf) l.place l.done (g.D.Device.held l.fn.device);
}

abbrev pub decreases-loop-done : goal.decreases-loop-done
decreases-loop-done g l = l.room - l.done
