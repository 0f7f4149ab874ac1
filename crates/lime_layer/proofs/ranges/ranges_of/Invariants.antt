use Rattle.std.proofs.Common.{◌≡◌, ◌≤◌, ◌^◌, take}
use Rattle.std.specs.Option.{IfSome}
use Rattle.layer_base.specs.Present.{present_from}
use Rattle.layer_base.specs.View.{physical}
use Rattle.layer_base.specs.View.View.{File}
use Rattle.lime_layer.proofs.Reading.{IsReadTo}
use Rattle.lime_layer.proofs.ranges.ranges_of.Given as goal

-- the ranges so far and those from the next header on are all
abbrev pub invariant-loop : goal.invariant-loop
invariant-loop g l = record {
  above : l.above ≤ 2 ^ 65;
  same : g.D.Device.held l.device ≡ g.D.Device.held l.fn.device;
  kept : g.D.Device.faults l.fn.device ≤ g.D.Device.faults l.device;
  reading : IfSome (g.D.Device.held l.fn.device) (λ held. take l.fn.header.count l.fn.header.bytes ≡ present_from (physical (File held)) 0 32 → IsReadTo (physical (File held)) 65536 l.counter l.next l.above l.segments);
}
