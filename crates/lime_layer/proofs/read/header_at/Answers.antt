use Rattle.std.proofs.Common.{arith}
use Rattle.layer_base.proofs.Filling.{nowhere}
use Rattle.lime_layer.proofs.Device.{held_memory, past_places}
use Rattle.lime_layer.proofs.read.header_at.Goals as goal

pub returns-then-place-from-clause-bytes : goal.returns-then-place-from-clause-bytes
returns-then-place-from-clause-bytes g c =
    let held = g.D.Device.held c.args.device.now in
    nowhere held_memory c.args.place 32 held (past_places c.args.place held (omega arith))
