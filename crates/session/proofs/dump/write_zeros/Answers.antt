use Rattle.std.proofs.Common.{◌≤◌, length, arith}
use Rattle.layer_base.proofs.Appending.{Writes-refused}
use Rattle.session.proofs.Dumps.{zeros-more, zeros-cut}
use Rattle.session.proofs.dump.write_zeros.Goals as goal

pub loop-done-preserved : goal.loop-done-preserved
loop-done-preserved g c =
    let n = c.room_within-n.result in
    let within : n ≤ length c.args.zeros.now = omega (arith, c.room_within-n.ensures) in
    record {
      so_far = zeros-more _ _ _ c.args.zeros.now c.loop-done.done n c.requires.zeros within c.loop-done.invariant.so_far c.in_ok-write_whole.ensures.bytes;
      within = omega (arith, c.room_within-n.ensures);
      kept = omega (arith, c.loop-done.invariant.kept, c.write_whole.ensures.cause.kept);
    }

pub returns-in_err-write_whole-clause-bytes : goal.returns-in_err-write_whole-clause-bytes
returns-in_err-write_whole-clause-bytes g c =
    let n = c.room_within-n.result in
    let within : n ≤ length c.args.zeros.now = omega (arith, c.room_within-n.ensures) in
    Writes-refused _ _ c.from_residual.result _ c.from_residual.ensures.0 (
    zeros-cut _ _ _ c.args.zeros.now c.loop-done.done n c.requires.zeros within c.loop-done.invariant.so_far c.args.count (omega (arith, c.room_within-n.ensures)) c.in_err-write_whole.ensures.bytes
    )
