use Rattle.std.proofs.Common.{◌++◌, take, arith}
use Rattle.layer_base.proofs.Appending.{Appends-append, front-further}
use Rattle.layer_base.proofs.sink.write_whole.Goals as goal

pub loop-rest-preserved : goal.loop-rest-preserved
loop-rest-preserved g c =
    let done = c.loop-rest.invariant.appended.0 in
    let n = c.in_ok-n.n in
    record {
      appended = (
        done ++ take n c.loop-rest.rest.now,
        Appends-append _ _ _ done (take n c.loop-rest.rest.now) c.loop-rest.invariant.appended.1 c.in_ok-n.ensures.bytes,
        front-further c.args.piece.now done c.loop-rest.rest.now n c.loop-rest.invariant.appended.2,
      );
      kept = omega (arith, c.loop-rest.invariant.kept, c.in_ok-n.ensures.cause.kept);
    }
