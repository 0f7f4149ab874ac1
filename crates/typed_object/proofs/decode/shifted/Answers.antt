use Rattle.std.proofs.Common.{◌<◌, ◌≤◌, ◌^◌, sym, arith}
use Rattle.std.proofs.Math.Nat.{div-eq_of_lt}
use Rattle.std.proofs.Math.Pow.{pow_mono}
use Rattle.typed_object.proofs.decode.shifted.Goals as goal

pub returns-else-position-lt-WIDTH : goal.returns-else-position-lt-WIDTH
returns-else-position-lt-WIDTH c =
    let wide : 2 ^ 128 ≤ 2 ^ c.args.position = pow_mono {i = 128} (omega arith) in
    let low : c.args.number < 2 ^ c.args.position = omega (arith, wide) in
    sym (div-eq_of_lt low)
