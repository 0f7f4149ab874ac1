use Rattle.std.proofs.Common.{ℕ, ◌<◌, ◌≤◌, ◌^◌, ◌%◌, sym, ap, arith}
use Rattle.std.proofs.Math.Nat.{mod-eq_of_lt}
use Rattle.std.proofs.Math.Pow.{pow_mono}
use Rattle.std.proofs.lemmas.Nat.{one_shl}
use Rattle.typed_object.proofs.decode.low_bits.Goals as goal

pub returns-then-length-lt-WIDTH : goal.returns-then-length-lt-WIDTH
returns-then-length-lt-WIDTH c = ap (λ (m : ℕ). c.args.number % m) (one_shl c.args.length 128 (omega arith))

pub returns-else-length-lt-WIDTH : goal.returns-else-length-lt-WIDTH
returns-else-length-lt-WIDTH c =
    let wide : 2 ^ 128 ≤ 2 ^ c.args.length = pow_mono {i = 128} (omega arith) in
    let low : c.args.number < 2 ^ c.args.length = omega (arith, wide) in
    sym (mod-eq_of_lt low)
