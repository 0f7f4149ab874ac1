use Rattle.std.proofs.Common.{arith}
use Rattle.kernel_find.proofs.Banners.{before_zero-at, before_zero-none}
use Rattle.kernel_find.proofs.banner.before_zero.Goals as goal

pub returns-in-Some : goal.returns-in-Some
returns-in-Some c =
    let found = rw c.in-Some.is at c.memchr.ensures in
    before_zero-at c.args.bytes.now c.in-Some.place found.0.high (λ j below. found.0.before j (omega arith) below) found.1

pub returns-in-None : goal.returns-in-None
returns-in-None c =
    let none = rw c.in-None.is at c.memchr.ensures in
    before_zero-none c.args.bytes.now (λ j below. none j (omega arith) below)
