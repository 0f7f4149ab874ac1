use Rattle.std.proofs.Common.{arith}
use Rattle.scan_text.proofs.BannerEnds.{before_end-first, before_end-none}
use Rattle.scan_text.proofs.banner.before_end.Goals as goal

pub returns-in-Some : goal.returns-in-Some
returns-in-Some c =
    let found = rw c.in-Some.is at c.memchr2.ensures in
    before_end-first c.args.bytes.now c.in-Some.place found.0.high (λ j below. found.0.before j (omega arith) below) found.1

pub returns-in-None : goal.returns-in-None
returns-in-None c =
    let none = rw c.in-None.is at c.memchr2.ensures in
    before_end-none c.args.bytes.now (λ j below. none j (omega arith) below)
