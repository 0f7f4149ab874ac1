use Rattle.std.proofs.Common.{◌≤◌, arith}
use Rattle.real_files.proofs.ReadAhead.{left_behind-nothing}
use Rattle.real_files.proofs.ahead.Ahead.read.Goals as goal

pub returns-then-buf-ge-ROOM-clause-left : goal.returns-then-buf-ge-ROOM-clause-left
returns-then-buf-ge-ROOM-clause-left g c =
    let a = c.args.self.now in
    let none : a.end ≤ a.start = omega arith in
    rw (left_behind-nothing a (g.F.Read.remaining c.args.file.now) none, left_behind-nothing a (g.F.Read.remaining c.read_next.new.file) none) c.read_next.ensures.bytes
