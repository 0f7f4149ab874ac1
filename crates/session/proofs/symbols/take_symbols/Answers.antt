use Rattle.std.proofs.Common.{take, arith, length-take}
use Rattle.session.proofs.Taking.{gave-front, gave-so_far, gave-piece, taken-most, taken-exactly, taken-at_end}
use Rattle.session.proofs.symbols.take_symbols.Goals as goal

pub returns-in_err-make_room-clause-front : goal.returns-in_err-make_room-clause-front
returns-in_err-make_room-clause-front g c =
    let old = g.J.Source.left c.args.symbols.now in
    let now = g.J.Source.left c.loop-taken.symbols in
    gave-front old now (gave-so_far old now c.loop-taken.bytes.items c.loop-taken.taken c.loop-taken.invariant.so_far)

pub returns-in_err-count-clause-front : goal.returns-in_err-count-clause-front
returns-in_err-count-clause-front g c =
    let old = g.J.Source.left c.args.symbols.now in
    let now = g.J.Source.left c.take_piece.new.symbols in
    let room = c.in_ok-make_room.ensures in
    gave-front old now (
    gave-piece old (g.J.Source.left c.loop-taken.symbols) now c.loop-taken.bytes.items c.make_room.new.bytes.items c.take_piece.new.bytes.items c.loop-taken.taken _ c.loop-taken.invariant.so_far room.kept room.most c.in_err-count.ensures.taken
    )

pub returns-in_err-count-clause-most : goal.returns-in_err-count-clause-most
returns-in_err-count-clause-most g c =
    let old = g.J.Source.left c.args.symbols.now in
    let now = g.J.Source.left c.take_piece.new.symbols in
    let room = c.in_ok-make_room.ensures in
    gave-piece old (g.J.Source.left c.loop-taken.symbols) now c.loop-taken.bytes.items c.make_room.new.bytes.items c.take_piece.new.bytes.items c.loop-taken.taken _ c.loop-taken.invariant.so_far room.kept room.most c.in_err-count.ensures.taken

pub returns-then-count-eq0-clause-front : goal.returns-then-count-eq0-clause-front
returns-then-count-eq0-clause-front g c =
    let old = g.J.Source.left c.args.symbols.now in
    let now = g.J.Source.left c.take_piece.new.symbols in
    let room = c.in_ok-make_room.ensures in
    gave-front old now (
    gave-piece old (g.J.Source.left c.loop-taken.symbols) now c.loop-taken.bytes.items c.make_room.new.bytes.items c.take_piece.new.bytes.items c.loop-taken.taken _ c.loop-taken.invariant.so_far room.kept room.most c.in_ok-count.ensures.taken
    )

pub returns-then-count-eq0-clause-bytes : goal.returns-then-count-eq0-clause-bytes
returns-then-count-eq0-clause-bytes g c =
    rw c.truncate.ensures.items (
    (taken-at_end (g.J.Source.left c.args.symbols.now) (g.J.Source.left c.loop-taken.symbols) (g.J.Source.left c.take_piece.new.symbols) c.loop-taken.bytes.items c.make_room.new.bytes.items c.take_piece.new.bytes.items c.loop-taken.taken c.in_ok-count.count
    c.loop-taken.invariant.so_far c.in_ok-make_room.ensures.kept c.in_ok-count.ensures.taken c.if-count-eq0.true).0
    )

pub returns-then-count-eq0-clause-taken : goal.returns-then-count-eq0-clause-taken
returns-then-count-eq0-clause-taken g c =
    (taken-at_end (g.J.Source.left c.args.symbols.now) (g.J.Source.left c.loop-taken.symbols) (g.J.Source.left c.take_piece.new.symbols) c.loop-taken.bytes.items c.make_room.new.bytes.items c.take_piece.new.bytes.items c.loop-taken.taken c.in_ok-count.count
    c.loop-taken.invariant.so_far c.in_ok-make_room.ensures.kept c.in_ok-count.ensures.taken c.if-count-eq0.true).1

pub returns-clause-bytes : goal.returns-clause-bytes
returns-clause-bytes g c =
    let so_far = c.loop-taken.invariant.so_far in
    rw c.truncate-2.ensures.items (taken-most (g.J.Source.left c.args.symbols.now) (g.J.Source.left c.loop-taken.symbols) (take c.loop-taken.taken c.loop-taken.bytes.items) (omega (arith, length-take c.loop-taken.taken c.loop-taken.bytes.items, so_far.within, so_far.few)) so_far.given)

pub returns-clause-taken : goal.returns-clause-taken
returns-clause-taken g c =
    let so_far = c.loop-taken.invariant.so_far in
    let old = g.J.Source.left c.args.symbols.now in
    let now = g.J.Source.left c.loop-taken.symbols in
    let bytes = take c.loop-taken.taken c.loop-taken.bytes.items in
    taken-exactly old now bytes (taken-most old now bytes (omega (arith, length-take c.loop-taken.taken c.loop-taken.bytes.items, so_far.within, so_far.few)) so_far.given) so_far.given

pub returns-clause-front : goal.returns-clause-front
returns-clause-front g c =
    let old = g.J.Source.left c.args.symbols.now in
    let now = g.J.Source.left c.loop-taken.symbols in
    gave-front old now (gave-so_far old now c.loop-taken.bytes.items c.loop-taken.taken c.loop-taken.invariant.so_far)
