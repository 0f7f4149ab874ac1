use Rattle.std.proofs.Common.{arith}
use Rattle.std.proofs.lemmas.List.{take_rest}
use Rattle.needle_search.proofs.Places.{finds-none, finds-some}
use Rattle.needle_search.proofs.search.find_from.Goals as goal

pub returns-in_err-place : goal.returns-in_err-place
returns-in_err-place c =
    let missed = rw (take_rest c.args.window.now c.args.from, c.in_err-place.was) at c.find.ensures in
    rw c.from_residual.ensures (finds-none c.args.window.now c.args.needle.now c.args.from (omega arith) missed)

pub returns : goal.returns
returns c =
    let found = rw (take_rest c.args.window.now c.args.from, c.in_ok-place.was) at c.find.ensures in
    finds-some c.args.window.now c.args.needle.now c.args.from (omega arith) c.in_ok-place.place found
