use Rattle.std.proofs.Common.{sym, subst, arith}
use Rattle.needle_search.specs.Progress.{AreReached}
use Rattle.chunk_scanner.specs.Window.{kept_bytes}
use Rattle.chunk_scanner.proofs.scan.follow.Goals as goal

pub returns-then-position-clause-reached : goal.returns-then-position-clause-reached
returns-then-position-clause-reached c = λ needles least reached order. c.new.ensures needles (kept_bytes c.clear.new.self) c.args.position.now.number reached.few

pub returns-else-position-clause-reached : goal.returns-else-position-clause-reached
returns-else-position-clause-reached c = λ needles least reached order.
    let number = c.args.position.now.number in
    subst (λ window. AreReached needles window number c.pass-else-position.new.self) (sym c.pass.ensures.kept)
    (c.pass-else-position.ensures needles (kept_bytes c.args.window.now) least number reached (λ none. order c.if-position.false (omega arith)))
