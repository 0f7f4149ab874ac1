use Rattle.std.proofs.Common.{◌+◌, ◌≤◌, arith}
use Rattle.std.proofs.lemmas.Option.{IfSome_then}
use Rattle.layer_base.specs.View.{physical}
use Rattle.space_memory.specs.InSpace.{in_space}
use Rattle.session.proofs.Cells.{AddsCells-hole}
use Rattle.session.proofs.read.push_run.Goals as goal

pub returns-in-Absent-clause-cells : goal.returns-in-Absent-clause-cells
returns-in-Absent-clause-cells g c =
    let at = c.args.place.at in
    let within : at ≤ c.in-Absent.last = rw c.in-Absent.is at c.in_ok-count.ensures.within in
    IfSome_then c.args.memory.now.view c.in_ok-count.ensures.run (λ view run.
    AddsCells-hole (in_space (physical view) c.args.place.space) at c.in-Absent.last (c.min-others.result + 1) c.args.cells.now.items c.push_absent.new.cells.items (rw c.in-Absent.is at run) (omega arith) c.push_absent.ensures.items)
