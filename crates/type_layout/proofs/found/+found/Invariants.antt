use Rattle.std.proofs.Common.{◌≡◌, ◌+◌, ◌*◌, drop}
use Rattle.std.specs.List.{AllByRecursion}
use Rattle.isf_reader.specs.Table.{IsNear}
use Rattle.type_layout.specs.Member.{first_through, found_in}
use Rattle.type_layout.proofs.found.+found.Given as goal

abbrev pub decreases-found_in : goal.decreases-found_in
decreases-found_in l = 3 * l.depth

abbrev pub decreases-found_through : goal.decreases-found_through
decreases-found_through l = 3 * l.depth + 1

abbrev pub decreases-first_through : goal.decreases-first_through
decreases-first_through l = 3 * l.depth + 2

abbrev pub invariant-first_through-loop-field : goal.invariant-first_through-loop-field
invariant-first_through-loop-field l =
    let search = found_in l.table.users l.name l.depth in
    record { left : first_through search l.table.users (drop l.field-index l.fields) ≡ first_through search l.table.users l.fields; near : AllByRecursion IsNear (drop l.field-index l.fields) }
