use Rattle.std.proofs.Common.{sym}
use Rattle.layer_base.specs.View.{physical}
use Rattle.layer_base.proofs.Told.{IfSome-always}
use Rattle.space_memory.specs.InSpace.{in_space}
use Rattle.object_text.proofs.Past.{value-past}
use Rattle.object_text.proofs.rows.value_at.Goals as goal

pub returns-in-Err-clause-value : goal.returns-in-Err-clause-value
returns-in-Err-clause-value g c =
    IfSome-always c.args.memory.now.view (λ told.
    sym (value-past (in_space (physical told) c.args.start.space) c.args.table.now c.args.start.at (c.args.place.offset, c.args.place.of.now) c.in-Err.field-0 (sym c.in-Err.ensures.place)))
