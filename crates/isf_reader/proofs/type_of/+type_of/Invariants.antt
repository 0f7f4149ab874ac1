use Rattle.std.proofs.Common.{◌+◌, ◌*◌}
use Rattle.serde_json.specs.Data.{depth}
use Rattle.serde_json.specs.View.{view}
use Rattle.isf_reader.proofs.type_of.+type_of.Given as goal

abbrev pub decreases-type_of : goal.decreases-type_of
decreases-type_of l = 2 * depth (view l.value) + 1

abbrev pub decreases-type_at : goal.decreases-type_at
decreases-type_at l = 2 * depth (view l.value.now)
