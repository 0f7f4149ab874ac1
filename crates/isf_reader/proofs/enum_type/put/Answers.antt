use Rattle.std.specs.Int.{w128}
use Rattle.std.proofs.Math.Facts.{to_z-of_z}
use Rattle.isf_reader.proofs.enum_type.put.Goals as goal

pub returns : goal.returns
returns c = rw (to_z-of_z {w = w128} c.ranges.value) at c.in_ok-insert.ensures.keys
