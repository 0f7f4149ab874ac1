-- The lines that a run itself writes.
use Rattle.std.proofs.Common.{ℕ, List, Option, Result, Ok, Err}
use Rattle.layer_base.specs.Known.{Writes}
use Rattle.layer_base.specs.declared.sink.SinkFault.{SinkFault}
use Rattle.session.specs.Status.{line_result}

-- what the writing of a line appended is what the line appended
pub Writes-line : (old new : Option (List ℕ)) (written : Result (Unit {0}) SinkFault) (text : List ℕ) → Writes old new written text → Writes old new (line_result written) text
Writes-line old new (Ok done) text writes = writes
Writes-line old new (Err fault) text writes = writes
