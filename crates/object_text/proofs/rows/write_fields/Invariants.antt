use Rattle.std.proofs.Common.{take}
use Rattle.std.specs.List.{flat_map}
use Rattle.space_memory.specs.InSpace.{in_space}
use Rattle.space_memory.proofs.Writers.{HasWritten}
use Rattle.object_text.specs.Object.{field_row}
use Rattle.object_text.proofs.rows.write_fields.Given as goal

-- the rows so far were written
abbrev pub invariant-loop-field : goal.invariant-loop-field
invariant-loop-field g l =
    HasWritten g.O.Sink.written g.O.Sink.faults l.fn.out l.out l.fn.memory l.memory (λ memory. flat_map (field_row (in_space memory l.start.space) l.table l.start.at) (take l.field-index l.fields))
