use Rattle.std.proofs.Common.{◌+◌, ◌<◌, length, take, ◌++◌, refl, arith}
use Rattle.std.specs.List.{flat_map}
use Rattle.space_memory.specs.InSpace.{in_space}
use Rattle.space_memory.proofs.Writers.{HasWritten-none, HasWritten-more, HasWritten-cut}
use Rattle.object_text.specs.Object.{field_row}
use Rattle.object_text.proofs.Pieces.{flat_map-more, flat_map-front}
use Rattle.object_text.proofs.rows.write_fields.Goals as goal

pub loop-field-init : goal.loop-field-init
loop-field-init g c = HasWritten-none g.O.Sink.written g.O.Sink.faults c.args.out.now c.args.memory.now _ (λ memory. refl)

pub loop-field-preserved : goal.loop-field-preserved
loop-field-preserved g c =
    let space = c.args.start.space in
    let at = c.args.start.at in
    let table = c.args.table.now in
    let fields = c.args.fields.now in
    let i = c.loop-field.field-index in
    let field = c.field-item.result in
    let within : i < length fields = omega arith in
    HasWritten-more g.O.Sink.written g.O.Sink.faults c.args.out.now c.args.memory.now c.loop-field.out c.write_row.new.out c.loop-field.memory c.write_row.new.memory _ _
    (λ memory. flat_map (field_row (in_space memory space) table at) (take i fields)) (λ memory. field_row (in_space memory space) table at field) (λ memory. flat_map (field_row (in_space memory space) table at) (take (i + 1) fields))
    c.loop-field.invariant _ (λ memory. flat_map-more (field_row (in_space memory space) table at) fields i field within c.field-item.is) (rw c.items.ensures at c.in_ok-write_row.ensures)

pub returns-in_err-write_row : goal.returns-in_err-write_row
returns-in_err-write_row g c =
    let space = c.args.start.space in
    let at = c.args.start.at in
    let table = c.args.table.now in
    let fields = c.args.fields.now in
    let i = c.loop-field.field-index in
    let field = c.field-item.result in
    let within : i < length fields = omega arith in
    HasWritten-cut g.O.Sink.written g.O.Sink.faults c.args.out.now c.args.memory.now c.loop-field.out c.write_row.new.out c.loop-field.memory c.write_row.new.memory _ _
    (λ memory. flat_map (field_row (in_space memory space) table at) (take i fields)) (λ memory. field_row (in_space memory space) table at field) (λ memory. flat_map (field_row (in_space memory space) table at) fields)
    c.loop-field.invariant c.in_err-write_row.field-0.0 c.from_residual.result c.from_residual.ensures.1
    (λ memory. flat_map-front (field_row (in_space memory space) table at) fields i field within c.field-item.is) (rw c.items.ensures at c.in_err-write_row.ensures)
