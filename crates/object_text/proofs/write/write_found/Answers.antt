use Rattle.space_memory.specs.InSpace.{in_space}
use Rattle.typed_object.specs.Place.{seen}
use Rattle.object_text.specs.Object.{head_line, rows}
use Rattle.object_text.proofs.Behind.{WritesOver-behind}
use Rattle.object_text.proofs.write.write_found.Goals as goal

pub returns : goal.returns
returns g c =
    let view = c.args.object.view in
    WritesOver-behind g.O.Sink.written g.O.Sink.faults c.args.out.now c.write_whole.new.out c.args.memory.now (head_line view.of.now view.at c.args.object.size)
    (rw (c.deref.ensures.value, c.in_ok-append_head.ensures, c.new-text.ensures.items) at c.in_ok-write_whole.ensures.bytes) c.write_whole.ensures.cause.kept
    c.write_rows.new.out c.write_rows.new.memory _ _ (λ memory. rows (in_space memory view.space) c.args.table.now (seen view)) c.write_rows.result c.write_rows.ensures
