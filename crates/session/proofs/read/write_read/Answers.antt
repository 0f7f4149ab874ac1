use Rattle.std.proofs.Common.{◌+◌, ◌/◌, refl, inl, subst, ◌∙◌, ap, arith}
use Rattle.std.specs.Io.{StartsWith}
use Rattle.layer_base.proofs.BytesFrom.{bytes_from-none}
use Rattle.hex_text.proofs.DumpRows.{dump_text-none, dump_text-next, dump_text-front, whole-rows, whole-pieces}
use Rattle.hex_text.specs.DumpRow.{dump_text}
use Rattle.layer_base.specs.AddressSpace.{bytes_from}
use Rattle.space_memory.specs.InSpace.{in_space}
use Rattle.space_memory.proofs.Writers.{HasWritten-none, HasWritten-more, HasWritten-cut}
use Rattle.session.specs.Command.{read_text}
use Rattle.session.specs.declared.read.TheConstants.{PIECE}
use Rattle.session.proofs.read.write_read.Goals as goal

pub loop-done-init : goal.loop-done-init
loop-done-init g c =
    let at = c.args.place.at in
    let space = c.args.place.space in
    record {
      so_far = HasWritten-none g.O.Sink.written g.O.Sink.faults c.args.out.now c.args.memory.now (λ memory. read_text memory 0 c.args.place) (λ memory. ap (dump_text at) (bytes_from-none (in_space memory space) at) ∙ dump_text-none at);
      whole = inl (0, refl);
      within = omega arith;
    }

pub loop-done-preserved : goal.loop-done-preserved
loop-done-preserved g c =
    let at = c.args.place.at in
    let space = c.args.place.space in
    let done = c.loop-done.done in
    let n = c.min-n.result in
    let rows = whole-rows done c.args.len c.loop-done.invariant.whole c.loop-done-test.true in
    record {
      so_far = HasWritten-more g.O.Sink.written g.O.Sink.faults c.args.out.now c.args.memory.now c.loop-done.out c.write.new.out c.loop-done.memory c.write.new.memory _ _
          (λ memory. read_text memory done c.args.place) (λ memory. read_text memory n (record { space = space; at = at + done })) (λ memory. read_text memory (done + n) c.args.place)
          c.loop-done.invariant.so_far _ (λ memory. dump_text-next (in_space memory space) at rows.0 done n rows.1) c.in_ok-write.ensures.writes;
      whole = whole-pieces rows.0 done n c.args.len (PIECE / 16) rows.1 c.min-n.ensures c.loop-done-test.true;
      within = omega arith;
    }

pub returns-in_err-write : goal.returns-in_err-write
returns-in_err-write g c =
    let at = c.args.place.at in
    let space = c.args.place.space in
    let len = c.args.len in
    let done = c.loop-done.done in
    let n = c.min-n.result in
    let rows = whole-rows done len c.loop-done.invariant.whole c.loop-done-test.true in
    record {
      writes = HasWritten-cut g.O.Sink.written g.O.Sink.faults c.args.out.now c.args.memory.now c.loop-done.out c.write.new.out c.loop-done.memory c.write.new.memory _ _
          (λ memory. read_text memory done c.args.place) (λ memory. read_text memory n (record { space = space; at = at + done })) (λ memory. read_text memory len c.args.place)
          c.loop-done.invariant.so_far c.in_err-write.field-0.0 c.from_residual.result c.from_residual.ensures.1
          (λ memory.
          let bytes = in_space memory space in
          subst (StartsWith (dump_text at (bytes_from bytes at len))) (dump_text-next bytes at rows.0 done n rows.1) (
          dump_text-front bytes at (done + n) len (whole-pieces rows.0 done n len (PIECE / 16) rows.1 c.min-n.ensures c.loop-done-test.true) (omega arith)
          ))
          c.in_err-write.ensures.writes;
    }
