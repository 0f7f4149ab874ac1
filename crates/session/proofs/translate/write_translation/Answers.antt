use Rattle.std.proofs.Common.{refl}
use Rattle.session.specs.Command.{translate_text}
use Rattle.session.proofs.Dumps.{WritesOver-failed}
use Rattle.session.proofs.translate.write_translation.Goals as goal

pub returns-in_err-to : goal.returns-in_err-to
returns-in_err-to g c = record {
  writes = WritesOver-failed g.O.Sink.written g.O.Sink.faults c.args.out.now c.args.memory.now c.translate.new.self (λ memory. translate_text memory c.args.place) c.from_residual.result
      c.from_residual.ensures.1 c.translate.ensures.memory (c.in_err-to.ensures.cause.rose refl);
}
