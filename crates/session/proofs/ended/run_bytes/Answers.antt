use Rattle.layer_base.specs.View.{physical}
use Rattle.isf_reader.specs.Table.{RefusesAs, table_of}
use Rattle.session.specs.Evidence.{table_in, evidence_in}
use Rattle.session.specs.Line.{line_said}
use Rattle.session.specs.Ran.{RanOver}
use Rattle.session.specs.Run.{table_run}
use Rattle.session.proofs.Refusals.{refused-ran}
use Rattle.session.proofs.Told.{IfSome-always, IfSome-told}
use Rattle.session.proofs.ended.run_bytes.Goals as goal

pub returns-in-Err-clause-ran : goal.returns-in-Err-clause-ran
returns-in-Err-clause-ran g c =
    let wanted = table_of c.args.symbols.items in
    let refuses : RefusesAs wanted c.in-Err.refusal = rw c.deref.ensures.value at c.in-Err.ensures.err in
    IfSome-always (g.Y.Layer.view c.args.image) (λ view.
    IfSome-told (g.S.Source.left c.args.script.now) (λ left bytes. RanOver (line_said c.args.setup.has_dump (evidence_in view (table_in wanted))) (table_run c.args.setup.has_dump (physical view) wanted bytes) bytes left (g.O.Sink.written c.args.out.now) (g.O.Sink.written c.refuse_symbols.new.out) (g.D.Sink.written c.args.dump.now) (g.D.Sink.written c.args.dump.now) c.refuse_symbols.result)
    (IfSome-always (g.S.Source.left c.args.script.now) (λ bytes. refused-ran (line_said c.args.setup.has_dump (evidence_in view (table_in wanted))) c.args.setup.has_dump (physical view) wanted c.in-Err.refusal bytes (g.O.Sink.written c.args.out.now) (g.O.Sink.written c.refuse_symbols.new.out) (g.D.Sink.written c.args.dump.now) c.refuse_symbols.result refuses c.refuse_symbols.ensures.refused)))
