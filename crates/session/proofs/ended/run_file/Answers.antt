use Rattle.session.specs.Evidence.{evidence_in}
use Rattle.session.specs.Line.{line_said, is_quit}
use Rattle.session.specs.Ran.{RanOver}
use Rattle.session.specs.Script.{script_run}
use Rattle.session.specs.declared.status.Status.TheVariants.{Memory}
use Rattle.session.proofs.Refusals.{none-ran}
use Rattle.session.proofs.Told.{IfSome-always, IfSome-told}
use Rattle.session.proofs.ended.run_file.Goals as goal

pub returns-in-Err-clause-ran : goal.returns-in-Err-clause-ran
returns-in-Err-clause-ran g c =
    IfSome-always (g.Y.Layer.view c.args.image) (λ view.
    IfSome-told (g.S.Source.left c.args.script.now) (λ left bytes. RanOver (line_said c.args.setup.has_dump (evidence_in view c.args.file.table.now)) (script_run (line_said c.args.setup.has_dump (evidence_in view c.args.file.table.now)) is_quit bytes) bytes left (g.O.Sink.written c.args.out.now) (g.O.Sink.written c.args.out.now) (g.D.Sink.written c.args.dump.now) (g.D.Sink.written c.args.dump.now) Memory)
    (IfSome-always (g.S.Source.left c.args.script.now) (λ bytes. none-ran _ _ bytes (g.O.Sink.written c.args.out.now) (g.D.Sink.written c.args.dump.now) Memory (λ answer. answer))))
