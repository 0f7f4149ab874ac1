use Rattle.std.proofs.Common.{◌≡◌, Ok, Err, refl}
use Rattle.std.specs.Prelude.{IfSome}
use Rattle.layer_base.specs.Known.{Writes}
use Rattle.session.specs.Line.{line_said}
use Rattle.session.specs.Ran.{RanOver}
use Rattle.session.specs.Run.{image_refused, stack_run, evidence_of}
use Rattle.session.specs.Stack.{TriesAs, refusal_text, stack_of}
use Rattle.session.specs.Status.{status_after_line}
use Rattle.session.specs.declared.status.Status.TheVariants.{ImageRefused, ImageFault, Memory}
use Rattle.session.proofs.Refusals.{line-ended, none-ran}
use Rattle.session.proofs.Attached.{ran-attached}
use Rattle.session.proofs.Told.{WhereTold-each, WhereTold-image}
use Rattle.session.proofs.ended.run_image.Goals as goal

pub returns-in-Err-Device-clause-ran : goal.returns-in-Err-Device-clause-ran
returns-in-Err-Device-clause-ran g c =
    WhereTold-each (g.Y.Layer.view c.args.image) (g.J.Source.left c.args.symbols.now) (g.S.Source.left c.args.script.now)
    (λ symbols left before j s. RanOver (line_said c.args.setup.has_dump (evidence_of c.args.formats.now before j)) (stack_run c.args.setup.has_dump (stack_of c.args.formats.now before) j s) s left (g.O.Sink.written c.args.out.now) (g.O.Sink.written c.args.out.now) (g.D.Sink.written c.args.dump.now) (g.D.Sink.written c.args.dump.now) ImageFault)
    (λ before j s. none-ran _ _ s (g.O.Sink.written c.args.out.now) (g.D.Sink.written c.args.dump.now) ImageFault (λ answer. answer))

pub returns-in-Err-Memory-clause-ran : goal.returns-in-Err-Memory-clause-ran
returns-in-Err-Memory-clause-ran g c =
    WhereTold-each (g.Y.Layer.view c.args.image) (g.J.Source.left c.args.symbols.now) (g.S.Source.left c.args.script.now)
    (λ symbols left before j s. RanOver (line_said c.args.setup.has_dump (evidence_of c.args.formats.now before j)) (stack_run c.args.setup.has_dump (stack_of c.args.formats.now before) j s) s left (g.O.Sink.written c.args.out.now) (g.O.Sink.written c.args.out.now) (g.D.Sink.written c.args.dump.now) (g.D.Sink.written c.args.dump.now) Memory)
    (λ before j s. none-ran _ _ s (g.O.Sink.written c.args.out.now) (g.D.Sink.written c.args.dump.now) Memory (λ answer. answer))

pub returns-in-Err-Refused-clause-ran : goal.returns-in-Err-Refused-clause-ran
returns-in-Err-Refused-clause-ran g c =
    let formats = c.args.formats.now in
    let refusal = c.in-Err-Refused.refusal in
    let stack : IfSome (g.Y.Layer.view c.args.image) (λ before. stack_of formats before ≡ Err refusal) = rw c.in-Err-Refused.field-0-is at c.in-Err-Refused.ensures.stack in
    let text : Writes (g.O.Sink.written c.args.out.now) (g.O.Sink.written c.write_refusal-refused.new.out) c.write_refusal-refused.result (refusal_text refusal) = rw c.in-Err-Refused.field-0-is at c.write_refusal-refused.ensures.text in
    rw c.status_after_line.ensures (WhereTold-image (g.Y.Layer.view c.args.image) (g.J.Source.left c.args.symbols.now) (g.S.Source.left c.args.script.now) (λ before. stack_of formats before ≡ Err refusal)
    (λ symbols left before j s. RanOver (line_said c.args.setup.has_dump (evidence_of formats before j)) (stack_run c.args.setup.has_dump (stack_of formats before) j s) s left (g.O.Sink.written c.args.out.now) (g.O.Sink.written c.write_refusal-refused.new.out) (g.D.Sink.written c.args.dump.now) (g.D.Sink.written c.args.dump.now) (status_after_line ImageRefused c.write_refusal-refused.result))
    stack (λ before j s is. rw is (line-ended _ (image_refused refusal) refl refl s _ _ _ c.write_refusal-refused.result text)))

pub returns-in-Ok-clause-ran : goal.returns-in-Ok-clause-ran
returns-in-Ok-clause-ran g c =
    let formats = c.args.formats.now in
    let image = c.attach_formats.new.image in
    let stack : IfSome (g.Y.Layer.view c.args.image) (λ before. TriesAs (stack_of formats before) (g.Y.Layer.view image) (g.Y.Layer.kind image) (Ok tt)) = c.in-Ok.ensures.stack in
    ran-attached c.args.setup.has_dump formats (g.Y.Layer.kind image) (g.J.Source.left c.args.symbols.now) (g.S.Source.left c.args.script.now) (g.S.Source.left c.run_memory.new.script) (g.O.Sink.written c.args.out.now) (g.O.Sink.written c.run_memory.new.out) (g.D.Sink.written c.args.dump.now) (g.D.Sink.written c.run_memory.new.dump) c.run_memory.result.0 (g.Y.Layer.view c.args.image) (g.Y.Layer.view image) stack c.run_memory.ensures.ran
