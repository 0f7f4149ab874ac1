use Rattle.std.proofs.Common.{◌≡◌, map, Some, Err, refl, sym, ap, subst, inl, arith}
use Rattle.std.specs.Prelude.{string_bytes}
use Rattle.layer_base.specs.View.{View}
use Rattle.layer_base.specs.declared.layer.Kind.TheVariants.{File}
use Rattle.session.specs.Line.{line_said}
use Rattle.session.specs.Ran.{RanOver, Took}
use Rattle.session.specs.Run.{refused, run_of, evidence_of}
use Rattle.session.specs.Stack.{Shown, LeavesLayer}
use Rattle.session.specs.Status.{IsAnswer, status_after_line}
use Rattle.session.specs.Words.{name_dump}
use Rattle.session.specs.declared.status.Status.TheVariants.{Usage, Memory}
use Rattle.session.proofs.Refusals.{run_of-accepted, run_of-refused, shown_of-accepted, shown_of-refused, name_dump-accepted, line-ended, none-ran, Took-none}
use Rattle.session.proofs.Told.{IfSome-always, IfSome-told, WhereTold-each, WhereTold-then}
use Rattle.session.proofs.ended.run_over.Goals as goal

pub returns-in-Err-Usage-clause-ran : goal.returns-in-Err-Usage-clause-ran
returns-in-Err-Usage-clause-ran g c =
    let words = map string_bytes c.args.words.now in
    let formats = c.args.formats.now in
    let not_accepted = c.in-Err-Usage.ensures.usage (ap Err c.in-Err-Usage.field-0-is) in
    rw c.status_after_line.ensures (WhereTold-each (g.Y.Layer.view c.args.image) (g.J.Source.left c.args.symbols.now) (g.S.Source.left c.args.script.now)
    (λ symbols left before j s. RanOver (line_said (name_dump words) (evidence_of formats before j)) (run_of words formats before j s) s left (g.O.Sink.written c.args.out.now) (g.O.Sink.written c.write_whole-written.new.out) (g.D.Sink.written c.args.dump.now) (g.D.Sink.written c.args.dump.now) (status_after_line Usage c.write_whole-written.result))
    (λ before j s. rw (run_of-refused words formats not_accepted before j s) (line-ended (line_said (name_dump words) (evidence_of formats before j)) refused refl refl s _ _ _ c.write_whole-written.result c.write_whole-written.ensures.bytes)))

pub returns-in-Err-Usage-clause-took : goal.returns-in-Err-Usage-clause-took
returns-in-Err-Usage-clause-took g c =
    let words = map string_bytes c.args.words.now in
    let formats = c.args.formats.now in
    let left = g.J.Source.left c.args.symbols.now in
    let not_accepted = c.in-Err-Usage.ensures.usage (ap Err c.in-Err-Usage.field-0-is) in
    rw c.status_after_line.ensures (WhereTold-each (g.Y.Layer.view c.args.image) left (g.S.Source.left c.args.script.now)
    (λ symbols script before j s. Took (run_of words formats before j s).symbols_taken left left (status_after_line Usage c.write_whole-written.result))
    (λ before j s. rw (run_of-refused words formats not_accepted before j s) (Took-none left (status_after_line Usage c.write_whole-written.result))))

pub returns-in-Err-Memory-clause-ran : goal.returns-in-Err-Memory-clause-ran
returns-in-Err-Memory-clause-ran g c =
    let words = map string_bytes c.args.words.now in
    let formats = c.args.formats.now in
    WhereTold-each (g.Y.Layer.view c.args.image) (g.J.Source.left c.args.symbols.now) (g.S.Source.left c.args.script.now)
    (λ symbols left before j s. RanOver (line_said (name_dump words) (evidence_of formats before j)) (run_of words formats before j s) s left (g.O.Sink.written c.args.out.now) (g.O.Sink.written c.args.out.now) (g.D.Sink.written c.args.dump.now) (g.D.Sink.written c.args.dump.now) Memory)
    (λ before j s. none-ran _ _ s (g.O.Sink.written c.args.out.now) (g.D.Sink.written c.args.dump.now) Memory (λ answer. answer))

pub returns-in-Ok-clause-ran : goal.returns-in-Ok-clause-ran
returns-in-Ok-clause-ran g c =
    let words = map string_bytes c.args.words.now in
    let formats = c.args.formats.now in
    let accepted = c.in-Ok.ensures.value in
    let dump = name_dump-accepted words formats c.in-Ok.settings accepted in
    WhereTold-then (g.Y.Layer.view c.args.image) (g.J.Source.left c.args.symbols.now) (g.S.Source.left c.args.script.now) _
    (λ symbols left before j s. RanOver (line_said (name_dump words) (evidence_of formats before j)) (run_of words formats before j s) s (g.S.Source.left c.run_image.new.script) (g.O.Sink.written c.args.out.now) (g.O.Sink.written c.run_image.new.out) (g.D.Sink.written c.args.dump.now) (g.D.Sink.written c.run_image.new.dump) c.run_image.result.0)
    c.run_image.ensures.ran (λ before j s ran. rw (run_of-accepted words formats c.in-Ok.settings accepted before j s, dump) (rw c.of-setup.ensures at ran))

pub returns-in-Ok-clause-took : goal.returns-in-Ok-clause-took
returns-in-Ok-clause-took g c =
    let words = map string_bytes c.args.words.now in
    let formats = c.args.formats.now in
    WhereTold-then (g.Y.Layer.view c.args.image) (g.J.Source.left c.args.symbols.now) (g.S.Source.left c.args.script.now) _
    (λ symbols left before j s. Took (run_of words formats before j s).symbols_taken (g.J.Source.left c.args.symbols.now) (g.J.Source.left c.run_image.new.symbols) c.run_image.result.0)
    c.run_image.ensures.took (λ before j s took. rw (run_of-accepted words formats c.in-Ok.settings c.in-Ok.ensures.value before j s) (rw c.of-setup.ensures at took))

pub returns-in-Ok-clause-layer : goal.returns-in-Ok-clause-layer
returns-in-Ok-clause-layer g c =
    let words = map string_bytes c.args.words.now in
    let formats = c.args.formats.now in
    let LeavesAs : (View → Shown) → Type 0 = λ wanted. LeavesLayer g.Y.Layer.view g.Y.Layer.kind g.Y.Layer.calls formats wanted c.args.image c.run_image.result.1 c.run_image.result.0 in
    subst LeavesAs (sym (shown_of-accepted words formats c.in-Ok.settings c.in-Ok.ensures.value)) c.run_image.ensures.layer

pub returns-in-Err-Usage-clause-layer : goal.returns-in-Err-Usage-clause-layer
returns-in-Err-Usage-clause-layer g c =
    let words = map string_bytes c.args.words.now in
    let formats = c.args.formats.now in
    let image = c.args.image in
    let end = c.status_after_line.result in
    let LeavesAs : (View → Shown) → Type 0 = λ wanted. LeavesLayer g.Y.Layer.view g.Y.Layer.kind g.Y.Layer.calls formats wanted image image end in
    subst LeavesAs (sym (shown_of-refused words formats (c.in-Err-Usage.ensures.usage (ap Err c.in-Err-Usage.field-0-is)))) (record {
      shown = inl (refl, refl);
      exact = IfSome-told (g.Y.Layer.view image) (λ told before. IsAnswer end → (told ≡ Some before) × (g.Y.Layer.kind image ≡ File)) (IfSome-always (g.Y.Layer.view image) (λ before answer. (refl, c.requires.file)));
      no_less_calls = omega arith;
    })
