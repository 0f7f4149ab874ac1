use Rattle.std.proofs.Common.{◌≡◌, ◌+◌, [], ◌∷◌, refl, sym, ◌∙◌, arith}
use Rattle.std.proofs.lemmas.Option.{IfSome_then}
use Rattle.layer_base.specs.View.{View}
use Rattle.session.specs.Evidence.{evidence_in}
use Rattle.std.specs.Io.KnownBytes.{Consumes, IsAtEnd}
use Rattle.session.specs.Line.{line_said, is_quit}
use Rattle.session.specs.Status.{line_result}
use Rattle.session.proofs.Ending.{script-failed, turn-failed, script-ended, script-quit, script-too_long}
use Rattle.session.proofs.LineClips.{line-clips}
use Rattle.session.proofs.AtMost.{gave_more}
use Rattle.space_memory.proofs.Memories.{IsSameMemory-trans}
use Rattle.session.proofs.RunLines.{Writes-line}
use Rattle.session.proofs.Told.{IfSome-three}
use Rattle.session.proofs.Underway.{Underway-next}
use Rattle.session.proofs.script.run_script.Goals as goal

pub returns-in-Err-clause-ran : goal.returns-in-Err-clause-ran
returns-in-Err-clause-ran g c =
    let over = λ (view : View). evidence_in view c.args.desk.now.file.table.now in
    IfSome_then c.args.desk.now.memory.view c.loop.invariant.underway (λ view told.
    IfSome_then (g.S.Source.left c.args.script.now) told (λ bytes underway.
    script-failed (line_said c.args.has_dump (over view)) is_quit (line-clips c.args.has_dump (over view)) bytes _ _ _ _ _ _ c.loop.line c.loop.counter underway (omega arith) c.in-Err.ensures.err))

pub returns-in-Ok-None-clause-ran : goal.returns-in-Ok-None-clause-ran
returns-in-Ok-None-clause-ran g c =
    let over = λ (view : View). evidence_in view c.args.desk.now.file.table.now in
    let none = c.in-Ok-None.field-0-is in
    let taken : Consumes (g.S.Source.left c.loop.script) (g.S.Source.left c.take_byte.new.script) [] = rw none at c.in-Ok-None.ensures.taken in
    let end : IsAtEnd (g.S.Source.left c.take_byte.new.script) = (rw none at c.in-Ok-None.ensures.end) refl in
    let text = rw (c.loop.invariant.file, c.loop.invariant.memory.same_view) at c.run_rest.ensures.text in
    let dumped = rw (c.loop.invariant.file, c.loop.invariant.memory.same_view) at c.run_rest.ensures.dumped in
    rw c.status_after.ensures (IfSome-three c.args.desk.now.memory.view c.loop.invariant.underway text dumped (λ view told printed dumped.
    IfSome_then (g.S.Source.left c.args.script.now) told (λ bytes underway.
    script-ended (line_said c.args.has_dump (over view)) is_quit (line-clips c.args.has_dump (over view)) bytes _ _ _ _ _ _ c.loop.line c.loop.counter underway (g.O.Sink.written c.run_rest.new.out) (g.D.Sink.written c.run_rest.new.dump) c.run_rest.result (omega arith) taken end printed dumped)))

pub returns-in-Err-take_in-clause-ran : goal.returns-in-Err-take_in-clause-ran
returns-in-Err-take_in-clause-ran g c =
    let over = λ (view : View). evidence_in view c.args.desk.now.file.table.now in
    let taken : Consumes (g.S.Source.left c.loop.script) (g.S.Source.left c.take_byte.new.script) (c.in-Ok-Some.byte ∷ []) = rw c.in-Ok-Some.field-0-is at c.in-Ok-Some.ensures.taken in
    let text = rw (c.loop.invariant.file, c.loop.invariant.memory.same_view) at c.in-Err-take_in.ensures.text in
    let dumped = rw (c.loop.invariant.file, c.loop.invariant.memory.same_view) at c.in-Err-take_in.ensures.dumped in
    rw c.status.ensures (IfSome-three c.args.desk.now.memory.view c.loop.invariant.underway text dumped (λ view told printed dumped.
    IfSome_then (g.S.Source.left c.args.script.now) told (λ bytes underway.
    turn-failed (line_said c.args.has_dump (over view)) is_quit (line-clips c.args.has_dump (over view)) bytes _ _ _ _ _ _ c.loop.line c.loop.counter underway c.in-Ok-Some.byte c.in-Err-take_in.fault (g.O.Sink.written c.take_in.new.out) (g.D.Sink.written c.take_in.new.dump) c.loop-test.true taken printed dumped)))

pub loop-preserved : goal.loop-preserved
loop-preserved g c =
    let over = λ (view : View). evidence_in view c.args.desk.now.file.table.now in
    let taken : Consumes (g.S.Source.left c.loop.script) (g.S.Source.left c.take_byte.new.script) (c.in-Ok-Some.byte ∷ []) = rw c.in-Ok-Some.field-0-is at c.in-Ok-Some.ensures.taken in
    let text = rw (c.loop.invariant.file, c.loop.invariant.memory.same_view) at c.in-Ok-NextLine.ensures.text in
    let dumped = rw (c.loop.invariant.file, c.loop.invariant.memory.same_view) at c.in-Ok-NextLine.ensures.dumped in
    record {
      underway = IfSome-three c.args.desk.now.memory.view c.loop.invariant.underway text dumped (λ view told printed dumped.
          IfSome_then (g.S.Source.left c.args.script.now) told (λ bytes underway.
          Underway-next (line_said c.args.has_dump (over view)) is_quit (line-clips c.args.has_dump (over view)) bytes _ _ _ _ _ _ _ _ c.loop.line c.take_in.new.line c.loop.counter c.in-Ok-Some.byte underway taken printed dumped c.in-Ok-NextLine.ensures.line (sym c.in-Ok-NextLine.field-0-is ∙ c.in-Ok-NextLine.ensures.flow)));
      most = gave_more c.loop.counter 1 (c.loop.counter + 1) _ _ _ c.loop.invariant.most c.take_byte.ensures.most (omega arith);
      memory = IsSameMemory-trans _ _ _ c.loop.invariant.memory c.take_in.ensures.memory;
      kept = c.take_in.ensures.kept;
      file = c.take_in.ensures.file ∙ c.loop.invariant.file;
      script = omega (arith, c.loop.invariant.script, c.take_byte.ensures.cause.kept);
      out = omega (arith, c.loop.invariant.out, c.take_in.ensures.out.kept);
      dump = omega (arith, c.loop.invariant.dump, c.take_in.ensures.dump.kept);
    }

pub returns-in-Err-take_byte-clause-ran : goal.returns-in-Err-take_byte-clause-ran
returns-in-Err-take_byte-clause-ran g c =
    let over = λ (view : View). evidence_in view c.args.desk.now.file.table.now in
    IfSome_then c.args.desk.now.memory.view c.loop.invariant.underway (λ view told.
    IfSome_then (g.S.Source.left c.args.script.now) told (λ bytes underway.
    script-failed (line_said c.args.has_dump (over view)) is_quit (line-clips c.args.has_dump (over view)) bytes _ _ _ _ _ _ c.loop.line c.loop.counter underway (omega arith) c.in-Err-take_byte.ensures.err))

pub returns-in-Ok-None-take_byte-clause-ran : goal.returns-in-Ok-None-take_byte-clause-ran
returns-in-Ok-None-take_byte-clause-ran g c =
    let over = λ (view : View). evidence_in view c.args.desk.now.file.table.now in
    let none = c.in-Ok-None-take_byte.field-0-is in
    let taken : Consumes (g.S.Source.left c.loop.script) (g.S.Source.left c.take_byte-2.new.script) [] = rw none at c.in-Ok-None-take_byte.ensures.taken in
    let end : IsAtEnd (g.S.Source.left c.take_byte-2.new.script) = (rw none at c.in-Ok-None-take_byte.ensures.end) refl in
    let rest = c.run_rest-in-Ok-None-take_byte in
    let text = rw (c.loop.invariant.file, c.loop.invariant.memory.same_view) at rest.ensures.text in
    let dumped = rw (c.loop.invariant.file, c.loop.invariant.memory.same_view) at rest.ensures.dumped in
    rw c.status_after-in-Ok-None-take_byte.ensures (IfSome-three c.args.desk.now.memory.view c.loop.invariant.underway text dumped (λ view told printed dumped.
    IfSome_then (g.S.Source.left c.args.script.now) told (λ bytes underway.
    script-ended (line_said c.args.has_dump (over view)) is_quit (line-clips c.args.has_dump (over view)) bytes _ _ _ _ _ _ c.loop.line c.loop.counter underway (g.O.Sink.written rest.new.out) (g.D.Sink.written rest.new.dump) rest.result (omega arith) taken end printed dumped)))

pub returns-in-Ok-Some-take_byte-clause-ran : goal.returns-in-Ok-Some-take_byte-clause-ran
returns-in-Ok-Some-take_byte-clause-ran g c =
    let over = λ (view : View). evidence_in view c.args.desk.now.file.table.now in
    let byte = c.in-Ok-Some-take_byte.field-0-0 in
    let taken : Consumes (g.S.Source.left c.loop.script) (g.S.Source.left c.take_byte-2.new.script) (byte ∷ []) = rw c.in-Ok-Some-take_byte.field-0-is at c.in-Ok-Some-take_byte.ensures.taken in
    let most : c.loop.counter ≡ 16777216 = omega arith in
    rw c.status_after_line.ensures (IfSome_then c.args.desk.now.memory.view c.loop.invariant.underway (λ view told.
    IfSome_then (g.S.Source.left c.args.script.now) told (λ bytes underway.
    script-too_long (line_said c.args.has_dump (over view)) is_quit (line-clips c.args.has_dump (over view)) bytes _ _ _ _ _ _ c.loop.line c.loop.counter underway byte (g.O.Sink.written c.write_whole.new.out) (line_result c.write_whole.result) most taken (Writes-line _ _ c.write_whole.result _ c.write_whole.ensures.bytes))))

pub returns-in-Ok-Quit-clause-ran : goal.returns-in-Ok-Quit-clause-ran
returns-in-Ok-Quit-clause-ran g c =
    let over = λ (view : View). evidence_in view c.args.desk.now.file.table.now in
    let taken : Consumes (g.S.Source.left c.loop.script) (g.S.Source.left c.take_byte.new.script) (c.in-Ok-Some.byte ∷ []) = rw c.in-Ok-Some.field-0-is at c.in-Ok-Some.ensures.taken in
    let text = rw (c.loop.invariant.file, c.loop.invariant.memory.same_view) at c.in-Ok-Quit.ensures.text in
    let dumped = rw (c.loop.invariant.file, c.loop.invariant.memory.same_view) at c.in-Ok-Quit.ensures.dumped in
    IfSome-three c.args.desk.now.memory.view c.loop.invariant.underway text dumped (λ view told printed dumped.
    IfSome_then (g.S.Source.left c.args.script.now) told (λ bytes underway.
    script-quit (line_said c.args.has_dump (over view)) is_quit (line-clips c.args.has_dump (over view)) bytes _ _ _ _ _ _ c.loop.line c.loop.counter underway c.in-Ok-Some.byte (g.O.Sink.written c.take_in.new.out) (g.D.Sink.written c.take_in.new.dump) c.loop-test.true taken printed dumped (sym c.in-Ok-Quit.field-0-is ∙ c.in-Ok-Quit.ensures.flow)))
