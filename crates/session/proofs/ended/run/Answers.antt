use Rattle.std.proofs.Common.{◌≡◌, ◌⊎◌, map, Some}
use Rattle.std.specs.Prelude.{string_bytes}
use Rattle.std.specs.Io.KnownBytes.{Appends, Consumes}
use Rattle.layer_base.specs.Known.{AppendsPrefix}
use Rattle.session.specs.Causes.{NothingFailed}
use Rattle.session.specs.Headline.{GavePrefix, HasWholeLines}
use Rattle.session.specs.Line.{line_said}
use Rattle.session.specs.Run.{run_of, evidence_of}
use Rattle.session.specs.Said.{text_part, dump_part}
use Rattle.session.specs.Status.{IsAnswer}
use Rattle.session.specs.Words.{name_dump}
use Rattle.session.specs.declared.status.Status.TheVariants.{Memory}
use Rattle.session.proofs.Projections.{part-prefix, part-lines, part-exact, ran-given, ran-exact_script, ended}
use Rattle.session.proofs.Told.{WhereTold-then}
use Rattle.session.proofs.ended.run.Goals as goal

pub returns-clause-text : goal.returns-clause-text
returns-clause-text g c =
    let words = map string_bytes c.args.words.now in
    WhereTold-then _ (g.J.Source.left c.args.symbols.now) (g.S.Source.left c.args.script.now) _
    (λ symbols left view j s. AppendsPrefix (g.O.Sink.written c.args.out.now) (g.O.Sink.written c.run_over-status.new.out) (run_of words c.args.formats.now view j s).text)
    c.run_over-status.ensures.ran (λ view j s ran. part-prefix (text_part (line_said (name_dump words) (evidence_of c.args.formats.now view j))) (run_of words c.args.formats.now view j s).text ran.given (g.O.Sink.written c.args.out.now) (g.O.Sink.written c.run_over-status.new.out) c.run_over-status.result.0 ran.text)

pub returns-clause-dumped : goal.returns-clause-dumped
returns-clause-dumped g c =
    let words = map string_bytes c.args.words.now in
    WhereTold-then _ (g.J.Source.left c.args.symbols.now) (g.S.Source.left c.args.script.now) _
    (λ symbols left view j s. AppendsPrefix (g.D.Sink.written c.args.dump.now) (g.D.Sink.written c.run_over-status.new.dump) (run_of words c.args.formats.now view j s).dumped)
    c.run_over-status.ensures.ran (λ view j s ran. part-prefix (dump_part (line_said (name_dump words) (evidence_of c.args.formats.now view j))) (run_of words c.args.formats.now view j s).dumped ran.given (g.D.Sink.written c.args.dump.now) (g.D.Sink.written c.run_over-status.new.dump) c.run_over-status.result.0 ran.dumped)

pub returns-clause-script_given : goal.returns-clause-script_given
returns-clause-script_given g c =
    let words = map string_bytes c.args.words.now in
    WhereTold-then _ (g.J.Source.left c.args.symbols.now) (g.S.Source.left c.args.script.now) _
    (λ symbols left view j s. GavePrefix left (g.S.Source.left c.run_over-status.new.script) (run_of words c.args.formats.now view j s).script_taken)
    c.run_over-status.ensures.ran (λ view j s ran. ran-given (line_said (name_dump words) (evidence_of c.args.formats.now view j)) (run_of words c.args.formats.now view j s) s (g.S.Source.left c.run_over-status.new.script) (g.O.Sink.written c.args.out.now) (g.O.Sink.written c.run_over-status.new.out) (g.D.Sink.written c.args.dump.now) (g.D.Sink.written c.run_over-status.new.dump) c.run_over-status.result.0 ran)

pub returns-clause-whole_lines : goal.returns-clause-whole_lines
returns-clause-whole_lines g c =
    let words = map string_bytes c.args.words.now in
    WhereTold-then _ (g.J.Source.left c.args.symbols.now) (g.S.Source.left c.args.script.now) _
    (λ symbols left view j s. HasWholeLines (text_part (line_said (name_dump words) (evidence_of c.args.formats.now view j))) left (g.S.Source.left c.run_over-status.new.script) (g.O.Sink.written c.args.out.now) (g.O.Sink.written c.run_over-status.new.out) c.run_over-status.result.0)
    c.run_over-status.ensures.ran (λ view j s ran. part-lines (text_part (line_said (name_dump words) (evidence_of c.args.formats.now view j))) (run_of words c.args.formats.now view j s).text ran.given (g.O.Sink.written c.args.out.now) (g.O.Sink.written c.run_over-status.new.out) c.run_over-status.result.0 ran.text (Some s) (g.S.Source.left c.run_over-status.new.script) ran.consumed)

pub returns-clause-whole_dumps : goal.returns-clause-whole_dumps
returns-clause-whole_dumps g c =
    let words = map string_bytes c.args.words.now in
    WhereTold-then _ (g.J.Source.left c.args.symbols.now) (g.S.Source.left c.args.script.now) _
    (λ symbols left view j s. HasWholeLines (dump_part (line_said (name_dump words) (evidence_of c.args.formats.now view j))) left (g.S.Source.left c.run_over-status.new.script) (g.D.Sink.written c.args.dump.now) (g.D.Sink.written c.run_over-status.new.dump) c.run_over-status.result.0)
    c.run_over-status.ensures.ran (λ view j s ran. part-lines (dump_part (line_said (name_dump words) (evidence_of c.args.formats.now view j))) (run_of words c.args.formats.now view j s).dumped ran.given (g.D.Sink.written c.args.dump.now) (g.D.Sink.written c.run_over-status.new.dump) c.run_over-status.result.0 ran.dumped (Some s) (g.S.Source.left c.run_over-status.new.script) ran.consumed)

pub returns-clause-exact_status : goal.returns-clause-exact_status
returns-clause-exact_status g c =
    let words = map string_bytes c.args.words.now in
    WhereTold-then _ (g.J.Source.left c.args.symbols.now) (g.S.Source.left c.args.script.now) _
    (λ symbols left view j s. IsAnswer c.run_over-status.result.0 → c.run_over-status.result.0 ≡ (run_of words c.args.formats.now view j s).status)
    c.run_over-status.ensures.ran (λ view j s ran. ran.status_is)

pub returns-clause-exact_text : goal.returns-clause-exact_text
returns-clause-exact_text g c =
    let words = map string_bytes c.args.words.now in
    WhereTold-then _ (g.J.Source.left c.args.symbols.now) (g.S.Source.left c.args.script.now) _
    (λ symbols left view j s. IsAnswer c.run_over-status.result.0 → Appends (g.O.Sink.written c.args.out.now) (g.O.Sink.written c.run_over-status.new.out) (run_of words c.args.formats.now view j s).text)
    c.run_over-status.ensures.ran (λ view j s ran. part-exact (text_part (line_said (name_dump words) (evidence_of c.args.formats.now view j))) (run_of words c.args.formats.now view j s).text ran.given (g.O.Sink.written c.args.out.now) (g.O.Sink.written c.run_over-status.new.out) c.run_over-status.result.0 ran.text)

pub returns-clause-exact_dumped : goal.returns-clause-exact_dumped
returns-clause-exact_dumped g c =
    let words = map string_bytes c.args.words.now in
    WhereTold-then _ (g.J.Source.left c.args.symbols.now) (g.S.Source.left c.args.script.now) _
    (λ symbols left view j s. IsAnswer c.run_over-status.result.0 → Appends (g.D.Sink.written c.args.dump.now) (g.D.Sink.written c.run_over-status.new.dump) (run_of words c.args.formats.now view j s).dumped)
    c.run_over-status.ensures.ran (λ view j s ran. part-exact (dump_part (line_said (name_dump words) (evidence_of c.args.formats.now view j))) (run_of words c.args.formats.now view j s).dumped ran.given (g.D.Sink.written c.args.dump.now) (g.D.Sink.written c.run_over-status.new.dump) c.run_over-status.result.0 ran.dumped)

pub returns-clause-exact_script : goal.returns-clause-exact_script
returns-clause-exact_script g c =
    let words = map string_bytes c.args.words.now in
    WhereTold-then _ (g.J.Source.left c.args.symbols.now) (g.S.Source.left c.args.script.now) _
    (λ symbols left view j s. IsAnswer c.run_over-status.result.0 → Consumes left (g.S.Source.left c.run_over-status.new.script) (run_of words c.args.formats.now view j s).script_taken)
    c.run_over-status.ensures.ran (λ view j s ran. ran-exact_script (line_said (name_dump words) (evidence_of c.args.formats.now view j)) (run_of words c.args.formats.now view j s) s (g.S.Source.left c.run_over-status.new.script) (g.O.Sink.written c.args.out.now) (g.O.Sink.written c.run_over-status.new.out) (g.D.Sink.written c.args.dump.now) (g.D.Sink.written c.run_over-status.new.dump) c.run_over-status.result.0 ran)

pub returns-clause-symbols_given : goal.returns-clause-symbols_given
returns-clause-symbols_given g c =
    let words = map string_bytes c.args.words.now in
    WhereTold-then _ (g.J.Source.left c.args.symbols.now) (g.S.Source.left c.args.script.now) _
    (λ symbols left view j s. GavePrefix (g.J.Source.left c.args.symbols.now) (g.J.Source.left c.run_over-status.new.symbols) (run_of words c.args.formats.now view j s).symbols_taken)
    c.run_over-status.ensures.took (λ view j s took. took.front)

pub returns-clause-exact_symbols : goal.returns-clause-exact_symbols
returns-clause-exact_symbols g c =
    let words = map string_bytes c.args.words.now in
    WhereTold-then _ (g.J.Source.left c.args.symbols.now) (g.S.Source.left c.args.script.now) _
    (λ symbols left view j s. IsAnswer c.run_over-status.result.0 → Consumes (g.J.Source.left c.args.symbols.now) (g.J.Source.left c.run_over-status.new.symbols) (run_of words c.args.formats.now view j s).symbols_taken)
    c.run_over-status.ensures.took (λ view j s took. took.whole)

pub returns-clause-complete : goal.returns-clause-complete
returns-clause-complete g c =
    let words = map string_bytes c.args.words.now in
    WhereTold-then _ (g.J.Source.left c.args.symbols.now) (g.S.Source.left c.args.script.now) _
    (λ symbols left view j s. NothingFailed ((g.dyn-1.0.entry c.args.image.vtable).1.faults c.args.image.value) ((g.dyn-1.0.entry c.run_over-status.result.1.vtable).1.faults c.run_over-status.result.1.value) (g.J.Source.faults c.args.symbols.now) (g.J.Source.faults c.run_over-status.new.symbols) (g.S.Source.faults c.args.script.now) (g.S.Source.faults c.run_over-status.new.script) (g.O.Sink.faults c.args.out.now) (g.O.Sink.faults c.run_over-status.new.out) (g.D.Sink.faults c.args.dump.now) (g.D.Sink.faults c.run_over-status.new.dump) → (c.run_over-status.result.0 ≡ (run_of words c.args.formats.now view j s).status) ⊎ (c.run_over-status.result.0 ≡ Memory))
    c.run_over-status.ensures.ran (λ view j s ran. λ nothing.
    let causes = c.run_over-status.ensures.causes in
    ended c.run_over-status.result.0 (run_of words c.args.formats.now view j s).status ran.status_is (λ is. nothing.image_kept (causes.image_cause.rose is)) (λ is. nothing.symbols_kept (c.run_over-status.ensures.symbols.rose is)) (λ is. nothing.script_kept (causes.script_cause.rose is)) (λ is. nothing.out_kept (causes.out_cause.rose is)) (λ is. nothing.dump_kept (causes.dump_cause.rose is)))
