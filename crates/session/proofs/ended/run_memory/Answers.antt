use Rattle.std.proofs.Common.{◌≡◌, ◌∙◌, ap, subst}
use Rattle.layer_base.specs.View.{physical}
use Rattle.isf_reader.specs.Table.{table_of}
use Rattle.session.specs.Evidence.{table_in, evidence_in, evidence_over}
use Rattle.session.specs.Line.{line_said}
use Rattle.session.specs.Ran.{RanOver}
use Rattle.session.specs.Run.{table_run, memory_run}
use Rattle.session.specs.SymbolFile.{symbols_taken}
use Rattle.session.specs.declared.status.Status.TheVariants.{SymbolsFault, Memory}
use Rattle.session.proofs.Refusals.{none-ran}
use Rattle.session.proofs.SymbolRuns.{ran-behind, table_run-taken, table_in-taken}
use Rattle.session.proofs.Told.{WhereTold-each, WhereTold-from}
use Rattle.session.proofs.ended.run_memory.Goals as goal

pub returns-in-Err-Failed-clause-ran : goal.returns-in-Err-Failed-clause-ran
returns-in-Err-Failed-clause-ran g c =
    WhereTold-each (g.Y.Layer.view c.args.image) (g.J.Source.left c.args.symbols.now) (g.S.Source.left c.args.script.now)
    (λ symbols left view j s. RanOver (line_said c.args.setup.has_dump (evidence_over (physical view) j)) (memory_run c.args.setup.has_dump (physical view) j s) s left (g.O.Sink.written c.args.out.now) (g.O.Sink.written c.args.out.now) (g.D.Sink.written c.args.dump.now) (g.D.Sink.written c.args.dump.now) SymbolsFault)
    (λ view j s. none-ran _ _ s (g.O.Sink.written c.args.out.now) (g.D.Sink.written c.args.dump.now) SymbolsFault (λ answer. answer))

pub returns-in-Err-Memory-clause-ran : goal.returns-in-Err-Memory-clause-ran
returns-in-Err-Memory-clause-ran g c =
    WhereTold-each (g.Y.Layer.view c.args.image) (g.J.Source.left c.args.symbols.now) (g.S.Source.left c.args.script.now)
    (λ symbols left view j s. RanOver (line_said c.args.setup.has_dump (evidence_over (physical view) j)) (memory_run c.args.setup.has_dump (physical view) j s) s left (g.O.Sink.written c.args.out.now) (g.O.Sink.written c.args.out.now) (g.D.Sink.written c.args.dump.now) (g.D.Sink.written c.args.dump.now) Memory)
    (λ view j s. none-ran _ _ s (g.O.Sink.written c.args.out.now) (g.D.Sink.written c.args.dump.now) Memory (λ answer. answer))

pub returns-in-Ok-clause-ran : goal.returns-in-Ok-clause-ran
returns-in-Ok-clause-ran g c =
    let bytes = c.in-Ok.bytes.items in
    let end = c.run_bytes.result.0 in
    let out = g.O.Sink.written c.args.out.now in
    let out' = g.O.Sink.written c.run_bytes.new.out in
    let dump = g.D.Sink.written c.args.dump.now in
    let dump' = g.D.Sink.written c.run_bytes.new.dump in
    let left' = g.S.Source.left c.run_bytes.new.script in
    WhereTold-from (g.Y.Layer.view c.args.image) (g.J.Source.left c.args.symbols.now) (g.S.Source.left c.args.script.now) (λ j. bytes ≡ symbols_taken j)
    (λ view s. RanOver (line_said c.args.setup.has_dump (evidence_in view (table_in (table_of bytes)))) (table_run c.args.setup.has_dump (physical view) (table_of bytes) s) s left' out out' dump dump' end)
    (λ symbols left view j s. RanOver (line_said c.args.setup.has_dump (evidence_over (physical view) j)) (memory_run c.args.setup.has_dump (physical view) j s) s left' out out' dump dump' end)
    c.in-Ok.ensures.bytes c.run_bytes.ensures.ran (λ view j s same ran.
    ran-behind j (line_said c.args.setup.has_dump (evidence_over (physical view) j)) (table_run c.args.setup.has_dump (physical view) (table_of j) s) s left' out out' dump dump' end (
    subst (λ outcome. RanOver (line_said c.args.setup.has_dump (evidence_over (physical view) j)) outcome s left' out out' dump dump' end) (ap (λ l. table_run c.args.setup.has_dump (physical view) (table_of l) s) same ∙ table_run-taken c.args.setup.has_dump (physical view) j s) (
    subst (λ table. RanOver (line_said c.args.setup.has_dump (evidence_in view table)) (table_run c.args.setup.has_dump (physical view) (table_of bytes) s) s left' out out' dump dump' end) (ap (λ l. table_in (table_of l)) same ∙ table_in-taken j) ran
    )
    ))
