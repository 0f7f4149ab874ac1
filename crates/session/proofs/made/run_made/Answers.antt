use Rattle.std.proofs.Common.{subst, sym}
use Rattle.session.specs.Made.{RanMade}
use Rattle.session.proofs.OverMade.{told-made}
use Rattle.session.proofs.made.run_made.Goals as goal

pub returns-in-Ok-clause-ran : goal.returns-in-Ok-clause-ran
returns-in-Ok-clause-ran g c =
    let run = c.in-Ok.run' in
    let old = g.O.Sink.written c.args.out.now in
    let new = g.O.Sink.written c.write_outcome.new.out in
    subst (RanMade c.args.number old new) (sym c.status_after_line.ensures)
    (told-made c.args.number old new run.status run.text.bytes run.dumped.bytes c.in-Ok.ensures.answer c.in-Ok.ensures.ran c.write_outcome.result c.write_outcome.ensures.line)
