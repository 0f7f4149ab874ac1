use Rattle.std.proofs.Common.{sym, ap, ◌∙◌}
use Rattle.std.proofs.lemmas.Option.{IfSome_then}
use Rattle.layer_base.specs.View.{physical}
use Rattle.walk_text.specs.Added.{end_line}
use Rattle.word_table.specs.Table.{table_stop}
use Rattle.file_plugins.specs.Lines.{cells_over}
use Rattle.file_plugins.proofs.Adding.{lines-end}
use Rattle.file_plugins.proofs.lines.FileLinesLines.append_line.Goals as goal

pub returns-in-None-clause-line : goal.returns-in-None-clause-line
returns-in-None-clause-line g c =
    let words = rw c.in-None.is at c.in_ok-slot.ensures.words in
    IfSome_then c.args.memory.now.view words (λ view none.
    lines-end (cells_over (physical view) c.args.self.now) c.args.self.now.slots.table c.args.self.now.slots.index _ none.0
    ∙ ap end_line (sym (c.stop.ensures ∙ ap table_stop c.in_ok-slot.ensures.table)))
