use Rattle.std.proofs.Common.{sym, ap, ◌∙◌}
use Rattle.layer_base.proofs.Told.{IfSome-always}
use Rattle.layer_base.specs.View.{physical}
use Rattle.kernel_records.specs.declared.stop.Stop.TheVariants.{Unreadable}
use Rattle.space_memory.specs.InSpace.{in_space}
use Rattle.walk_text.specs.Added.{end_line}
use Rattle.word_table.specs.Kept.{words_left}
use Rattle.file_plugins.specs.Lines.{cells_over, rest_from}
use Rattle.file_plugins.proofs.Adding.{lines-absent}
use Rattle.file_plugins.proofs.lines.FileLines.append_slot.Goals as goal

pub returns-in-None-clause-line : goal.returns-in-None-clause-line
returns-in-None-clause-line g c =
    IfSome-always c.args.memory.now.view (λ view.
    ap (rest_from (physical view) c.args.self.now c.args.slot.index) c.in-None.is
    ∙ lines-absent (cells_over (physical view) c.args.self.now) c.args.self.now.slots.table c.args.slot.index (words_left (in_space (physical view) c.args.self.now.slots.space) c.args.self.now.slots)
    ∙ ap (λ at. end_line (Unreadable at)) (sym c.requires.at))
