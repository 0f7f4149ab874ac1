use Rattle.std.proofs.Common.{ℕ, List, ◌++◌, Some, refl, sym, ap, ◌∙◌, arith}
use Rattle.std.specs.Prelude.{decimal}
use Rattle.std.proofs.lemmas.Option.{IfSome_then}
use Rattle.layer_base.proofs.Told.{IfSome-always}
use Rattle.layer_base.specs.View.{physical}
use Rattle.space_memory.specs.InSpace.{in_space}
use Rattle.word_table.specs.Kept.{words_left}
use Rattle.file_plugins.specs.Lines.{cells_over, rest_from}
use Rattle.file_plugins.specs.Rows.{lines_from, lines_left}
use Rattle.file_plugins.proofs.Adding.{lines-next, lines-zero}
use Rattle.file_plugins.proofs.lines.FileLines.append_word.Goals as goal

pub returns-clause-lines : goal.returns-clause-lines
returns-clause-lines g c =
    IfSome_then c.args.memory.now.view c.in_ok-make_cells.ensures.cells (λ view made.
    let cells = cells_over (physical view) c.args.self.now in
    ap (λ space. c.append_same.new.text.items ++ lines_left cells (in_space (physical view) space) c.append_same.new.slots) c.append_same.ensures.space
    ∙ c.in_ok-append_same.ensures.lines cells (in_space (physical view) c.args.self.now.slots.space) (sym (c.deref-2.ensures.value ∙ made))
    ∙ lines-next cells c.args.self.now.slots.table c.args.self.now.slots.table c.args.descriptor c.args.self.now.slots.index c.args.file _ _ c.args.text.now.items c.append_row.new.text.items (omega (arith, c.if-file-eq0.false)) refl c.requires.next refl (c.in_ok-append_row.ensures.ok ∙ ap (λ (l : List ℕ). c.args.text.now.items ++ (decimal c.args.descriptor ++ l)) (c.deref.ensures.value ∙ made)))

pub returns-then-file-eq0-clause-lines : goal.returns-then-file-eq0-clause-lines
returns-then-file-eq0-clause-lines g c =
    IfSome-always c.args.memory.now.view (λ view.
    let cells = cells_over (physical view) c.args.self.now in
    let table = c.args.self.now.slots.table in
    let words = words_left (in_space (physical view) c.args.self.now.slots.space) c.args.self.now.slots in
    ap (λ (l : List ℕ). c.args.text.now.items ++ l) (
    ap (λ n. lines_from cells table n words) c.requires.next
    ∙ sym (ap (λ file. rest_from (physical view) c.args.self.now c.args.descriptor (Some file)) c.if-file-eq0.true ∙ lines-zero cells table c.args.descriptor words)))
