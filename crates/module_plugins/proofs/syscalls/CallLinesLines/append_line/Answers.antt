use Rattle.std.proofs.Common.{sym, ap, ◌∙◌}
use Rattle.std.proofs.lemmas.Option.{IfSome_then}
use Rattle.walk_text.specs.Added.{end_line}
use Rattle.word_table.specs.Table.{table_stop}
use Rattle.module_plugins.specs.Syscalls.{call_row}
use Rattle.module_plugins.proofs.Lines.{rows-next, rows-end}
use Rattle.module_plugins.proofs.syscalls.CallLinesLines.append_line.Goals as goal

pub returns-in_ok-append_call-in-Some-clause-line : goal.returns-in_ok-append_call-in-Some-clause-line
returns-in_ok-append_call-in-Some-clause-line g c =
    let words = rw c.in-Some.is at c.in_ok-slot.ensures.words in
    let given = rw c.in-Some.is at c.in_ok-slot.ensures.index in
    IfSome_then c.args.memory.now.view words (λ view first. rw (c.in_ok-slot.ensures.space, c.in_ok-slot.ensures.table)
    (rows-next (call_row c.args.self.now.ground.table.now c.args.self.now.ground.kernel) (end_line (table_stop c.args.self.now.slots.table)) c.args.self.now.slots.index _ c.in-Some.slot.index c.in-Some.slot.word _ _ c.args.text.now.items _ given.index given.next c.in_ok-append_call-in-Some.ensures.ok (rw c.in_ok-slot.ensures.table at first)))

pub returns-in-None-clause-line : goal.returns-in-None-clause-line
returns-in-None-clause-line g c =
    let words = rw c.in-None.is at c.in_ok-slot.ensures.words in
    IfSome_then c.args.memory.now.view words (λ view none.
    rows-end (call_row c.args.self.now.ground.table.now c.args.self.now.ground.kernel) (end_line (table_stop c.args.self.now.slots.table)) c.args.self.now.slots.index _ none.0
    ∙ ap end_line (sym (c.stop.ensures ∙ ap table_stop c.in_ok-slot.ensures.table)))
