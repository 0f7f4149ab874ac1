use Rattle.std.proofs.Common.{Some, None, cond, ap, sym, ◌∙◌, get_or}
use Rattle.std.specs.Option.{option_or}
use Rattle.tree_order.specs.Parents.{is_whole}
use Rattle.tree_order.proofs.Keys.{row_of-more}
use Rattle.tree_order.proofs.parents.first_rows.Goals as goal

pub loop-row-preserved : goal.loop-row-preserved
loop-row-preserved c = λ pid.
    c.in_ok-note_row.ensures pid
    ∙ ap (λ o. option_or o (cond (is_whole pid (get_or c.args.keys.now c.loop-row.row (record { pid = None; ppid = None })).pid) (Some c.loop-row.row) None)) (c.loop-row.invariant pid)
    ∙ sym (row_of-more c.args.keys.now c.loop-row.row (record { pid = None; ppid = None }) pid c.loop-row-test.true)
