use Rattle.hex_text.proofs.Fronts.{OnErr-front, front-behind}
use Rattle.hex_text.proofs.rows.append_cells.Goals as goal

pub returns-in_err-append_cell-clause-err : goal.returns-in_err-append_cell-clause-err
returns-in_err-append_cell-clause-err c =
    OnErr-front c.from_residual-in_err-append_cell.result _ _ (front-behind _ _ _ _ c.loop-cell.invariant (front-behind _ _ _ _ c.in_ok-push.ensures.items c.in_err-append_cell.ensures.err))
