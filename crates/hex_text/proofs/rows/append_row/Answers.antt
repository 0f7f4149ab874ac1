use Rattle.std.proofs.Common.{append_assoc}
use Rattle.hex_text.proofs.Fronts.{OnErr-front, front-behind}
use Rattle.hex_text.specs.DumpRow.{dump_row}
use Rattle.hex_text.proofs.rows.append_row.Goals as goal

pub returns-in_err-append_cells-clause-err : goal.returns-in_err-append_cells-clause-err
returns-in_err-append_cells-clause-err c =
    OnErr-front c.from_residual-in_err-append_cells.result _ _ (front-behind _ _ _ _ c.in_ok-append_address.ensures.ok (front-behind _ _ _ _ c.in_ok-push.ensures.items c.in_err-append_cells.ensures.err))

pub returns-in_err-append_characters-clause-err : goal.returns-in_err-append_characters-clause-err
returns-in_err-append_characters-clause-err c =
    OnErr-front c.from_residual-in_err-append_characters.result _ _
    (front-behind _ _ _ _ c.in_ok-append_address.ensures.ok
    (front-behind _ _ _ _ c.in_ok-push.ensures.items
    (front-behind _ _ _ _ c.in_ok-append_cells.ensures.ok
    (front-behind _ _ _ _ c.in_ok-extend_from_slice.ensures.items c.in_err-append_characters.ensures.err))))

pub returns-clause-ok : goal.returns-clause-ok
unfolding dump_row
returns-clause-ok c = simp (c.in_ok-push-2.ensures.items, c.in_ok-append_characters.ensures.ok, c.in_ok-extend_from_slice.ensures.items, c.in_ok-append_cells.ensures.ok, c.in_ok-push.ensures.items, c.in_ok-append_address.ensures.ok, append_assoc)
