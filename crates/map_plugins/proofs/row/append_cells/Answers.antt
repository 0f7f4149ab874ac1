use Rattle.std.proofs.Common.{codes}
use Rattle.hex_text.proofs.Fronts.{OnErr-front, OnErr-behind, front-behind}
use Rattle.cell_text.specs.OptionalCell.{optional_number_cell}
use Rattle.map_plugins.specs.Flags.{flags_cell}
use Rattle.map_plugins.specs.Row.{bound_cells}
use Rattle.map_plugins.proofs.Joined.{OnOk-then, five-joined}
use Rattle.map_plugins.proofs.row.append_cells.Goals as goal

pub returns-in_err-append_flags-clause-err : goal.returns-in_err-append_flags-clause-err
returns-in_err-append_flags-clause-err c =
    OnErr-front c.from_residual-in_err-append_flags.result _ _ (front-behind _ _ _ _ c.in_ok-append_bounds.ensures.ok (front-behind _ _ _ _ c.in_ok-push.ensures.items c.in_err-append_flags.ensures.err))

pub returns-clause-ok : goal.returns-clause-ok
returns-clause-ok c =
    let area = c.args.area in
    OnOk-then c.append_optional_number.result c.append_optional_number.ensures.ok (λ added.
    five-joined c.args.text.now.items _ _ _ _ _ (bound_cells area) (codes "\t") (flags_cell area.flags) (codes "\t") (optional_number_cell area.pgoff)
    c.in_ok-append_bounds.ensures.ok c.in_ok-push.ensures.items c.in_ok-append_flags.ensures.ok c.in_ok-push-2.ensures.items added)

pub returns-clause-err : goal.returns-clause-err
returns-clause-err c =
    let result = c.append_optional_number.result in
    OnErr-behind result _ _ _ _ c.in_ok-append_bounds.ensures.ok (OnErr-behind result _ _ _ _ c.in_ok-push.ensures.items (OnErr-behind result _ _ _ _ c.in_ok-append_flags.ensures.ok (OnErr-behind result _ _ _ _ c.in_ok-push-2.ensures.items c.append_optional_number.ensures.err)))
