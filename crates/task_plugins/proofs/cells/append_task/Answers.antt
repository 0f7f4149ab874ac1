use Rattle.std.proofs.Common.{◌++◌, ap, ◌∙◌, codes}
use Rattle.hex_text.specs.DumpRow.{address_cell}
use Rattle.hex_text.proofs.Fronts.{OnErr-front, front-behind}
use Rattle.cell_text.specs.OptionalCell.{optional_text_cell}
use Rattle.task_plugins.specs.Pslist.{number_cells, task_row}
use Rattle.task_plugins.proofs.Joined.{six-joined}
use Rattle.task_plugins.proofs.cells.append_task.Goals as goal

pub returns-in_err-append_numbers-clause-err : goal.returns-in_err-append_numbers-clause-err
returns-in_err-append_numbers-clause-err c =
    OnErr-front c.from_residual-in_err-append_numbers.result _ _ (front-behind _ _ _ _ c.in_ok-append_address.ensures.ok (front-behind _ _ _ _ c.in_ok-push.ensures.items c.in_err-append_numbers.ensures.err))

pub returns-in_err-append_optional_text-clause-err : goal.returns-in_err-append_optional_text-clause-err
returns-in_err-append_optional_text-clause-err c =
    OnErr-front c.from_residual-in_err-append_optional_text.result _ _ (front-behind _ _ _ _ c.in_ok-append_address.ensures.ok (front-behind _ _ _ _ c.in_ok-push.ensures.items (front-behind _ _ _ _ c.in_ok-append_numbers.ensures.ok (front-behind _ _ _ _ c.in_ok-push-2.ensures.items c.in_err-append_optional_text.ensures.err))))

pub returns-clause-ok : goal.returns-clause-ok
unfolding task_row
returns-clause-ok c =
    six-joined c.args.text.now.items _ _ _ _ _ _ (address_cell c.args.task.now.at) (codes "\t") (number_cells c.args.task.now) (codes "\t") (optional_text_cell c.args.task.now.comm) (codes "\n")
    c.in_ok-append_address.ensures.ok c.in_ok-push.ensures.items c.in_ok-append_numbers.ensures.ok c.in_ok-push-2.ensures.items (c.in_ok-append_optional_text.ensures.ok ∙ ap (λ name. c.push-2.new.self.items ++ optional_text_cell name) c.bytes_of.ensures) c.in_ok-push-3.ensures.items
