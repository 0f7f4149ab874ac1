use Rattle.hex_text.proofs.Fronts.{OnErr-front, front-behind}
use Rattle.task_plugins.proofs.cells.append_numbers.Goals as goal

pub returns-in_err-append_optional_number-3-clause-err : goal.returns-in_err-append_optional_number-3-clause-err
returns-in_err-append_optional_number-3-clause-err c =
    OnErr-front c.from_residual-in_err-append_optional_number-3.result _ _ (front-behind _ _ _ _ c.in_ok-append_optional_number.ensures.ok (front-behind _ _ _ _ c.in_ok-push.ensures.items (front-behind _ _ _ _ c.in_ok-append_optional_number-2.ensures.ok (front-behind _ _ _ _ c.in_ok-push-2.ensures.items c.in_err-append_optional_number-3.ensures.err))))
