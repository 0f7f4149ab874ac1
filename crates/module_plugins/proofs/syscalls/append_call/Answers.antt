use Rattle.hex_text.proofs.Fronts.{OnErr-front, front-behind}
use Rattle.module_plugins.proofs.syscalls.append_call.Goals as goal

pub returns-in_err-append_handler_name-clause-err : goal.returns-in_err-append_handler_name-clause-err
returns-in_err-append_handler_name-clause-err c =
    OnErr-front c.from_residual-in_err-append_handler_name.result _ _ (front-behind _ _ _ _ c.in_ok-append_number.ensures.ok (front-behind _ _ _ _ c.in_ok-push.ensures.items (front-behind _ _ _ _ c.in_ok-append_optional_address.ensures.ok (front-behind _ _ _ _ c.in_ok-push-2.ensures.items c.in_err-append_handler_name.ensures.err))))
