use Rattle.hex_text.proofs.Fronts.{OnErr-front, front-behind}
use Rattle.cell_text.proofs.text.append_quoted.Goals as goal

pub returns-in_err-append_bytes-clause-err : goal.returns-in_err-append_bytes-clause-err
returns-in_err-append_bytes-clause-err c = OnErr-front c.from_residual-in_err-append_bytes.result _ _ (front-behind _ _ _ _ c.in_ok-push.ensures.items c.in_err-append_bytes.ensures.err)
