use Rattle.hex_text.proofs.Fronts.{OnErr-front, front-behind}
use Rattle.cell_text.proofs.value.append_digits.Goals as goal

pub returns-in_err-append_hex-clause-err : goal.returns-in_err-append_hex-clause-err
returns-in_err-append_hex-clause-err c = OnErr-front c.from_residual.result _ _ (front-behind _ _ _ _ c.loop-byte.invariant c.in_err-append_hex.ensures.err)
