use Rattle.hex_text.proofs.Fronts.{OnErr-front, front-behind}
use Rattle.scan_text.proofs.banner.append_banner.Goals as goal

-- the text, behind the address and a tab
pub returns-in_err-append_text-clause-err : goal.returns-in_err-append_text-clause-err
returns-in_err-append_text-clause-err c =
    OnErr-front c.from_residual-in_err-append_text.result _ _ (front-behind _ _ _ _ c.in_ok-append_address.ensures.ok (front-behind _ _ _ _ c.in_ok-push.ensures.items c.in_err-append_text.ensures.err))
