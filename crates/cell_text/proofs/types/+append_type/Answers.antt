use Rattle.hex_text.proofs.Fronts.{OnErr-behind}
use Rattle.cell_text.proofs.types.+append_type.Goals as goal

-- the length of a bit field, behind its type and its position
pub returns-in_ok-push-in-Bits-2-clause-err : goal.returns-in_ok-push-in-Bits-2-clause-err
returns-in_ok-push-in-Bits-2-clause-err t c =
    OnErr-behind c.append_number-in-Bits-2.result _ _ _ _ c.in_ok-append_type-in-Bits.ensures.ok
    (OnErr-behind c.append_number-in-Bits-2.result _ _ _ _ c.in_ok-push-in-Bits.ensures.items
    (OnErr-behind c.append_number-in-Bits-2.result _ _ _ _ c.in_ok-append_number-in-Bits.ensures.ok
    (OnErr-behind c.append_number-in-Bits-2.result _ _ _ _ c.in_ok-push-in-Bits-2.ensures.items c.append_number-in-Bits-2.ensures.err)))
