use Rattle.hex_text.proofs.Fronts.{OnErr-behind}
use Rattle.map_plugins.proofs.row.append_bounds.Goals as goal

pub returns-clause-err : goal.returns-clause-err
returns-clause-err c =
    OnErr-behind c.append_bound-2.result _ _ _ _ c.in_ok-append_bound.ensures.ok (OnErr-behind c.append_bound-2.result _ _ _ _ c.in_ok-push.ensures.items c.append_bound-2.ensures.err)
