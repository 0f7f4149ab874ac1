use Rattle.std.proofs.Common.{[], ◌∷◌, ◌++◌, None, sym, ◌∙◌}
use Rattle.std.proofs.lemmas.List.{map_more}
use Rattle.tree_order.specs.Parents.{parent_by}
use Rattle.tree_order.specs.declared.key.Key.{Key}
use Rattle.tree_order.proofs.parents.parents.Goals as goal

pub loop-key-preserved : goal.loop-key-preserved
loop-key-preserved c =
    let named = c.parent_by.ensures c.args.keys.now c.in_ok-rows.ensures in
    c.in_ok-push.ensures.items
    ∙ (λ i. c.loop-key.invariant i ++ named i ∷ [])
    ∙ sym (map_more (λ (key : Key). parent_by c.args.keys.now key.ppid) c.args.keys.now c.loop-key.key-index (record { pid = None; ppid = None }) c.loop-key-test.true)
