use Rattle.std.proofs.Common.{◌∙◌}
use Rattle.isf_reader.proofs.Nesting.{first_round, next_round, nesting_in_order}
use Rattle.isf_reader.proofs.depth.too_deep.Goals as goal

pub loop-level-init : goal.loop-level-init
loop-level-init c = c.in_ok-types.ensures ∙ first_round c.args.users.now

pub deeper-requires : goal.deeper-requires
deeper-requires c = rw (c.deref.ensures.value, c.loop-level.invariant) (nesting_in_order c.args.users.now c.requires c.loop-level._level)

pub loop-level-preserved : goal.loop-level-preserved
loop-level-preserved c =
    (rw (c.deref.ensures.value, c.loop-level.invariant) at c.in_ok-types-2.ensures) ∙ next_round c.args.users.now c.requires c.loop-level._level
