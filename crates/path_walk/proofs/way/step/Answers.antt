use Rattle.std.proofs.lemmas.Option.{IfSome_then}
use Rattle.layer_base.specs.View.{physical}
use Rattle.layer_base.proofs.Told.{IfSome-always}
use Rattle.typed_object.specs.Ground.{kernel_memory}
use Rattle.path_walk.proofs.Ways.{step-again, step-passed}
use Rattle.path_walk.proofs.way.step.Goals as goal

pub returns-then-not-branch-clause-steps : goal.returns-then-not-branch-clause-steps
returns-then-not-branch-clause-steps g c =
    IfSome-always c.args.memory.now.view (λ told.
    step-again (kernel_memory (physical told) c.args.paths.now.kernel) c.args.paths.now.table.now c.args.way.now c.meet.new.met (rw c.if-not-branch.true at c.in_ok-meet.ensures))

pub returns-clause-steps : goal.returns-clause-steps
returns-clause-steps g c =
    IfSome_then c.args.memory.now.view c.in_ok-turn.ensures.turn (λ told made.
    step-passed (kernel_memory (physical told) c.args.paths.now.kernel) c.args.paths.now.table.now c.args.way.now c.meet.new.met c.pass.new.way c.in_ok-turn.turn
    (rw c.if-not-branch.false at c.in_ok-meet.ensures) made c.in_ok-pass.ensures.met c.in_ok-pass.field-0 c.in_ok-pass.ensures.passes)
