use Rattle.std.proofs.Common.{sym, ap, ◌∙◌}
use Rattle.std.proofs.lemmas.Option.{IfSome_then}
use Rattle.layer_base.proofs.Told.{IfSome-always}
use Rattle.layer_base.specs.View.{physical}
use Rattle.space_memory.specs.InSpace.{in_space}
use Rattle.list_walk.proofs.Going.{goes-on, stays}
use Rattle.list_walk.proofs.Turns.{turn-stopped}
use Rattle.list_walk.proofs.walk.Walk.advance.Goals as goal

pub returns-in-Some-clause-turn : goal.returns-in-Some-clause-turn
returns-in-Some-clause-turn g c =
    IfSome-always c.args.memory.now.view (λ view. turn-stopped (in_space (physical view) c.args.self.now.space) c.args.self.now c.in-Some.stop (ap (λ w. w.stop) (sym c.self.view_is) ∙ c.in-Some.is))

pub returns-in-Some-clause-goes_on : goal.returns-in-Some-clause-goes_on
returns-in-Some-clause-goes_on g c =
    IfSome-always c.args.memory.now.view (λ view.
    let memory = in_space (physical view) c.args.self.now.space in
    stays memory c.args.self.now c.in-Some.stop (turn-stopped memory c.args.self.now c.in-Some.stop (ap (λ w. w.stop) (sym c.self.view_is) ∙ c.in-Some.is)))

pub returns-clause-goes_on : goal.returns-clause-goes_on
returns-clause-goes_on g c =
    IfSome_then c.args.memory.now.view c.in_ok-turn.ensures.turn (λ view is.
    goes-on (in_space (physical view) c.args.self.now.space) c.args.self.now c.keep.new.self c.in_ok-turn.turn is c.in_ok-keep.ensures.ok c.in_ok-keep.ensures.fewer)
