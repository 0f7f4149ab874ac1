use Rattle.std.proofs.Common.{List, ℕ, reverse, sym, ◌∙◌, ap}
use Rattle.std.proofs.lemmas.Option.{IfSome_then}
use Rattle.layer_base.specs.View.{physical}
use Rattle.layer_base.proofs.Told.{IfSome-after}
use Rattle.space_memory.proofs.Memories.{IsSameMemory-trans}
use Rattle.typed_object.specs.Ground.{kernel_memory}
use Rattle.kernel_records.specs.declared.stop.Stop.TheVariants.{Limit}
use Rattle.path_walk.specs.Path.{ended}
use Rattle.path_walk.proofs.Ways.{left-on, left-ended, left-at-the-limit}
use Rattle.path_walk.proofs.follow.follow.Goals as goal

pub loop-turns-preserved : goal.loop-turns-preserved
loop-turns-preserved g c =
    let paths = c.args.paths.now in
    record {
      memory = IsSameMemory-trans _ _ _ c.loop-turns.invariant.memory c.step.ensures.memory;
      path = IfSome-after c.args.memory.now.view c.loop-turns.memory.view c.loop-turns.invariant.memory.same_view c.loop-turns.invariant.path (rw c.in_default.is at c.in_ok-stop.ensures.steps) (λ told left made.
          left-on (kernel_memory (physical told) paths.kernel) paths.table.now c.args.way c.loop-turns.way c.step.new.way c.loop-turns.turns c.loop-turns-test.true left made);
    }

pub returns-in-Some-clause-path : goal.returns-in-Some-clause-path
returns-in-Some-clause-path g c =
    let paths = c.args.paths.now in
    IfSome-after c.args.memory.now.view c.loop-turns.memory.view c.loop-turns.invariant.memory.same_view c.loop-turns.invariant.path (rw c.in-Some.is at c.in_ok-stop.ensures.steps) (λ told left made.
    c.in_ok-ended.ensures ∙ ap (λ (names : List (List ℕ)). ended (reverse names) c.in-Some.stop) c.deref.ensures.value
    ∙ sym (left-ended (kernel_memory (physical told) paths.kernel) paths.table.now c.args.way c.loop-turns.way c.step.new.way c.loop-turns.turns c.in-Some.stop c.loop-turns-test.true left made))

pub returns-clause-path : goal.returns-clause-path
returns-clause-path g c =
    let paths = c.args.paths.now in
    IfSome_then c.args.memory.now.view c.loop-turns.invariant.path (λ told left.
    c.in_ok-ended-2.ensures ∙ ap (λ (names : List (List ℕ)). ended (reverse names) (Limit 4096)) c.deref-2.ensures.value
    ∙ sym (left-at-the-limit (kernel_memory (physical told) paths.kernel) paths.table.now c.args.way c.loop-turns.way c.loop-turns.way c.loop-turns.turns c.loop-turns-test.false left))
