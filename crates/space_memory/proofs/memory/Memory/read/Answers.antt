use Rattle.std.proofs.Common.{◌+◌, ◌*◌, ◌≤◌, ◌<◌, ℕ, length, length-drop, length-take, arith}
use Rattle.std.specs.Prelude.{IfSome}
use Rattle.layer_base.proofs.BytesFrom.{bytes_from-none}
use Rattle.layer_base.specs.Run.{IsTrueOf}
use Rattle.layer_base.specs.View.{physical}
use Rattle.layer_base.specs.declared.layer.Run.TheVariants.{Present, Absent}
use Rattle.intel_paging.specs.Walk.{levels_of}
use Rattle.space_memory.specs.InSpace.{in_space}
use Rattle.space_memory.proofs.Memories.{IsSameMemory-refl, IsSameMemory-trans}
use Rattle.space_memory.proofs.Reading.{enough, read-present, read-absent, read-all}
use Rattle.layer_base.proofs.Told.{IfSome-always}
use Rattle.space_memory.proofs.memory.Memory.read.Goals as goal

pub loop-done-init : goal.loop-done-init
loop-done-init g c = record {
  within = omega arith;
  bytes = IfSome-always c.args.self.now.view (λ view. bytes_from-none (in_space (physical view) c.args.space) c.args.at);
  steps = omega arith;
  calls = omega arith;
  memory = IsSameMemory-refl c.args.self.now;
}

pub loop-done-preserved : goal.loop-done-preserved
loop-done-preserved g c =
    let loop = c.loop-done.invariant in
    let done = c.loop-done.done in
    let inside : done ≤ length c.loop-done.buf = omega (arith, c.loop-done.auto.buf) in
    let run : IfSome c.args.self.now.view (λ view. IsTrueOf (in_space (physical view) c.args.space) (c.args.at + done) c.run_at.new.buf (Present c.in-Present.count)) = rw (← loop.memory.same_view) (rw c.in-Present.is at c.in_ok-count.ensures.run) in
    let within = rw c.in-Present.is at c.in_ok-count.ensures.within in
    let fits : c.in-Present.count ≤ length c.run_at.new.buf = omega (arith, within.1, c.run_at.auto.buf) in
    record {
      within = omega (arith, within.1, c.loop-done.auto.buf, length-take {A = ℕ}, length-drop {A = ℕ});
      bytes = read-present c.args.self.now.view c.args.space c.args.at done c.loop-done.buf inside loop.bytes c.in-Present.count c.run_at.new.buf _ fits run;
      steps = enough done c.in-Present.count (1 + levels_of c.args.space) c.args.steps.now c.loop-done.steps c.run_at.new.steps within.0 loop.steps (omega (arith, c.in_ok-count.ensures.most_steps));
      calls = enough done c.in-Present.count (1 + 8 * levels_of c.args.space) c.args.self.now.calls c.loop-done.self.calls c.run_at.new.self.calls within.0 loop.calls (omega (arith, c.in_ok-count.ensures.most_calls));
      memory = IsSameMemory-trans _ _ _ loop.memory c.in_ok-count.ensures.memory;
    }

pub returns-in-Absent-clause-got : goal.returns-in-Absent-clause-got
returns-in-Absent-clause-got g c =
    let loop = c.loop-done.invariant in
    let done = c.loop-done.done in
    let inside : done ≤ length c.loop-done.buf = omega (arith, c.loop-done.auto.buf) in
    let run : IfSome c.args.self.now.view (λ view. IsTrueOf (in_space (physical view) c.args.space) (c.args.at + done) c.run_at.new.buf (Absent c.in-Absent.last)) = rw (← loop.memory.same_view) (rw c.in-Absent.is at c.in_ok-count.ensures.run) in
    let within : c.args.at + done ≤ c.in-Absent.last = rw c.in-Absent.is at c.in_ok-count.ensures.within in
    let some : 0 < length c.run_at.new.buf = omega (arith, c.run_at.auto.buf, length-drop {A = ℕ}, length-take {A = ℕ}) in
    read-absent c.args.self.now.view c.args.space c.args.at done c.loop-done.buf inside loop.bytes c.in-Absent.last c.run_at.new.buf _ some within run

pub returns-clause-got : goal.returns-clause-got
returns-clause-got g c = read-all c.args.self.now.view c.args.space c.args.at c.loop-done.done c.loop-done.buf (omega (arith, c.loop-done.auto.buf)) c.loop-done.invariant.bytes c.loop-done-test.false
