use Rattle.std.proofs.Common.{◌+◌, ◌≤◌, ℕ, length, length-drop, length-take, arith}
use Rattle.std.specs.Prelude.{IfSome}
use Rattle.layer_base.proofs.BytesFrom.{bytes_from-none}
use Rattle.layer_base.proofs.Told.{IfSome-always}
use Rattle.layer_base.specs.Run.{IsTrueOf}
use Rattle.layer_base.specs.View.{physical}
use Rattle.layer_base.specs.declared.layer.Run.TheVariants.{Present}
use Rattle.space_memory.specs.InSpace.{in_space}
use Rattle.space_memory.proofs.Memories.{IsSameMemory-refl, IsSameMemory-trans}
use Rattle.space_memory.proofs.Reading.{read-present}
use Rattle.chunk_scanner.proofs.filled.fill.Goals as goal

pub loop-count-init : goal.loop-count-init
loop-count-init g c = record {
  within = omega arith;
  bytes = IfSome-always c.args.memory.now.view (λ view. bytes_from-none (in_space (physical view) c.args.space) c.args.at);
  memory = IsSameMemory-refl c.args.memory.now;
}

pub loop-count-preserved : goal.loop-count-preserved
loop-count-preserved g c =
    let loop = c.loop-count.invariant in
    let count = c.loop-count.count in
    let inside : count ≤ length c.loop-count.buf = omega (arith, c.loop-count.auto.buf) in
    let run : IfSome c.args.memory.now.view (λ view. IsTrueOf (in_space (physical view) c.args.space) (c.args.at + count) c.run_at.new.buf (Present c.in-Present.more)) = rw (← loop.memory.same_view) (rw c.in-Present.is at c.in_ok-more.ensures.run) in
    let within = rw c.in-Present.is at c.in_ok-more.ensures.within in
    let fits : c.in-Present.more ≤ length c.run_at.new.buf = omega (arith, within.1, c.run_at.auto.buf) in
    record {
      within = omega (arith, within.1, c.loop-count.auto.buf, length-take {A = ℕ}, length-drop {A = ℕ});
      bytes = read-present c.args.memory.now.view c.args.space c.args.at count c.loop-count.buf inside loop.bytes c.in-Present.more c.run_at.new.buf _ fits run;
      memory = IsSameMemory-trans _ _ _ loop.memory c.in_ok-more.ensures.memory;
    }
