use Rattle.std.proofs.Common.{◌+◌, length, refl, sym, ◌∙◌, ap, arith}
use Rattle.std.specs.Prelude.{IfSome}
use Rattle.layer_base.specs.View.{physical}
use Rattle.layer_base.proofs.BytesFrom.{bytes_from-none}
use Rattle.space_memory.specs.InSpace.{in_space}
use Rattle.session.specs.Read.{AddsCells}
use Rattle.session.proofs.Cells.{AddsCells-more}
use Rattle.space_memory.proofs.Memories.{IsSameMemory-refl, IsSameMemory-trans}
use Rattle.session.proofs.Told.{IfSome-always, IfSome-both}
use Rattle.session.proofs.read.push_cells.Goals as goal

pub loop-place-init : goal.loop-place-init
loop-place-init g c = record {
  cells = IfSome-always c.args.memory.now.view (λ view. rw c.requires.empty (sym (bytes_from-none (in_space (physical view) c.args.place.space) c.args.place.at)));
  within = omega (arith, ap length c.requires.empty);
  capacity = refl;
  memory = IsSameMemory-refl c.args.memory.now;
}

pub loop-place-preserved : goal.loop-place-preserved
loop-place-preserved g c =
    let at = c.args.place.at in
    let space = c.args.place.space in
    let count = c.in_ok-push_run.ensures.count in
    let read : IfSome c.args.memory.now.view (λ view. AddsCells (in_space (physical view) space) (at + c.len-done.result) c.loop-place.cells.items c.push_run.new.cells.items) = rw c.loop-place.invariant.memory.same_view at c.in_ok-push_run.ensures.cells in
    record {
      cells = IfSome-both c.args.memory.now.view c.loop-place.invariant.cells read (λ view so_far added.
          AddsCells-more (in_space (physical view) space) at c.len-done.result c.loop-place.cells.items c.push_run.new.cells.items so_far (omega arith) (omega arith) added);
      within = omega arith;
      capacity = c.push_run.ensures.capacity ∙ c.loop-place.invariant.capacity;
      memory = IsSameMemory-trans _ _ _ c.loop-place.invariant.memory c.push_run.ensures.memory;
    }
