use Rattle.std.proofs.Common.{arith}
use Rattle.layer_base.specs.View.{physical}
use Rattle.layer_base.proofs.Told.{IfSome-after}
use Rattle.space_memory.proofs.Memories.{IsSameMemory-trans}
use Rattle.walk_text.proofs.Fronts.{WritesFront-trans}
use Rattle.walk_text.proofs.Passing.{whole-cut, whole-refused}
use Rattle.walk_text.proofs.write.write_rest.Goals as goal

pub returns-in_err-turn-clause-writes : goal.returns-in_err-turn-clause-writes
returns-in_err-turn-clause-writes g c =
    IfSome-after c.args.memory.now.view c.lines.memory.view c.lines.invariant.memory.same_view c.lines.invariant.written c.in_err-turn.ensures.passes (λ view so_far cut.
    whole-cut _ _ _ _ c.from_residual.result c.from_residual.ensures.0 c.lines.text.items (g.N.Lines.rest c.lines.lines (physical view)) c.in_err-turn.field-0.0 so_far cut)

pub lines-preserved : goal.lines-preserved
lines-preserved g c =
    let passed = rw c.if-branch.true at c.in_ok-turn.ensures.passes in
    record {
      written = IfSome-after c.args.memory.now.view c.lines.memory.view c.lines.invariant.memory.same_view c.lines.invariant.written passed (λ view so_far passed. WritesFront-trans _ _ _ _ _ _ so_far passed);
      memory = IsSameMemory-trans _ _ _ c.lines.invariant.memory c.turn.ensures.memory;
      out = omega (arith, c.lines.invariant.out, c.turn.ensures.out.kept);
    }

pub returns-in_err-write_whole-clause-writes : goal.returns-in_err-write_whole-clause-writes
returns-in_err-write_whole-clause-writes g c =
    IfSome-after c.args.memory.now.view c.lines.memory.view c.lines.invariant.memory.same_view c.lines.invariant.written (rw c.if-branch.false at c.in_ok-turn.ensures.passes) (λ view so_far passed.
    whole-refused _ _ _ _ c.from_residual-in_err-write_whole.result c.from_residual-in_err-write_whole.ensures.0 c.turn.new.text.items c.deref.result.now (WritesFront-trans _ _ _ _ _ _ so_far passed) c.deref.ensures.value c.in_err-write_whole.ensures.bytes)
