use Rattle.std.proofs.Common.{sym, subst, arith}
use Rattle.std.specs.Prelude.{IfSome}
use Rattle.layer_base.specs.View.{physical}
use Rattle.layer_base.proofs.Told.{IfSome-after}
use Rattle.chunk_scanner.specs.State.{hits_left, KeepsTrue}
use Rattle.space_memory.proofs.Memories.{IsSameMemory-trans}
use Rattle.scan_text.proofs.Turns.{counted-more, rows-cut, rows-end}
use Rattle.walk_text.proofs.Fronts.{WritesFront-trans}
use Rattle.scan_text.proofs.rows.write_rows.Goals as goal

pub returns-in_err-turn-clause-rows : goal.returns-in_err-turn-clause-rows
returns-in_err-turn-clause-rows g c =
    IfSome-after c.args.memory.now.view c.loop-count.memory.view c.loop-count.invariant.memory.same_view c.loop-count.invariant.rows c.in_err-turn.ensures.rows (λ view so_far cut.
    rows-cut c.args.listing (physical view) _ _ _ (hits_left (physical view) c.args.scanner.now) (hits_left (physical view) c.loop-count.scanner) (hits_left (physical view) c.turn.new.scanner) c.args.text.now.items c.loop-count.text.items c.turn.new.text.items c.in_err-turn.field-0.0 c.from_residual.result so_far.0 cut c.from_residual.ensures.1)

pub loop-count-preserved : goal.loop-count-preserved
loop-count-preserved g c =
    let turned = rw c.if-branch.true at c.in_ok-turn.ensures.rows in
    record {
      rows = IfSome-after c.args.memory.now.view c.loop-count.memory.view c.loop-count.invariant.memory.same_view c.loop-count.invariant.rows turned (λ view so_far passed. (
        WritesFront-trans _ _ _ _ _ _ so_far.0 passed.0,
        counted-more c.loop-count.count c.saturating_add-count.result _ _ _ c.saturating_add-count.ensures passed.1 so_far.1,
      ));
      fits = omega arith;
      kept = subst (λ told. IfSome told (λ view. KeepsTrue (physical view) c.turn.new.scanner)) (sym c.turn.ensures.memory.same_view) c.turn.ensures.kept;
      memory = IsSameMemory-trans _ _ _ c.loop-count.invariant.memory c.turn.ensures.memory;
      out = omega (arith, c.loop-count.invariant.out, c.turn.ensures.out.kept);
    }

pub returns-clause-rows : goal.returns-clause-rows
returns-clause-rows g c =
    IfSome-after c.args.memory.now.view c.loop-count.memory.view c.loop-count.invariant.memory.same_view c.loop-count.invariant.rows (rw c.if-branch.false at c.in_ok-turn.ensures.rows) (λ view so_far turned.
    rows-end c.args.listing (physical view) _ _ _ (hits_left (physical view) c.args.scanner.now) (hits_left (physical view) c.loop-count.scanner) (hits_left (physical view) c.turn.new.scanner) c.args.text.now.items c.loop-count.text.items c.turn.new.text.items c.loop-count.count c.loop-count.invariant.fits so_far.0 so_far.1 turned)
