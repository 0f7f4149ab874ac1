use Rattle.std.proofs.Common.{ℕ, length, length-take, length-drop, arith}
use Rattle.std.proofs.lemmas.Option.{IfSome_then}
use Rattle.layer_base.specs.View.{physical}
use Rattle.layer_base.proofs.Filling.{nothing, filled, ended}
use Rattle.layer_base.proofs.Layers.{IsSameLayer-refl, IsSameLayer-trans}
use Rattle.intel_paging.proofs.word.fill.Goals as goal

pub loop-done-init : goal.loop-done-init
loop-done-init g c = record {
  within = omega arith;
  same = IsSameLayer-refl g.Y.Layer.view g.Y.Layer.kind g.Y.Layer.faults g.Y.Layer.calls c.args.phys.now;
  calls = omega arith;
  bytes = nothing physical c.args.at (g.Y.Layer.view c.args.phys.now);
}

pub loop-done-preserved : goal.loop-done-preserved
loop-done-preserved g c =
    let loop = c.loop-done.invariant in
    record {
      within = omega (arith, c.in_ok-count.ensures.within, length-take {A = ℕ}, length-drop {A = ℕ});
      same = IsSameLayer-trans g.Y.Layer.view g.Y.Layer.kind g.Y.Layer.faults g.Y.Layer.calls c.args.phys.now c.loop-done.phys c.present_at.new.phys loop.same c.in_ok-count.ensures.layer;
      calls = omega (arith, loop.calls, c.in_ok-count.ensures.calls);
      bytes = filled physical c.args.at c.loop-done.done c.loop-done.buf loop.within (g.Y.Layer.view c.args.phys.now) loop.bytes (g.Y.Layer.view c.loop-done.phys) c.in_ok-count.count c.present_at.new.buf _ loop.same.same_view (omega (arith, c.in_ok-count.ensures.within, c.present_at.auto.buf)) c.in_ok-count.ensures.bytes;
    }

pub returns-then-count-eq0-clause-bytes : goal.returns-then-count-eq0-clause-bytes
returns-then-count-eq0-clause-bytes g c =
    let loop = c.loop-done.invariant in
    ended physical c.args.at c.loop-done.done c.loop-done.buf loop.within (g.Y.Layer.view c.args.phys.now) loop.bytes (g.Y.Layer.view c.loop-done.phys) (length c.args.buf.now) _ loop.same.same_view (omega arith)
    (IfSome_then (g.Y.Layer.view c.loop-done.phys) c.in_ok-count.ensures.end (λ view hole. hole c.if-count-eq0.true))
