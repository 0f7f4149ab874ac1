use Rattle.std.proofs.Common.{ℕ, ◌+◌, length, length-take, length-drop, refl, ◌∙◌, arith}
use Rattle.std.proofs.lemmas.Option.{IfSome_then}
use Rattle.layer_base.proofs.Filling.{nothing, filled, ended}
use Rattle.lime_layer.proofs.Device.{held_memory, given, past_end, full}
use Rattle.lime_layer.proofs.read.fill.Goals as goal

pub loop-done-init : goal.loop-done-init
loop-done-init g c = record { within = omega arith; same = refl; kept = omega arith; bytes = nothing held_memory c.args.place (g.D.Device.held c.args.device.now) }

pub loop-done-preserved : goal.loop-done-preserved
loop-done-preserved g c =
    let loop = c.loop-done.invariant in
    let now = g.D.Device.held c.loop-done.device in
    record {
      within = omega (arith, c.in_ok-n.ensures.within, length-take {A = ℕ}, length-drop {A = ℕ});
      same = c.in_ok-n.ensures.same ∙ loop.same;
      kept = omega (arith, loop.kept, c.in_ok-n.ensures.cause.kept);
      bytes = filled held_memory c.args.place c.loop-done.done c.loop-done.buf (omega arith) (g.D.Device.held c.args.device.now) loop.bytes now c.in_ok-n.n c.read_at.new.buf _ loop.same (omega (arith, c.in_ok-n.ensures.within, c.read_at.auto.buf))
          (given (c.args.place + c.loop-done.done) c.in_ok-n.n now c.read_at.new.buf c.in_ok-n.ensures.few c.in_ok-n.ensures.bytes);
    }

pub returns-after-loop-done-clause-bytes : goal.returns-after-loop-done-clause-bytes
returns-after-loop-done-clause-bytes g c = full c.args.place c.loop-done.done (length c.args.buf.now) c.loop-done.buf (g.D.Device.held c.args.device.now) (omega arith) (omega arith) c.loop-done.invariant.bytes

pub returns-then-n-eq0-clause-bytes : goal.returns-then-n-eq0-clause-bytes
returns-then-n-eq0-clause-bytes g c =
    let loop = c.loop-done.invariant in
    let now = g.D.Device.held c.loop-done.device in
    ended held_memory c.args.place c.loop-done.done c.loop-done.buf (omega arith) (g.D.Device.held c.args.device.now) loop.bytes now (length c.args.buf.now) _ loop.same (omega arith)
    (past_end (c.args.place + c.loop-done.done) now c.in_ok-n.ensures.few (IfSome_then now c.in_ok-n.ensures.end (λ bytes past. past c.if-n-eq0.true (omega (arith, length-take {A = ℕ}, length-drop {A = ℕ})))))
