use Rattle.std.proofs.Common.{◌≡◌, ◌≤◌, drop}
use Rattle.std.specs.Prelude.{IfSome}
use Rattle.session.specs.Stack.{stack_of}
use Rattle.session.proofs.stack.attach_formats.Given as goal

-- the formats so far were other ones, and left the layer as it was
abbrev pub invariant-loop-format : goal.invariant-loop-format
invariant-loop-format g l = record {
  stack : IfSome (g.Y.Layer.view l.fn.image) (λ before. stack_of l.formats before ≡ stack_of (drop l.format-index l.formats) before);
  same_view : g.Y.Layer.view l.image ≡ g.Y.Layer.view l.fn.image;
  same_kind : g.Y.Layer.kind l.image ≡ g.Y.Layer.kind l.fn.image;
  calls : g.Y.Layer.calls l.image ≡ g.Y.Layer.calls l.fn.image;
  faults : g.Y.Layer.faults l.fn.image ≤ g.Y.Layer.faults l.image;
}
