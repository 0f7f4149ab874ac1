use Rattle.layer_base.specs.Ranges.{IsSegment}
use Rattle.layer_base.specs.View.{holds_address}
use Rattle.layer_base.proofs.Ranges.{find-found}
use Rattle.layer_base.proofs.segments.Segments.segment_at.Goals as goal

pub returns-then-self-clause-found : goal.returns-then-self-clause-found
returns-then-self-clause-found c = rw (c.segment_at.ensures, c.deref.ensures.value) (find-found (λ s. holds_address s c.args.at) IsSegment c.self.inside.items.items c.self.invariant.fit)

pub returns-else-self-clause-found : goal.returns-else-self-clause-found
returns-else-self-clause-found c = rw (c.segment_at-else-self.ensures, c.deref-else-self.ensures.value) (find-found (λ s. holds_address s c.args.at) IsSegment c.self.inside.items.items c.self.invariant.fit)
