use Rattle.std.proofs.Common.{◌≡◌, drop}
use Rattle.layer_base.specs.Ranges.{segment_at}
use Rattle.layer_base.proofs.segments.linear.segment_at.Given as goal

-- no segment that was gone through holds the address
abbrev pub invariant-loop-segment : goal.invariant-loop-segment
invariant-loop-segment l = segment_at (drop l.segment-index l.segments) l.at ≡ segment_at l.segments l.at
