use Rattle.std.proofs.Common.{◌≡◌, ◌+◌, ◌^◌, ◌<◌, min, drop}
use Rattle.layer_base.specs.Ranges.{next_first}
use Rattle.layer_base.proofs.segments.linear.before_next.Given as goal

-- the segments gone through and those that are left
abbrev pub invariant-loop-segment : goal.invariant-loop-segment
invariant-loop-segment l = record {
  fits : l.last < 2 ^ 64;
  next : min (l.last + 1) (next_first (drop l.segment-index l.segments) l.at) ≡ next_first l.segments l.at;
}
