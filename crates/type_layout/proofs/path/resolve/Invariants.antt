use Rattle.std.proofs.Common.{◌≡◌, ◌*◌, ◌^◌, ◌<◌, drop}
use Rattle.type_layout.specs.Member.{spot}
use Rattle.type_layout.specs.Path.{resolve_from, resolve}
use Rattle.type_layout.proofs.path.resolve.Given as goal

abbrev pub invariant-loop-index : goal.invariant-loop-index
invariant-loop-index l = record {
  left : resolve_from l.table l.index (spot l.place) (drop l.index l.path) ≡ resolve l.fn.table l.fn.of l.fn.path;
  near : l.place.offset < l.index * 33 * 2 ^ 32;
}
