-- What a layer shows under a container's reading.
use Rattle.std.specs.Prelude.{◌≡◌, List, Option, Some, Result, Ok, Err}
use Rattle.layer_base.specs.AddressSpace.{AddressSpace}
use Rattle.layer_base.specs.Lime.{lime}
use Rattle.layer_base.specs.View.{View}
use Rattle.layer_base.specs.View.View.{Ranges}
use Rattle.layer_base.specs.Why.{RefusesAs}
use Rattle.layer_base.specs.declared.layer.Kind.{Kind}
use Rattle.layer_base.specs.declared.layer.Kind.TheVariants as kinds
use Rattle.layer_base.specs.declared.segment.Segment.{Segment}
use Rattle.layer_base.specs.declared.why.Why.{Why}
use Rattle.layer_base.specs.declared.why.Why.TheVariants.{NotThis}

-- the ranges that a format reads in a memory, or its refusal; a file is no container
abbrev pub reading_of : Kind → AddressSpace → Result (List Segment) Why
reading_of kinds.File memory = Err NotThis
reading_of kinds.Lime memory = lime memory

-- Where a reading was attached, the layer shows its ranges over what it showed before. Where it was refused, the
-- refusal is the reading's, unless a device failed or memory ran out.
abbrev pub Attaches : Result (List Segment) Why → View → Option View → Result (Unit {0}) Why → Type 0
Attaches reading before after (Ok done) = (segments : List Segment) × (reading ≡ Ok segments) × (after ≡ Some (Ranges before segments))
Attaches reading before after (Err why) = RefusesAs why reading
