-- What a call that reads a container answers.
use Rattle.std.specs.Prelude.{◌≡◌, List, Result, Ok, Err}
use Rattle.layer_base.specs.declared.segment.Segment.{Segment}
use Rattle.layer_base.specs.declared.why.Why.{Why}
use Rattle.layer_base.specs.declared.why.Why.TheVariants.{NotThis, Taken, Bad, Device, Memory}

-- A refusal is that of the reading. A failed device, or being out of memory, says nothing of it.
abbrev pub RefusesAs : Why → Result (List Segment) Why → Type 0
RefusesAs NotThis reading = reading ≡ Err NotThis
RefusesAs Taken reading = reading ≡ Err Taken
RefusesAs (Bad at rule) reading = reading ≡ Err (Bad at rule)
RefusesAs Device reading = Unit {0}
RefusesAs Memory reading = Unit {0}

-- a call answers the segments of the reading, or its refusal, unless a device failed or memory ran out
abbrev pub AnswersAs : Result (List Segment) Why → Result (List Segment) Why → Type 0
AnswersAs (Ok segments) reading = reading ≡ Ok segments
AnswersAs (Err why) reading = RefusesAs why reading
