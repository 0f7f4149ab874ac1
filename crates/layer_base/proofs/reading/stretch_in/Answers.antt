use Rattle.std.proofs.Common.{sym, ◌∙◌, arith}
use Rattle.layer_base.proofs.Stretches.{shown-hole, shown-segment}
use Rattle.layer_base.proofs.reading.stretch_in.Goals as goal

pub returns-in-None-clause-shown : goal.returns-in-None-clause-shown
returns-in-None-clause-shown c = λ below. shown-hole below c.args.segments.now c.args.at c.before_next-before_next.result (omega arith) (sym c.segment_at.ensures.value ∙ c.in-None.is) c.before_next-before_next.ensures.value

pub returns-in-Some-clause-shown : goal.returns-in-Some-clause-shown
returns-in-Some-clause-shown c = λ below.
    shown-segment below c.args.segments.now c.args.at c.min.result (omega arith) c.in-Some.segment c.place_of.result (sym c.segment_at.ensures.value ∙ c.in-Some.is) c.in-Some.ensures.found (omega arith) (omega arith) c.place_of.ensures
