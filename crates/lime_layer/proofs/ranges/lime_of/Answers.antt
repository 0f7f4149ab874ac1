use Rattle.std.proofs.Common.{[], sym, ap, ◌∙◌, refl, take}
use Rattle.std.proofs.lemmas.Option.{IfSome_then}
use Rattle.layer_base.specs.View.{physical}
use Rattle.layer_base.specs.View.View.{File}
use Rattle.layer_base.proofs.Told.{IfSome-after}
use Rattle.lime_layer.specs.Header.{bytes_of}
use Rattle.lime_layer.proofs.Reading.{lime-ranges, lime-other}
use Rattle.lime_layer.proofs.ranges.lime_of.Goals as goal

pub returns-in_default-clause-reading : goal.returns-in_default-clause-reading
returns-in_default-clause-reading g c =
    IfSome_then (g.D.Device.held c.args.device.now) c.in_ok-header.ensures.bytes (λ bytes is. lime-other (physical (File bytes)) [] (sym (ap bytes_of c.in_default.is) ∙ is) refl)

pub returns-then-not-is_lime-clause-reading : goal.returns-then-not-is_lime-clause-reading
returns-then-not-is_lime-clause-reading g c =
    IfSome_then (g.D.Device.held c.args.device.now) c.in_ok-header.ensures.bytes (λ bytes is.
    lime-other (physical (File bytes)) (take c.in-Some.header.count c.in-Some.header.bytes) (sym (ap bytes_of c.in-Some.is) ∙ is) (sym c.is_lime.ensures ∙ c.if-not-is_lime.true))

pub returns-clause-reading : goal.returns-clause-reading
returns-clause-reading g c =
    IfSome-after (g.D.Device.held c.args.device.now) (g.D.Device.held c.header_at.new.device) c.in_ok-header.ensures.same c.in_ok-header.ensures.bytes c.ranges_of.ensures.reading (λ bytes is answers.
    let header = sym (ap bytes_of c.in-Some.is) ∙ is in
    rw (lime-ranges (physical (File bytes)) (take c.in-Some.header.count c.in-Some.header.bytes) header (sym c.is_lime.ensures ∙ c.if-not-is_lime.false)) (answers header))
