use Rattle.std.proofs.Common.{ℕ, List, length-take, arith}
use Rattle.std.proofs.lemmas.Option.{IfSome_then}
use Rattle.layer_base.specs.AddressSpace.{AddressSpace}
use Rattle.layer_base.specs.Reading.{view_of}
use Rattle.layer_base.specs.View.{physical}
use Rattle.layer_base.specs.View.View.{File}
use Rattle.layer_base.specs.declared.reading.Reading.{Reading}
use Rattle.layer_base.proofs.Stretches.{absent-nowhere, absent-past, present}
use Rattle.layer_base.proofs.reading.run_of_reading.Goals as goal

memory_of : Reading → List ℕ → AddressSpace
memory_of reading held = physical (view_of reading (File held))

pub returns-in_default-clause-run : goal.returns-in_default-clause-run
unfolding memory_of
returns-in_default-clause-run g c =
    let stretch = c.stretch_at-stretch.result in
    absent-nowhere (memory_of c.args.reading.now) c.args.at stretch.last stretch.place (λ held. c.stretch_at-stretch.ensures.shown (File held)) c.in_default.is (g.D.Device.held c.args.device.now)

pub returns-in-Ok-eq0-clause-run : goal.returns-in-Ok-eq0-clause-run
unfolding memory_of
returns-in-Ok-eq0-clause-run g c =
    let stretch = c.stretch_at-stretch.result in
    absent-past (memory_of c.args.reading.now) c.args.at stretch.last stretch.place (λ held. c.stretch_at-stretch.ensures.shown (File held)) c.in-Some.place c.in-Some.is (g.D.Device.held c.args.device.now) c.in-Ok-eq0.ensures.few
    (IfSome_then (g.D.Device.held c.args.device.now) c.in-Ok-eq0.ensures.end (λ held past. past c.in-Ok-eq0.field-0-test (omega (arith, length-take c.room_within-room.result c.args.buf.now))))

pub returns-in-Ok-clause-run : goal.returns-in-Ok-clause-run
unfolding memory_of
returns-in-Ok-clause-run g c =
    let stretch = c.stretch_at-stretch.result in
    present (memory_of c.args.reading.now) c.args.at stretch.last stretch.place (λ held. c.stretch_at-stretch.ensures.shown (File held)) c.in-Some.place c.in-Ok.count c.read_at.new.buf _ c.in-Some.is (omega arith) (omega (arith, c.in-Ok.ensures.within, c.read_at.auto.buf)) (omega (arith, c.in-Ok.ensures.within, length-take c.room_within-room.result c.args.buf.now)) c.stretch_at-stretch.ensures.within (g.D.Device.held c.args.device.now) c.in-Ok.ensures.few c.in-Ok.ensures.bytes
