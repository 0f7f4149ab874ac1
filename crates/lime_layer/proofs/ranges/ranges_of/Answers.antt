use Rattle.std.proofs.Common.{◌≡◌, ℕ, List, [], take, Option, None, Some, refl, ◌∙◌, subst, arith}
use Rattle.std.specs.Option.{IfSome}
use Rattle.std.proofs.lemmas.Option.{IfSome_then}
use Rattle.layer_base.specs.AddressSpace.{AddressSpace}
use Rattle.layer_base.specs.Present.{present_from}
use Rattle.layer_base.specs.View.{physical}
use Rattle.layer_base.specs.View.View.{File}
use Rattle.layer_base.specs.declared.segment.Segment.{Segment}
use Rattle.layer_base.proofs.Told.{IfSome-after}
use Rattle.lime_layer.specs.declared.header.Header.{Header}
use Rattle.lime_layer.proofs.Reading.{IsReadTo, read-none, read-end, read-many, read-bad, read-more}
use Rattle.lime_layer.proofs.ranges.ranges_of.Goals as goal

at_header : (memory : AddressSpace) (most read above : ℕ) (front : List Segment) (next : Option Header) (header : Header) → next ≡ Some header → IsReadTo memory most read next above front → IsReadTo memory most read (Some header) above front
at_header memory most read above front next header is so_far = subst (λ (n : Option Header). IsReadTo memory most read n above front) is so_far

pub loop-init : goal.loop-init
loop-init g c = record {
  above = omega arith;
  same = refl;
  kept = omega arith;
  reading = rw c.new-segments.ensures (told c.args.header c.requires (g.D.Device.held c.args.device.now));
}
  where
    told : (header : Header) → header.place ≡ 0 → (held : Option (List ℕ)) → IfSome held (λ bytes. take header.count header.bytes ≡ present_from (physical (File bytes)) 0 32 → IsReadTo (physical (File bytes)) 65536 0 (Some header) 0 [])
    told header at_zero None = tt
    told header at_zero (Some bytes) = λ is. read-none (physical (File bytes)) 65536 header at_zero is

pub returns-in_default-clause-reading : goal.returns-in_default-clause-reading
returns-in_default-clause-reading g c =
    IfSome_then (g.D.Device.held c.args.device.now) c.loop.invariant.reading (λ bytes so_far is. read-end (physical (File bytes)) 65536 c.loop.counter c.loop.above c.loop.segments c.loop.next c.in_default.is (so_far is))

pub returns-in-Err-clause-reading : goal.returns-in-Err-clause-reading
returns-in-Err-clause-reading g c =
    IfSome_then (g.D.Device.held c.args.device.now) c.loop.invariant.reading (λ bytes so_far is. rw c.refusal.ensures (read-bad (physical (File bytes)) 65536 c.loop.counter c.loop.above c.loop.segments c.in-Some.header c.in-Some.header.some c.in-Some.header.within
    (at_header (physical (File bytes)) 65536 c.loop.counter c.loop.above c.loop.segments c.loop.next c.in-Some.header c.in-Some.is (so_far is)) c.in-Err.rule (omega arith) c.in-Err.ensures.range))

pub loop-preserved : goal.loop-preserved
loop-preserved g c =
    let loop = c.loop.invariant in
    let fit = c.in-Ok.ensures.fit in
    record {
      above = omega (arith, fit.first, fit.most, c.from.ensures);
      same = c.in_ok-next.ensures.same ∙ loop.same;
      kept = omega (arith, loop.kept, c.in_ok-next.ensures.cause.kept);
      reading = IfSome-after (g.D.Device.held c.args.device.now) (g.D.Device.held c.loop.device) loop.same loop.reading c.in_ok-next.ensures.bytes (λ bytes so_far next is.
          let more = read-more (physical (File bytes)) 65536 c.loop.counter c.loop.above c.loop.segments c.in-Some.header c.in-Some.header.some c.in-Some.header.within
          (at_header (physical (File bytes)) 65536 c.loop.counter c.loop.above c.loop.segments c.loop.next c.in-Some.header c.in-Some.is (so_far is))
          c.in-Ok.segment c.in_ok-next.next (omega arith) c.in-Ok.ensures.range c.in_ok-next.ensures.place next in
          rw (c.from.ensures, c.in_ok-add.ensures.ok) more);
    }

pub returns-in-None-clause-reading : goal.returns-in-None-clause-reading
returns-in-None-clause-reading g c =
    IfSome_then (g.D.Device.held c.args.device.now) c.loop.invariant.reading (λ bytes so_far is. read-end (physical (File bytes)) 65536 c.loop.counter c.loop.above c.loop.segments c.loop.next c.in-None.is (so_far is))

pub returns-in-Some-next-clause-reading : goal.returns-in-Some-next-clause-reading
returns-in-Some-next-clause-reading g c =
    IfSome_then (g.D.Device.held c.args.device.now) c.loop.invariant.reading (λ bytes so_far is. rw c.refusal-in-Some-next.ensures (read-many (physical (File bytes)) 65536 c.loop.counter c.loop.above c.loop.segments c.in-Some-next.header c.in-Some-next.header.some c.in-Some-next.header.within
    (at_header (physical (File bytes)) 65536 c.loop.counter c.loop.above c.loop.segments c.loop.next c.in-Some-next.header c.in-Some-next.is (so_far is)) (omega arith)))
