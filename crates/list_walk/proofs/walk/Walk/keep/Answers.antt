use Rattle.std.proofs.Common.{◌≡◌, ◌+◌, ◌^◌, ◌<◌, ap, sym, arith}
use Rattle.list_walk.specs.Objects.{HasNewLink}
use Rattle.list_walk.specs.declared.turn.Turn.TheVariants.{Object}
use Rattle.list_walk.proofs.Given.{kept-links, one-more, one-less, none-less}
use Rattle.list_walk.proofs.walk.Walk.keep.Goals as goal

pub invariant_of-self-in-Object : goal.invariant_of-self-in-Object
invariant_of-self-in-Object c =
    let new : HasNewLink c.args.self.now (Object c.in-Object.at) = rw c.in-Object.is at c.requires in
    let below : c.in-Object.at + c.self.inside.shape.back < 2 ^ 64 = omega (arith, new.1, ap (λ w. w.back) c.self.view_is) in
    kept-links c.insert.result c.self.inside.given.keys c.insert.new.self.keys _ c.self.invariant below c.insert.ensures.ordered c.insert.ensures.keys c.insert.ensures.err

pub returns-in_ok-insert-in-Object-clause-fewer : goal.returns-in_ok-insert-in-Object-clause-fewer
returns-in_ok-insert-in-Object-clause-fewer c =
    let inserted = c.in_ok-insert-in-Object.ensures in
    let new : HasNewLink c.args.self.now (Object c.in-Object.at) = rw c.in-Object.is at c.requires in
    let back : c.args.self.now.back ≡ c.self.inside.shape.back = ap (λ w. w.back) (sym c.self.view_is) in
    let link = c.in-Object.at + c.self.inside.shape.back in
    let below : link < 2 ^ 64 = omega (arith, new.1, back) in
    let links = kept-links c.insert.result c.self.inside.given.keys c.insert.new.self.keys link c.self.invariant below c.insert.ensures.ordered c.insert.ensures.keys c.insert.ensures.err in
    let more = one-more c.args.self.now c.self.inside.given.keys c.insert.new.self.keys link (c.in-Object.at + c.args.self.now.back) c.in_ok-insert-in-Object.field-0 (ap (λ w. w.given) (sym c.self.view_is)) (ap (λ b. c.in-Object.at + b) back) new.0.new inserted.added inserted.len in
    rw c.in-Object.is (one-less _ _ links more)

pub returns-in-Stopped-clause-fewer : goal.returns-in-Stopped-clause-fewer
returns-in-Stopped-clause-fewer c = rw c.in-Stopped.is (none-less _ _ (ap (λ w. w.given) c.self.view_is))
