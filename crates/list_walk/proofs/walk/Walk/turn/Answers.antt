use Rattle.std.proofs.Common.{◌≡◌, ◌+◌, ◌-◌, ◌^◌, ◌≤◌, None, Ok, Err, sym, ap, ◌∙◌, arith}
use Rattle.std.proofs.lemmas.Option.{IfSome_then}
use Rattle.layer_base.proofs.Told.{IfSome-after}
use Rattle.layer_base.specs.View.{physical}
use Rattle.space_memory.specs.InSpace.{in_space}
use Rattle.list_walk.specs.Turn.{word_behind}
use Rattle.list_walk.specs.declared.turn.Turn.TheVariants.{Object}
use Rattle.list_walk.proofs.Turns.{turn-wordless, turn-ended, turn-link}
use Rattle.list_walk.proofs.walk.Walk.turn.Goals as goal

pub returns-in-Err-clause-turn : goal.returns-in-Err-clause-turn
returns-in-Err-clause-turn g c =
    let place = c.next_place-base.ensures in
    IfSome_then c.args.memory.now.view c.in_ok-link.ensures.word (λ view read.
    turn-wordless (in_space (physical view) c.args.self.now.space) c.args.self.now c.requires c.in-Err.stop (sym c.in-Err.is ∙ read ∙ (λ i. word_behind (in_space (physical view) (c.self.view_is i).space) (place.base i) (place.offset i))))

pub returns-in-Some-clause-turn : goal.returns-in-Some-clause-turn
returns-in-Some-clause-turn g c =
    let place = c.next_place-base.ensures in
    IfSome_then c.args.memory.now.view c.in_ok-link.ensures.word (λ view read.
    turn-ended (in_space (physical view) c.args.self.now.space) c.args.self.now c.requires c.in-Ok.link c.in-Some.stop (sym c.in-Ok.is ∙ read ∙ (λ i. word_behind (in_space (physical view) (c.self.view_is i).space) (place.base i) (place.offset i))) c.in-Some.ensures.stop)

pub overflow_sub-result : goal.overflow_sub-result
overflow_sub-result g c = omega (arith, c.in_default.ensures.free.start, ap (λ w. w.back) c.self.view_is)

pub returns-in-Ok-2-clause-turn : goal.returns-in-Ok-2-clause-turn
returns-in-Ok-2-clause-turn g c =
    let place = c.next_place-base.ensures in
    IfSome-after c.args.memory.now.view c.word_behind.new.memory.view c.word_behind.ensures.memory.same_view c.in_ok-link.ensures.word c.in_ok-word_behind.ensures.word (λ view read follows.
    ap (λ w. Object (c.in-Ok.link - w.back)) c.self.view_is
    ∙ turn-link (in_space (physical view) c.args.self.now.space) c.args.self.now c.requires c.in-Ok.link None (Ok c.in-Ok-2.field-0) (sym c.in-Ok.is ∙ read ∙ (λ i. word_behind (in_space (physical view) (c.self.view_is i).space) (place.base i) (place.offset i))) c.in_default.ensures.stop (sym c.in-Ok-2.is ∙ follows ∙ (λ i. word_behind (in_space (physical view) (c.self.view_is i).space) c.in-Ok.link (c.self.view_is i).next)))

pub returns-in-Ok-2-clause-link : goal.returns-in-Ok-2-clause-link
returns-in-Ok-2-clause-link g c =
    let free = c.in_default.ensures.free in
    let back : c.self.inside.shape.back ≡ c.args.self.now.back = ap (λ w. w.back) c.self.view_is in
    let next : c.self.inside.shape.next ≡ c.args.self.now.next = ap (λ w. w.next) c.self.view_is in
    let room : c.in-Ok.link + c.self.inside.shape.next ≤ 2 ^ 64 - 8 = rw c.in-Ok-2.is at c.in_ok-word_behind.ensures.within in
    let same : c.in-Ok.link - c.self.inside.shape.back + c.args.self.now.back ≡ c.in-Ok.link = omega (arith, free.start, back) in
    (rw same free, omega (arith, same, next, room))

pub returns-in-Err-2-clause-turn : goal.returns-in-Err-2-clause-turn
returns-in-Err-2-clause-turn g c =
    let place = c.next_place-base.ensures in
    IfSome-after c.args.memory.now.view c.word_behind.new.memory.view c.word_behind.ensures.memory.same_view c.in_ok-link.ensures.word c.in_ok-word_behind.ensures.word (λ view read follows.
    turn-link (in_space (physical view) c.args.self.now.space) c.args.self.now c.requires c.in-Ok.link None (Err c.in-Err-2.stop) (sym c.in-Ok.is ∙ read ∙ (λ i. word_behind (in_space (physical view) (c.self.view_is i).space) (place.base i) (place.offset i))) c.in_default.ensures.stop (sym c.in-Err-2.is ∙ follows ∙ (λ i. word_behind (in_space (physical view) (c.self.view_is i).space) c.in-Ok.link (c.self.view_is i).next)))
