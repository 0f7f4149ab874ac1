use Rattle.std.proofs.Common.{sym, ◌∙◌, arith}
use Rattle.layer_base.proofs.Ranges.{segment_at-none, segment_at-held, segment_at-past}
use Rattle.layer_base.proofs.segments.rising.segment_at.Goals as goal

pub returns-then-begun-eq0 : goal.returns-then-begun-eq0
returns-then-begun-eq0 c =
    let begun = c.count_begun-begun.ensures in
    sym (segment_at-none c.args.segments.now c.args.at c.count_begun-begun.result c.requires begun.begun begun.later c.if-begun-eq0.true)

pub returns-then-holds_address : goal.returns-then-holds_address
returns-then-holds_address c =
    let begun = c.count_begun-begun.ensures in
    sym (segment_at-held c.args.segments.now c.args.at c.count_begun-begun.result c.requires begun.begun begun.later _ begun.bound (omega arith) (sym c.holds_address.ensures ∙ c.if-holds_address.true))

pub returns-else-holds_address : goal.returns-else-holds_address
returns-else-holds_address c =
    let begun = c.count_begun-begun.ensures in
    sym (segment_at-past c.args.segments.now c.args.at c.count_begun-begun.result c.requires begun.begun begun.later (record { first = 0; place = 0; length = 0 }) begun.bound (omega arith) (sym c.holds_address.ensures ∙ c.if-holds_address.false))
