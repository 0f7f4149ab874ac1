use Rattle.std.proofs.Common.{length, sym, ◌∙◌, ap, arith}
use Rattle.layer_base.proofs.Played.{left-split, none-left}
use Rattle.layer_base.proofs.memory.source.MemSourceSource.read.Goals as goal

pub returns-clause-bytes : goal.returns-clause-bytes
returns-clause-bytes c =
    let fields = c.self.inside in
    let seen = c.deref-2.result.now in
    let same = c.deref-2.ensures.value in
    let n = c.copy_front-n.result in (
      ap (λ s. s.bytes) (sym c.self.view_is) ∙ left-split seen fields.bytes.items fields.taken n same c.copy_front-n.new.buf c.copy_front-n.ensures.front,
      λ none room. none-left seen fields.bytes.items fields.taken n same fields.cut (length c.args.buf.now) c.self.invariant.1 c.self.invariant.0 c.copy_front-n.ensures.count none (omega arith),
    )
