use Rattle.std.proofs.Common.{ℕ, ◌+◌, ◌^◌, ◌≤◌, List, length, Ok, sym, ap, ◌∙◌, arith}
use Rattle.std.proofs.lemmas.Option.{IfSome_then}
use Rattle.layer_base.specs.View.{physical}
use Rattle.space_memory.specs.InSpace.{in_space}
use Rattle.typed_object.proofs.Texts.{text_from-whole, text_from-fault, text_from-past}
use Rattle.typed_object.proofs.text.read_text.Goals as goal

pub returns-in_default-clause-text : goal.returns-in_default-clause-text
returns-in_default-clause-text g c =
    let past : 2 ^ 64 ≤ c.args.at + length c.pieces.text.items = omega arith in
    IfSome_then c.args.memory.now.view c.pieces.invariant.front (λ told front.
    text_from-fault (in_space (physical told) c.args.space) c.args.at c.args.count c.pieces.text.items front _
    (text_from-past (physical told) c.args.space (c.args.at + length c.pieces.text.items) _ past (omega arith)))

pub returns-clause-text : goal.returns-clause-text
returns-clause-text g c =
    IfSome_then c.args.memory.now.view c.pieces.invariant.front (λ told front.
    text_from-whole (in_space (physical told) c.args.space) c.args.at c.args.count c.pieces.text.items front (omega arith) ∙ ap (λ (l : List ℕ). Ok l) (sym c.from-2.ensures))
