use Rattle.std.proofs.Common.{◌≡◌, Bool, false, [], ◌∷◌, sym, ap, ◌∙◌, if◌then◌else◌}
use Rattle.image_maker.specs.Machine.{has_five_levels}
use Rattle.image_maker.specs.Written.{word, written}
use Rattle.image_maker.proofs.Writing.{written-nothing}
use Rattle.image_maker.proofs.page_tables.write_at_five_levels.Goals as goal

pub returns-else-has_five_levels : goal.returns-else-has_five_levels
returns-else-has_five_levels c =
    let four : false ≡ has_five_levels c.args.number = sym c.if-has_five_levels.false ∙ c.has_five_levels.ensures in
    written-nothing c.args.bytes.now
    ∙ ap (λ (five : Bool). written (if five then (c.args.offset, word c.args.entry) ∷ [] else []) c.args.bytes.now) four
