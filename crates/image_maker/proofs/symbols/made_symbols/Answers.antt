use Rattle.std.proofs.Common.{ℕ, Vec, Global, ap, ◌∙◌}
use Rattle.serde_json.specs.Written.{compact_text, has_float}
use Rattle.image_maker.specs.Symbols.{made_symbols}
use Rattle.image_maker.proofs.Floats.{no-float}
use Rattle.image_maker.proofs.symbols.made_symbols.Goals as goal

pub returns : goal.returns
unfolding made_symbols
returns c =
    ap (λ (bytes : Vec ℕ Global). bytes.items) c.into_bytes.ensures.value
    ∙ c.in_ok-text.ensures.text (ap has_float c.in_ok-file_value.ensures ∙ no-float c.args.number)
    ∙ ap compact_text c.in_ok-file_value.ensures
