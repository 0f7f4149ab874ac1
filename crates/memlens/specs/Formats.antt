-- The formats of images.
use Rattle.std.specs.Prelude.{List, [], ◌∷◌}
use Rattle.layer_base.specs.declared.layer.Kind.{Kind}
use Rattle.layer_base.specs.declared.layer.Kind.TheVariants.{Lime}

-- the formats that the program tries on an image, in their order
abbrev pub formats : List Kind
formats = Lime ∷ []
