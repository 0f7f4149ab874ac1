-- Where a module is read.
use Rattle.std.specs.Prelude.{option_map}
use Rattle.type_layout.specs.Member.{spot}
use Rattle.module_plugins.specs.Size.{SizeParts}
use Rattle.module_plugins.specs.declared.size.SizePlaces.{SizePlaces}

-- the parts of a size that stand at these places
abbrev pub parts_at : SizePlaces → SizeParts
parts_at places = record { core = option_map spot places.core; initial = option_map spot places.initial }
