-- What a device shows under its reading.
use Rattle.std.specs.Prelude.{ℕ, List, Option, option_map}
use Rattle.layer_base.specs.Reading.{view_of}
use Rattle.layer_base.specs.View.{View}
use Rattle.layer_base.specs.View.View.{File}
use Rattle.layer_base.specs.declared.layer.Kind.{Kind}
use Rattle.layer_base.specs.declared.layer.Kind.TheVariants as kinds
use Rattle.layer_base.specs.declared.reading.Reading.{Reading}
use Rattle.layer_base.specs.declared.reading.Reading.TheVariants as readings

-- where the device tells its bytes
abbrev pub shown : Reading → Option (List ℕ) → Option View
shown reading held = option_map (λ bytes. view_of reading (File bytes)) held

abbrev pub kind_of : Reading → Kind
kind_of readings.Raw = kinds.File
kind_of (readings.Ranges segments) = kinds.Lime
