-- A made symbol file has whole numbers alone.
use Rattle.std.proofs.Common.{◌≡◌, ℕ, false, refl}
use Rattle.serde_json.specs.Written.{has_float}
use Rattle.image_maker.specs.Symbols.{calls_value, banner_value, symbols_value, file_value}
use Rattle.image_maker.specs.Types.{base_types_value, user_types_value}

pub no-float : (number : ℕ) → has_float (file_value number) ≡ false
unfolding calls_value banner_value symbols_value file_value base_types_value user_types_value
no-float number = refl
