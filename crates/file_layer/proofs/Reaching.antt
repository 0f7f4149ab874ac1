-- How far a hole reaches, of what a layer shows.
use Rattle.std.proofs.Common.{◌≡◌, ℕ, ◌-◌, ◌^◌, List, [], Option, None, Some, Result}
use Rattle.std.specs.Option.{IfSome}
use Rattle.std.specs.Result.{IfOk}
use Rattle.layer_base.specs.Reading.{view_of, reach_of, ReachesTo}
use Rattle.layer_base.specs.View.View.{File}
use Rattle.layer_base.specs.declared.layer.Kind.TheVariants as kinds
use Rattle.layer_base.specs.declared.layer.Run.{Run}
use Rattle.layer_base.specs.declared.reading.Reading.{Reading}
use Rattle.layer_base.specs.declared.reading.Reading.TheVariants as readings
use Rattle.file_layer.specs.Shown.{shown, kind_of}

-- what holds whatever a device holds, holds of what it tells
pub reaches-told : {E : Type 0} (reading : Reading) (held : Option (List ℕ)) (at : ℕ) (result : Result Run E) → ((bytes : List ℕ) → IfOk result (ReachesTo (reach_of (view_of reading (File bytes)) at)))
    → IfSome (shown reading held) (λ view. IfOk result (ReachesTo (reach_of view at)))
reaches-told reading None at result reaches = tt
reaches-told reading (Some bytes) at result reaches = reaches bytes

-- of a raw device it is one reach, whatever it holds
pub reaches-raw : {E : Type 0} (reading : Reading) (at : ℕ) (result : Result Run E) → ((bytes : List ℕ) → IfOk result (ReachesTo (reach_of (view_of reading (File bytes)) at)))
    → kind_of reading ≡ kinds.File → IfOk result (ReachesTo (2 ^ 64 - 1))
reaches-raw readings.Raw at result reaches raw = reaches []
reaches-raw (readings.Ranges segments) at result reaches raw = absurd (cc raw)
