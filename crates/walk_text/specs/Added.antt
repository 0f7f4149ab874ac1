-- How lines that are still to come are added to a text, one at a time.
use Rattle.std.specs.Prelude.{◌≡◌, ℕ, Bool, true, false, List, ◌++◌, Option, None, Some, Result, Ok, Err, codes}
use Rattle.kernel_records.specs.declared.fault.WalkFault.{WalkFault}
use Rattle.kernel_records.specs.declared.stop.Stop.{Stop}
use Rattle.cell_text.specs.StopLine.{stop_line}

-- the line of a stop
abbrev pub end_line : Stop → List ℕ
end_line stop = stop_line stop ++ codes "\n"

-- a line went over from the rest to the end of the text, or an empty piece did; or the line of the stop is all of the rest
abbrev pub AddsLine : List ℕ → List ℕ → List ℕ → List ℕ → Result (Option Stop) WalkFault → Type 0
AddsLine rest rest' text text' (Ok None) = text' ++ rest' ≡ text ++ rest
AddsLine rest rest' text text' (Ok (Some stop)) = rest ≡ end_line stop
AddsLine rest rest' text text' (Err fault) = Unit {0}

-- a line went over to the text, or all of the rest did
abbrev pub AddsNext : List ℕ → List ℕ → List ℕ → List ℕ → Result Bool WalkFault → Type 0
AddsNext rest rest' text text' (Ok true) = text' ++ rest' ≡ text ++ rest
AddsNext rest rest' text text' (Ok false) = text' ≡ text ++ rest
AddsNext rest rest' text text' (Err fault) = Unit {0}
