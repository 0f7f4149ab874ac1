-- How a device is read, and how far its holes are said to reach.
use Rattle.std.specs.Prelude.{◌≡◌, ℕ, ◌-◌, ◌^◌}
use Rattle.layer_base.specs.View.{View}
use Rattle.layer_base.specs.View.View.{File, Ranges}
use Rattle.layer_base.specs.Ranges.{reach}
use Rattle.layer_base.specs.declared.layer.Run.{Run}
use Rattle.layer_base.specs.declared.layer.Run.TheVariants.{Present, Absent}
use Rattle.layer_base.specs.declared.reading.Reading.{Reading}
use Rattle.layer_base.specs.declared.reading.Reading.TheVariants as readings

-- what a reading shows of the view below it
abbrev pub view_of : Reading → View → View
view_of readings.Raw below = below
view_of (readings.Ranges segments) below = Ranges below segments

-- The last address of a hole in a view. In a file it is the last of all. In ranges it is the one before the next range
-- begins, and no further than the range that shows the address.
abbrev pub reach_of : View → ℕ → ℕ
reach_of (File bytes) at = 2 ^ 64 - 1
reach_of (Ranges below segments) at = reach segments at

-- a hole reaches just so far
abbrev pub ReachesTo : ℕ → Run → Type 0
ReachesTo last (Present count) = Unit {0}
ReachesTo last (Absent to) = to ≡ last
