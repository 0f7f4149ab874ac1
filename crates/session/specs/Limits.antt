-- The limits of a run.
use Rattle.std.specs.Prelude.{ℕ}

-- the most bytes of a script that are run
abbrev pub most_script : ℕ
most_script = 16777216

-- how many bytes of a line are kept: one more than a line may have, so that a longer one shows
abbrev pub line_room : ℕ
line_room = 4097
