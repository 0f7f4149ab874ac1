-- The files that the program opens.
use Rattle.std.specs.Prelude.{ℕ, List, [], Option, None, Some}
use Rattle.std.specs.Option.{unwrap_or}
use Rattle.program_words.specs.declared.settings.Settings.{Settings}
use Rattle.memlens.specs.declared.program.Paths.{Paths}

-- the paths that the words of a command line name: a dump that they don't name has an empty path, and where they are
-- refused all paths are empty
abbrev pub paths_by : Option Settings → Paths
paths_by None = record { image = []; symbols = []; dump = [] }
paths_by (Some settings) = record { image = settings.image; symbols = settings.symbols; dump = unwrap_or settings.dump [] }
