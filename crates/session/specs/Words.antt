-- What a run takes of the words of the command line.
use Rattle.std.specs.Prelude.{ℕ, Bool, false, List, Option, None, Some, is_some}
use Rattle.program_words.specs.Settings.{settings_of}
use Rattle.program_words.specs.declared.settings.Settings.{Settings}

-- the words ask for a run
abbrev pub are_accepted : List (List ℕ) → Bool
are_accepted words = is_some (settings_of words)

-- what the words ask for has a file for dumps
abbrev pub has_dump_in : Option Settings → Bool
has_dump_in None = false
has_dump_in (Some settings) = is_some settings.dump

-- the words name a file for dumps
abbrev pub name_dump : List (List ℕ) → Bool
name_dump words = has_dump_in (settings_of words)
