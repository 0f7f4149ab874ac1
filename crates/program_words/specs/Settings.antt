-- What the words of the command line ask for.
use Rattle.std.specs.Prelude.{ℕ, if◌then◌else◌, List, Option, Some, None, codes}
use Rattle.clap.specs.Words.{Text}
use Rattle.program_words.specs.CommandLine.{fits, text_of}
use Rattle.program_words.specs.Number.{number_within}
use Rattle.program_words.specs.declared.settings.Settings.{Settings}

-- the second step, where the first gave a value
infixl 10 ◌>>=◌
abbrev ◌>>=◌ : {A B : Type 0} → Option A → (A → Option B) → Option B
None >>= next = None
Some value >>= next = next value

-- the number that an option's text writes, where it is in its range; the default of an option that is missing
abbrev pub number_or : ℕ → ℕ → ℕ → Option Text → Option ℕ
number_or default least most None = Some default
number_or default least most (Some text) = number_within least most text

-- for how many runs the memory has room
abbrev pub cache_of : List Text → Option ℕ
cache_of words = number_or 4096 0 1048576 (text_of (codes "cache") words)

-- how many bytes a scan reads at once
abbrev pub chunk_of : List Text → Option ℕ
chunk_of words = number_or 1048576 4096 16777216 (text_of (codes "chunk") words)

-- what fitting words ask for
abbrev pub settings_of_fitting : List Text → Option Settings
settings_of_fitting words = do
  image ← text_of (codes "IMAGE") words
  symbols ← text_of (codes "SYMBOLS") words
  cache ← cache_of words
  chunk ← chunk_of words
  Some (record { image = image; symbols = symbols; dump = text_of (codes "DUMP") words; cache = cache; chunk = chunk })

-- what the words ask for, or nothing where they are refused
unfoldable pub settings_of : List Text → Option Settings
settings_of words = if fits words then settings_of_fitting words else None
