-- The words that ask for a made image.
use Rattle.std.specs.Prelude.{ℕ, List, [], ◌∷◌, Option, None, if◌then◌else◌, codes}
use Rattle.std.specs.Str.{bytes_eq}
use Rattle.program_words.specs.Number.{number_within}

-- `--make N`, with N from 1 to 64
abbrev pub made_of : List (List ℕ) → Option ℕ
made_of (option ∷ number ∷ []) = if bytes_eq option (codes "--make") then number_within 1 64 number else None
made_of _ = None
