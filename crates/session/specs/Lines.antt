-- How bytes are cut into lines.
use Rattle.std.specs.Prelude.{ℕ, ◌==◌, if◌then◌else◌, List, [], ◌∷◌, ◌++◌}

-- the lines that end with a newline, without it, and what follows the last newline
pub record Lines : Type 0 where
  pub whole : List (List ℕ)
  pub rest : List ℕ

-- a byte more at the front
abbrev pub onto_front : ℕ → Lines → Lines
onto_front byte lines = joined byte lines.whole lines.rest
  where
    joined : ℕ → List (List ℕ) → List ℕ → Lines
    joined byte [] rest = record { whole = []; rest = byte ∷ rest }
    joined byte (line ∷ lines) rest = record { whole = (byte ∷ line) ∷ lines; rest = rest }

abbrev pub cut_lines : List ℕ → Lines
cut_lines [] = record { whole = []; rest = [] }
cut_lines (byte ∷ bytes) = if byte == 10 then record { whole = [] ∷ (cut_lines bytes).whole; rest = (cut_lines bytes).rest } else onto_front byte (cut_lines bytes)

-- one line of these bytes, or none where there are none
abbrev pub unless_empty : List ℕ → List (List ℕ)
unless_empty [] = []
unless_empty (byte ∷ bytes) = (byte ∷ bytes) ∷ []

-- the lines, the last of which may lack its newline; an empty rest is no line
abbrev pub lines_of : List ℕ → List (List ℕ)
lines_of bytes = (cut_lines bytes).whole ++ unless_empty (cut_lines bytes).rest
