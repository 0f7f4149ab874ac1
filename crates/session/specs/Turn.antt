-- What one byte more of a script does, by what its lines say and which of them end it.
use Rattle.std.specs.Prelude.{ℕ, ◌==◌, Bool, true, false, if◌then◌else◌, List, [], ◌∷◌, ◌++◌, take}
use Rattle.session.specs.Limits.{line_room}
use Rattle.session.specs.Lines.{unless_empty}
use Rattle.session.specs.Script.{parts_of}
use Rattle.session.specs.declared.command.Flow.{Flow}
use Rattle.session.specs.declared.command.Flow.TheVariants.{NextLine, Quit}

-- a newline runs the line
abbrev pub turn_part : (List ℕ → List ℕ) → List ℕ → ℕ → List ℕ
turn_part part line byte = if byte == 10 then part line else []

-- the line after it
abbrev pub turn_line : List ℕ → ℕ → List ℕ
turn_line line byte = if byte == 10 then [] else take line_room (line ++ byte ∷ [])

-- whether a script goes on, by whether it ends
abbrev pub flow_by : Bool → Flow
flow_by true = Quit
flow_by false = NextLine

-- whether it goes on behind a line
abbrev pub flow_after : (List ℕ → Bool) → List ℕ → Flow
flow_after quits line = flow_by (quits line)

-- whether it goes on behind the byte
abbrev pub turn_flow : (List ℕ → Bool) → List ℕ → ℕ → Flow
turn_flow quits line byte = if byte == 10 then flow_after quits line else NextLine

-- the end of a script runs the line that lacks its newline
abbrev pub rest_part : (List ℕ → List ℕ) → List ℕ → List ℕ
rest_part part line = parts_of part (unless_empty line)
