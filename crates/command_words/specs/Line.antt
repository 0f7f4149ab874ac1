-- A line of a script.
use Rattle.std.specs.Prelude.{ℕ, ◌-◌, Bool, ◌||◌, ◌==◌, nat_lt, if◌then◌else◌, List, [], ◌∷◌, length, take, filter, slice_index, Option, None, Some, Result, Ok, Err}
use Rattle.std.specs.List.{slice_split}
use Rattle.command_words.specs.Command.{command_of_verb}
use Rattle.command_words.specs.Limits.{most_line}
use Rattle.command_words.specs.Verb.{verb_of}
use Rattle.command_words.specs.declared.command.Command.{Command}
use Rattle.command_words.specs.declared.command.Command.TheVariants.{Nothing}
use Rattle.command_words.specs.declared.fault.LineFault.{LineFault}
use Rattle.command_words.specs.declared.fault.LineFault.TheVariants.{TooLong, Unknown}
use Rattle.command_words.specs.declared.verb.Verb.{Verb}

-- a blank or a tab
abbrev pub is_blank : ℕ → Bool
is_blank byte = byte == 32 || byte == 9

-- a line without the carriage return at its end
abbrev pub trimmed : List ℕ → List ℕ
trimmed line = if slice_index line (length line - 1) == 13 then take (length line - 1) line else line

-- the words of a line, separated by blanks and tabs
abbrev pub words_of : List ℕ → List (List ℕ)
words_of line = filter (λ word. nat_lt 0 (length word)) (slice_split is_blank line)

-- whether a word begins with `#`
abbrev pub is_comment : List ℕ → Bool
is_comment word = slice_index word 0 == 35

-- what the words behind a command ask for, where it is one
abbrev pub command_with : Option Verb → List (List ℕ) → Result Command LineFault
command_with None words = Err Unknown
command_with (Some verb) words = command_of_verb verb words

-- what the words of a line ask for
abbrev pub command_of_words : List (List ℕ) → Result Command LineFault
command_of_words [] = Ok Nothing
command_of_words (first ∷ rest) = if is_comment first then Ok Nothing else command_with (verb_of first) rest

-- what a line asks for, or its first fault; one that is too long says nothing else, whatever stands in it
abbrev pub command_of : List ℕ → Result Command LineFault
command_of line = if nat_lt most_line (length line) then Err TooLong else command_of_words (words_of (trimmed line))
