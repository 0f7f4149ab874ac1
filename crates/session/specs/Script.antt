-- What a script comes to, by what its lines say and which of them end it.
use Rattle.std.specs.Prelude.{ℕ, ◌+◌, Bool, nat_le, if◌then◌else◌, List, [], ◌∷◌, ◌++◌, length, take, codes}
use Rattle.std.specs.List.{flat_map}
use Rattle.session.specs.Limits.{most_script}
use Rattle.session.specs.Lines.{cut_lines, lines_of}
use Rattle.session.specs.Outcome.{Outcome}
use Rattle.session.specs.Said.{Said, text_part, dump_part}
use Rattle.session.specs.declared.status.Status.TheVariants as status

-- what lines give to one sink, of each of which this part goes there
abbrev pub parts_of : (List ℕ → List ℕ) → List (List ℕ) → List ℕ
parts_of part lines = flat_map part lines

-- lines with their newlines through the first that ends a script; where none does, all of them and what follows the
-- last newline
abbrev pub joined_through_quit : (List ℕ → Bool) → List (List ℕ) → List ℕ → List ℕ
joined_through_quit quits [] rest = rest
joined_through_quit quits (line ∷ lines) rest = line ++ 10 ∷ (if quits line then [] else joined_through_quit quits lines rest)

-- the bytes of a script through the newline of the first line that ends it, or all
unfoldable pub through_quit : (List ℕ → Bool) → List ℕ → List ℕ
through_quit quits script = joined_through_quit quits (cut_lines script).whole (cut_lines script).rest

-- so many bytes are run whole
abbrev pub is_short : List ℕ → Bool
is_short bytes = nat_le (length bytes) most_script

-- What the lines of bytes give to one sink. Where there are too many, what those lines give whose newline stands within
-- the bytes that are read, and something behind it.
unfoldable pub script_part : (List ℕ → List ℕ) → List ℕ → List ℕ → List ℕ
script_part part behind bytes =
    if is_short bytes
    then parts_of part (lines_of bytes)
    else parts_of part (cut_lines (take most_script bytes)).whole ++ behind

-- how much is taken: all, or one byte more than may be read
unfoldable pub script_taken : List ℕ → List ℕ
script_taken bytes = if is_short bytes then bytes else take (most_script + 1) bytes

-- What bytes of a script come to of which none follow a line that ends it. Where there are too many, a line of the text
-- says so, and nothing is dumped for it.
abbrev pub bytes_run : (List ℕ → Said) → List ℕ → Outcome
bytes_run says bytes = record {
  status = if is_short bytes then status.Ok else status.ScriptTooLong;
  text = script_part (text_part says) (codes "script too long\n") bytes;
  dumped = script_part (dump_part says) [] bytes;
  symbols_taken = [];
  script_taken = script_taken bytes;
}

-- a script is run through the first line that ends it; the bytes behind that are neither looked at nor taken
abbrev pub script_run : (List ℕ → Said) → (List ℕ → Bool) → List ℕ → Outcome
script_run says quits script = bytes_run says (through_quit quits script)
