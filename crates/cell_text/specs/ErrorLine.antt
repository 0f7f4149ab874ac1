-- The lines that say why a command prints nothing else, each with its newline.
use Rattle.std.specs.Prelude.{ℕ, List, ◌++◌, codes, decimal, Option, None, Some}
use Rattle.kernel_records.specs.Meaning.{Meant, meaning}
use Rattle.kernel_records.specs.Meaning.Meant.{Symbol, RootSymbol, Member}
use Rattle.kernel_records.specs.Need.{need_text}
use Rattle.kernel_records.specs.declared.need.Need.{Need}
use Rattle.cell_text.specs.TextCell.{text_cell}

-- that a symbol, or a member of a type, is missing
abbrev pub missing_words : Meant → List ℕ
missing_words (Symbol name) = codes "error: no symbol "
missing_words RootSymbol = codes "error: no symbol "
missing_words (Member user name) = codes "error: no member "

-- the name that a command needs and that is missing
unfoldable pub missing_text : Need → List ℕ
missing_text need = missing_words (meaning need) ++ need_text need ++ codes "\n"

-- the line of what is missing, and a text where nothing is
abbrev pub unless_missing : Option Need → List ℕ → List ℕ
unless_missing None text = text
unless_missing (Some need) text = missing_text need

-- that a name has no symbol
unfoldable pub no_symbol_text : List ℕ → List ℕ
no_symbol_text name = codes "error: no symbol " ++ text_cell name ++ codes "\n"

-- that no task has a PID
unfoldable pub no_task_text : ℕ → List ℕ
no_task_text pid = codes "error: no task " ++ decimal pid ++ codes "\n"

-- that the task of a PID has no space
unfoldable pub no_space_text : ℕ → List ℕ
no_space_text pid = codes "error: no space " ++ decimal pid ++ codes "\n"
