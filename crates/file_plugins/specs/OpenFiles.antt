-- The open files of a table. A word of it is the address of a file, and 0 is none. The list ends before the first word that
-- is absent.
use Rattle.std.specs.Prelude.{ℕ, ◌+◌, ◌==◌, if◌then◌else◌, List, [], ◌∷◌, ◌++◌, Option, None, Some}
use Rattle.kernel_records.specs.declared.stop.Stop.{Stop}
use Rattle.kernel_records.specs.declared.stop.Stop.TheVariants.{Unreadable}
use Rattle.word_table.specs.Table.{slot_address, table_stop}
use Rattle.word_table.specs.declared.table.WordTable.{WordTable}

-- a descriptor, which is the index of a word, and the address of its file
pub record OpenFile : Type 0 where
  pub descriptor : ℕ
  pub file : ℕ

-- the file of a word
abbrev pub opened : ℕ → ℕ → List OpenFile
opened index word = if word == 0 then [] else (record { descriptor = index; file = word }) ∷ []

-- the files of words, the first of which has this index
unfoldable pub open_files : ℕ → List (Option ℕ) → List OpenFile
open_files index [] = []
open_files index (None ∷ words) = []
open_files index (Some word ∷ words) = opened index word ++ open_files (index + 1) words

-- why the list ends: at the first word that is absent, else where the table ends
unfoldable pub files_stop : WordTable → ℕ → List (Option ℕ) → Stop
files_stop table index [] = table_stop table
files_stop table index (None ∷ words) = Unreadable (slot_address table index)
files_stop table index (Some word ∷ words) = files_stop table (index + 1) words
