-- What a word adds to the lines of open files.
use Rattle.std.proofs.Common.{◌≡◌, ℕ, ◌+◌, ◌≤◌, ◌==◌, Bool, false, if◌then◌else◌, refl, List, [], ◌∷◌, ◌++◌, Option, None, Some, append_assoc, sym, ap, ◌∙◌, arith}
use Rattle.std.proofs.lemmas.Bool.{ne_eqb}
use Rattle.std.specs.List.{flat_map}
use Rattle.std.specs.Prelude.{decimal}
use Rattle.kernel_records.specs.declared.stop.Stop.TheVariants.{Unreadable}
use Rattle.walk_text.specs.Added.{end_line}
use Rattle.word_table.specs.Table.{slot_address, table_stop}
use Rattle.word_table.specs.declared.table.WordTable.{WordTable}
use Rattle.file_plugins.specs.OpenFiles.{open_files, files_stop}
use Rattle.file_plugins.specs.Rows.{file_row, lines_from}

module _ (cells : ℕ → List ℕ) (table : WordTable) (index : ℕ) where
  -- no word is left
  pub lines-end : (words : List (Option ℕ)) → words ≡ [] → lines_from cells table index words ≡ end_line (table_stop table)
  unfolding lines_from open_files files_stop
  lines-end words none = ap (lines_from cells table index) none

  -- an absent word ends the list
  pub lines-absent : (words : List (Option ℕ)) → lines_from cells table index (None ∷ words) ≡ end_line (Unreadable (slot_address table index))
  unfolding lines_from open_files files_stop
  lines-absent words = refl

  -- a zero word has no row
  pub lines-zero : (words : List (Option ℕ)) → lines_from cells table index (Some 0 ∷ words) ≡ lines_from cells table (index + 1) words
  unfolding lines_from open_files files_stop
  lines-zero words = refl

  -- any other has a row
  pub lines-file : (file : ℕ) (words : List (Option ℕ)) → 1 ≤ file → lines_from cells table index (Some file ∷ words) ≡ (decimal index ++ cells file) ++ lines_from cells table (index + 1) words
  unfolding lines_from open_files files_stop
  lines-file file words some =
      let other : (file == 0) ≡ false = ne_eqb file 0 (λ none. omega (some, none, arith)) in
      ap (λ (none : Bool). flat_map (file_row cells) ((if none then [] else (record { descriptor = index; file = file }) ∷ []) ++ open_files (index + 1) words) ++ end_line (files_stop table (index + 1) words)) other
      ∙ append_assoc (decimal index ++ cells file) (flat_map (file_row cells) (open_files (index + 1) words)) (end_line (files_stop table (index + 1) words))

module _ (cells : ℕ → List ℕ) where
  -- the row of a word goes over to the text
  pub lines-next : (table table' : WordTable) (index index' file : ℕ) (words words' : List (Option ℕ)) (text text' : List ℕ) → 1 ≤ file → table' ≡ table → index' ≡ index + 1 → words ≡ Some file ∷ words' → text' ≡ text ++ (decimal index ++ cells file) → text' ++ lines_from cells table' index' words' ≡ text ++ lines_from cells table index words
  lines-next table table' index index' file words words' text text' some same next first added =
      (λ i. added i ++ lines_from cells (same i) (next i) words')
      ∙ append_assoc text (decimal index ++ cells file) (lines_from cells table (index + 1) words')
      ∙ ap (λ (l : List ℕ). text ++ l) (sym (ap (lines_from cells table index) first ∙ lines-file cells table index file words' some))
