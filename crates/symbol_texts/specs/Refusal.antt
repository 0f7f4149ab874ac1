-- The line that says why a symbol file is refused.
use Rattle.std.specs.Prelude.{ℕ, List, [], ◌∷◌, ◌++◌, codes}
use Rattle.cell_text.specs.TextCell.{text_cell}
use Rattle.isf_reader.specs.declared.refusal.IsfRefusal.{IsfRefusal}
use Rattle.isf_reader.specs.declared.refusal.IsfRefusal.TheVariants as refusals
use Rattle.isf_reader.specs.declared.refusal.Key.{Key}
use Rattle.isf_reader.specs.declared.refusal.Key.TheVariants as keys
use Rattle.isf_reader.specs.declared.refusal.Section.{Section}
use Rattle.isf_reader.specs.declared.refusal.Section.TheVariants as sections

-- the keys of a file in which the sections stand, and `file` for the file itself
abbrev pub section_word : Section → List ℕ
section_word sections.File = codes "file"
section_word sections.BaseTypes = codes "base_types"
section_word sections.Enums = codes "enums"
section_word sections.UserTypes = codes "user_types"
section_word sections.Symbols = codes "symbols"

-- the keys of an entry, and `whole` for the entry or the section itself
abbrev pub key_word : Key → List ℕ
key_word keys.Whole = codes "whole"
key_word keys.Size = codes "size"
key_word keys.Signed = codes "signed"
key_word keys.Kind = codes "kind"
key_word keys.Endian = codes "endian"
key_word keys.Base = codes "base"
key_word keys.Constants = codes "constants"
key_word keys.Fields = codes "fields"
key_word keys.Address = codes "address"
key_word keys.Of = codes "type"
key_word keys.ConstantData = codes "constant_data"

-- a name, and `-` for the empty one
abbrev pub name_word : List ℕ → List ℕ
name_word [] = codes "-"
name_word (byte ∷ bytes) = text_cell (byte ∷ bytes)

abbrev pub refusal_words : IsfRefusal → List ℕ
refusal_words (refusals.TooLarge len) = codes "more than 134217728 bytes"
refusal_words refusals.NotJson = codes "not json"
refusal_words (refusals.BadEntry section name key) = section_word section ++ codes " " ++ name_word name ++ codes " " ++ key_word key
refusal_words (refusals.AnonDepth name) = codes "anonymous depth " ++ name_word name
refusal_words refusals.Memory = []

-- the line that says it
unfoldable pub symbols_refusal_text : IsfRefusal → List ℕ
symbols_refusal_text refusal = codes "symbols refused: " ++ refusal_words refusal ++ codes "\n"
