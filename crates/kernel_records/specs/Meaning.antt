-- What a need asks of a symbol file.
use Rattle.std.specs.Prelude.{ℕ, ◌==◌, Bool, true, false, nat_lt, if◌then◌else◌, List, length}
use Rattle.std.specs.List.{position_or_len, before_first, after_first}
use Rattle.kernel_records.specs.Need.{need_text}
use Rattle.kernel_records.specs.declared.meaning.Meaning.{Meaning}
use Rattle.kernel_records.specs.declared.meaning.Meaning.TheVariants as meanings
use Rattle.kernel_records.specs.declared.need.Need.{Need}
use Rattle.kernel_records.specs.declared.need.Need.TheVariants as needs

-- a symbol, one of the symbols of the root, or a member of a user type
pub data Meant : Type 0 where
  Symbol : List ℕ → Meant
  RootSymbol : Meant
  Member : (user : List ℕ) (name : List ℕ) → Meant

-- what a call tells of a meaning
abbrev pub meant : Meaning → Meant
meant (meanings.Symbol name) = Symbol name.now
meant meanings.RootSymbol = RootSymbol
meant (meanings.Member user name) = Member user.now name.now

abbrev pub is_dot : ℕ → Bool
is_dot byte = byte == 46

abbrev pub has_dot : List ℕ → Bool
has_dot text = nat_lt (position_or_len is_dot text) (length text)

-- a text is a symbol's name, or a type before the first dot and its member behind it
abbrev pub meaning_of_text : List ℕ → Meant
meaning_of_text text = if has_dot text then Member (before_first is_dot text) (after_first is_dot text) else Symbol text

-- the need that any of the symbols of the root meets
abbrev pub is_root : Need → Bool
is_root needs.SwapperPgDir = true
is_root _ = false

-- what a need asks of a symbol file
unfoldable pub meaning : Need → Meant
meaning need = if is_root need then RootSymbol else meaning_of_text (need_text need)
