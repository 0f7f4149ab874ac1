-- What the words of a line ask for.
use Rattle.std.specs.Prelude.{ℕ, ◌-◌, ◌^◌, nat_lt, if◌then◌else◌, List, [], ◌∷◌, length, Result, Ok, Err}
use Rattle.command_words.specs.Answer.{◌>>=◌}
use Rattle.command_words.specs.Hex.{needle_of}
use Rattle.command_words.specs.Limits.{most_read, most_dump, most_path}
use Rattle.command_words.specs.Name.{name_of, type_of}
use Rattle.command_words.specs.Number.{number_of}
use Rattle.command_words.specs.Place.{space_of, address_of, is_stretch}
use Rattle.command_words.specs.declared.command.Command.{Command}
use Rattle.command_words.specs.declared.command.Command.TheVariants.{Banners, Kernel, Pslist, Pstree, Lsmod, CheckSyscall, Quit, Maps, Lsof, Read, Dump, Show, Layout, Symbol, Near, Translate, Scan}
use Rattle.command_words.specs.declared.fault.LineFault.{LineFault}
use Rattle.command_words.specs.declared.fault.LineFault.TheVariants.{Words, Range}
use Rattle.command_words.specs.declared.verb.Verb.{Verb}
use Rattle.command_words.specs.declared.verb.Verb.TheVariants as verb

-- a value that no words follow; any word is one too many
abbrev pub of_none : {A : Type 0} → A → List (List ℕ) → Result A LineFault
of_none value [] = Ok value
of_none value _ = Err (Words 0)

-- what one word says; another number of words is a fault
abbrev pub of_one : {A : Type 0} → (List ℕ → Result A LineFault) → List (List ℕ) → Result A LineFault
of_one meaning (word ∷ []) = meaning word
of_one meaning _ = Err (Words 1)

-- what two words say; another number of words is a fault
abbrev pub of_two : {A : Type 0} → (List ℕ → List ℕ → Result A LineFault) → List (List ℕ) → Result A LineFault
of_two meaning (first ∷ second ∷ []) = meaning first second
of_two meaning _ = Err (Words 2)

-- what three words say; another number of words is a fault
abbrev pub of_three : {A : Type 0} → (List ℕ → List ℕ → List ℕ → Result A LineFault) → List (List ℕ) → Result A LineFault
of_three meaning (first ∷ second ∷ third ∷ []) = meaning first second third
of_three meaning _ = Err (Words 3)

-- what four words say; another number of words is a fault
abbrev pub of_four : {A : Type 0} → (List ℕ → List ℕ → List ℕ → List ℕ → Result A LineFault) → List (List ℕ) → Result A LineFault
of_four meaning (first ∷ second ∷ third ∷ fourth ∷ []) = meaning first second third fourth
of_four meaning _ = Err (Words 4)

-- `read SPACE ADDR LEN`
abbrev pub read_of : List ℕ → List ℕ → List ℕ → Result Command LineFault
read_of space at len = do
  space ← space_of space
  at ← address_of at
  len ← number_of len
  if is_stretch most_read at len then Ok (Read space at len) else Err Range

-- `dump SPACE ADDR LEN`
abbrev pub dump_of : List ℕ → List ℕ → List ℕ → Result Command LineFault
dump_of space at len = do
  space ← space_of space
  at ← address_of at
  len ← number_of len
  if is_stretch most_dump at len then Ok (Dump space at len) else Err Range

-- `type SPACE ADDR TYPE`
abbrev pub show_of : List ℕ → List ℕ → List ℕ → Result Command LineFault
show_of space at word = do
  space ← space_of space
  at ← address_of at
  names ← type_of word
  if nat_lt most_path (length names.1) then Err Range else Ok (Show space at names.0 names.1)

-- `translate SPACE ADDR`
abbrev pub translate_of : List ℕ → List ℕ → Result Command LineFault
translate_of space at = do
  space ← space_of space
  at ← address_of at
  Ok (Translate space at)

-- `scan SPACE ADDR LEN HEX`
abbrev pub scan_of : List ℕ → List ℕ → List ℕ → List ℕ → Result Command LineFault
scan_of space at len needle = do
  space ← space_of space
  at ← address_of at
  len ← number_of len
  needle ← needle_of needle
  if is_stretch (2 ^ 64 - 1) at len then Ok (Scan space at len needle) else Err Range

-- a command of one number
abbrev pub with_number : (ℕ → Command) → List (List ℕ) → Result Command LineFault
with_number command words = of_one number_of words >>= λ number. Ok (command number)

-- a command of one name
abbrev pub with_name : (List ℕ → Command) → List (List ℕ) → Result Command LineFault
with_name command words = of_one name_of words >>= λ name. Ok (command name)

-- what the words behind a command ask for
abbrev pub command_of_verb : Verb → List (List ℕ) → Result Command LineFault
command_of_verb verb.Banners words = of_none Banners words
command_of_verb verb.Kernel words = of_none Kernel words
command_of_verb verb.Pslist words = of_none Pslist words
command_of_verb verb.Pstree words = of_none Pstree words
command_of_verb verb.Lsmod words = of_none Lsmod words
command_of_verb verb.CheckSyscall words = of_none CheckSyscall words
command_of_verb verb.Quit words = of_none Quit words
command_of_verb verb.Maps words = with_number Maps words
command_of_verb verb.Lsof words = with_number Lsof words
command_of_verb verb.Read words = of_three read_of words
command_of_verb verb.Dump words = of_three dump_of words
command_of_verb verb.Show words = of_three show_of words
command_of_verb verb.Layout words = with_name Layout words
command_of_verb verb.Symbol words = with_name Symbol words
command_of_verb verb.Near words = with_number Near words
command_of_verb verb.Translate words = of_two translate_of words
command_of_verb verb.Scan words = of_four scan_of words
