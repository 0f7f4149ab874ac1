-- Spaces, addresses and lengths in a line.
use Rattle.std.specs.Prelude.{ℕ, ◌+◌, ◌-◌, ◌^◌, Bool, true, ◌==◌, ◌&&◌, nat_le, if◌then◌else◌, List, [], ◌∷◌, length, take, drop, codes, Result, Ok, Err}
use Rattle.std.specs.Str.{bytes_eq}
use Rattle.layer_base.specs.declared.space.Levels.{Levels}
use Rattle.layer_base.specs.declared.space.Levels.TheVariants.{Four, Five}
use Rattle.command_words.specs.Answer.{◌>>=◌}
use Rattle.command_words.specs.Name.{name_of}
use Rattle.command_words.specs.Number.{number_of}
use Rattle.command_words.specs.declared.command.AddrWord.{AddrWord}
use Rattle.command_words.specs.declared.command.AddrWord.TheVariants as address
use Rattle.command_words.specs.declared.command.SpaceWord.{SpaceWord}
use Rattle.command_words.specs.declared.command.SpaceWord.TheVariants.{Phys, Kernel, Task, Root}
use Rattle.command_words.specs.declared.fault.LineFault.{LineFault}
use Rattle.command_words.specs.declared.fault.LineFault.TheVariants.{SpaceName, Number}

-- a space made of a number; where a word is no number, it names no space
abbrev pub space_with : (ℕ → SpaceWord) → Result ℕ LineFault → Result SpaceWord LineFault
space_with space (Ok number) = Ok (space number)
space_with space (Err _) = Err SpaceName

-- the space of the task with a PID
abbrev pub task_of : List ℕ → Result SpaceWord LineFault
task_of pid = space_with Task (number_of pid)

-- the space of a root, with a count of levels
abbrev pub paged_of : List ℕ → Levels → Result SpaceWord LineFault
paged_of root levels = space_with (λ number. Root number levels) (number_of root)

-- whether a word ends with some bytes
abbrev pub ends_with : List ℕ → List ℕ → Bool
ends_with word end = bytes_eq (drop (length word - length end) word) end

-- the space of a root, which `:4` or `:5` follows
abbrev pub root_of : List ℕ → Result SpaceWord LineFault
root_of word =
    if ends_with word (codes ":4") then paged_of (take (length word - 2) word) Four
    else if ends_with word (codes ":5") then paged_of (take (length word - 2) word) Five
    else Err SpaceName

-- whether a word begins with some bytes
abbrev pub begins_with : List ℕ → List ℕ → Bool
begins_with word front = bytes_eq (take (length front) word) front

-- the space that a word names
abbrev pub space_of : List ℕ → Result SpaceWord LineFault
space_of word =
    if bytes_eq word (codes "phys") then Ok Phys
    else if bytes_eq word (codes "kernel") then Ok Kernel
    else if begins_with word (codes "task:") then task_of (drop 5 word)
    else if begins_with word (codes "root:") then root_of (drop 5 word)
    else Err SpaceName

-- an address that is a number
abbrev pub place_of : List ℕ → Result AddrWord LineFault
place_of word = do
  number ← number_of word
  Ok (address.Number number)

-- an address that is the place of a symbol, whose name has at least one byte
abbrev pub symbol_of : List ℕ → Result AddrWord LineFault
symbol_of [] = Err Number
symbol_of (byte ∷ bytes) = do
  name ← name_of (byte ∷ bytes)
  Ok (address.Symbol name)

-- an address: a number, or `@` and a name
abbrev pub address_of : List ℕ → Result AddrWord LineFault
address_of [] = place_of []
address_of (first ∷ rest) = if first == 64 then symbol_of rest else place_of (first ∷ rest)

-- whether so many bytes from an address on end at or below the last address, where it is a number
abbrev pub ends_in_range : AddrWord → ℕ → Bool
ends_in_range (address.Number at) len = nat_le (at + len) (2 ^ 64)
ends_in_range (address.Symbol name) len = true

-- whether a length is from 1 to a limit, and ends in range
abbrev pub is_stretch : ℕ → AddrWord → ℕ → Bool
is_stretch most at len = nat_le 1 len && nat_le len most && ends_in_range at len
