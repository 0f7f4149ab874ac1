-- The limits of a line, and those that every command keeps.
use Rattle.std.specs.Prelude.{ℕ, ◌+◌, ◌*◌, ◌^◌, ◌<◌, ◌≤◌, length}
use Rattle.command_words.specs.declared.command.AddrWord.{AddrWord}
use Rattle.command_words.specs.declared.command.AddrWord.TheVariants as address
use Rattle.command_words.specs.declared.command.Command.{Command}
use Rattle.command_words.specs.declared.command.Command.TheVariants.{Read, Dump, Show, Scan}

-- the most bytes of a line, its carriage return counted
abbrev pub most_line : ℕ
most_line = 4096

-- the most bytes that one `read` prints
abbrev pub most_read : ℕ
most_read = 1048576

-- the most bytes that one `dump` writes
abbrev pub most_dump : ℕ
most_dump = 2 ^ 36

-- the most names of a path, behind that of its type
abbrev pub most_path : ℕ
most_path = 256

-- so many bytes from an address on end at or below the last address, where it is a number
abbrev pub EndsInRange : AddrWord → ℕ → Type 0
EndsInRange (address.Number at) len = at + len ≤ 2 ^ 64
EndsInRange (address.Symbol name) len = Unit {0}

-- a length of at least 1, which ends in range
abbrev pub IsStretch : AddrWord → ℕ → Type 0
IsStretch at len = (1 ≤ len) × EndsInRange at len

-- the lengths, the ends of ranges and the names of a path are within their limits; a needle has at least one byte, and
-- no more than a line has room for, in which two digits write a byte
abbrev pub KeepsLimits : Command → Type 0
KeepsLimits (Read space at len) = IsStretch at len × (len ≤ most_read)
KeepsLimits (Dump space at len) = IsStretch at len × (len ≤ most_dump)
KeepsLimits (Show space at name path) = length path ≤ most_path
KeepsLimits (Scan space at len needle) = IsStretch at len × (0 < length needle) × (2 * length needle ≤ most_line)
KeepsLimits _ = Unit {0}
