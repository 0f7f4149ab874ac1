-- What is left to read where some of it was read ahead.
use Rattle.std.specs.Prelude.{ℕ, List, Option, slice_range}
use Rattle.std.specs.Io.KnownBytes.{prepend_known}
use Rattle.real_files.specs.declared.ahead.Ahead.{Ahead}

-- the bytes that were read ahead and not yet taken
abbrev pub unread : Ahead → List ℕ
unread ahead = slice_range ahead.bytes ahead.start ahead.end

-- those bytes, and behind them what the file has left, where that is known
abbrev pub left_behind : Ahead → Option (List ℕ) → Option (List ℕ)
left_behind ahead left = prepend_known (unread ahead) left
