-- What a run leaves of the objects that it was lent.
use Rattle.std.specs.Prelude.{◌≡◌, ℕ, ◌-◌, ◌≤◌, List, length, take, Option, IfSome}
use Rattle.std.specs.Io.{StartsWith}
use Rattle.std.specs.Io.KnownBytes.{Appends, Consumes}
use Rattle.layer_base.specs.View.{View}
use Rattle.session.specs.Lines.{cut_lines, lines_of}
use Rattle.session.specs.Script.{parts_of}
use Rattle.session.specs.declared.status.Status.{Status}
use Rattle.session.specs.declared.status.Status.TheVariants.{ScriptFault}

-- a fact over what the image shows, the symbol file's bytes and the script's, where all three are told
abbrev pub WhereTold : Option View → Option (List ℕ) → Option (List ℕ) → (View → List ℕ → List ℕ → Type 0) → Type 0
WhereTold image symbols script P = IfSome image (λ view. IfSome symbols (λ symbols. IfSome script (λ script. P view symbols script)))

-- a source gave a prefix of these bytes
abbrev pub GavePrefix : Option (List ℕ) → Option (List ℕ) → List ℕ → Type 0
GavePrefix old new bytes = (given : List ℕ) × Consumes old new given × StartsWith bytes given

-- a source gave at most so many bytes
pub record GaveAtMost (most : ℕ) (old new : Option (List ℕ)) : Type 0 where
  pub given : List ℕ
  pub consumed : Consumes old new given
  pub few : length given ≤ most

-- The lines but the last. The last is what follows the last newline, or where nothing does, the line that it ends.
abbrev pub lines_before_last : List ℕ → List (List ℕ)
lines_before_last bytes = take (length (lines_of bytes) - 1) (lines_of bytes)

-- Of the bytes that the script gave, each line but the last has its whole part in what was appended to a sink. Where a
-- call on the script failed, each line has it whose newline was given.
pub record HasWholeLines (part : List ℕ → List ℕ) (script script' old new : Option (List ℕ)) (status : Status) : Type 0 where
  pub given : List ℕ
  pub appended : List ℕ
  pub consumed : Consumes script script' given
  pub written : Appends old new appended
  pub lines : StartsWith appended (parts_of part (lines_before_last given))
  pub lines_at_fault : status ≡ ScriptFault → StartsWith appended (parts_of part (cut_lines given).whole)
