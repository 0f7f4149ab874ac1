-- How far a script ran.
use Rattle.std.specs.Prelude.{◌≡◌, ℕ, List, Option, Some}
use Rattle.std.specs.Io.{StartsWith}
use Rattle.std.specs.Io.KnownBytes.{Appends, Consumes}
use Rattle.session.specs.Headline.{GavePrefix, lines_before_last}
use Rattle.session.specs.Lines.{cut_lines}
use Rattle.session.specs.Outcome.{Outcome}
use Rattle.session.specs.Said.{Said, text_part, dump_part}
use Rattle.session.specs.Script.{parts_of}
use Rattle.session.specs.Status.{IsAnswer}
use Rattle.session.specs.declared.status.Status.{Status}
use Rattle.session.specs.declared.status.Status.TheVariants as status

-- how a script may end
abbrev pub IsScriptEnd : Status → Type 0
IsScriptEnd status.Ok = Unit {0}
IsScriptEnd status.ImageFault = Unit {0}
IsScriptEnd status.ScriptFault = Unit {0}
IsScriptEnd status.OutFault = Unit {0}
IsScriptEnd status.DumpFault = Unit {0}
IsScriptEnd status.ScriptTooLong = Unit {0}
IsScriptEnd status.Memory = Unit {0}
IsScriptEnd _ = ⊥

-- how a run may end behind the symbol file: as a script, or with the file refused
abbrev pub IsTableEnd : Status → Type 0
IsTableEnd status.SymbolsRefused = Unit {0}
IsTableEnd end = IsScriptEnd end

-- Of a run that was given these bytes of the script and has this whole to give to one sink, a front of it was appended.
-- Each line but the last has its part there, each line whose newline was given where a call on the script failed, and
-- under an answer it is the whole.
pub record RanPart (part : List ℕ → List ℕ) (whole given : List ℕ) (old new : Option (List ℕ)) (end : Status) : Type 0 where
  pub appended : List ℕ
  pub written : Appends old new appended
  pub front : StartsWith whole appended
  pub lines : StartsWith appended (parts_of part (lines_before_last given))
  pub lines_at_fault : end ≡ status.ScriptFault → StartsWith appended (parts_of part (cut_lines given).whole)
  pub exact : IsAnswer end → appended ≡ whole

-- Of a run that comes to this outcome, a front of what it takes of the script was given, and a front of what it prints
-- and of what it dumps was appended. An answer is the status that it comes to, and then all was given and appended.
pub record RanOver (says : List ℕ → Said) (outcome : Outcome) (script : List ℕ) (left out out' dump dump' : Option (List ℕ)) (end : Status) : Type 0 where
  pub given : List ℕ
  pub consumed : Consumes (Some script) left given
  pub given_front : StartsWith outcome.script_taken given
  pub given_exact : IsAnswer end → given ≡ outcome.script_taken
  pub status_is : IsAnswer end → end ≡ outcome.status
  pub text : RanPart (text_part says) outcome.text given out out' end
  pub dumped : RanPart (dump_part says) outcome.dumped given dump dump' end

-- Of a source whose bytes are taken so far by a run that comes to its end, a front of them was taken, and under an answer
-- all of them.
pub record Took (taken : List ℕ) (left left' : Option (List ℕ)) (end : Status) : Type 0 where
  pub front : GavePrefix left left' taken
  pub whole : IsAnswer end → Consumes left left' taken
