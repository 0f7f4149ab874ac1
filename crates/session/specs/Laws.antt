-- Laws of the definitions.
use Rattle.std.specs.Prelude.{◌≡◌, ℕ, Bool, List}
use Rattle.layer_base.specs.View.{View, physical}
use Rattle.isf_reader.specs.Table.{IsfTable}
use Rattle.session.specs.Evidence.{evidence_in}
use Rattle.session.specs.Line.{line_said, is_quit}
use Rattle.session.specs.Outcome.{Outcome}
use Rattle.session.specs.Script.{script_run}

-- what a script comes to over what an image shows and a table
abbrev pub shown_run : Bool → View → IsfTable → List ℕ → Outcome
shown_run has_dump view table script = script_run (line_said has_dump (evidence_in view table)) is_quit script

-- Two images that show the same byte at every address give the same text and the same dumped bytes, whatever their
-- containers are.
abbrev pub AreSameTexts : Type 0
AreSameTexts = (has_dump : Bool) → (one other : View) → ((at : ℕ) → physical one at ≡ physical other at)
    → (table : IsfTable) → (script : List ℕ) → shown_run has_dump one table script ≡ shown_run has_dump other table script
