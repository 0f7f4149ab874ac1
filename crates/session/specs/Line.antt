-- What a line says, and which line ends a script.
use Rattle.std.specs.Prelude.{ℕ, Bool, true, false, List, Result, Ok, Err}
use Rattle.command_words.specs.Line.{command_of}
use Rattle.command_words.specs.declared.command.Command.{Command}
use Rattle.command_words.specs.declared.command.Command.TheVariants.{Quit}
use Rattle.command_words.specs.declared.fault.LineFault.{LineFault}
use Rattle.session.specs.Command.{command_said}
use Rattle.session.specs.Evidence.{Evidence}
use Rattle.session.specs.Fault.{fault_text}
use Rattle.session.specs.Said.{Said, prints}
use Rattle.session.specs.Turn.{flow_by}
use Rattle.session.specs.declared.command.Flow.{Flow}

-- what a line's command says, or the error line of a line that is no command
abbrev pub said_of : Bool → Evidence → Result Command LineFault → Said
said_of has_dump evidence (Ok command) = command_said has_dump evidence command
said_of has_dump evidence (Err fault) = prints (fault_text fault)

-- what a line says, by whether there is a file for dumps
abbrev pub line_said : Bool → Evidence → List ℕ → Said
line_said has_dump evidence line = said_of has_dump evidence (command_of line)

-- the command that ends a script
abbrev pub ends_script : Result Command LineFault → Bool
ends_script (Ok Quit) = true
ends_script _ = false

abbrev pub is_quit : List ℕ → Bool
is_quit line = ends_script (command_of line)

-- `quit` ends the script
abbrev pub flow_of : Command → Flow
flow_of command = flow_by (ends_script (Ok command))
