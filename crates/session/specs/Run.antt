-- What a run comes to.
use Rattle.std.specs.Prelude.{ℕ, Bool, if◌then◌else◌, List, [], codes, Result, Ok, Err}
use Rattle.layer_base.specs.AddressSpace.{AddressSpace}
use Rattle.layer_base.specs.View.{View, physical}
use Rattle.layer_base.specs.declared.layer.Kind.{Kind}
use Rattle.isf_reader.specs.Table.{IsfTable, table_of}
use Rattle.isf_reader.specs.declared.refusal.IsfRefusal.{IsfRefusal}
use Rattle.symbol_texts.specs.Refusal.{symbols_refusal_text}
use Rattle.session.specs.Evidence.{Evidence, evidence_at, evidence_over}
use Rattle.session.specs.Line.{line_said, is_quit}
use Rattle.session.specs.Outcome.{Outcome}
use Rattle.session.specs.Script.{script_run}
use Rattle.session.specs.Stack.{Shown, as_file, stack_of, attached, attached_view, refusal_text}
use Rattle.session.specs.SymbolFile.{symbols_taken}
use Rattle.session.specs.Words.{are_accepted, name_dump}
use Rattle.session.specs.declared.stack.Refusal.{Refusal}
use Rattle.session.specs.declared.status.Status.TheVariants as status

-- the words of the command line are refused
abbrev pub refused : Outcome
refused = record {
  status = status.Usage;
  text = codes "usage: memlens IMAGE SYMBOLS [DUMP] [--cache N] [--chunk N]\n";
  dumped = [];
  symbols_taken = [];
  script_taken = [];
}

-- nothing is taken of the symbol file and of the script
abbrev pub image_refused : Refusal → Outcome
image_refused refusal = record {
  status = status.ImageRefused;
  text = refusal_text refusal;
  dumped = [];
  symbols_taken = [];
  script_taken = [];
}

-- nothing is taken of the script
abbrev pub symbols_refused : IsfRefusal → Outcome
symbols_refused refusal = record {
  status = status.SymbolsRefused;
  text = symbols_refusal_text refusal;
  dumped = [];
  symbols_taken = [];
  script_taken = [];
}

-- the script is run over a memory and the table of a symbol file
abbrev pub table_run : Bool → AddressSpace → Result IsfTable IsfRefusal → List ℕ → Outcome
table_run has_dump memory (Ok table) script = script_run (line_said has_dump (evidence_at memory table)) is_quit script
table_run has_dump memory (Err refusal) script = symbols_refused refusal

-- the symbol file was taken before that
abbrev pub behind_symbols : List ℕ → Outcome → Outcome
behind_symbols symbols outcome = record {
  status = outcome.status;
  text = outcome.text;
  dumped = outcome.dumped;
  symbols_taken = symbols_taken symbols;
  script_taken = outcome.script_taken;
}

-- the symbol file is read, and then the script is run over a memory
abbrev pub memory_run : Bool → AddressSpace → List ℕ → List ℕ → Outcome
memory_run has_dump memory symbols script = behind_symbols symbols (table_run has_dump memory (table_of symbols) script)

-- over the memory of what the image shows
abbrev pub stack_run : Bool → Result Shown Refusal → List ℕ → List ℕ → Outcome
stack_run has_dump (Ok shown) symbols script = memory_run has_dump (physical shown.view) symbols script
stack_run has_dump (Err refusal) symbols script = image_refused refusal

-- Words that aren't accepted are refused, and nothing is taken. Else the formats are tried on the image, the symbol file
-- is read, and the script is run over what they show. The options of the words change nothing of it.
unfoldable pub run_of : List (List ℕ) → List Kind → View → List ℕ → List ℕ → Outcome
run_of words formats view symbols script = if are_accepted words then stack_run (name_dump words) (stack_of formats view) symbols script else refused

-- what a script is run over, where the symbol file is not refused
abbrev pub evidence_of : List Kind → View → List ℕ → Evidence
evidence_of formats view symbols = evidence_over (physical (attached_view formats view)) symbols

-- what the image shows after such a run
abbrev pub shown_of : List (List ℕ) → List Kind → View → Shown
shown_of words formats view = if are_accepted words then attached formats view else as_file view
