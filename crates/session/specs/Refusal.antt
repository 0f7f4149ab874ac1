-- Why a command prints one line in place of its text.
use Rattle.std.specs.Prelude.{◌≡◌, ℕ, List, Result, Ok, Err}
use Rattle.cell_text.specs.ErrorLine.{missing_text, no_symbol_text, no_task_text, no_space_text}
use Rattle.kernel_find.specs.FoundText.{found_text}
use Rattle.session.specs.Fault.{out_of_range_text}
use Rattle.session.specs.Said.{Said, prints}
use Rattle.session.specs.declared.refusal.CommandRefusal.{CommandRefusal}
use Rattle.session.specs.declared.refusal.CommandRefusal.TheVariants.{NoKernel, Missing, NoTask, NoSpace, NoSymbol, OutOfRange}
use Rattle.session.specs.declared.refusal.NotRun.{NotRun}
use Rattle.session.specs.declared.refusal.NotRun.TheVariants.{Refused, Fault}

-- the line that says it
unfoldable pub refusal_text : CommandRefusal → List ℕ
refusal_text (NoKernel found) = found_text found
refusal_text (Missing need) = missing_text need
refusal_text (NoTask pid) = no_task_text pid
refusal_text (NoSpace pid) = no_space_text pid
refusal_text (NoSymbol name) = no_symbol_text name
refusal_text OutOfRange = out_of_range_text

-- what comes of an answer; a refusal is the answer
abbrev pub and_then : {A B : Type 0} → Result A CommandRefusal → (A → Result B CommandRefusal) → Result B CommandRefusal
and_then (Ok a) next = next a
and_then (Err refusal) next = Err refusal

-- the text of an answer, or the line of its refusal
abbrev pub text_over : {A : Type 0} → Result A CommandRefusal → (A → List ℕ) → List ℕ
text_over (Ok a) text = text a
text_over (Err refusal) text = refusal_text refusal

-- what is said of an answer, or the line of its refusal
abbrev pub said_over : {A : Type 0} → Result A CommandRefusal → (A → Said) → Said
said_over (Ok a) says = says a
said_over (Err refusal) says = prints (refusal_text refusal)

-- What is wanted was answered, or its refusal. A fault says nothing of it.
abbrev pub AnswersAs : {A : Type 0} → Result A CommandRefusal → Result A NotRun → Type 0
AnswersAs wanted (Ok a) = wanted ≡ Ok a
AnswersAs wanted (Err (Refused refusal)) = wanted ≡ Err refusal
AnswersAs wanted (Err (Fault fault)) = Unit {0}
