-- A run that ends before the script is read.
use Rattle.std.proofs.Common.{◌≡◌, ℕ, Bool, List, [], Option, None, Some, Result, refl, sym, ap}
use Rattle.std.proofs.KnownBytes.{Consumes-nil}
use Rattle.layer_base.specs.AddressSpace.{AddressSpace}
use Rattle.layer_base.specs.Known.{Writes}
use Rattle.layer_base.specs.declared.sink.SinkFault.{SinkFault}
use Rattle.layer_base.specs.View.{View}
use Rattle.layer_base.specs.declared.layer.Kind.{Kind}
use Rattle.isf_reader.specs.Table.{IsfTable, RefusesAs}
use Rattle.isf_reader.specs.declared.refusal.IsfRefusal.{IsfRefusal}
use Rattle.isf_reader.specs.declared.refusal.IsfRefusal.TheVariants as refusals
use Rattle.program_words.specs.Settings.{settings_of}
use Rattle.program_words.specs.declared.settings.Settings.{Settings}
use Rattle.session.specs.Headline.{GavePrefix}
use Rattle.session.specs.Ran.{RanOver, Took}
use Rattle.session.specs.Outcome.{Outcome}
use Rattle.session.specs.Said.{Said, text_part, dump_part}
use Rattle.session.specs.Run.{refused, symbols_refused, table_run, stack_run, run_of, shown_of}
use Rattle.session.specs.Stack.{as_file, attached, stack_of}
use Rattle.session.specs.Status.{IsAnswer, line_result, status_after_line}
use Rattle.session.specs.SymbolFile.{EndsRefused}
use Rattle.session.specs.Words.{has_dump_in, name_dump}
use Rattle.session.specs.declared.status.Status.{Status}
use Rattle.session.specs.declared.status.Status.TheVariants as status
use Rattle.session.proofs.RunLines.{Writes-line}
use Rattle.session.proofs.Sinks.{part-line, part-none}
use Rattle.session.proofs.Statuses.{answer-done}

module _ (words : List (List ℕ)) (formats : List Kind) where
  module _ (settings : Settings) (accepted : settings_of words ≡ Some settings) where
    pub run_of-accepted : (view : View) (symbols script : List ℕ) → run_of words formats view symbols script ≡ stack_run (has_dump_in (Some settings)) (stack_of formats view) symbols script
    unfolding run_of
    run_of-accepted view symbols script = rw accepted refl

    shown_of-accepted-at : (view : View) → shown_of words formats view ≡ attached formats view
    shown_of-accepted-at view = rw accepted refl

    pub shown_of-accepted : shown_of words formats ≡ attached formats
    shown_of-accepted = λ i view. shown_of-accepted-at view i

    pub name_dump-accepted : name_dump words ≡ has_dump_in (Some settings)
    name_dump-accepted = ap has_dump_in accepted

  module _ (not_accepted : settings_of words ≡ None) where
    pub run_of-refused : (view : View) (symbols script : List ℕ) → run_of words formats view symbols script ≡ refused
    unfolding run_of
    run_of-refused view symbols script = rw not_accepted refl

    shown_of-refused-at : (view : View) → shown_of words formats view ≡ as_file view
    shown_of-refused-at view = rw not_accepted refl

    pub shown_of-refused : shown_of words formats ≡ as_file
    shown_of-refused = λ i view. shown_of-refused-at view i

-- A run that takes nothing of the script, dumps nothing and has nothing but a line to write ended, or the line was cut
-- short.
module _ (says : List ℕ → Said) (outcome : Outcome) (none : outcome.script_taken ≡ []) (undumped : outcome.dumped ≡ []) (script : List ℕ) (out out' dump : Option (List ℕ)) (written : Result (Unit {0}) SinkFault) where
  pub line-ended : Writes out out' written outcome.text → RanOver says outcome script (Some script) out out' dump dump (status_after_line outcome.status written)
  line-ended writes = record {
    given = [];
    consumed = refl;
    given_front = refl;
    given_exact = λ answer. sym none;
    status_is = answer-done outcome.status (line_result written);
    text = part-line (text_part says) outcome.text out out' outcome.status (line_result written) (Writes-line out out' written outcome.text writes);
    dumped = part-none (dump_part says) outcome.dumped dump (status_after_line outcome.status written) (λ answer. undumped);
  }

-- A run that a fault of the image or running out of memory ended before the script.
pub none-ran : (says : List ℕ → Said) (outcome : Outcome) (script : List ℕ) (out dump : Option (List ℕ)) (end : Status) → (IsAnswer end → ⊥) → RanOver says outcome script (Some script) out out dump dump end
none-ran says outcome script out dump end no_answer = record {
  given = [];
  consumed = refl;
  given_front = refl;
  given_exact = λ answer. absurd (no_answer answer);
  status_is = λ answer. absurd (no_answer answer);
  text = part-none (text_part says) outcome.text out end (λ answer. absurd (no_answer answer));
  dumped = part-none (dump_part says) outcome.dumped dump end (λ answer. absurd (no_answer answer));
}

-- a run that a refused symbol file or running out of memory ended
pub refused-ran : (says : List ℕ → Said) (has_dump : Bool) (memory : AddressSpace) (wanted : Result IsfTable IsfRefusal) (refusal : IsfRefusal) (script : List ℕ) (out out' dump : Option (List ℕ)) (end : Status)
    → RefusesAs wanted refusal → EndsRefused refusal out out' end → RanOver says (table_run has_dump memory wanted script) script (Some script) out out' dump dump end
refused-ran says has_dump memory wanted refusals.Memory script out out' dump end refuses ends = rw (ends.0, ends.1) (none-ran says (table_run has_dump memory wanted script) script out dump status.Memory (λ answer. answer))
refused-ran says has_dump memory wanted (refusals.TooLarge len) script out out' dump end refuses ends = rw (refuses, ends.2) (line-ended says (symbols_refused (refusals.TooLarge len)) refl refl script out out' dump ends.0 ends.1)
refused-ran says has_dump memory wanted refusals.NotJson script out out' dump end refuses ends = rw (refuses, ends.2) (line-ended says (symbols_refused refusals.NotJson) refl refl script out out' dump ends.0 ends.1)
refused-ran says has_dump memory wanted (refusals.BadEntry section name key) script out out' dump end refuses ends = rw (refuses, ends.2) (line-ended says (symbols_refused (refusals.BadEntry section name key)) refl refl script out out' dump ends.0 ends.1)
refused-ran says has_dump memory wanted (refusals.AnonDepth name) script out out' dump end refuses ends = rw (refuses, ends.2) (line-ended says (symbols_refused (refusals.AnonDepth name)) refl refl script out out' dump ends.0 ends.1)

-- nothing was taken of a source, or a run ended without an answer
pub Took-none : (left : Option (List ℕ)) (end : Status) → Took [] left left end
Took-none left end = record { front = ([], Consumes-nil left, refl); whole = λ answer. Consumes-nil left }

pub Took-front : (taken : List ℕ) (left left' : Option (List ℕ)) (end : Status) → GavePrefix left left' taken → (IsAnswer end → ⊥) → Took taken left left' end
Took-front taken left left' end front no_answer = record { front = front; whole = λ answer. absurd (no_answer answer) }
