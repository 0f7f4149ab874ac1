-- What the program leaves of the objects that it is lent.
use Rattle.std.specs.Prelude.{◌≡◌, ℕ, ◌+◌, ◌≤◌, ◌⊎◌, List, Option, IfSome}
use Rattle.std.specs.Io.KnownBytes.{Appends, Consumes}
use Rattle.layer_base.specs.Counts.{HasCause}
use Rattle.layer_base.specs.Known.{AppendsPrefix}
use Rattle.layer_base.specs.View.{View}
use Rattle.layer_base.specs.declared.layer.Kind.{Kind}
use Rattle.isf_reader.specs.Table.{most_bytes}
use Rattle.session.specs.Causes.{NothingFailed}
use Rattle.session.specs.Headline.{WhereTold, GaveAtMost, GavePrefix, HasWholeLines}
use Rattle.session.specs.Limits.{most_script}
use Rattle.session.specs.Line.{line_said}
use Rattle.session.specs.Made.{RanMade}
use Rattle.session.specs.Run.{run_of, shown_of, evidence_of}
use Rattle.session.specs.Said.{text_part, dump_part}
use Rattle.session.specs.Stack.{KeepsOrAttaches, Shows}
use Rattle.session.specs.Status.{IsAnswer}
use Rattle.session.specs.Words.{name_dump}
use Rattle.session.specs.declared.status.Status.{Status}
use Rattle.session.specs.declared.status.Status.TheVariants as status

-- what an image shows, under which kind, and its counts
pub record ImageSeen : Type 0 where
  pub view : Option View
  pub kind : Kind
  pub faults : ℕ
  pub calls : ℕ

-- the bytes that a source has left, or that a sink was given, and its count of faults
pub record StreamSeen : Type 0 where
  pub bytes : Option (List ℕ)
  pub faults : ℕ

-- the objects that a run is lent
pub record Objects : Type 0 where
  pub image : ImageSeen
  pub symbols : StreamSeen
  pub script : StreamSeen
  pub out : StreamSeen
  pub dump : StreamSeen

-- a fact over what the image, the symbol file and the script hold, where all three tell it
abbrev pub OverTold : Objects → (View → List ℕ → List ℕ → Type 0) → Type 0
OverTold objects P = WhereTold objects.image.view objects.symbols.bytes objects.script.bytes P

-- All that `run` promises of words, formats and the objects that it was lent.
pub record KeepsRun (words : List (List ℕ)) (formats : List Kind) (old new : Objects) (end : Status) : Type 0 where
  pub text : OverTold old (λ view j s. AppendsPrefix old.out.bytes new.out.bytes (run_of words formats view j s).text)
  pub dumped : OverTold old (λ view j s. AppendsPrefix old.dump.bytes new.dump.bytes (run_of words formats view j s).dumped)
  pub symbols_given : OverTold old (λ view j s. GavePrefix old.symbols.bytes new.symbols.bytes (run_of words formats view j s).symbols_taken)
  pub script_given : OverTold old (λ view j s. GavePrefix old.script.bytes new.script.bytes (run_of words formats view j s).script_taken)
  pub most_symbols : GaveAtMost (most_bytes + 1) old.symbols.bytes new.symbols.bytes
  pub most_script_taken : GaveAtMost (most_script + 1) old.script.bytes new.script.bytes
  pub whole_lines : OverTold old (λ view j s. HasWholeLines (text_part (line_said (name_dump words) (evidence_of formats view j))) old.script.bytes new.script.bytes old.out.bytes new.out.bytes end)
  pub whole_dumps : OverTold old (λ view j s. HasWholeLines (dump_part (line_said (name_dump words) (evidence_of formats view j))) old.script.bytes new.script.bytes old.dump.bytes new.dump.bytes end)
  pub exact_status : OverTold old (λ view j s. IsAnswer end → end ≡ (run_of words formats view j s).status)
  pub exact_text : OverTold old (λ view j s. IsAnswer end → Appends old.out.bytes new.out.bytes (run_of words formats view j s).text)
  pub exact_dumped : OverTold old (λ view j s. IsAnswer end → Appends old.dump.bytes new.dump.bytes (run_of words formats view j s).dumped)
  pub exact_symbols : OverTold old (λ view j s. IsAnswer end → Consumes old.symbols.bytes new.symbols.bytes (run_of words formats view j s).symbols_taken)
  pub exact_script : OverTold old (λ view j s. IsAnswer end → Consumes old.script.bytes new.script.bytes (run_of words formats view j s).script_taken)
  pub image_fault : HasCause old.image.faults new.image.faults (end ≡ status.ImageFault)
  pub symbols_fault : HasCause old.symbols.faults new.symbols.faults (end ≡ status.SymbolsFault)
  pub script_fault : HasCause old.script.faults new.script.faults (end ≡ status.ScriptFault)
  pub out_fault : HasCause old.out.faults new.out.faults (end ≡ status.OutFault)
  pub dump_fault : HasCause old.dump.faults new.dump.faults (end ≡ status.DumpFault)
  pub layer_view : KeepsOrAttaches formats old.image.view old.image.kind new.image.view new.image.kind
  pub exact_layer : IfSome old.image.view (λ view. IsAnswer end → Shows (shown_of words formats view) new.image.view new.image.kind)
  pub layer_calls : old.image.calls ≤ new.image.calls
  pub complete : OverTold old (λ view j s.
      NothingFailed old.image.faults new.image.faults old.symbols.faults new.symbols.faults old.script.faults new.script.faults old.out.faults new.out.faults old.dump.faults new.dump.faults
      → (end ≡ (run_of words formats view j s).status) ⊎ (end ≡ status.Memory))

-- The run over a made image wrote its line or a front of it, and left every other object as it was.
pub record KeepsMade (number : ℕ) (old new : Objects) (end : Status) : Type 0 where
  pub ran : RanMade number old.out.bytes new.out.bytes end
  pub out_fault : HasCause old.out.faults new.out.faults (end ≡ status.OutFault)
  pub image : new.image ≡ old.image
  pub symbols : new.symbols ≡ old.symbols
  pub script : new.script ≡ old.script
  pub dump : new.dump ≡ old.dump
