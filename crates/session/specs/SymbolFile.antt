-- How a symbol file is taken, and how a run ends that refuses it.
use Rattle.std.specs.Prelude.{◌≡◌, ℕ, ◌+◌, ◌≤◌, List, ◌++◌, length, take, Option, Result, IfOk}
use Rattle.std.specs.Io.KnownBytes.{Consumes, IsAtEnd}
use Rattle.isf_reader.specs.Table.{most_bytes}
use Rattle.isf_reader.specs.declared.refusal.IsfRefusal.{IsfRefusal}
use Rattle.isf_reader.specs.declared.refusal.IsfRefusal.TheVariants as refusals
use Rattle.layer_base.specs.Known.{Writes}
use Rattle.symbol_texts.specs.Refusal.{symbols_refusal_text}
use Rattle.layer_base.specs.declared.sink.SinkFault.{SinkFault}
use Rattle.session.specs.Status.{status_after_line}
use Rattle.session.specs.declared.status.Status.{Status}
use Rattle.session.specs.declared.status.Status.TheVariants as status
use Rattle.session.specs.declared.symbols.SymbolsFault.{SymbolsFault}

-- all of it is taken, but at most one byte more than it may have
unfoldable pub symbols_taken : List ℕ → List ℕ
symbols_taken symbols = take (most_bytes + 1) symbols

-- Of a buffer whose front was taken before, a call took some bytes more, and at most as many as there was room for. Where
-- it succeeded they stand behind that front, and where there were none the source is at its end.
pub record TakesPiece (left left' : Option (List ℕ)) (taken : ℕ) (bytes bytes' : List ℕ) (result : Result ℕ SymbolsFault) : Type 0 where
  pub given : List ℕ
  pub consumed : Consumes left left' given
  pub few : taken + length given ≤ length bytes
  pub same_room : length bytes' ≡ length bytes
  pub counted : IfOk result (λ count. count ≡ length given)
  pub kept : IfOk result (λ count. take (taken + count) bytes' ≡ take taken bytes ++ given)
  pub end : IfOk result (λ count. count ≡ 0 → IsAtEnd left')

-- A run whose symbol file is refused wrote the line, or a front of it where that failed, and ends so. When out of memory
-- it wrote nothing.
abbrev pub EndsRefused : IsfRefusal → Option (List ℕ) → Option (List ℕ) → Status → Type 0
EndsRefused refusals.Memory old new end = (new ≡ old) × (end ≡ status.Memory)
EndsRefused refusal old new end = (written : Result (Unit {0}) SinkFault) × Writes old new written (symbols_refusal_text refusal) × (end ≡ status_after_line status.SymbolsRefused written)
