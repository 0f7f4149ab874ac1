-- A script that is being run.
use Rattle.std.proofs.Common.{◌≡◌, ℕ, ◌+◌, Bool, true, false, cond, eqb, List, [], ◌∷◌, ◌++◌, length, take, Option, Some, refl, sym, subst, ◌∙◌, ap, arith}
use Rattle.std.proofs.KnownBytes.{Consumes-trans}
use Rattle.std.proofs.lemmas.List.{length_push}
use Rattle.std.specs.Io.KnownBytes.{Appends, Consumes}
use Rattle.layer_base.proofs.Appending.{Appends-none, Appends-append}
use Rattle.session.specs.Limits.{line_room}
use Rattle.session.specs.Lines.{Lines, cut_lines}
use Rattle.session.specs.Said.{Said, text_part, dump_part}
use Rattle.session.specs.Script.{parts_of}
use Rattle.session.specs.Turn.{turn_part, turn_line, turn_flow, flow_by, flow_after}
use Rattle.session.specs.declared.command.Flow.TheVariants.{NextLine}
use Rattle.session.proofs.Clipped.{Clips, ClipsPart, text-clips, dump-clips, turn_part-clipped}
use Rattle.session.proofs.Cutting.{pushed, cut-push}
use Rattle.session.proofs.Parts.{parts-push, rest-push}
use Rattle.session.proofs.Quits.{NoneQuits, NoneQuits-push}

-- so many bytes were given, the lines that they end were run, none of which ends the script, and the line that they
-- began is kept
pub record Underway (says : List ℕ → Said) (quits : List ℕ → Bool) (script : List ℕ) (left out out' dump dump' : Option (List ℕ)) (line : List ℕ) (count : ℕ) : Type 0 where
  pub given : List ℕ
  pub count_is : length given ≡ count
  pub taken : Consumes (Some script) left given
  pub written : Appends out out' (parts_of (text_part says) (cut_lines given).whole)
  pub dumped : Appends dump dump' (parts_of (dump_part says) (cut_lines given).whole)
  pub line_is : line ≡ take line_room (cut_lines given).rest
  pub no_quit : NoneQuits quits (cut_lines given).whole

goes_on : (quits : Bool) → NextLine ≡ flow_by quits → quits ≡ false
goes_on true is = absurd (cc)
goes_on false is = refl

-- what a kept line gives to a sink with one byte more
pub turn-kept : (part : List ℕ → List ℕ) → ClipsPart part → (line rest : List ℕ) (byte : ℕ) → line ≡ take line_room rest → turn_part part line byte ≡ turn_part part rest byte
turn-kept part clips line rest byte kept = ap (λ l. turn_part part l byte) kept ∙ turn_part-clipped part clips rest byte

-- what a sink holds with one byte more
Appends-turn : (part : List ℕ → List ℕ) → ClipsPart part → (old mid new : Option (List ℕ)) (given line : List ℕ) (byte : ℕ) → line ≡ take line_room (cut_lines given).rest
    → Appends old mid (parts_of part (cut_lines given).whole) → Appends mid new (turn_part part line byte) → Appends old new (parts_of part (cut_lines (given ++ byte ∷ [])).whole)
Appends-turn part clips old mid new given line byte kept before turn =
    let so_far = parts_of part (cut_lines given).whole in
    subst (Appends old new) (ap (λ (l : List ℕ). so_far ++ l) (turn-kept part clips line (cut_lines given).rest byte kept) ∙ sym (parts-push part given byte)) (
    Appends-append old mid new so_far (turn_part part line byte) before turn
    )

module _ (says : List ℕ → Said) (quits : List ℕ → Bool) where
  pub Underway-start : (script : List ℕ) (out dump : Option (List ℕ)) → Underway says quits script (Some script) out out dump dump [] 0
  Underway-start script out dump = record { given = []; count_is = refl; taken = refl; written = Appends-none out; dumped = Appends-none dump; line_is = refl; no_quit = tt }

module _ (says : List ℕ → Said) (quits : List ℕ → Bool) (clips : Clips says quits) where
  -- one byte more after which the script goes on
  none-push : (given : List ℕ) (byte : ℕ) → NoneQuits quits (cut_lines given).whole → NextLine ≡ turn_flow quits (take line_room (cut_lines given).rest) byte → NoneQuits quits (cut_lines (given ++ byte ∷ [])).whole
  none-push given byte none flow = subst (λ lines. NoneQuits quits lines.whole) (sym (cut-push given byte)) (at_byte (eqb byte 10) flow)
    where
      lines : Lines
      lines = cut_lines given

      at_byte : (newline : Bool) → NextLine ≡ cond newline (flow_after quits (take line_room lines.rest)) NextLine → NoneQuits quits (pushed newline byte lines).whole
      at_byte true is = NoneQuits-push quits lines.whole lines.rest none (sym (clips.same_end lines.rest) ∙ goes_on (quits (take line_room lines.rest)) is)
      at_byte false is = none

  pub Underway-next : (script : List ℕ) (left left' out out' out'' dump dump' dump'' : Option (List ℕ)) (line line' : List ℕ) (count byte : ℕ)
      → Underway says quits script left out out' dump dump' line count → Consumes left left' (byte ∷ [])
      → Appends out' out'' (turn_part (text_part says) line byte) → Appends dump' dump'' (turn_part (dump_part says) line byte)
      → line' ≡ turn_line line byte → NextLine ≡ turn_flow quits line byte
      → Underway says quits script left' out out'' dump dump'' line' (count + 1)
  Underway-next script left left' out out' out'' dump dump' dump'' line line' count byte before taken written dumped next flow =
      let given = before.given in
      record {
        given = given ++ byte ∷ [];
        count_is = omega (arith, length_push given byte, before.count_is);
        taken = Consumes-trans (Some script) left left' given (byte ∷ []) before.taken taken;
        written = Appends-turn (text_part says) (text-clips says quits clips) out out' out'' given line byte before.line_is before.written written;
        dumped = Appends-turn (dump_part says) (dump-clips says quits clips) dump dump' dump'' given line byte before.line_is before.dumped dumped;
        line_is = next ∙ ap (λ l. turn_line l byte) before.line_is ∙ sym (rest-push given byte);
        no_quit = none-push given byte before.no_quit (flow ∙ ap (λ l. turn_flow quits l byte) before.line_is);
      }
