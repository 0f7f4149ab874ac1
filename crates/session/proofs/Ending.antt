-- How a script ends, from where it is being run.
use Rattle.std.proofs.Common.{◌≡◌, ℕ, ◌<◌, ◌≤◌, Bool, true, false, cond, eqb, List, [], ◌∷◌, ◌++◌, length, take, Option, Some, Result, refl, sym, subst, ◌∙◌, ap, arith, append_assoc, length-append}
use Rattle.std.specs.Prelude.{codes}
use Rattle.std.proofs.KnownBytes.{Consumes-all, Consumes-kept, Consumes-trans}
use Rattle.std.proofs.lemmas.Bool.Decides.{nat_tests}
use Rattle.std.proofs.lemmas.List.{append-nil, take_at, length_push}
use Rattle.std.specs.Io.{StartsWith}
use Rattle.std.specs.Io.KnownBytes.{Appends, Consumes, IsAtEnd, Keeps}
use Rattle.layer_base.specs.Known.{AppendsPrefix, Writes}
use Rattle.layer_base.proofs.Appending.{StartsWith-same}
use Rattle.session.specs.Lines.{cut_lines}
use Rattle.session.specs.Ran.{RanOver}
use Rattle.session.specs.Said.{Said, text_part, dump_part}
use Rattle.session.specs.Script.{is_short, script_run, script_taken, through_quit}
use Rattle.session.specs.Status.{status_of_fault, status_after}
use Rattle.session.specs.Turn.{flow_by, flow_after, turn_part, turn_flow, rest_part}
use Rattle.session.specs.declared.command.Flow.TheVariants.{NextLine, Quit}
use Rattle.session.specs.declared.status.CommandFault.{CommandFault}
use Rattle.session.specs.declared.status.Status.TheVariants as status
use Rattle.session.proofs.AtMost.{Consumes-front}
use Rattle.session.proofs.Clipped.{Clips, ClipsPart, text-clips, dump-clips, rest_part-clipped}
use Rattle.session.proofs.Pieces.{writes_none}
use Rattle.session.proofs.Quits.{through-all, through-behind, through-front, through-quit}
use Rattle.session.proofs.Sinks.{part-failed, part-cut, part-ended, part-quit, part-too_long}
use Rattle.session.proofs.Statuses.{fault_is_no_answer, fault_is_of_no_script, answer-done}
use Rattle.session.proofs.Underway.{Underway, turn-kept}
use Rattle.session.proofs.Whole.{is_short-within, is_short-past, taken-short, taken-long, status-short, status-long, taken-front}

-- a byte that ends the script is the newline of a line that ends it
quit-turn : (quits : List ℕ → Bool) (byte : ℕ) (line : List ℕ) → Quit ≡ turn_flow quits line byte → (byte ≡ 10) × (quits line ≡ true)
quit-turn quits byte line flow = at_byte (eqb byte 10) refl flow
  where
    ends : (b : Bool) → Quit ≡ flow_by b → b ≡ true
    ends true is = refl
    ends false is = absurd (cc)

    at_byte : (newline : Bool) → eqb byte 10 ≡ newline → Quit ≡ cond newline (flow_after quits line) NextLine → (byte ≡ 10) × (quits line ≡ true)
    at_byte true is flow = (grind (arith, nat_tests), ends (quits line) flow)
    at_byte false is flow = absurd (cc)

module _ (says : List ℕ → Said) (quits : List ℕ → Bool) (clips : Clips says quits) (script : List ℕ) (left left' out out' dump dump' : Option (List ℕ)) (line : List ℕ) (count : ℕ) (underway : Underway says quits script left out out' dump dump' line count) where
  abbrev given : List ℕ
  given = underway.given

  -- the line that the bytes given began
  abbrev begun : List ℕ
  begun = (cut_lines given).rest

  -- what of the script is run
  abbrev body : List ℕ
  body = through_quit quits script

  of_text : ClipsPart (text_part says)
  of_text = text-clips says quits clips

  of_dump : ClipsPart (dump_part says)
  of_dump = dump-clips says quits clips

  within : (n : ℕ) → count ≤ n → length given ≤ n
  within n few = omega (arith, underway.count_is)

  taken-with : (byte : ℕ) → Consumes left left' (byte ∷ []) → Consumes (Some script) left' (given ++ byte ∷ [])
  taken-with byte taken = Consumes-trans (Some script) left left' given (byte ∷ []) underway.taken taken

  -- what was given is a front of it
  front_of : (rest : List ℕ) × (body ≡ given ++ rest)
  front_of =
      let front = Consumes-front script left given underway.taken in
      let found = through-front quits given front.0 underway.no_quit in
      (found.0, ap (through_quit quits) front.1 ∙ found.1)

  -- and so is one byte more
  front_with : (byte : ℕ) → Consumes (Some script) left' (given ++ byte ∷ []) → (rest : List ℕ) × (body ≡ (given ++ byte ∷ []) ++ rest)
  front_with byte taken =
      let front = Consumes-front script left' (given ++ byte ∷ []) taken in
      let found = through-behind quits given byte front.0 underway.no_quit in
      (found.0, ap (through_quit quits) (front.1 ∙ append_assoc given (byte ∷ []) front.0) ∙ found.1 ∙ sym (append_assoc given (byte ∷ []) found.0))

  turn : (part : List ℕ → List ℕ) → ClipsPart part → (byte : ℕ) → turn_part part line byte ≡ turn_part part begun byte
  turn part clipped byte = turn-kept part clipped line begun byte underway.line_is

  rest : (part : List ℕ → List ℕ) → ClipsPart part → rest_part part line ≡ rest_part part begun
  rest part clipped = ap (rest_part part) underway.line_is ∙ rest_part-clipped part clipped begun

  -- a call on the script failed
  pub script-failed : count ≤ 16777216 → Keeps left left' → RanOver says (script_run says quits script) script left' out out' dump dump' status.ScriptFault
  script-failed few kept =
      let front = front_of in
      record {
        given = given;
        consumed = Consumes-kept (Some script) left left' given underway.taken kept;
        given_front = taken-front body given front.0 front.1 (within 16777217 (omega arith));
        given_exact = λ answer. absurd answer;
        status_is = λ answer. absurd answer;
        text = part-failed (text_part says) (codes "script too long\n") out out' out' body given underway.written front.0 front.1 (within 16777216 few);
        dumped = part-failed (dump_part says) [] dump dump' dump' body given underway.dumped front.0 front.1 (within 16777216 few);
      }

  -- a line was cut short, or the byte that it ends with
  pub turn-failed : (byte : ℕ) (fault : CommandFault) (out'' dump'' : Option (List ℕ)) → count < 16777216 → Consumes left left' (byte ∷ [])
      → AppendsPrefix out' out'' (turn_part (text_part says) line byte) → AppendsPrefix dump' dump'' (turn_part (dump_part says) line byte)
      → RanOver says (script_run says quits script) script left' out out'' dump dump'' (status_of_fault fault)
  turn-failed byte fault out'' dump'' few taken printed dumped =
      let given' = given ++ byte ∷ [] in
      let taken' = taken-with byte taken in
      let front = front_with byte taken' in
      let room : length given < 16777216 = omega (arith, underway.count_is) in
      let no_answer = fault_is_no_answer fault in
      let no_fault = fault_is_of_no_script fault in
      record {
        given = given';
        consumed = taken';
        given_front = taken-front body given' front.0 front.1 (omega (arith, length_push given byte, room));
        given_exact = λ answer. absurd (no_answer answer);
        status_is = λ answer. absurd (no_answer answer);
        text = part-cut (text_part says) (codes "script too long\n") out out' out'' body given underway.written byte front.0 (status_of_fault fault) front.1 room (subst (AppendsPrefix out' out'') (turn (text_part says) of_text byte) printed) no_answer no_fault;
        dumped = part-cut (dump_part says) [] dump dump' dump'' body given underway.dumped byte front.0 (status_of_fault fault) front.1 room (subst (AppendsPrefix dump' dump'') (turn (dump_part says) of_dump byte) dumped) no_answer no_fault;
      }

  -- the script is at its end
  pub script-ended : (out'' dump'' : Option (List ℕ)) (result : Result (Unit {0}) CommandFault) → count ≤ 16777216 → Consumes left left' [] → IsAtEnd left'
      → Writes out' out'' result (rest_part (text_part says) line) → Writes dump' dump'' result (rest_part (dump_part says) line)
      → RanOver says (script_run says quits script) script left' out out'' dump dump'' (status_after status.Ok result)
  script-ended out'' dump'' result few taken end printed dumped =
      let taken' : Consumes (Some script) left' given = subst (Consumes (Some script) left') (append-nil given) (Consumes-trans (Some script) left left' given [] underway.taken taken) in
      let gave_all : given ≡ script = Consumes-all (Some script) left' given [] given taken' end refl in
      let all : given ≡ body = sym (through-all quits given underway.no_quit) ∙ ap (through_quit quits) gave_all in
      let short : is_short body ≡ true = is_short-within body (omega (arith, ap length all, underway.count_is)) in
      let whole : given ≡ script_taken body = all ∙ sym (taken-short body short) in
      record {
        given = given;
        consumed = taken';
        given_front = subst (λ l. StartsWith l given) whole (StartsWith-same given);
        given_exact = λ answer. whole;
        status_is = λ answer. answer-done status.Ok result answer ∙ sym (status-short body says short);
        text = part-ended (text_part says) (codes "script too long\n") out out' out'' body given underway.written result all short (subst (Writes out' out'' result) (rest (text_part says) of_text) printed);
        dumped = part-ended (dump_part says) [] dump dump' dump'' body given underway.dumped result all short (subst (Writes dump' dump'' result) (rest (dump_part says) of_dump) dumped);
      }

  -- the line that the byte ends is the last
  pub script-quit : (byte : ℕ) (out'' dump'' : Option (List ℕ)) → count < 16777216 → Consumes left left' (byte ∷ [])
      → Appends out' out'' (turn_part (text_part says) line byte) → Appends dump' dump'' (turn_part (dump_part says) line byte)
      → Quit ≡ turn_flow quits line byte → RanOver says (script_run says quits script) script left' out out'' dump dump'' status.Ok
  script-quit byte out'' dump'' few taken printed dumped flow =
      let given' = given ++ byte ∷ [] in
      let taken' = taken-with byte taken in
      let front = Consumes-front script left' given' taken' in
      let ends = quit-turn quits byte line flow in
      let last : quits begun ≡ true = sym (clips.same_end begun) ∙ ap quits (sym underway.line_is) ∙ ends.1 in
      let all : given' ≡ body =
      ap (λ b. given ++ b ∷ []) ends.0
      ∙ sym (ap (through_quit quits) (front.1 ∙ append_assoc given (byte ∷ []) front.0 ∙ ap (λ b. given ++ b ∷ front.0) ends.0) ∙ through-quit quits given front.0 underway.no_quit last) in
      let short : is_short body ≡ true = is_short-within body (omega (arith, ap length all, length_push given byte, underway.count_is)) in
      let whole : given' ≡ script_taken body = all ∙ sym (taken-short body short) in
      record {
        given = given';
        consumed = taken';
        given_front = subst (λ l. StartsWith l given') whole (StartsWith-same given');
        given_exact = λ answer. whole;
        status_is = λ answer. sym (status-short body says short);
        text = part-quit (text_part says) (codes "script too long\n") out out' out'' body given underway.written byte ends.0 all short (subst (Appends out' out'') (turn (text_part says) of_text byte) printed);
        dumped = part-quit (dump_part says) [] dump dump' dump'' body given underway.dumped byte ends.0 all short (subst (Appends dump' dump'') (turn (dump_part says) of_dump byte) dumped);
      }

  -- the script goes on behind the last byte that is read
  pub script-too_long : (byte : ℕ) (out'' : Option (List ℕ)) (result : Result (Unit {0}) CommandFault) → count ≡ 16777216 → Consumes left left' (byte ∷ []) → Writes out' out'' result (codes "script too long\n")
      → RanOver says (script_run says quits script) script left' out out'' dump dump' (status_after status.ScriptTooLong result)
  script-too_long byte out'' result most taken writes =
      let given' = given ++ byte ∷ [] in
      let taken' = taken-with byte taken in
      let front = front_with byte taken' in
      let size : length given ≡ 16777216 = omega (arith, underway.count_is) in
      let size' : length given' ≡ 16777217 = omega (arith, length_push given byte) in
      let long : is_short body ≡ false = is_short-past body (omega (arith, ap length front.1, length-append given' front.0)) in
      let read : take 16777216 body ≡ given = ap (take 16777216) (front.1 ∙ append_assoc given (byte ∷ []) front.0) ∙ take_at given (byte ∷ [] ++ front.0) 16777216 size in
      let whole : given' ≡ script_taken body = sym (taken-long body long ∙ ap (take 16777217) front.1 ∙ take_at given' front.0 16777217 size') in
      record {
        given = given';
        consumed = taken';
        given_front = subst (λ l. StartsWith l given') whole (StartsWith-same given');
        given_exact = λ answer. whole;
        status_is = λ answer. answer-done status.ScriptTooLong result answer ∙ sym (status-long body says long);
        text = part-too_long (text_part says) (codes "script too long\n") out out' out'' body given underway.written byte result long read writes;
        dumped = part-too_long (dump_part says) [] dump dump' dump' body given underway.dumped byte result long read (writes_none dump' result);
      }
