-- What a sink holds at each end of a script, of whose lines this part goes there.
use Rattle.std.proofs.Common.{◌≡◌, ℕ, ◌<◌, ◌≤◌, true, false, eqb, List, [], ◌∷◌, ◌++◌, length, take, Option, Result, refl, sym, subst, ◌∙◌, ap, arith}
use Rattle.std.proofs.lemmas.List.{append-nil, length_push}
use Rattle.std.specs.Io.{StartsWith}
use Rattle.std.specs.Io.KnownBytes.{Appends}
use Rattle.layer_base.specs.Known.{AppendsPrefix, Writes}
use Rattle.layer_base.proofs.Appending.{Appends-none, Appends-append, StartsWith-front, StartsWith-same, StartsWith-trans, StartsWith-behind}
use Rattle.session.specs.Lines.{cut_lines}
use Rattle.session.specs.Ran.{RanPart}
use Rattle.session.specs.Script.{is_short, parts_of, script_part}
use Rattle.session.specs.Status.{IsAnswer, status_after}
use Rattle.session.specs.Turn.{turn_part, rest_part}
use Rattle.session.specs.declared.status.CommandFault.{CommandFault}
use Rattle.session.specs.declared.status.Status.{Status}
use Rattle.session.specs.declared.status.Status.TheVariants as status
use Rattle.session.proofs.Cutting.{pushed, cut-push}
use Rattle.session.proofs.Parts.{parts-push, lines_before_last-push, parts-before_last}
use Rattle.session.proofs.Pieces.{piece_of}
use Rattle.session.proofs.Statuses.{answer-written, write_is_of_no_script}
use Rattle.session.proofs.Whole.{part-short, part-long, part-front}

module _ (part : List ℕ → List ℕ) (behind : List ℕ) (old mid new : Option (List ℕ)) (body given : List ℕ) (written : Appends old mid (parts_of part (cut_lines given).whole)) where
  abbrev so_far : List ℕ
  so_far = parts_of part (cut_lines given).whole

  -- a call on the script failed
  pub part-failed : (more : List ℕ) → body ≡ given ++ more → length given ≤ 16777216 → RanPart part (script_part part behind body) given old mid status.ScriptFault
  part-failed more split few = record {
    appended = so_far;
    written = written;
    front = part-front body given more split part behind few;
    lines = parts-before_last part given;
    lines_at_fault = λ is. StartsWith-same so_far;
    exact = λ answer. absurd answer;
  }

  -- a line was cut short, or the byte that it ends with
  pub part-cut : (byte : ℕ) (more : List ℕ) (end : Status) → body ≡ (given ++ byte ∷ []) ++ more → length given < 16777216 → AppendsPrefix mid new (turn_part part (cut_lines given).rest byte) → (IsAnswer end → ⊥) → (end ≡ status.ScriptFault → ⊥)
      → RanPart part (script_part part behind body) (given ++ byte ∷ []) old new end
  part-cut byte more end split few prefix no_answer no_fault =
      let given' = given ++ byte ∷ [] in
      let before : StartsWith (parts_of part (cut_lines given').whole) (so_far ++ prefix.0) = subst (λ text. StartsWith text (so_far ++ prefix.0)) (sym (parts-push part given byte)) (StartsWith-behind so_far _ prefix.0 prefix.2) in
      record {
        appended = so_far ++ prefix.0;
        written = Appends-append old mid new so_far prefix.0 written prefix.1;
        front = StartsWith-trans _ _ _ (part-front body given' more split part behind (omega (arith, length_push given byte))) before;
        lines = subst (λ lines. StartsWith (so_far ++ prefix.0) (parts_of part lines)) (sym (lines_before_last-push given byte)) (StartsWith-front so_far prefix.0);
        lines_at_fault = λ is. absurd (no_fault is);
        exact = λ answer. absurd (no_answer answer);
      }

  -- the script is at its end
  pub part-ended : (result : Result (Unit {0}) CommandFault) → given ≡ body → is_short body ≡ true → Writes mid new result (rest_part part (cut_lines given).rest) → RanPart part (script_part part behind body) given old new (status_after status.Ok result)
  part-ended result all short writes =
      let piece = piece_of mid new (rest_part part (cut_lines given).rest) result writes in
      let whole : script_part part behind body ≡ so_far ++ rest_part part (cut_lines given).rest = part-short part behind body short ∙ ap (λ l. parts_of part (cut_lines l).whole ++ rest_part part (cut_lines l).rest) (sym all) in
      record {
        appended = so_far ++ piece.piece;
        written = Appends-append old mid new so_far piece.piece written piece.written;
        front = subst (λ l. StartsWith l (so_far ++ piece.piece)) (sym whole) (StartsWith-behind so_far _ piece.piece piece.front);
        lines = StartsWith-trans _ _ _ (StartsWith-front so_far piece.piece) (parts-before_last part given);
        lines_at_fault = λ is. StartsWith-front so_far piece.piece;
        exact = λ answer. ap (λ l. so_far ++ l) (piece.whole (answer-written status.Ok result answer)) ∙ sym whole;
      }

  -- the line that the byte ends is the last
  pub part-quit : (byte : ℕ) → byte ≡ 10 → given ++ byte ∷ [] ≡ body → is_short body ≡ true → Appends mid new (turn_part part (cut_lines given).rest byte) → RanPart part (script_part part behind body) (given ++ byte ∷ []) old new status.Ok
  part-quit byte newline all short appended =
      let given' = given ++ byte ∷ [] in
      let turn = turn_part part (cut_lines given).rest byte in
      let rest : (cut_lines given').rest ≡ [] = ap (λ lines. lines.rest) (cut-push given byte) ∙ ap (λ b. (pushed (eqb b 10) b (cut_lines given)).rest) newline in
      let whole : so_far ++ turn ≡ script_part part behind body =
      sym (parts-push part given byte) ∙ sym (append-nil _) ∙ ap (λ l. parts_of part (cut_lines given').whole ++ rest_part part l) (sym rest)
      ∙ ap (λ l. parts_of part (cut_lines l).whole ++ rest_part part (cut_lines l).rest) all ∙ sym (part-short part behind body short) in
      record {
        appended = so_far ++ turn;
        written = Appends-append old mid new so_far turn written appended;
        front = subst (λ l. StartsWith l (so_far ++ turn)) whole (StartsWith-same _);
        lines = subst (λ lines. StartsWith (so_far ++ turn) (parts_of part lines)) (sym (lines_before_last-push given byte)) (StartsWith-front so_far turn);
        lines_at_fault = λ is. absurd (cc is);
        exact = λ answer. whole;
      }

  -- the script goes on behind the last byte that is read
  pub part-too_long : (byte : ℕ) (result : Result (Unit {0}) CommandFault) → is_short body ≡ false → take 16777216 body ≡ given → Writes mid new result behind → RanPart part (script_part part behind body) (given ++ byte ∷ []) old new (status_after status.ScriptTooLong result)
  part-too_long byte result long read writes =
      let piece = piece_of mid new behind result writes in
      let whole : script_part part behind body ≡ so_far ++ behind = part-long part behind body long ∙ ap (λ l. parts_of part (cut_lines l).whole ++ behind) read in
      record {
        appended = so_far ++ piece.piece;
        written = Appends-append old mid new so_far piece.piece written piece.written;
        front = subst (λ l. StartsWith l (so_far ++ piece.piece)) (sym whole) (StartsWith-behind so_far _ piece.piece piece.front);
        lines = subst (λ lines. StartsWith (so_far ++ piece.piece) (parts_of part lines)) (sym (lines_before_last-push given byte)) (StartsWith-front so_far piece.piece);
        lines_at_fault = λ is. absurd (write_is_of_no_script status.ScriptTooLong result (λ other. cc other) is);
        exact = λ answer. ap (λ l. so_far ++ l) (piece.whole (answer-written status.ScriptTooLong result answer)) ∙ sym whole;
      }

-- ---- where the script was not looked at

-- a line was written, or cut short
pub part-line : (part : List ℕ → List ℕ) (whole : List ℕ) (old new : Option (List ℕ)) (done : Status) (result : Result (Unit {0}) CommandFault) → Writes old new result whole → RanPart part whole [] old new (status_after done result)
part-line part whole old new done result writes =
    let piece = piece_of old new whole result writes in
    record {
      appended = piece.piece;
      written = piece.written;
      front = piece.front;
      lines = refl;
      lines_at_fault = λ is. refl;
      exact = λ answer. piece.whole (answer-written done result answer);
    }

-- nothing was appended: nothing was to be, or the run ended without an answer
pub part-none : (part : List ℕ → List ℕ) (whole : List ℕ) (old : Option (List ℕ)) (end : Status) → (IsAnswer end → whole ≡ []) → RanPart part whole [] old old end
part-none part whole old end exact = record {
  appended = [];
  written = Appends-none old;
  front = refl;
  lines = refl;
  lines_at_fault = λ is. refl;
  exact = λ answer. sym (exact answer);
}
