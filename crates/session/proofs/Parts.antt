-- What lines give to a sink, as more of a script is given.
use Rattle.std.proofs.Common.{◌≡◌, ℕ, ◌-◌, Bool, true, false, cond, eqb, List, [], ◌∷◌, ◌++◌, length, take, drop, refl, sym, ◌∙◌, ap, arith, append_assoc, take-append-drop}
use Rattle.std.proofs.lemmas.Grind.{flat_map-append}
use Rattle.std.proofs.lemmas.List.{append-nil, take_at, length_push}
use Rattle.std.specs.Io.{StartsWith}
use Rattle.layer_base.proofs.Appending.{StartsWith-from}
use Rattle.session.specs.Headline.{lines_before_last}
use Rattle.session.specs.Limits.{line_room}
use Rattle.session.specs.Lines.{Lines, cut_lines, lines_of, unless_empty}
use Rattle.session.specs.Script.{parts_of}
use Rattle.session.specs.Turn.{turn_part, turn_line, rest_part}
use Rattle.session.proofs.Clipped.{clipped-push}
use Rattle.session.proofs.Cutting.{pushed, cut-push}

-- one byte more: the line that is kept
pub rest-push : (given : List ℕ) (byte : ℕ) → take line_room (cut_lines (given ++ byte ∷ [])).rest ≡ turn_line (take line_room (cut_lines given).rest) byte
rest-push given byte = ap (λ lines. take line_room lines.rest) (cut-push given byte) ∙ at_byte (eqb byte 10)
  where
    lines : Lines
    lines = cut_lines given

    at_byte : (newline : Bool) → take line_room (pushed newline byte lines).rest ≡ cond newline [] (take line_room (take line_room lines.rest ++ byte ∷ []))
    at_byte true = refl
    at_byte false = clipped-push lines.rest byte

unless_empty-push : (line : List ℕ) (byte : ℕ) → unless_empty (line ++ byte ∷ []) ≡ (line ++ byte ∷ []) ∷ []
unless_empty-push [] byte = refl
unless_empty-push (first ∷ line) byte = refl

but_last : (lines : List (List ℕ)) (line : List ℕ) → take (length (lines ++ line ∷ []) - 1) (lines ++ line ∷ []) ≡ lines
but_last lines line = take_at lines (line ∷ []) _ (omega (arith, length_push lines line))

-- the last line is the one that the last byte is of
pub lines_before_last-push : (given : List ℕ) (byte : ℕ) → lines_before_last (given ++ byte ∷ []) ≡ (cut_lines given).whole
lines_before_last-push given byte = ap cut_before_last (cut-push given byte) ∙ at_byte (eqb byte 10)
  where
    lines : Lines
    lines = cut_lines given

    cut_before_last : Lines → List (List ℕ)
    cut_before_last cut = take (length (cut.whole ++ unless_empty cut.rest) - 1) (cut.whole ++ unless_empty cut.rest)

    at_byte : (newline : Bool) → cut_before_last (pushed newline byte lines) ≡ lines.whole
    at_byte true = ap (λ (l : List (List ℕ)). take (length l - 1) l) (append-nil (lines.whole ++ lines.rest ∷ [])) ∙ but_last lines.whole lines.rest
    at_byte false = ap (λ (l : List (List ℕ)). take (length (lines.whole ++ l) - 1) (lines.whole ++ l)) (unless_empty-push lines.rest byte) ∙ but_last lines.whole (lines.rest ++ byte ∷ [])

module _ (part : List ℕ → List ℕ) where
  parts_of-append : (lines more : List (List ℕ)) → parts_of part (lines ++ more) ≡ parts_of part lines ++ parts_of part more
  parts_of-append lines more = flat_map-append part lines more

  -- one byte more: the parts of the whole lines
  pub parts-push : (given : List ℕ) (byte : ℕ) → parts_of part (cut_lines (given ++ byte ∷ [])).whole ≡ parts_of part (cut_lines given).whole ++ turn_part part (cut_lines given).rest byte
  parts-push given byte = ap (λ lines. parts_of part lines.whole) (cut-push given byte) ∙ at_byte (eqb byte 10)
    where
      lines : Lines
      lines = cut_lines given

      at_byte : (newline : Bool) → parts_of part (pushed newline byte lines).whole ≡ parts_of part lines.whole ++ cond newline (part lines.rest) []
      at_byte true = parts_of-append lines.whole (lines.rest ∷ []) ∙ ap (λ (l : List ℕ). parts_of part lines.whole ++ l) (append-nil (part lines.rest))
      at_byte false = sym (append-nil (parts_of part lines.whole))

  -- the parts of all lines are those of the whole lines and of the rest
  pub parts-all : (given : List ℕ) → parts_of part (lines_of given) ≡ parts_of part (cut_lines given).whole ++ rest_part part (cut_lines given).rest
  parts-all given = parts_of-append (cut_lines given).whole (unless_empty (cut_lines given).rest)

  -- the lines before the last are among the whole lines
  pub parts-before_last : (given : List ℕ) → StartsWith (parts_of part (cut_lines given).whole) (parts_of part (lines_before_last given))
  parts-before_last given = among (cut_lines given).whole (cut_lines given).rest
    where
      among : (whole : List (List ℕ)) (rest : List ℕ) → StartsWith (parts_of part whole) (parts_of part (take (length (whole ++ unless_empty rest) - 1) (whole ++ unless_empty rest)))
      among whole [] =
          let n = length (whole ++ []) - 1 in
          StartsWith-from _ _ (parts_of part (drop n (whole ++ []))) (
          ap (parts_of part) (sym (append-nil whole) ∙ sym (take-append-drop n (whole ++ []))) ∙ parts_of-append (take n (whole ++ [])) (drop n (whole ++ []))
          )
      among whole (byte ∷ bytes) = StartsWith-from _ _ [] (ap (parts_of part) (sym (but_last whole (byte ∷ bytes))) ∙ sym (append-nil _))

  -- more bytes leave the whole lines in front
  pub parts-more : (given more : List ℕ) → StartsWith (parts_of part (cut_lines (given ++ more)).whole) (parts_of part (cut_lines given).whole)
  parts-more given more = let after = behind given more in StartsWith-from _ _ after.0 after.1
    where
      behind : (given more : List ℕ) → (tail : List ℕ) × (parts_of part (cut_lines (given ++ more)).whole ≡ parts_of part (cut_lines given).whole ++ tail)
      behind given [] = ([], ap (λ (l : List ℕ). parts_of part (cut_lines l).whole) (append-nil given) ∙ sym (append-nil _))
      behind given (byte ∷ more) =
          let next = behind (given ++ byte ∷ []) more in
          let turn = turn_part part (cut_lines given).rest byte in (
            turn ++ next.0,
            ap (λ (l : List ℕ). parts_of part (cut_lines l).whole) (sym (append_assoc given (byte ∷ []) more)) ∙ next.1
                ∙ ap (λ (l : List ℕ). l ++ next.0) (parts-push given byte) ∙ append_assoc (parts_of part (cut_lines given).whole) turn next.0,
          )
