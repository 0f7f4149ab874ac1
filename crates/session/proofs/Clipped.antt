-- A line of which the bytes that are too many are not kept.
use Rattle.std.proofs.Common.{◌≡◌, ℕ, Bool, cond, eqb, List, [], ◌∷◌, ◌++◌, length, take, refl, sym, ◌∙◌, ap, ⊎_elim, arith, length-take}
use Rattle.std.proofs.lemmas.Bool.{cases_lt}
use Rattle.std.proofs.lemmas.List.{take_all, take_at, take-append-le}
use Rattle.session.specs.Limits.{line_room}
use Rattle.session.specs.Said.{Said, text_part, dump_part}
use Rattle.session.specs.Turn.{turn_part, rest_part}

-- a part of what it says is the same
abbrev pub ClipsPart : (List ℕ → List ℕ) → Type 0
ClipsPart part = (line : List ℕ) → part (take line_room line) ≡ part line

-- it says the same, and ends a script just where the line does
pub record Clips (says : List ℕ → Said) (quits : List ℕ → Bool) : Type 0 where
  pub same_said : (line : List ℕ) → says (take line_room line) ≡ says line
  pub same_end : (line : List ℕ) → quits (take line_room line) ≡ quits line

module _ (says : List ℕ → Said) (quits : List ℕ → Bool) (clips : Clips says quits) where
  pub text-clips : ClipsPart (text_part says)
  text-clips line = ap (λ said. said.text) (clips.same_said line)

  pub dump-clips : ClipsPart (dump_part says)
  dump-clips line = ap (λ said. said.dumped) (clips.same_said line)

module _ (part : List ℕ → List ℕ) (clips : ClipsPart part) where
  pub turn_part-clipped : (line : List ℕ) (byte : ℕ) → turn_part part (take line_room line) byte ≡ turn_part part line byte
  turn_part-clipped line byte = ap (λ (said : List ℕ). cond (eqb byte 10) said []) (clips line)

  pub rest_part-clipped : (line : List ℕ) → rest_part part (take line_room line) ≡ rest_part part line
  rest_part-clipped [] = refl
  rest_part-clipped (byte ∷ bytes) = ap (λ (said : List ℕ). said ++ []) (clips (byte ∷ bytes))

pub clipped-push : (line : List ℕ) (byte : ℕ) → take line_room (line ++ byte ∷ []) ≡ take line_room (take line_room line ++ byte ∷ [])
clipped-push line byte = ⊎_elim
    (λ long.
    take-append-le line_room line (byte ∷ []) (omega (arith, long))
    ∙ sym (take_at (take line_room line) (byte ∷ []) line_room (omega (arith, long, length-take line_room line))))
    (λ short. ap (λ (l : List ℕ). take line_room (l ++ byte ∷ [])) (sym (take_all line_room line short))) (cases_lt line_room (length line))
