-- How the cut into lines goes on with one byte more.
use Rattle.std.proofs.Common.{◌≡◌, ℕ, Bool, true, false, cond, eqb, List, [], ◌∷◌, ◌++◌, refl, sym, ◌∙◌, ap, arith}
use Rattle.std.proofs.lemmas.Bool.Decides.{nat_tests}
use Rattle.session.specs.Lines.{Lines, onto_front, cut_lines}

-- the cut after one byte more, by whether it is a newline
abbrev pub pushed : Bool → ℕ → Lines → Lines
pushed true byte lines = record { whole = lines.whole ++ lines.rest ∷ []; rest = [] }
pushed false byte lines = record { whole = lines.whole; rest = lines.rest ++ byte ∷ [] }

-- a byte at the front, by whether it is a newline
abbrev fronted : Bool → ℕ → Lines → Lines
fronted true byte lines = record { whole = [] ∷ lines.whole; rest = lines.rest }
fronted false byte lines = onto_front byte lines

cut-cons : (byte : ℕ) (bytes : List ℕ) → cut_lines (byte ∷ bytes) ≡ fronted (eqb byte 10) byte (cut_lines bytes)
cut-cons byte bytes = elim (eqb byte 10) as (λ newline. cond newline (record { whole = [] ∷ (cut_lines bytes).whole; rest = (cut_lines bytes).rest }) (onto_front byte (cut_lines bytes)) ≡ fronted newline byte (cut_lines bytes)) [ true ↦ refl | false ↦ refl ]

both-ends : (front back : Bool) (a b : ℕ) (whole : List (List ℕ)) (rest : List ℕ) → fronted front a (pushed back b (record { whole = whole; rest = rest })) ≡ pushed back b (fronted front a (record { whole = whole; rest = rest }))
both-ends true true a b whole rest = refl
both-ends true false a b whole rest = refl
both-ends false true a b [] rest = refl
both-ends false true a b (line ∷ lines) rest = refl
both-ends false false a b [] rest = refl
both-ends false false a b (line ∷ lines) rest = refl

pub cut-push : (bytes : List ℕ) (byte : ℕ) → cut_lines (bytes ++ byte ∷ []) ≡ pushed (eqb byte 10) byte (cut_lines bytes)
cut-push [] byte = cut-cons byte [] ∙ elim (eqb byte 10) as (λ newline. fronted newline byte (cut_lines []) ≡ pushed newline byte (cut_lines [])) [ true ↦ refl | false ↦ refl ]
cut-push (first ∷ bytes) byte =
    cut-cons first (bytes ++ byte ∷ []) ∙ ap (fronted (eqb first 10) first) (cut-push bytes byte)
    ∙ both-ends (eqb first 10) (eqb byte 10) first byte (cut_lines bytes).whole (cut_lines bytes).rest
    ∙ ap (pushed (eqb byte 10) byte) (sym (cut-cons first bytes))

-- ---- two texts cut as one

-- lines with their newlines
abbrev pub with_newlines : List (List ℕ) → List ℕ
with_newlines [] = []
with_newlines (line ∷ lines) = line ++ 10 ∷ with_newlines lines

-- a cut loses nothing
pub cut-joined : (bytes : List ℕ) → with_newlines (cut_lines bytes).whole ++ (cut_lines bytes).rest ≡ bytes
cut-joined [] = refl
cut-joined (byte ∷ bytes) = ap joined (cut-cons byte bytes) ∙ at_byte (eqb byte 10) refl (cut_lines bytes).whole (cut_lines bytes).rest (cut-joined bytes)
  where
    joined : Lines → List ℕ
    joined lines = with_newlines lines.whole ++ lines.rest

    at_byte : (newline : Bool) → eqb byte 10 ≡ newline → (whole : List (List ℕ)) (rest : List ℕ) → with_newlines whole ++ rest ≡ bytes → joined (fronted newline byte (record { whole = whole; rest = rest })) ≡ byte ∷ bytes
    at_byte true is whole rest so_far = let ten : byte ≡ 10 = grind (arith, nat_tests) in ap (λ (l : List ℕ). 10 ∷ l) so_far ∙ ap (λ b. b ∷ bytes) (sym ten)
    at_byte false is [] rest so_far = ap (λ (l : List ℕ). byte ∷ l) so_far
    at_byte false is (line ∷ lines) rest so_far = ap (λ (l : List ℕ). byte ∷ l) so_far

-- the lines of a text, and behind them those of another
abbrev pub joined_at : List (List ℕ) → List ℕ → List (List ℕ) → List ℕ → Lines
joined_at whole rest [] rest' = record { whole = whole; rest = rest ++ rest' }
joined_at whole rest (line ∷ lines) rest' = record { whole = whole ++ (rest ++ line) ∷ lines; rest = rest' }

pub cut-append : (front back : List ℕ) → cut_lines (front ++ back) ≡ joined_at (cut_lines front).whole (cut_lines front).rest (cut_lines back).whole (cut_lines back).rest
cut-append [] back = by_lines (cut_lines back).whole (cut_lines back).rest
  where
    by_lines : (whole : List (List ℕ)) (rest : List ℕ) → record { whole = whole; rest = rest } ≡ joined_at [] [] whole rest
    by_lines [] rest = refl
    by_lines (line ∷ lines) rest = refl
cut-append (byte ∷ front) back =
    cut-cons byte (front ++ back) ∙ ap (fronted (eqb byte 10) byte) (cut-append front back)
    ∙ by_byte (eqb byte 10) (cut_lines front).whole (cut_lines front).rest (cut_lines back).whole (cut_lines back).rest
    ∙ ap (λ lines. joined_at lines.whole lines.rest (cut_lines back).whole (cut_lines back).rest) (sym (cut-cons byte front))
  where
    after : Lines → List (List ℕ) → List ℕ → Lines
    after lines whole rest = joined_at lines.whole lines.rest whole rest

    by_byte : (newline : Bool) (whole : List (List ℕ)) (rest : List ℕ) (whole' : List (List ℕ)) (rest' : List ℕ) → fronted newline byte (joined_at whole rest whole' rest') ≡ after (fronted newline byte (record { whole = whole; rest = rest })) whole' rest'
    by_byte true whole rest [] rest' = refl
    by_byte true whole rest (line ∷ lines) rest' = refl
    by_byte false [] rest [] rest' = refl
    by_byte false [] rest (line ∷ lines) rest' = refl
    by_byte false (first ∷ whole) rest [] rest' = refl
    by_byte false (first ∷ whole) rest (line ∷ lines) rest' = refl
