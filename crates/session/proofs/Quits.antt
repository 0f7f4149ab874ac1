-- The part of a script that is run: through the first line that ends it.
use Rattle.std.proofs.Common.{◌≡◌, ℕ, Bool, true, false, cond, List, [], ◌∷◌, ◌++◌, refl, sym, ◌∙◌, ap, append_assoc}
use Rattle.std.proofs.lemmas.List.{append-nil}
use Rattle.session.specs.Lines.{Lines, cut_lines}
use Rattle.session.specs.Script.{joined_through_quit, through_quit}
use Rattle.session.proofs.Cutting.{with_newlines, cut-joined, joined_at, cut-append}

-- none of the lines ends a script
abbrev pub NoneQuits : (List ℕ → Bool) → List (List ℕ) → Type 0
NoneQuits quits [] = Unit {0}
NoneQuits quits (line ∷ lines) = (quits line ≡ false) × NoneQuits quits lines

abbrev through_lines : (List ℕ → Bool) → Lines → List ℕ
through_lines quits lines = joined_through_quit quits lines.whole lines.rest

abbrev head_of : ℕ → List ℕ → ℕ
head_of other [] = other
head_of other (first ∷ rest) = first

head_is : (a b : ℕ) (behind_a behind_b : List ℕ) → a ∷ behind_a ≡ b ∷ behind_b → a ≡ b
head_is a b behind_a behind_b is = ap (head_of 0) is

module _ (quits : List ℕ → Bool) where
  pub NoneQuits-push : (lines : List (List ℕ)) (line : List ℕ) → NoneQuits quits lines → quits line ≡ false → NoneQuits quits (lines ++ line ∷ [])
  NoneQuits-push [] line none goes_on = (goes_on, tt)
  NoneQuits-push (first ∷ lines) line none goes_on = (none.0, NoneQuits-push lines line none.1 goes_on)

  -- the lines before the first that ends it stand whole in front
  before-quits : (lines more : List (List ℕ)) (rest : List ℕ) → NoneQuits quits lines → joined_through_quit quits (lines ++ more) rest ≡ with_newlines lines ++ joined_through_quit quits more rest
  before-quits [] more rest none = refl
  before-quits (line ∷ lines) more rest none =
      let here : cond (quits line) [] (joined_through_quit quits (lines ++ more) rest) ≡ joined_through_quit quits (lines ++ more) rest = rw none.0 refl in
      ap (λ (l : List ℕ). line ++ 10 ∷ l) (here ∙ before-quits lines more rest none.1) ∙ sym (append_assoc line (10 ∷ with_newlines lines) (joined_through_quit quits more rest))

  -- a script that no line ends is run whole
  pub through-all : (bytes : List ℕ) → NoneQuits quits (cut_lines bytes).whole → through_quit quits bytes ≡ bytes
  unfolding through_quit
  through-all bytes none =
      ap (λ (lines : List (List ℕ)). joined_through_quit quits lines (cut_lines bytes).rest) (sym (append-nil (cut_lines bytes).whole)) ∙ before-quits (cut_lines bytes).whole [] (cut_lines bytes).rest none ∙ cut-joined bytes

  -- Bytes of which no line before the last ends the script, and the byte after them, are run.
  pub through-behind : (given : List ℕ) (byte : ℕ) (more : List ℕ) → NoneQuits quits (cut_lines given).whole → (rest : List ℕ) × (through_quit quits (given ++ byte ∷ more) ≡ given ++ byte ∷ rest)
  unfolding through_quit
  through-behind given byte more none =
      let found = by_back (cut_lines (byte ∷ more)).whole (cut_lines (byte ∷ more)).rest (cut-joined (byte ∷ more)) in
      (found.0, ap (through_lines quits) (cut-append given (byte ∷ more)) ∙ found.1)
    where
      W : List (List ℕ)
      W = (cut_lines given).whole

      r : List ℕ
      r = (cut_lines given).rest

      joined : (tail : List ℕ) → with_newlines W ++ (r ++ tail) ≡ given ++ tail
      joined tail = sym (append_assoc (with_newlines W) r tail) ∙ ap (λ (l : List ℕ). l ++ tail) (cut-joined given)

      at_line : (l tail others : List ℕ) → l ++ 10 ∷ others ≡ byte ∷ more → (rest : List ℕ) × (l ++ 10 ∷ tail ≡ byte ∷ rest)
      at_line [] tail others is = (tail, ap (λ b. b ∷ tail) (head_is 10 byte others more is))
      at_line (b ∷ l) tail others is = (l ++ 10 ∷ tail, ap (λ b'. b' ∷ (l ++ 10 ∷ tail)) (head_is b byte (l ++ 10 ∷ others) more is))

      by_back : (V : List (List ℕ)) (s : List ℕ) → with_newlines V ++ s ≡ byte ∷ more → (rest : List ℕ) × (through_lines quits (joined_at W r V s) ≡ given ++ byte ∷ rest)
      by_back [] s is =
          (more, ap (λ (lines : List (List ℕ)). joined_through_quit quits lines (r ++ s)) (sym (append-nil W)) ∙ before-quits W [] (r ++ s) none ∙ joined s ∙ ap (λ (l : List ℕ). given ++ l) is)
      by_back (l ∷ V) s is =
          let tail = cond (quits (r ++ l)) [] (joined_through_quit quits V s) in
          let found = at_line l tail (with_newlines V ++ s) (sym (append_assoc l (10 ∷ with_newlines V) s) ∙ is) in
          (found.0, before-quits W ((r ++ l) ∷ V) s none ∙ ap (λ (x : List ℕ). with_newlines W ++ x) (append_assoc r l (10 ∷ tail)) ∙ joined (l ++ 10 ∷ tail) ∙ ap (λ (x : List ℕ). given ++ x) found.1)

  -- bytes of which no line before the last ends the script are run
  pub through-front : (given more : List ℕ) → NoneQuits quits (cut_lines given).whole → (rest : List ℕ) × (through_quit quits (given ++ more) ≡ given ++ rest)
  through-front given [] none = ([], ap (through_quit quits) (append-nil given) ∙ through-all given none ∙ sym (append-nil given))
  through-front given (byte ∷ more) none = let found = through-behind given byte more none in (byte ∷ found.0, found.1)

  -- the newline of the first line that ends it is the last byte that is run
  pub through-quit : (given more : List ℕ) → NoneQuits quits (cut_lines given).whole → quits (cut_lines given).rest ≡ true → through_quit quits (given ++ 10 ∷ more) ≡ given ++ 10 ∷ []
  unfolding through_quit
  through-quit given more none ends =
      let W = (cut_lines given).whole in
      let r = (cut_lines given).rest in
      let V = (cut_lines more).whole in
      let s = (cut_lines more).rest in
      let last : cond (quits (r ++ [])) [] (joined_through_quit quits V s) ≡ [] = rw (append-nil r, ends) refl in
      ap (through_lines quits) (cut-append given (10 ∷ more)) ∙ before-quits W ((r ++ []) ∷ V) s none
      ∙ ap (λ (l : List ℕ). with_newlines W ++ ((r ++ []) ++ 10 ∷ l)) last
      ∙ ap (λ (l : List ℕ). with_newlines W ++ (l ++ 10 ∷ [])) (append-nil r)
      ∙ sym (append_assoc (with_newlines W) r (10 ∷ [])) ∙ ap (λ (l : List ℕ). l ++ 10 ∷ []) (cut-joined given)
