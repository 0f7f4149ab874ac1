-- How the rows of words come one by one.
use Rattle.std.proofs.Common.{◌≡◌, ℕ, ◌+◌, List, [], ◌∷◌, ◌++◌, Option, sym, ap, ◌∙◌, append_assoc}
use Rattle.word_table.specs.Rows.{rows_from}

module _ (row : ℕ → Option ℕ → List ℕ) (end : List ℕ) where
  -- the row of the first word goes over to the text
  pub rows-next : (index index' given : ℕ) (word : Option ℕ) (old new : List (Option ℕ)) (text text' : List ℕ) → given ≡ index → index' ≡ index + 1 → text' ≡ text ++ row given word → old ≡ word ∷ new → text' ++ (rows_from row index' new ++ end) ≡ text ++ (rows_from row index old ++ end)
  unfolding rows_from
  rows-next index index' given word old new text text' here next added first =
      let rest : rows_from row index old ≡ row index word ++ rows_from row (index + 1) new = ap (rows_from row index) first in
      (λ i. (added ∙ ap (λ n. text ++ row n word) here) i ++ (rows_from row (next i) new ++ end))
      ∙ append_assoc text (row index word) (rows_from row (index + 1) new ++ end)
      ∙ ap (λ (l : List ℕ). text ++ l) (sym (append_assoc (row index word) (rows_from row (index + 1) new) end))
      ∙ ap (λ (l : List ℕ). text ++ (l ++ end)) (sym rest)

  -- no word is left
  pub rows-end : (index : ℕ) (old : List (Option ℕ)) → old ≡ [] → rows_from row index old ++ end ≡ end
  unfolding rows_from
  rows-end index old none = ap (λ (words : List (Option ℕ)). rows_from row index words ++ end) none
