-- The lists that words stand for, one word after another.
use Rattle.std.proofs.Common.{◌≡◌, ℕ, ◌+◌, ◌<◌, ◌≤◌, List, [], ◌∷◌, ◌++◌, Result, Ok, Err, refl, sym, ◌∙◌, ap, map, length, get_or, drop, append_assoc, append-nil}
use Rattle.std.proofs.lemmas.List.{at_drop_more, at_drop_all, get_or-map, length-map}
use Rattle.command_words.specs.Answer.{◌>>=◌}
use Rattle.command_words.specs.Name.{joined}
use Rattle.command_words.specs.declared.fault.LineFault.{LineFault}

-- the lists of words behind a list
abbrev pub joined_behind : {A : Type 0} → (List ℕ → Result (List A) LineFault) → List A → List (List ℕ) → Result (List A) LineFault
joined_behind list_of front words = joined list_of words >>= λ lists. Ok (front ++ lists)

module _ {A : Type 0} (list_of : List ℕ → Result (List A) LineFault) where
  two-fronts : (front list : List A) (lists : Result (List A) LineFault) → ((lists >>= λ l. Ok (list ++ l)) >>= λ l. Ok (front ++ l)) ≡ (lists >>= λ l. Ok ((front ++ list) ++ l))
  two-fronts front list (Ok lists) = ap Ok (sym (append_assoc front list lists))
  two-fronts front list (Err fault) = refl

  behind-some : (front list : List A) (word : List ℕ) (words : List (List ℕ)) → list_of word ≡ Ok list → joined_behind list_of front (word ∷ words) ≡ joined_behind list_of (front ++ list) words
  behind-some front list word words is =
      ap (λ r. (r >>= λ l. (joined list_of words >>= λ ls. Ok (l ++ ls))) >>= λ ls. Ok (front ++ ls)) is
      ∙ two-fronts front list (joined list_of words)

  behind-fails : (front : List A) (word : List ℕ) (words : List (List ℕ)) (fault : LineFault) → list_of word ≡ Err fault → joined_behind list_of front (word ∷ words) ≡ Err fault
  behind-fails front word words fault is =
      ap (λ r. (r >>= λ l. (joined list_of words >>= λ ls. Ok (l ++ ls))) >>= λ ls. Ok (front ++ ls)) is

  module _ {R : Type 0} (word_of : R → List ℕ) (front : List A) (i : ℕ) (words : List R) (whole : Result (List A) LineFault) (so_far : joined_behind list_of front (drop i (map word_of words)) ≡ whole) where
    next-word : (d : R) → i < length words → joined_behind list_of front (word_of (get_or words i d) ∷ drop (i + 1) (map word_of words)) ≡ whole
    next-word d within =
        ap (λ w. joined_behind list_of front (w ∷ drop (i + 1) (map word_of words))) (sym (get_or-map word_of words i d [] within))
        ∙ sym (at_drop_more (joined_behind list_of front) (map word_of words) i [] (simp length-map within))
        ∙ so_far

    -- one word more
    pub joined-more : (d : R) (list : List A) → i < length words → list_of (word_of (get_or words i d)) ≡ Ok list → joined_behind list_of (front ++ list) (drop (i + 1) (map word_of words)) ≡ whole
    joined-more d list within is =
        sym (behind-some front list (word_of (get_or words i d)) (drop (i + 1) (map word_of words)) is) ∙ next-word d within

    -- a word that stands for no list
    pub joined-fails : (d : R) (fault : LineFault) → i < length words → list_of (word_of (get_or words i d)) ≡ Err fault → whole ≡ Err fault
    joined-fails d fault within is =
        sym (next-word d within) ∙ behind-fails front (word_of (get_or words i d)) (drop (i + 1) (map word_of words)) fault is

    -- all words are gone through
    pub joined-all : length words ≤ i → whole ≡ Ok front
    joined-all all = sym so_far ∙ at_drop_all (joined_behind list_of front) (map word_of words) i (simp length-map all) ∙ ap Ok (append-nil front)
