-- The words of a line are no longer than the line.
use Rattle.std.proofs.Common.{◌≡◌, ℕ, suc, ◌-◌, ◌≤◌, ◌==◌, Bool, true, false, cond, nat_lt, if◌then◌else◌, List, [], ◌∷◌, length, take, slice_index, arith, length-take}
use Rattle.std.specs.List.{All, filter, onto_first, slice_split}
use Rattle.std.proofs.lemmas.List.Elements.{All-nil, All-cons, All-head, All-tail, All-weaker, All-filter}
use Rattle.command_words.specs.Line.{is_blank, trimmed, words_of}

-- words of at most so many bytes
abbrev pub AreShort : ℕ → List (List ℕ) → Type 0
AreShort most words = All (λ word. length word ≤ most) words

module _ (most : ℕ) where
  pub first-short : (word : List ℕ) (words : List (List ℕ)) → AreShort most (word ∷ words) → length word ≤ most
  first-short word words short = All-head (λ word. length word ≤ most) word words short

  pub others-short : (word : List ℕ) (words : List (List ℕ)) → AreShort most (word ∷ words) → AreShort most words
  others-short word words short = All-tail (λ word. length word ≤ most) word words short

  more-short : (word : List ℕ) (words : List (List ℕ)) → length word ≤ most → AreShort most words → AreShort most (word ∷ words)
  more-short word words first short = All-cons (λ word. length word ≤ most) word words first short

  none-short : AreShort most []
  none-short = All-nil (λ word. length word ≤ most)

  longer-short : (fewer : ℕ) (words : List (List ℕ)) → fewer ≤ most → AreShort fewer words → AreShort most words
  longer-short fewer words within short = All-weaker (λ word. length word ≤ fewer) (λ word. length word ≤ most) (λ word at. omega arith) words short

onto-short : (most byte : ℕ) (words : List (List ℕ)) → AreShort most words → AreShort (suc most) (onto_first byte words)
onto-short most byte [] short = more-short (suc most) (byte ∷ []) [] (omega arith) (none-short (suc most))
onto-short most byte (word ∷ words) short =
    let first = first-short most word words short in
    more-short (suc most) (byte ∷ word) words (omega arith) (longer-short (suc most) most words (omega arith) (others-short most word words short))

one-more-short : (end : Bool) (most byte : ℕ) (words : List (List ℕ)) → AreShort most words → AreShort (suc most) (cond end ([] ∷ words) (onto_first byte words))
one-more-short true most byte words short = more-short (suc most) [] words (omega arith) (longer-short (suc most) most words (omega arith) short)
one-more-short false most byte words short = onto-short most byte words short

split-short : (ends : ℕ → Bool) (bytes : List ℕ) → AreShort (length bytes) (slice_split ends bytes)
split-short ends [] = more-short 0 [] [] (omega arith) (none-short 0)
split-short ends (byte ∷ bytes) = one-more-short (ends byte) (length bytes) byte (slice_split ends bytes) (split-short ends bytes)

trimmed-short : (line : List ℕ) → length (trimmed line) ≤ length line
trimmed-short line = either (slice_index line (length line - 1) == 13)
  where
    either : (ends : Bool) → length (if ends then take (length line - 1) line else line) ≤ length line
    either true = omega (arith, length-take (length line - 1) line)
    either false = omega arith

pub words_of-short : (most : ℕ) (line : List ℕ) → length line ≤ most → AreShort most (words_of (trimmed line))
words_of-short most line within =
    let front = trimmed-short line in
    All-filter (λ word. nat_lt 0 (length word)) (λ word. length word ≤ most) (slice_split is_blank (trimmed line))
    (longer-short most (length (trimmed line)) (slice_split is_blank (trimmed line)) (omega arith) (split-short is_blank (trimmed line)))
