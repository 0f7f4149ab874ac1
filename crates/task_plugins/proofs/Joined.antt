-- A text to which one piece after another was appended.
use Rattle.std.proofs.Common.{◌≡◌, ℕ, List, ◌++◌, append_assoc, ap, ◌∙◌}

-- a piece more
more : (start before after first second : List ℕ) → before ≡ start ++ first → after ≡ before ++ second → after ≡ start ++ (first ++ second)
more start before after first second is added = added ∙ ap (λ (l : List ℕ). l ++ second) is ∙ append_assoc start first second

module _ (start one two three four five six a b c d e f : List ℕ) where
  -- six pieces
  pub six-joined : one ≡ start ++ a → two ≡ one ++ b → three ≡ two ++ c → four ≡ three ++ d → five ≡ four ++ e → six ≡ five ++ f → six ≡ start ++ (((((a ++ b) ++ c) ++ d) ++ e) ++ f)
  six-joined first second third fourth fifth sixth =
      more start five six ((((a ++ b) ++ c) ++ d) ++ e) f (more start four five (((a ++ b) ++ c) ++ d) e (more start three four ((a ++ b) ++ c) d (more start two three (a ++ b) c (more start one two a b first second) third) fourth) fifth) sixth
