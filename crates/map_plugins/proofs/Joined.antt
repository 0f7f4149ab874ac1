-- A text to which one piece after another was appended.
use Rattle.std.proofs.Common.{◌≡◌, ℕ, List, ◌++◌, Result, Ok, Err, OnOk, append_assoc, ap, ◌∙◌}

-- what follows from what holds on Ok
pub OnOk-then : {T E : Type 0} (result : Result T E) {P Q : Type 0} → OnOk result P → (P → Q) → OnOk result Q
OnOk-then (Ok value) holds then = then holds
OnOk-then (Err error) holds then = tt

-- a piece more
more : (start before after first second : List ℕ) → before ≡ start ++ first → after ≡ before ++ second → after ≡ start ++ (first ++ second)
more start before after first second is added = added ∙ ap (λ (l : List ℕ). l ++ second) is ∙ append_assoc start first second

module _ (start one two three four five a b c d e : List ℕ) where
  -- five pieces
  pub five-joined : one ≡ start ++ a → two ≡ one ++ b → three ≡ two ++ c → four ≡ three ++ d → five ≡ four ++ e → five ≡ start ++ ((((a ++ b) ++ c) ++ d) ++ e)
  five-joined first second third fourth fifth =
      more start four five (((a ++ b) ++ c) ++ d) e (more start three four ((a ++ b) ++ c) d (more start two three (a ++ b) c (more start one two a b first second) third) fourth) fifth
