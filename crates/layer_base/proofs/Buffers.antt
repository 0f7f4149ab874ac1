-- A buffer whose front was filled so far, and what is put behind that front.
use Rattle.std.proofs.Common.{◌≡◌, ℕ, ◌+◌, ◌≤◌, List, ◌++◌, length, take, sym, ap, ◌∙◌, arith, length-take}
use Rattle.std.proofs.Math.Seq.{take-append-add}
use Rattle.std.proofs.lemmas.List.{take-append-le, take-take}

module _ (done : ℕ) (buf : List ℕ) (inside : done ≤ length buf) where
  -- so many bytes stand in front
  pub length-front : length (take done buf) ≡ done
  length-front = omega (arith, length-take done buf)

  -- the front stays, whatever is put behind it
  pub front-kept : (rest : List ℕ) → take done (take done buf ++ rest) ≡ take done buf
  front-kept rest = take-append-le done (take done buf) rest (omega (arith, length-front)) ∙ take-take done done buf (omega arith)

  -- the front after n bytes more
  pub front-more : (n : ℕ) (new rest : List ℕ) → n ≤ length new → take (done + n) (take done buf ++ (new ++ rest)) ≡ take done buf ++ take n new
  front-more n new rest fits =
      ap (λ k. take (k + n) (take done buf ++ (new ++ rest))) (sym length-front) ∙ take-append-add (take done buf) (new ++ rest) n ∙ ap (λ (l : List ℕ). take done buf ++ l) (take-append-le n new rest fits)
