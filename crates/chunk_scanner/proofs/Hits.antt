-- The laws of hits.
use Rattle.std.proofs.Common.{◌≡◌, ℕ, zero, suc, ◌+◌, ◌-◌, ◌<◌, ◌≤◌, List, [], ◌∷◌, ◌++◌, length, slice_index_or, true, false, refl, sym, ap, ◌∙◌, arith}
use Rattle.std.proofs.lemmas.Bool.{cond-true, cond-false}
use Rattle.layer_base.specs.AddressSpace.{AddressSpace}
use Rattle.chunk_scanner.specs.Hits.{occurs, hits_at, hits_from}

module _ (memory : AddressSpace) (needles : List (List ℕ)) where
  -- the needle of a number does not occur at an address
  abbrev pub IsMissing : ℕ → ℕ → Type 0
  IsMissing number at = occurs memory at (slice_index_or needles number []) ≡ false

  -- ---- hits at one address

  missing-first : (at number n : ℕ) → IsMissing number at → hits_at memory needles at number (suc n) ≡ hits_at memory needles at (number + 1) n
  unfolding hits_at
  missing-first at number n missing = cond-false (occurs memory at (slice_index_or needles number [])) (record { at = at; needle = number } ∷ hits_at memory needles at (number + 1) n) (hits_at memory needles at (number + 1) n) missing

  found-first : (at number n : ℕ) → occurs memory at (slice_index_or needles number []) ≡ true → hits_at memory needles at number (suc n) ≡ record { at = at; needle = number } ∷ hits_at memory needles at (number + 1) n
  unfolding hits_at
  found-first at number n found = cond-true (occurs memory at (slice_index_or needles number [])) (record { at = at; needle = number } ∷ hits_at memory needles at (number + 1) n) (hits_at memory needles at (number + 1) n) found

  hits_at-none : (at number : ℕ) → hits_at memory needles at number 0 ≡ []
  unfolding hits_at
  hits_at-none at number = refl

  -- needles that do not occur are passed
  hits_at-passed : (at m number n : ℕ) → ((k : ℕ) → number ≤ k → k < number + m → IsMissing k at) → hits_at memory needles at number (m + n) ≡ hits_at memory needles at (number + m) n
  hits_at-passed at zero number n missing =
      let same : 0 + n ≡ n = omega arith in
      let here : number + 0 ≡ number = omega arith in
      rw (same, here) refl
  hits_at-passed at (suc m) number n missing =
      let more : suc m + n ≡ suc (m + n) = omega arith in
      let next : number + 1 + m ≡ number + suc m = omega arith in
      ap (hits_at memory needles at number) more
      ∙ missing-first at number (m + n) (missing number (omega arith) (omega arith))
      ∙ hits_at-passed at m (number + 1) n (λ k above below. missing k (omega arith) (omega arith))
      ∙ ap (λ k. hits_at memory needles at k n) next

  hits_at-empty : (at number : ℕ) → ((k : ℕ) → number ≤ k → k < length needles → IsMissing k at) → hits_at memory needles at number (length needles - number) ≡ []
  hits_at-empty at number missing =
      let all : length needles - number ≡ length needles - number + 0 = omega arith in
      ap (hits_at memory needles at number) all
      ∙ hits_at-passed at (length needles - number) number 0 (λ k above below. missing k above (omega arith))
      ∙ hits_at-none at (number + (length needles - number))

  hits_at-first : (at number k : ℕ) → number ≤ k → k < length needles → ((j : ℕ) → number ≤ j → j < k → IsMissing j at) → occurs memory at (slice_index_or needles k []) ≡ true
      → hits_at memory needles at number (length needles - number) ≡ record { at = at; needle = k } ∷ hits_at memory needles at (k + 1) (length needles - (k + 1))
  hits_at-first at number k above inside missing found =
      let split : length needles - number ≡ k - number + suc (length needles - (k + 1)) = omega arith in
      let there : number + (k - number) ≡ k = omega arith in
      ap (hits_at memory needles at number) split
      ∙ hits_at-passed at (k - number) number (suc (length needles - (k + 1))) (λ j above below. missing j above (omega arith))
      ∙ ap (λ j. hits_at memory needles at j (suc (length needles - (k + 1)))) there
      ∙ found-first at k (length needles - (k + 1)) found

  -- ---- hits at several addresses

  pub hits_from-none : (number at : ℕ) → hits_from memory needles at number 0 ≡ []
  unfolding hits_from
  hits_from-none number at = refl

  hits_from-next : (number at n : ℕ) → hits_from memory needles at number (suc n) ≡ hits_at memory needles at number (length needles - number) ++ hits_from memory needles (at + 1) 0 n
  unfolding hits_from
  hits_from-next number at n = refl

  -- an address at which no needle occurs is passed
  hits_from-after : (number at n : ℕ) → ((k : ℕ) → number ≤ k → k < length needles → IsMissing k at) → hits_from memory needles at number (suc n) ≡ hits_from memory needles (at + 1) 0 n
  hits_from-after number at n missing = hits_from-next number at n ∙ ap (λ l. l ++ hits_from memory needles (at + 1) 0 n) (hits_at-empty at number missing)

  -- and so are several
  pub hits_from-passed : (m number at n : ℕ) → ((place k : ℕ) → place < suc m → k < length needles → (place ≡ 0 → number ≤ k) → IsMissing k (at + place)) → hits_from memory needles at number (suc m + n) ≡ hits_from memory needles (at + suc m) 0 n
  hits_from-passed zero number at n missing =
      let one : 1 + n ≡ suc n = omega arith in
      ap (hits_from memory needles at number) one ∙ hits_from-after number at n (λ k above inside. let same : at + 0 ≡ at = omega arith in rw same at (missing 0 k (omega arith) inside (λ none. above)))
  hits_from-passed (suc m) number at n missing =
      let more : suc (suc m) + n ≡ suc (suc m + n) = omega arith in
      let there : at + 1 + suc m ≡ at + suc (suc m) = omega arith in
      ap (hits_from memory needles at number) more
      ∙ hits_from-after number at (suc m + n) (λ k above inside. let same : at + 0 ≡ at = omega arith in rw same at (missing 0 k (omega arith) inside (λ none. above)))
      ∙ hits_from-passed m 0 (at + 1) n (λ place k below inside above. let next : at + 1 + place ≡ at + suc place = omega arith in rw next (missing (suc place) k (omega arith) inside (λ none. absurd (omega arith))))
      ∙ ap (λ a. hits_from memory needles a 0 n) there

  -- the first hit is the head
  pub hits_from-first : (number at n k : ℕ) → number ≤ k → k < length needles → ((j : ℕ) → number ≤ j → j < k → IsMissing j at) → occurs memory at (slice_index_or needles k []) ≡ true
      → hits_from memory needles at number (suc n) ≡ record { at = at; needle = k } ∷ hits_from memory needles at (k + 1) (suc n)
  hits_from-first number at n k above inside missing found =
      hits_from-next number at n
      ∙ ap (λ l. l ++ hits_from memory needles (at + 1) 0 n) (hits_at-first at number k above inside missing found)
      ∙ ap (λ l. record { at = at; needle = k } ∷ l) (sym (hits_from-next (k + 1) at n))
