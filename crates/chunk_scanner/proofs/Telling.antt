-- What a search of the bytes that were read says of the hits that are left.
use Rattle.std.proofs.Common.{◌≡◌, ℕ, zero, suc, ◌+◌, ◌-◌, ◌<◌, ◌≤◌, List, [], ◌∷◌, length, slice_index_or, true, refl, sym, ap, ◌∙◌, ⊎_elim, arith}
use Rattle.std.proofs.lemmas.Bool.{cases_lt, cases_eq, cond-true, false_from_ne_true}
use Rattle.layer_base.specs.AddressSpace.{AddressSpace}
use Rattle.needle_search.specs.FirstHit.{rank, NeedleOccurs}
use Rattle.needle_search.specs.declared.hit.Hit.{Hit}
use Rattle.chunk_scanner.specs.Hits.{occurs, hits_from}
use Rattle.chunk_scanner.specs.Position.{addresses_left}
use Rattle.chunk_scanner.specs.Scan.{searched, hits_behind}
use Rattle.chunk_scanner.specs.Search.{Tells}
use Rattle.chunk_scanner.specs.declared.position.Position.{Position}
use Rattle.chunk_scanner.specs.declared.wanted.Wanted.{Wanted}
use Rattle.chunk_scanner.proofs.Hits.{IsMissing, hits_from-none, hits_from-passed, hits_from-first}

module _ (memory : AddressSpace) (needles : List (List ℕ)) (at : ℕ) (bytes : List ℕ) (until last number : ℕ) (tells : Tells memory needles at bytes until) (few : length needles ≤ 8) (low : number ≤ 8) (above : at ≤ until) (most : until ≤ last) where
  missing : (place k : ℕ) → at + place ≤ until → k < length needles → ¬ NeedleOccurs needles bytes k place → IsMissing memory needles k (at + place)
  missing place k within inside none = false_from_ne_true (occurs memory (at + place) (slice_index_or needles k [])) (λ found. none (tells.only place k within inside found))

  -- a pair that is not before the one at which the scan stands
  ranked-first : (place k : ℕ) → (place ≡ 0 → number ≤ k) → number ≤ rank place k
  ranked-first place k first = ⊎_elim (λ zero. let n = first zero in omega arith) (λ more. let some : 1 ≤ place = omega arith in omega arith) (cases_eq place 0)

  -- no needle occurs up to an address
  pub none-until : ((place k : ℕ) → at + place ≤ until → k < length needles → number ≤ rank place k → ¬ NeedleOccurs needles bytes k place) → hits_from memory needles at number (last + 1 - at) ≡ hits_from memory needles (until + 1) 0 (last - until)
  none-until none =
      let split : last + 1 - at ≡ suc (until - at) + (last - until) = omega arith in
      let there : at + suc (until - at) ≡ until + 1 = omega arith in
      ap (hits_from memory needles at number) split
      ∙ hits_from-passed memory needles (until - at) number at (last - until) (λ place k below inside first. missing place k (omega arith) inside (none place k (omega arith) inside (ranked-first place k first)))
      ∙ ap (λ a. hits_from memory needles a 0 (last - until)) there

  -- where the first hit stands, what is left begins with it
  pub hit-first : (place k : ℕ) → at + place ≤ until → k < length needles → number ≤ rank place k → NeedleOccurs needles bytes k place
      → ((p j : ℕ) → j < length needles → number ≤ rank p j → rank p j < rank place k → ¬ NeedleOccurs needles bytes j p)
      → hits_from memory needles at number (last + 1 - at) ≡ record { at = at + place; needle = k } ∷ hits_from memory needles (at + place) (k + 1) (last + 1 - (at + place))
  hit-first zero k within inside ranked stands none =
      let here : at + 0 ≡ at = omega arith in
      let found : occurs memory at (slice_index_or needles k []) ≡ true = rw here at (tells.there 0 k within inside stands) in
      let before : (j : ℕ) → number ≤ j → j < k → IsMissing memory needles j at = λ j above below. rw here at (missing 0 j within (omega arith) (none 0 j (omega arith) (omega arith) (omega arith))) in
      let left : last + 1 - at ≡ suc (last - at) = omega arith in
      rw (here, left) (hits_from-first memory needles number at (last - at) k (omega arith) inside before found)
  hit-first (suc place) k within inside ranked stands none =
      let there = at + suc place in
      let split : last + 1 - at ≡ suc place + suc (last - there) = omega arith in
      let left : last + 1 - there ≡ suc (last - there) = omega arith in
      let passed : (p j : ℕ) → p < suc place → j < length needles → (p ≡ 0 → number ≤ j) → IsMissing memory needles j (at + p) = λ p j below known first.
      missing p j (omega arith) known (none p j known (ranked-first p j first) (omega arith)) in
      let before : (j : ℕ) → 0 ≤ j → j < k → IsMissing memory needles j there = λ j least below. missing (suc place) j within (omega arith) (none (suc place) j (omega arith) (omega arith) (omega arith)) in
      ap (hits_from memory needles at number) split
      ∙ hits_from-passed memory needles place number at (suc (last - there)) passed
      ∙ hits_from-first memory needles 0 there (last - there) k (omega arith) inside before (tells.there (suc place) k within inside stands)
      ∙ ap (λ n. record { at = there; needle = k } ∷ hits_from memory needles there (k + 1) n) (sym left)

-- the hits behind an address, from where the scan stands then
pub hits_from-behind : (memory : AddressSpace) (needles : List (List ℕ)) (until last number at left : ℕ) → until ≤ last → number ≡ 0 → left ≡ last - until → (until < last → at ≡ until + 1) → hits_from memory needles (until + 1) 0 (last - until) ≡ hits_from memory needles at number left
hits_from-behind memory needles until last number at left most first rest next =
    ⊎_elim
    (λ before. rw (next before, first, rest) refl)
    (λ end.
    let none : last - until ≡ 0 = omega arith in
    rw (rest, none) (hits_from-none memory needles 0 (until + 1) ∙ sym (hits_from-none memory needles number at)))
    (cases_lt until last)

-- at the end no hit is left
pub hits_behind-done : (memory : AddressSpace) (wanted : Wanted) (position : Position) (old : List Hit) → position.done ≡ true → old ≡ hits_behind memory wanted position → (old ≡ []) × (hits_behind memory wanted position ≡ [])
hits_behind-done memory wanted position old done same =
    let part = searched memory wanted in
    let left : addresses_left wanted.last position ≡ 0 = cond-true position.done 0 (wanted.last + 1 - position.at) done in
    let none : hits_behind memory wanted position ≡ [] = ap (hits_from part wanted.needles position.at position.number) left ∙ hits_from-none part wanted.needles position.number position.at in
    (same ∙ none, none)
