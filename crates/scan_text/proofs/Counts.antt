-- How many hits of one needle there are.
use Rattle.std.proofs.Common.{◌≡◌, ℕ, zero, suc, ◌+◌, ◌-◌, ◌≤◌, List, [], ◌∷◌, ◌++◌, length, slice_index_or, true, false, Bool, if◌then◌else◌, arith}
use Rattle.std.proofs.lemmas.List.{length-append}
use Rattle.layer_base.specs.AddressSpace.{AddressSpace}
use Rattle.chunk_scanner.specs.Hits.{occurs, up_to, hits_at, hits_from, hits}

-- at most one of each needle at an address
length-hits_at : (memory : AddressSpace) (needles : List (List ℕ)) (at number n : ℕ) → length (hits_at memory needles at number n) ≤ n
unfolding hits_at
length-hits_at memory needles at number zero = omega arith
length-hits_at memory needles at number (suc n) = step (occurs memory at (slice_index_or needles number [])) (length-hits_at memory needles at (number + 1) n)
  where
    step : (found : Bool) → length (hits_at memory needles at (number + 1) n) ≤ n → length (if found then record { at = at; needle = number } ∷ hits_at memory needles at (number + 1) n else hits_at memory needles at (number + 1) n) ≤ suc n
    step true few = omega arith
    step false few = omega arith

length-hits_from : (memory : AddressSpace) (needle : List ℕ) (at n : ℕ) → length (hits_from memory (needle ∷ []) at 0 n) ≤ n
unfolding hits_from
length-hits_from memory needle at zero = omega arith
length-hits_from memory needle at (suc n) =
    let here : length (hits_at memory (needle ∷ []) at 0 1) ≤ 1 = length-hits_at memory (needle ∷ []) at 0 1 in
    let behind : length (hits_from memory (needle ∷ []) (at + 1) 0 n) ≤ n = length-hits_from memory needle (at + 1) n in
    let both : length (hits_at memory (needle ∷ []) at 0 1 ++ hits_from memory (needle ∷ []) (at + 1) 0 n) ≡ length (hits_at memory (needle ∷ []) at 0 1) + length (hits_from memory (needle ∷ []) (at + 1) 0 n) = length-append _ _ in
    omega (arith, here, behind, both)

-- no more hits of one needle than addresses
pub length-hits : (memory : AddressSpace) (first last : ℕ) (needle : List ℕ) → length (hits memory first last (needle ∷ [])) ≤ last + 1 - first
unfolding hits
length-hits memory first last needle = length-hits_from (up_to last memory) needle first (last + 1 - first)
