-- The laws of the bytes from an address on.
use Rattle.std.proofs.Common.{◌≡◌, ℕ, zero, suc, ◌+◌, ◌<◌, [], ◌∷◌, ◌++◌, length, replicate, None, refl, ◌∙◌, ap, arith}
use Rattle.layer_base.specs.AddressSpace.{AddressSpace, bytes_from}

pub length-bytes_from : (memory : AddressSpace) (at n : ℕ) → length (bytes_from memory at n) ≡ n
unfolding bytes_from
length-bytes_from memory at zero = refl
length-bytes_from memory at (suc n) = ap suc (length-bytes_from memory (at + 1) n)

pub bytes_from-none : (memory : AddressSpace) (at : ℕ) → bytes_from memory at 0 ≡ []
unfolding bytes_from
bytes_from-none memory at = refl

pub bytes_from-add : (memory : AddressSpace) (at n k : ℕ) → bytes_from memory at (n + k) ≡ bytes_from memory at n ++ bytes_from memory (at + n) k
unfolding bytes_from
bytes_from-add memory at zero k = ap (λ (m : ℕ). bytes_from memory at m) (omega arith) ∙ ap (λ a. bytes_from memory a k) (omega arith)
bytes_from-add memory at (suc n) k =
    let more : suc n + k ≡ suc (n + k) = omega arith in
    let place : at + 1 + n ≡ at + suc n = omega arith in
    ap (bytes_from memory at) more
    ∙ ap (λ l. memory at ∷ l) (bytes_from-add memory (at + 1) n k ∙ ap (λ a. bytes_from memory (at + 1) n ++ bytes_from memory a k) place)

-- the bytes from one address on are those of another memory from another on
pub bytes_from-moved : (memory other : AddressSpace) (at place n : ℕ) → ((k : ℕ) → k < n → memory (at + k) ≡ other (place + k)) → bytes_from memory at n ≡ bytes_from other place n
unfolding bytes_from
bytes_from-moved memory other at place zero same = refl
bytes_from-moved memory other at place (suc n) same =
    let here : memory at ≡ other place = let none : at + 0 ≡ at = omega arith in let there : place + 0 ≡ place = omega arith in rw (none, there) at (same 0 (omega arith)) in
    let rest : (k : ℕ) → k < n → memory (at + 1 + k) ≡ other (place + 1 + k) = λ k below.
    let next : at + 1 + k ≡ at + suc k = omega arith in
    let after : place + 1 + k ≡ place + suc k = omega arith in
    rw (next, after) (same (suc k) (omega arith)) in
    λ i. here i ∷ bytes_from-moved memory other (at + 1) (place + 1) n rest i

-- a hole
pub bytes_from-absent : (memory : AddressSpace) (at n : ℕ) → ((k : ℕ) → k < n → memory (at + k) ≡ None) → bytes_from memory at n ≡ replicate n None
unfolding bytes_from
bytes_from-absent memory at n absent = bytes_from-moved memory (λ a. None) at at n absent ∙ holes at n
  where
    holes : (at n : ℕ) → bytes_from (λ a. None) at n ≡ replicate n None
    holes at zero = refl
    holes at (suc n) = ap (λ l. None ∷ l) (holes (at + 1) n)
