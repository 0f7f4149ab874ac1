-- The laws of the least absent address.
use Rattle.std.proofs.Common.{◌≡◌, ℕ, zero, suc, ◌+◌, ◌-◌, ◌<◌, List, [], ◌∷◌, length, map, Option, None, Some, refl, sym, ap, ◌∙◌, arith}
use Rattle.layer_base.specs.AddressSpace.{AddressSpace, bytes_from}
use Rattle.layer_base.specs.Present.{while_present, present_from}
use Rattle.space_memory.specs.Hole.{absent_or, hole}

pub hole-nothing : (memory : AddressSpace) (at : ℕ) → hole memory at 0 ≡ None
unfolding hole
hole-nothing memory at = refl

-- an absent address is the least from itself on
pub hole-here : (memory : AddressSpace) (at n : ℕ) → memory at ≡ None → 0 < n → hole memory at n ≡ Some at
unfolding hole
hole-here memory at zero absent some = absurd (omega arith)
hole-here memory at (suc n) absent some = rw absent refl

-- bytes that are present have no hole among them
pub hole-behind : (memory : AddressSpace) (at n k : ℕ) (bytes : List ℕ) → bytes_from memory at n ≡ map Some bytes → hole memory at (n + k) ≡ hole memory (at + n) k
unfolding hole bytes_from
hole-behind memory at zero k bytes read =
    let none : 0 + k ≡ k = omega arith in
    let here : at + 0 ≡ at = omega arith in
    rw (none, here) refl
hole-behind memory at (suc n) k [] read = absurd (cc read)
hole-behind memory at (suc n) k (byte ∷ bytes) read =
    let front : memory at ≡ Some byte = cc read in
    let rest : bytes_from memory (at + 1) n ≡ map Some bytes = cc read in
    let more : suc n + k ≡ suc (n + k) = omega arith in
    let place : at + 1 + n ≡ at + suc n = omega arith in
    ap (hole memory at) more ∙ ap (λ b. absent_or b at (hole memory (at + 1) (n + k))) front ∙ hole-behind memory (at + 1) n k bytes rest ∙ ap (λ a. hole memory a k) place

-- all bytes are present
pub hole-none : (memory : AddressSpace) (at n : ℕ) (bytes : List ℕ) → bytes_from memory at n ≡ map Some bytes → hole memory at n ≡ None
hole-none memory at n bytes read =
    let all : n + 0 ≡ n = omega arith in
    ap (hole memory at) (sym all) ∙ hole-behind memory at n 0 bytes read ∙ hole-nothing memory (at + n)

-- the first absent address, behind bytes that are present
pub hole-first : (memory : AddressSpace) (at done n : ℕ) (bytes : List ℕ) → bytes_from memory at done ≡ map Some bytes → memory (at + done) ≡ None → done < n → hole memory at n ≡ Some (at + done)
hole-first memory at done n bytes read absent within =
    let all : done + (n - done) ≡ n = omega arith in
    ap (hole memory at) (sym all) ∙ hole-behind memory at done (n - done) bytes read ∙ hole-here memory (at + done) (n - done) absent (omega arith)

-- a hole leaves fewer
pub present_from-fewer : (memory : AddressSpace) (at n a : ℕ) → hole memory at n ≡ Some a → length (present_from memory at n) < n
unfolding present_from hole
present_from-fewer memory at zero a absent = absurd (cc absent)
present_from-fewer memory at (suc n) a absent = by (memory at) refl (present_from-fewer memory (at + 1) n a)
  where
    by : (byte : Option ℕ) → memory at ≡ byte → (hole memory (at + 1) n ≡ Some a → length (present_from memory (at + 1) n) < n) → length (while_present (memory at) (present_from memory (at + 1) n)) < suc n
    by None is below = rw is (omega arith)
    by (Some byte) is below = let fewer = below (rw is at absent) in rw is (omega (arith, fewer))
