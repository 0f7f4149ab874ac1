-- The laws of the bytes that are present in a row.
use Rattle.std.proofs.Common.{◌≡◌, ℕ, zero, suc, ◌+◌, ◌-◌, ◌^◌, ◌<◌, ◌≤◌, List, [], ◌∷◌, ◌++◌, length, map, take, drop, get_or, Option, None, Some, refl, sym, ap, ◌∙◌, arith, inl, inr, drop-cons}
use Rattle.std.proofs.lemmas.Bool.{cases_lt}
use Rattle.std.proofs.lemmas.List.{append-nil, drop_all}
use Rattle.std.proofs.lemmas.Option.{slice_get_past, slice_get-get_or}
use Rattle.layer_base.specs.AddressSpace.{AddressSpace, bytes_from}
use Rattle.layer_base.specs.Present.{while_present, present_from}
use Rattle.layer_base.specs.View.{physical}
use Rattle.layer_base.specs.View.View.{File}
use Rattle.layer_base.proofs.Stretches.{physical-File}

-- of no bytes none is present
pub present_from-nothing : (memory : AddressSpace) (at : ℕ) → present_from memory at 0 ≡ []
unfolding present_from
present_from-nothing memory at = refl

-- bytes that all stand in a list are all present
pub present_from-bytes : (memory : AddressSpace) (at n : ℕ) (bytes : List ℕ) → bytes_from memory at n ≡ map Some bytes → present_from memory at n ≡ bytes
unfolding bytes_from present_from
present_from-bytes memory at zero [] is = refl
present_from-bytes memory at zero (byte ∷ rest) is = absurd (cc)
present_from-bytes memory at (suc n) [] is = absurd (cc)
present_from-bytes memory at (suc n) (byte ∷ rest) is =
    let here : memory at ≡ Some byte = cc in
    let more : bytes_from memory (at + 1) n ≡ map Some rest = cc in
    rw here (ap (λ (l : List ℕ). byte ∷ l) (present_from-bytes memory (at + 1) n rest more))

-- no byte is present at an absent address
pub present_from-absent : (memory : AddressSpace) (at n : ℕ) → memory at ≡ None → present_from memory at n ≡ []
unfolding present_from
present_from-absent memory at zero absent = refl
present_from-absent memory at (suc n) absent = rw absent refl

-- after so many bytes that are all present come those from the next address on
pub present_from-add : (memory : AddressSpace) (at n k : ℕ) → length (present_from memory at n) ≡ n → present_from memory at (n + k) ≡ present_from memory at n ++ present_from memory (at + n) k
unfolding present_from
present_from-add memory at zero k whole =
    let none : 0 + k ≡ k = omega arith in
    let here : at + 0 ≡ at = omega arith in
    ap (present_from memory at) none ∙ ap (λ a. present_from memory a k) (sym here)
present_from-add memory at (suc n) k whole =
    let more : suc n + k ≡ suc (n + k) = omega arith in
    let place : at + 1 + n ≡ at + suc n = omega arith in
    ap (present_from memory at) more ∙ front (memory at) refl (λ rest. present_from-add memory (at + 1) n k rest ∙ ap (λ a. present_from memory (at + 1) n ++ present_from memory a k) place)
  where
    front : (byte : Option ℕ) → memory at ≡ byte → (length (present_from memory (at + 1) n) ≡ n → present_from memory (at + 1) (n + k) ≡ present_from memory (at + 1) n ++ present_from memory (at + suc n) k)
        → while_present byte (present_from memory (at + 1) (n + k)) ≡ while_present byte (present_from memory (at + 1) n) ++ present_from memory (at + suc n) k
    front None is rest = let short = rw is at whole in absurd (omega (arith, short))
    front (Some byte) is rest = let tail = rw is at whole in ap (λ l. byte ∷ l) (rest (omega (arith, tail)))

-- an absent byte ends them
pub present_from-end : (memory : AddressSpace) (at n m : ℕ) → n ≤ m → length (present_from memory at n) ≡ n → memory (at + n) ≡ None → present_from memory at m ≡ present_from memory at n
present_from-end memory at n m fits whole absent =
    let k : m ≡ n + (m - n) = omega arith in
    ap (present_from memory at) k ∙ present_from-add memory at n (m - n) whole ∙ ap (λ (l : List ℕ). present_from memory at n ++ l) (present_from-absent memory (at + n) (m - n) absent) ∙ append-nil (present_from memory at n)

-- of a file they are its bytes from the place on
pub present_from-File : (held : List ℕ) (at n : ℕ) → length held < 2 ^ 63 → present_from (physical (File held)) at n ≡ take n (drop at held)
unfolding present_from
present_from-File held at zero few = refl
present_from-File held at (suc n) few =
    elim (cases_lt at (length held)) [
      | inl lt ↦
          let here = physical-File held at few ∙ slice_get-get_or held at 0 lt in
          let one : suc at ≡ at + 1 = omega arith in
          let split : drop at held ≡ get_or held at 0 ∷ drop (at + 1) held = drop-cons held at 0 lt ∙ ap (λ p. get_or held at 0 ∷ drop p held) one in
          rw (here, split) (ap (λ (l : List ℕ). get_or held at 0 ∷ l) (present_from-File held (at + 1) n few))
      | inr ge ↦
          let here = physical-File held at few ∙ slice_get_past held at ge in
          rw (here, drop_all at held ge) refl
    ]
