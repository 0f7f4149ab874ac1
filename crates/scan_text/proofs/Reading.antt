-- How the bytes that are present in a row are read.
use Rattle.std.proofs.Common.{◌≡◌, ℕ, zero, suc, ◌+◌, ◌-◌, ◌^◌, ◌<◌, ◌≤◌, false, List, ◌++◌, length, map, take, Option, None, Some, refl, sym, ap, ◌∙◌, inl, inr, arith}
use Rattle.std.specs.Prelude.{min, nat_lt}
use Rattle.std.proofs.lemmas.Bool.{cases_lt}
use Rattle.std.proofs.lemmas.Bool.Decides.{nat_tests}
use Rattle.std.proofs.lemmas.List.{length-take-le, take-append-le, take_at}
use Rattle.layer_base.specs.AddressSpace.{AddressSpace, bytes_from}
use Rattle.layer_base.specs.Present.{present_from}
use Rattle.layer_base.specs.declared.space.Space.{Space}
use Rattle.layer_base.proofs.Present.{present_from-bytes, present_from-end}
use Rattle.space_memory.specs.Hole.{hole, IsGot}
use Rattle.space_memory.specs.InSpace.{in_space}
use Rattle.space_memory.specs.declared.memory.Got.TheVariants.{All, Hole}

hole-absent : (memory : AddressSpace) (at n a : ℕ) → hole memory at n ≡ Some a → memory a ≡ None
unfolding hole
hole-absent memory at zero a found = absurd (cc found)
hole-absent memory at (suc n) a found = by (memory at) refl (λ rest. hole-absent memory (at + 1) n a rest)
  where
    by : (byte : Option ℕ) → memory at ≡ byte → (hole memory (at + 1) n ≡ Some a → memory a ≡ None) → memory a ≡ None
    by None is behind = let here : at ≡ a = cc (rw is at found) in rw here at is
    by (Some byte) is behind = behind (rw is at found)

-- no address is behind the last one
in_space-past : (memory : AddressSpace) (space : Space) (a : ℕ) → 2 ^ 64 ≤ a → in_space memory space a ≡ None
unfolding in_space
in_space-past memory space a past =
    let high : nat_lt a (2 ^ 64) ≡ false = grind (arith, nat_tests) in
    rw high refl

module _ (memory : AddressSpace) (space : Space) (at n room : ℕ) (new rest : List ℕ) where
  -- as many bytes as were asked for, or all up to the last address
  pub read-all : at < 2 ^ 64 → room ≡ min (2 ^ 64 - 1 - at + 1) n → length new ≡ room → IsGot (in_space memory space) at new All → take room (new ++ rest) ≡ present_from (in_space memory space) at n
  read-all below fits whole got =
      let read : bytes_from (in_space memory space) at room ≡ map Some new = rw whole at got.1 in
      let present : present_from (in_space memory space) at room ≡ new = present_from-bytes (in_space memory space) at room new read in
      let front : take room (new ++ rest) ≡ new = take_at new rest room whole in
      elim (cases_lt room n) [
        | inl short ↦ front ∙ sym present ∙ sym (present_from-end (in_space memory space) at room n (omega arith) (ap length present ∙ whole) (in_space-past memory space (at + room) (omega (arith, fits))))
        | inr all ↦ let same : room ≡ n = omega (arith, fits) in front ∙ sym present ∙ ap (present_from (in_space memory space) at) same
      ]

  -- the bytes before the first absent one
  pub read-hole : (a : ℕ) → room ≤ n → length new ≡ room → at ≤ a → a < at + room → IsGot (in_space memory space) at new (Hole a) → take (a - at) (new ++ rest) ≡ present_from (in_space memory space) at n
  read-hole a fits whole above below got =
      let present : present_from (in_space memory space) at (a - at) ≡ take (a - at) new = present_from-bytes (in_space memory space) at (a - at) (take (a - at) new) got.1 in
      let count : length (take (a - at) new) ≡ a - at = length-take-le (a - at) new (omega arith) in
      let there : at + (a - at) ≡ a = omega arith in
      let absent : in_space memory space (at + (a - at)) ≡ None = rw there (hole-absent (in_space memory space) at (length new) a got.0) in
      take-append-le (a - at) new rest (omega arith) ∙ sym present ∙ sym (present_from-end (in_space memory space) at (a - at) n (omega arith) (ap length present ∙ count) absent)
