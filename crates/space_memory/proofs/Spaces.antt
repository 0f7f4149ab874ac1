-- The laws of the bytes of a space.
use Rattle.std.proofs.Common.{◌≡◌, ℕ, ◌+◌, ◌-◌, ◌^◌, ◌<◌, ◌≤◌, true, nat_lt, List, ◌++◌, length, map, take, Option, None, Some, refl, sym, ap, ◌∙◌, arith}
use Rattle.std.specs.Prelude.{option_map, option_and_then}
use Rattle.std.proofs.lemmas.Bool.Decides.{nat_tests}
use Rattle.std.proofs.lemmas.List.{take-append-le}
use Rattle.layer_base.specs.AddressSpace.{AddressSpace, bytes_from}
use Rattle.layer_base.specs.Mapped.{Holds}
use Rattle.layer_base.specs.declared.space.Mapped.{Mapped}
use Rattle.layer_base.specs.declared.space.Space.{Space}
use Rattle.layer_base.proofs.BytesFrom.{bytes_from-moved}
use Rattle.intel_paging.specs.Block.{place_in}
use Rattle.intel_paging.specs.Walk.{IsBlock}
use Rattle.space_memory.specs.InSpace.{in_space}

-- At an address of a block stands the byte at its physical address, and none where the block is mapped to nothing.
pub in_space-block : (memory : AddressSpace) (space : Space) (run : Mapped) (a : ℕ) → IsBlock memory space run → Holds run a → a < 2 ^ 64 → in_space memory space a ≡ option_and_then memory (place_in run a)
unfolding in_space
in_space-block memory space run a block holds below =
    let low : nat_lt a (2 ^ 64) ≡ true = grind (arith, nat_tests) in
    rw (low, block a holds) refl

-- so many addresses further on, the physical address is as many further on
further : (run : Mapped) (at k : ℕ) → run.first ≤ at → place_in run (at + k) ≡ option_map (λ place. place + k) (place_in run at)
further run at k above = by run.to
  where
    by : (to : Option ℕ) → option_map (λ (t : ℕ). t + (at + k - run.first)) to ≡ option_map (λ place. place + k) (option_map (λ (t : ℕ). t + (at - run.first)) to)
    by None = refl
    by (Some to) = ap (λ (n : ℕ). Some n) (omega arith)

module _ (memory : AddressSpace) (space : Space) (run : Mapped) (at : ℕ) (block : IsBlock memory space run) (holds : Holds run at) (top : run.last < 2 ^ 64) where
  through : (place : Option ℕ) → place_in run at ≡ place → (k : ℕ) → at + k ≤ run.last → in_space memory space (at + k) ≡ option_and_then memory (option_map (λ p. p + k) place)
  through place is k within =
      let inside : Holds run (at + k) = record { first = omega (arith, holds.first); last = within } in
      in_space-block memory space run (at + k) block inside (omega arith) ∙ ap (option_and_then memory) (further run at k holds.first ∙ ap (option_map (λ p. p + k)) is)

  -- a block that is mapped to nothing has no byte
  pub unmapped : place_in run at ≡ None → (a : ℕ) → at ≤ a → a ≤ run.last → in_space memory space a ≡ None
  unmapped is a above within =
      let same : at + (a - at) ≡ a = omega arith in
      rw same at (through None is (a - at) (omega arith))

  -- the bytes that were read at the physical address
  pub present : (place n : ℕ) (buf rest : List ℕ) → place_in run at ≡ Some place → at + n ≤ run.last + 1 → n ≤ length buf → bytes_from memory place n ≡ map Some (take n buf) → bytes_from (in_space memory space) at n ≡ map Some (take n (buf ++ rest))
  present place n buf rest is within room read =
      bytes_from-moved (in_space memory space) memory at place n (λ k below. through (Some place) is k (omega arith)) ∙ read ∙ ap (λ (l : List ℕ). map Some l) (sym (take-append-le n buf rest room))

  -- a physical hole, as far as the block reaches
  pub absent : (place last to : ℕ) → place_in run at ≡ Some place → to ≤ run.last → place ≤ last → to - at ≤ last - place → ((a : ℕ) → place ≤ a → a ≤ last → memory a ≡ None) → (a : ℕ) → at ≤ a → a ≤ to → in_space memory space a ≡ None
  absent place last to is within order short hole a above below =
      let same : at + (a - at) ≡ a = omega arith in
      rw same at (through (Some place) is (a - at) (omega arith) ∙ hole (place + (a - at)) (omega arith) (omega arith))
