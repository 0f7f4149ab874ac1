-- How the bytes of a piece come together in the front of a buffer, one call after another.
use Rattle.std.proofs.Common.{◌≡◌, ℕ, ◌+◌, ◌≤◌, List, [], ◌++◌, length, take, Option, None, sym, ap, ◌∙◌, arith}
use Rattle.std.specs.Option.{IfSome}
use Rattle.std.proofs.lemmas.Option.{IfSome_then}
use Rattle.layer_base.specs.AddressSpace.{AddressSpace}
use Rattle.layer_base.specs.Present.{present_from}
use Rattle.layer_base.proofs.Buffers.{length-front, front-kept, front-more}
use Rattle.layer_base.proofs.Present.{present_from-nothing, present_from-absent, present_from-add, present_from-end}
use Rattle.layer_base.proofs.Told.{IfSome-always, IfSome-after}

module _ {X : Type 0} (memory_of : X → AddressSpace) where
  -- the front of a buffer is what is present, in the memory of what is told
  abbrev pub Stands : List ℕ → ℕ → ℕ → Option X → Type 0
  Stands front at n told = IfSome told (λ x. front ≡ present_from (memory_of x) at n)

  -- of no bytes none is present
  pub nothing : (at : ℕ) (told : Option X) → Stands [] at 0 told
  nothing at told = IfSome-always told (λ x. sym (present_from-nothing (memory_of x) at))

  -- from an absent address on none is present
  pub nowhere : (at n : ℕ) (told : Option X) → IfSome told (λ x. memory_of x at ≡ None) → Stands [] at n told
  nowhere at n told absent = IfSome_then told absent (λ x none. sym (present_from-absent (memory_of x) at n none))

  module _ (at done : ℕ) (buf : List ℕ) (inside : done ≤ length buf) (told : Option X) (so_far : Stands (take done buf) at done told) where
    -- as many are present as stand in front
    whole : (memory : AddressSpace) → take done buf ≡ present_from memory at done → length (present_from memory at done) ≡ done
    whole memory front = omega (arith, ap length front, length-front done buf inside)

    -- one call more
    pub filled : (now : Option X) (n : ℕ) (new rest : List ℕ) → now ≡ told → n ≤ length new → Stands (take n new) (at + done) n now → Stands (take (done + n) (take done buf ++ (new ++ rest))) at (done + n) told
    filled now n new rest same fits read =
        IfSome-after told now same so_far read (λ x front more. front-more done buf inside n new rest fits ∙ (λ i. front i ++ more i) ∙ sym (present_from-add (memory_of x) at done n (whole (memory_of x) front)))

    -- a call that met a hole
    pub ended : (now : Option X) (size : ℕ) (rest : List ℕ) → now ≡ told → done ≤ size → IfSome now (λ x. memory_of x (at + done) ≡ None) → Stands (take done (take done buf ++ rest)) at size told
    ended now size rest same fits absent =
        IfSome-after told now same so_far absent (λ x front hole. front-kept done buf inside rest ∙ front ∙ sym (present_from-end (memory_of x) at done size fits (whole (memory_of x) front) hole))
