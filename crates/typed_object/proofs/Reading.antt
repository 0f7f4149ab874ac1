-- What is read of the bytes of an object.
use Rattle.std.proofs.Common.{◌≡◌, ℕ, ◌+◌, ◌^◌, true, false, List, length, Ok, Err, refl, ap}
use Rattle.std.specs.Prelude.{nat_le}
use Rattle.layer_base.specs.AddressSpace.{AddressSpace}
use Rattle.layer_base.proofs.Present.{present_from-bytes}
use Rattle.space_memory.specs.Hole.{IsGot}
use Rattle.space_memory.specs.declared.memory.Got.TheVariants as gots
use Rattle.type_layout.specs.declared.fault.TypeFault.TheVariants.{PastEnd}
use Rattle.typed_object.specs.Bytes.{bytes_of}
use Rattle.typed_object.specs.declared.fault.ObjectFault.TheVariants.{Fault, Hole}

module _ (memory : AddressSpace) (at : ℕ) (buf : List ℕ) where
  pub bytes_of-past : (size : ℕ) → nat_le (at + size) (2 ^ 64) ≡ false → bytes_of memory at size ≡ Err (Fault PastEnd)
  unfolding bytes_of
  bytes_of-past size past = rw past refl

  pub bytes_of-all : (size : ℕ) → nat_le (at + size) (2 ^ 64) ≡ true → length buf ≡ size → IsGot memory at buf gots.All → bytes_of memory at size ≡ Ok buf
  unfolding bytes_of
  bytes_of-all size fits whole got =
      let none = rw whole at got.0 in
      let read = present_from-bytes memory at size buf (rw whole at got.1) in
      rw (fits, none) (ap (λ (l : List ℕ). Ok l) read)

  pub bytes_of-hole : (size a : ℕ) → nat_le (at + size) (2 ^ 64) ≡ true → length buf ≡ size → IsGot memory at buf (gots.Hole a) → bytes_of memory at size ≡ Err (Hole a)
  unfolding bytes_of
  bytes_of-hole size a fits whole got = let hole = rw whole at got.0 in rw (fits, hole) refl
