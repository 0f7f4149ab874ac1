-- What a read of a device tells of the memory that its bytes are.
use Rattle.std.proofs.Common.{◌≡◌, ℕ, ◌+◌, ◌-◌, ◌^◌, ◌<◌, ◌≤◌, min, List, length, take, drop, Option, None, sym, ◌∙◌, arith, inl, inr, ap, length-take}
use Rattle.std.specs.Option.{IfSome}
use Rattle.std.proofs.lemmas.Bool.{cases_lt}
use Rattle.std.proofs.lemmas.Option.{slice_get_past, IfSome_then}
use Rattle.layer_base.specs.AddressSpace.{AddressSpace}
use Rattle.layer_base.specs.View.{physical}
use Rattle.layer_base.specs.View.View.{File}
use Rattle.layer_base.proofs.Filling.{Stands}
use Rattle.layer_base.proofs.Present.{present_from-end, present_from-File}
use Rattle.layer_base.proofs.Stretches.{physical-File, physical-past}
use Rattle.layer_base.proofs.Told.{IfSome-always, IfSome-both}

-- the memory of a device that holds these bytes
abbrev pub held_memory : List ℕ → AddressSpace
held_memory held = physical (File held)

-- what a read gave is present there
pub given : (place n : ℕ) (held : Option (List ℕ)) (buf : List ℕ) → IfSome held (λ bytes. length bytes < 2 ^ 63) → IfSome held (λ bytes. take n buf ≡ take n (drop place bytes)) → Stands held_memory (take n buf) place n held
given place n held buf few read = IfSome-both held few read (λ bytes short front. front ∙ sym (present_from-File bytes place n short))

-- past the end no byte is present
pub past_end : (place : ℕ) (held : Option (List ℕ)) → IfSome held (λ bytes. length bytes < 2 ^ 63) → IfSome held (λ bytes. length bytes ≤ place) → IfSome held (λ bytes. held_memory bytes place ≡ None)
past_end place held few past = IfSome-both held few past (λ bytes short over. physical-File bytes place short ∙ slice_get_past bytes place over)

-- no byte has a place past the last
pub past_places : (place : ℕ) (held : Option (List ℕ)) → 2 ^ 64 - 1 < place → IfSome held (λ bytes. held_memory bytes place ≡ None)
past_places place held past = IfSome-always held (λ bytes. physical-past (File bytes) place (omega arith))

-- the buffer or the places are used up
pub full : (place done size : ℕ) (buf : List ℕ) (held : Option (List ℕ)) → done ≤ length buf → done ≡ min size (2 ^ 64 - place) → Stands held_memory (take done buf) place done held → Stands held_memory (take done buf) place size held
full place done size buf held inside used so_far = IfSome_then held so_far (λ bytes front.
    elim (cases_lt done size) [
      | inl lt ↦ front ∙ sym (present_from-end (held_memory bytes) place done size (omega arith) (omega (arith, ap length front, length-take done buf)) (physical-past (File bytes) (place + done) (omega arith)))
      | inr ge ↦ let same : size ≡ done = omega arith in rw same front
    ])
