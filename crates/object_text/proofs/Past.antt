-- What lies behind the last address.
use Rattle.std.proofs.Common.{◌≡◌, ℕ, ◌+◌, ◌^◌, Bool, true, false, cond, Ok, Err, refl}
use Rattle.std.specs.Prelude.{nat_lt}
use Rattle.layer_base.specs.AddressSpace.{AddressSpace}
use Rattle.kernel_records.specs.declared.value.Value.TheVariants.{Absent}
use Rattle.isf_reader.specs.Table.{IsfTable}
use Rattle.type_layout.specs.Member.{Spot}
use Rattle.type_layout.specs.declared.fault.TypeFault.{TypeFault}
use Rattle.typed_object.specs.Place.{placed}
use Rattle.typed_object.specs.Value.{value}

refused : (low : Bool) (s : Spot) (why fault : TypeFault) → cond low (Ok s) (Err why) ≡ Err fault → low ≡ false
refused true s why fault past = absurd (cc past)
refused false s why fault past = refl

-- an object that has no place is absent
pub value-past : (memory : AddressSpace) (table : IsfTable) (at : ℕ) (s : Spot) (fault : TypeFault) → placed at s ≡ Err fault → value memory table (at + s.0) s.1 ≡ Absent
unfolding value
value-past memory table at s fault past = let high : nat_lt (at + s.0) (2 ^ 64) ≡ false = refused _ _ _ _ past in rw high refl
