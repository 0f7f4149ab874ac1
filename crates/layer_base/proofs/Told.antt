-- What is known where something is told.
use Rattle.std.proofs.Common.{◌≡◌, Option, None, Some}
use Rattle.std.specs.Option.{IfSome}

-- what always holds
pub IfSome-always : {X : Type 0} (told : Option X) {P : X → Type 0} → ((x : X) → P x) → IfSome told P
IfSome-always None always = tt
IfSome-always (Some x) always = always x

-- what follows from two facts
pub IfSome-both : {X : Type 0} (told : Option X) {P Q R : X → Type 0} → IfSome told P → IfSome told Q → ((x : X) → P x → Q x → R x) → IfSome told R
IfSome-both None first second then = tt
IfSome-both (Some x) first second then = then x first second

-- where it is told the same afterwards, what follows from a fact before and one after
pub IfSome-after : {X : Type 0} (told now : Option X) {P Q R : X → Type 0} → now ≡ told → IfSome told P → IfSome now Q → ((x : X) → P x → Q x → R x) → IfSome told R
IfSome-after told now {P} {Q} {R} same first second then = IfSome-both told first (rw same at second) then
