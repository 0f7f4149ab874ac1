-- What is known where something is told.
use Rattle.std.proofs.Common.{ℕ, List, Option, None, Some}
use Rattle.std.specs.Prelude.{IfSome}
use Rattle.layer_base.specs.View.{View}
use Rattle.session.specs.Headline.{WhereTold}

pub IfSome-always : {X : Type 0} (told : Option X) {P : X → Type 0} → ((x : X) → P x) → IfSome told P
IfSome-always None always = tt
IfSome-always (Some x) always = always x

pub IfSome-both : {X : Type 0} (told : Option X) {P Q R : X → Type 0} → IfSome told P → IfSome told Q → ((x : X) → P x → Q x → R x) → IfSome told R
IfSome-both None first second then = tt
IfSome-both (Some x) first second then = then x first second

pub IfSome-three : {X : Type 0} (told : Option X) {P Q R S : X → Type 0} → IfSome told P → IfSome told Q → IfSome told R → ((x : X) → P x → Q x → R x → S x) → IfSome told S
IfSome-three None first second third then = tt
IfSome-three (Some x) first second third then = then x first second third

-- a fact over what is told, and over its being told
pub IfSome-told : {X : Type 0} (told : Option X) (Q : Option X → X → Type 0) → IfSome told (λ x. Q (Some x) x) → IfSome told (Q told)
IfSome-told None Q known = tt
IfSome-told (Some x) Q known = known

-- a fact over a view, a symbol file and a script, and over the last being told
pub WhereTold-each : (image : Option View) (symbols script : Option (List ℕ)) (P : Option (List ℕ) → Option (List ℕ) → View → List ℕ → List ℕ → Type 0)
    → ((view : View) (j s : List ℕ) → P (Some j) (Some s) view j s) → WhereTold image symbols script (P symbols script)
WhereTold-each None symbols script P each = tt
WhereTold-each (Some view) None script P each = tt
WhereTold-each (Some view) (Some j) None P each = tt
WhereTold-each (Some view) (Some j) (Some s) P each = each view j s

-- from one fact to another
pub WhereTold-then : (image : Option View) (symbols script : Option (List ℕ)) (P : View → List ℕ → List ℕ → Type 0) (Q : Option (List ℕ) → Option (List ℕ) → View → List ℕ → List ℕ → Type 0)
    → WhereTold image symbols script P → ((view : View) (j s : List ℕ) → P view j s → Q (Some j) (Some s) view j s) → WhereTold image symbols script (Q symbols script)
WhereTold-then None symbols script P Q told each = tt
WhereTold-then (Some view) None script P Q told each = tt
WhereTold-then (Some view) (Some j) None P Q told each = tt
WhereTold-then (Some view) (Some j) (Some s) P Q told each = each view j s told

-- from a fact over each of the image and the script, under one over the symbol file
pub WhereTold-from : (image : Option View) (symbols script : Option (List ℕ)) (A : List ℕ → Type 0) (B : View → List ℕ → Type 0) (Q : Option (List ℕ) → Option (List ℕ) → View → List ℕ → List ℕ → Type 0)
    → IfSome symbols A → IfSome image (λ view. IfSome script (B view)) → ((view : View) (j s : List ℕ) → A j → B view s → Q (Some j) (Some s) view j s) → WhereTold image symbols script (Q symbols script)
WhereTold-from None symbols script A B Q first second each = tt
WhereTold-from (Some view) None script A B Q first second each = tt
WhereTold-from (Some view) (Some j) None A B Q first second each = tt
WhereTold-from (Some view) (Some j) (Some s) A B Q first second each = each view j s first second

-- from a fact over the image alone
pub WhereTold-image : (image : Option View) (symbols script : Option (List ℕ)) (A : View → Type 0) (Q : Option (List ℕ) → Option (List ℕ) → View → List ℕ → List ℕ → Type 0)
    → IfSome image A → ((view : View) (j s : List ℕ) → A view → Q (Some j) (Some s) view j s) → WhereTold image symbols script (Q symbols script)
WhereTold-image None symbols script A Q first each = tt
WhereTold-image (Some view) None script A Q first each = tt
WhereTold-image (Some view) (Some j) None A Q first each = tt
WhereTold-image (Some view) (Some j) (Some s) A Q first each = each view j s first
