-- Entries by their names, in byte order.
use Rattle.std.proofs.Common.{◌≡◌, ℕ, List, [], ◌∷◌, ◌++◌, map, filter, Bool, true, false, cond, String, Global, Ordering, Less, Greater, nat_cmp, string_bytes, string_cmp, refl, ap, ◌∙◌}
use Rattle.std.specs.BTreeMap.{insert_entry}
use Rattle.std.specs.Cmp.Lexicographic.{slice_cmp}
use Rattle.std.specs.Map.{keys_of}
use Rattle.std.specs.List.{AllByRecursion}
use Rattle.std.specs.List.Sorted.{IsStrictlySortedBy}
use Rattle.std.specs.Ordering.{ordering_reverse}
use Rattle.std.proofs.lemmas.Cmp.{nat_list_cmp_total}

abbrev pub byte_order : List ℕ → List ℕ → Ordering
byte_order = slice_cmp nat_cmp

-- the names of members
abbrev pub names_of : {X : Type 0} → List (String Global × X) → List (List ℕ)
names_of ms = map (λ m. string_bytes m.0) ms

names_above : {X : Type 0} (name : String Global) (ms : List (String Global × X)) → AllByRecursion (λ y. string_cmp name y ≡ Less) (keys_of ms) → AllByRecursion (λ y. byte_order (string_bytes name) y ≡ Less) (names_of ms)
names_above name [] h = tt
names_above name (m ∷ ms) h = (h.0, names_above name ms h.1)

pub names_in_order : {X : Type 0} (ms : List (String Global × X)) → IsStrictlySortedBy string_cmp (keys_of ms) → IsStrictlySortedBy byte_order (names_of ms)
unfolding IsStrictlySortedBy
names_in_order [] h = tt
names_in_order (m ∷ ms) h = (names_above m.0 ms h.0, names_in_order ms h.1)

below_middle : (first : List ℕ) (names : List (List ℕ)) (name : List ℕ) (more : List (List ℕ)) → AllByRecursion (λ y. byte_order first y ≡ Less) (names ++ name ∷ more) → byte_order first name ≡ Less
below_middle first [] name more h = h.0
below_middle first (x ∷ names) name more h = below_middle first names name more h.1

-- a name that is above those before it goes last
pub insert_last : {E : Type 0} (done : List (List ℕ × E)) (name : List ℕ) (entry : E) (more : List (List ℕ)) → IsStrictlySortedBy byte_order (keys_of done ++ name ∷ more)
    → insert_entry byte_order done name entry ≡ done ++ (name, entry) ∷ []
unfolding IsStrictlySortedBy
insert_last [] name entry more h = refl
insert_last (first ∷ done) name entry more h =
    let above : byte_order name first.0 ≡ Greater = nat_list_cmp_total.antisymm name first.0 ∙ ap ordering_reverse (below_middle first.0 (keys_of done) name more h.0) in
    rw above (ap (λ es. first ∷ es) (insert_last done name entry more h.1))

pub names_pushed : {E : Type 0} (done : List (List ℕ × E)) (name : List ℕ) (entry : E) (more : List (List ℕ)) → keys_of (done ++ (name, entry) ∷ []) ++ more ≡ keys_of done ++ name ∷ more
names_pushed [] name entry more = refl
names_pushed (first ∷ done) name entry more = ap (λ names. first.0 ∷ names) (names_pushed done name entry more)

-- what is left out of a list in order leaves it so
module _ {E : Type 0} (test : List ℕ × E → Bool) where
  filtered_above : (name : List ℕ) (es : List (List ℕ × E)) → AllByRecursion (λ y. byte_order name y ≡ Less) (keys_of es) → AllByRecursion (λ y. byte_order name y ≡ Less) (keys_of (filter test es))
  filtered_above name [] h = tt
  filtered_above name (e ∷ es) h = go (test e) (filtered_above name es h.1)
    where
      go : (b : Bool) → AllByRecursion (λ y. byte_order name y ≡ Less) (keys_of (filter test es)) → AllByRecursion (λ y. byte_order name y ≡ Less) (keys_of (cond b (e ∷ filter test es) (filter test es)))
      go true more = (h.0, more)
      go false more = more

  pub filtered_in_order : (es : List (List ℕ × E)) → IsStrictlySortedBy byte_order (keys_of es) → IsStrictlySortedBy byte_order (keys_of (filter test es))
  unfolding IsStrictlySortedBy
  filtered_in_order [] h = tt
  filtered_in_order (e ∷ es) h = go (test e) (filtered_above e.0 es h.0) (filtered_in_order es h.1)
    where
      go : (b : Bool) → AllByRecursion (λ y. byte_order e.0 y ≡ Less) (keys_of (filter test es)) → IsStrictlySortedBy byte_order (keys_of (filter test es)) → IsStrictlySortedBy byte_order (keys_of (cond b (e ∷ filter test es) (filter test es)))
      go true above more = (above, more)
      go false above more = more
