-- Values of a symbol file.
use Rattle.std.specs.Prelude.{ℕ, List, [], ◌∷◌, fold, codes}
use Rattle.serde_json.specs.Data.{Data, Members, number, unsigned, string, object, no_members, put}

-- members put into an object one by one; it keeps them in the order of their keys
abbrev pub put_all : List (List ℕ × Data) → Members → Members
put_all members start = fold (λ held new. put new.0 new.1 held) start members

-- the object with these members
abbrev pub object_of : List (List ℕ × Data) → Data
object_of members = object (put_all members no_members)

abbrev pub whole : ℕ → Data
whole n = number (unsigned n)

-- a descriptor of a type that has a name
abbrev pub named : List ℕ → List ℕ → Data
named kind name = object_of ((codes "kind", string kind) ∷ (codes "name", string name) ∷ [])

-- a pointer to `void`
abbrev pub pointer : Data
pointer = object_of ((codes "kind", string (codes "pointer")) ∷ (codes "subtype", named (codes "base") (codes "void")) ∷ [])

-- so many elements of a type
abbrev pub array_of : ℕ → Data → Data
array_of count element = object_of ((codes "kind", string (codes "array")) ∷ (codes "count", whole count) ∷ (codes "subtype", element) ∷ [])
