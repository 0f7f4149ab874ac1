-- How deep a search goes says nothing where anonymous fields nest less deep.
use Rattle.std.proofs.Common.{◌≡◌, ℕ, zero, suc, List, [], ◌∷◌, Bool, true, false, ◌||◌, cond, Option, Some, None, IfSome, find, option_map, nat_cmp, is_eq, refl, sym, ap, ap₂, ◌∙◌}
use Rattle.std.specs.Cmp.Lexicographic.{slice_cmp}
use Rattle.std.specs.List.{list_any}
use Rattle.std.specs.Option.{option_or, option_map_or, option_and_then}
use Rattle.isf_reader.specs.Depth.{entry_named, brings, nests, deepest, first_too_deep}
use Rattle.isf_reader.specs.Table.{IsfTable, IsTable}
use Rattle.isf_reader.specs.declared.user_type.Field.{Field}
use Rattle.isf_reader.specs.declared.user_type.UserType.{UserType}
use Rattle.type_layout.specs.Member.{Spot, Users, further, user_brought, own_field, first_through, found_in, found, IsSearchedAlike}

left_false : (a b : Bool) → (a || b) ≡ false → a ≡ false
left_false true b h = cc
left_false false b h = refl

right_false : (a b : Bool) → (a || b) ≡ false → b ≡ false
right_false true b h = cc
right_false false b h = h

module _ (users : Users) (test : UserType → Bool) (f g : UserType → Option Spot) (same : (user : UserType) → test user ≡ false → f user ≡ g user) where
  same_of : (field : Field) (o : Option UserType) → option_map_or test o false ≡ false → option_map (further field.offset) (option_and_then f o) ≡ option_map (further field.offset) (option_and_then g o)
  same_of field None h = refl
  same_of field (Some user) h = ap (option_map (further field.offset)) (same user h)

  -- searches that agree on what no test passes agree through fields that bring in no such type
  pub same_through : (fields : List Field) → list_any (brings test users) fields ≡ false → first_through f users fields ≡ first_through g users fields
  same_through [] h = refl
  same_through (field ∷ fields) h = ap₂ option_or (same_of field (user_brought users field) (left_false _ _ h)) (same_through fields (right_false _ _ h))

none_of : (field : Field) (o : Option UserType) → option_map (further field.offset) (option_and_then (λ _. None) o) ≡ None
none_of field None = refl
none_of field (Some user) = refl

nothing_through : (users : Users) (fields : List Field) → first_through (λ _. None) users fields ≡ None
nothing_through users [] = refl
nothing_through users (field ∷ fields) = rw (none_of field (user_brought users field)) (nothing_through users fields)

or_none : {A : Type 0} (o : Option A) → option_or o None ≡ o
or_none None = refl
or_none (Some a) = refl

-- one level more changes nothing where anonymous fields nest no deeper
pub no_deeper : (users : Users) (name : List ℕ) (depth : ℕ) (user : UserType) → nests users (suc depth) user ≡ false → found_in users name (suc depth) user ≡ found_in users name depth user
unfolding nests found_in
no_deeper users name zero user h =
    let none : first_through (found_in users name zero) users user.fields ≡ None =
    same_through users (nests users zero) (found_in users name zero) (λ _. None) (λ u e. cc) user.fields h ∙ nothing_through users user.fields in
    ap (option_or (own_field name user.fields)) none ∙ or_none (own_field name user.fields)
no_deeper users name (suc depth) user h =
    ap (option_or (own_field name user.fields)) (same_through users (nests users (suc depth)) (found_in users name (suc depth)) (found_in users name depth) (no_deeper users name depth) user.fields h)

-- where no entry passes a test, what a name has does not
none_passes_if : {E : Type 0} (test : E → Bool) (b : Bool) (e : E) (o : Option E) → test e ≡ false → IfSome o (λ x. test x ≡ false) → IfSome (cond b (Some e) o) (λ x. test x ≡ false)
none_passes_if test true e o h more = h
none_passes_if test false e o h more = more

head_fails : {A B : Type 0} (f : A → B) (b : Bool) (a : A) (o : Option A) → option_map f (cond b (Some a) o) ≡ None → b ≡ false
head_fails f true a o h = cc
head_fails f false a o h = refl

tail_fails : {A B : Type 0} (f : A → B) (b : Bool) (a : A) (o : Option A) → option_map f (cond b (Some a) o) ≡ None → option_map f o ≡ None
tail_fails f true a o h = cc
tail_fails f false a o h = h

pub none_passes : {E : Type 0} (test : E → Bool) (name : List ℕ) (es : List (List ℕ × E)) → option_map (λ e. e.0) (find (λ e. test e.1) es) ≡ None → IfSome (entry_named name es) (λ e. test e ≡ false)
none_passes test name [] h = tt
none_passes test name (e ∷ es) h =
    none_passes_if test (is_eq (slice_cmp nat_cmp name e.0)) e.1 (entry_named name es) (head_fails (λ e. e.0) (test e.1) e (find (λ e. test e.1) es) h)
    (none_passes test name es (tail_fails (λ e. e.0) (test e.1) e (find (λ e. test e.1) es) h))

rule_if : (users : Users) (name : List ℕ) (o : Option UserType) → IfSome o (λ user. nests users (suc deepest) user ≡ false) → IfSome o (λ user. found users name user ≡ found_in users name (suc deepest) user)
rule_if users name None h = tt
rule_if users name (Some user) h = sym (no_deeper users name deepest user h)

-- in a table the search goes as deep as anonymous fields nest
pub searched_alike : (table : IsfTable) (name : List ℕ) → IsTable table → IsSearchedAlike table.users name
unfolding first_too_deep found_in
searched_alike table name h type_name = rule_if table.users name (entry_named type_name table.users) (none_passes (nests table.users (suc deepest)) type_name table.users h.shallow)
