-- Who nests one level deeper is found among those who nest so deep.
use Rattle.std.proofs.Common.{◌≡◌, ℕ, zero, suc, List, [], ◌∷◌, Bool, true, false, ◌||◌, cond, Option, Some, None, option_map, map, filter, find, is_some, refl, sym, ap, ap₂, ◌∙◌, slice_get, add-one, ◌+◌, true≢false}
use Rattle.std.specs.Cmp.Lexicographic.{slice_cmp, nat_list_cmp_total}
use Rattle.std.specs.List.{list_any}
use Rattle.std.specs.Option.{option_map_or, option_and_then}
use Rattle.std.specs.Ordering.{nat_cmp}
use Rattle.std.proofs.lemmas.Cmp.{eq_by_cmp_equiv}
use Rattle.std.proofs.lemmas.Map.Entries.{lookup-filter-values, option_filter}
use Rattle.std.proofs.lemmas.Map.Keys.{IsDistinct-from_sorted}
use Rattle.isf_reader.proofs.Named.{filtered_in_order}
use Rattle.isf_reader.specs.Depth.{entry_named, brought_in, brings, nests, nesting, brings_in, brings_one_of, deeper, deepest, first_too_deep}
use Rattle.isf_reader.specs.Table.{HasNamesInOrder}
use Rattle.isf_reader.specs.declared.user_type.Field.{Field}
use Rattle.isf_reader.specs.declared.user_type.UserType.{UserType}

abbrev Users : Type 0
Users = List (List ℕ × UserType)

-- ---- a type that nests one level deeper nests so deep

or_more : (a b c d : Bool) → (a ≡ true → c ≡ true) → (b ≡ true → d ≡ true) → (a || b) ≡ true → (c || d) ≡ true
or_more true b c d first rest h = rw (first refl) refl
or_more false b true d first rest h = refl
or_more false b false d first rest h = rest h

any_more : (f g : Field → Bool) → ((field : Field) → f field ≡ true → g field ≡ true) → (fields : List Field) → list_any f fields ≡ true → list_any g fields ≡ true
any_more f g more [] h = h
any_more f g more (field ∷ fields) h = or_more (f field) (list_any f fields) (g field) (list_any g fields) (more field) (any_more f g more fields) h

test_more : (f g : UserType → Bool) → ((user : UserType) → f user ≡ true → g user ≡ true) → (o : Option UserType) → option_map_or f o false ≡ true → option_map_or g o false ≡ true
test_more f g more None h = h
test_more f g more (Some user) h = more user h

nests_less : (users : Users) (n : ℕ) (user : UserType) → nests users (suc n) user ≡ true → nests users n user ≡ true
unfolding nests
nests_less users zero user h = refl
nests_less users (suc n) user h =
    any_more (brings (nests users (suc n)) users) (brings (nests users n) users) (λ field. test_more (nests users (suc n)) (nests users n) (nests_less users n) (option_and_then (λ name. entry_named name users) (brought_in field))) user.fields h

-- ---- among those who nest so deep, a field brings in one exactly where it brings in a type that nests so deep

passing : (test : UserType → Bool) (o : Option UserType) → is_some (option_filter test o) ≡ option_map_or test o false
passing test None = refl
passing test (Some user) = go (test user)
  where
    go : (b : Bool) → is_some (cond b (Some user) None) ≡ b
    go true = refl
    go false = refl

there : (users : Users) → HasNamesInOrder users → (test : UserType → Bool) (name : List ℕ) → entry_named name (filter (λ e. test e.1) users) ≡ option_filter test (entry_named name users)
there users sorted test name = lookup-filter-values (eq_by_cmp_equiv nat_list_cmp_total) test name users (IsDistinct-from_sorted (slice_cmp nat_cmp) _ sorted)

same_brought : (users : Users) → HasNamesInOrder users → (test : UserType → Bool) (o : Option (List ℕ))
    → is_some (option_and_then (λ name. entry_named name (filter (λ e. test e.1) users)) o) ≡ option_map_or test (option_and_then (λ name. entry_named name users) o) false
same_brought users sorted test None = refl
same_brought users sorted test (Some name) = ap is_some (there users sorted test name) ∙ passing test (entry_named name users)

any_same : (f g : Field → Bool) → ((field : Field) → f field ≡ g field) → (fields : List Field) → list_any f fields ≡ list_any g fields
any_same f g same [] = refl
any_same f g same (field ∷ fields) = ap₂ ◌||◌ (same field) (any_same f g same fields)

one_more : (users : Users) → HasNamesInOrder users → (n : ℕ) (user : UserType) → brings_one_of (nesting users n) user ≡ nests users (suc n) user
unfolding nests
one_more users sorted n user = any_same (brings_in (nesting users n)) (brings (nests users n) users) (λ field. same_brought users sorted (nests users n) (brought_in field)) user.fields

-- ---- the rounds

filter_within : {A : Type 0} (f g : A → Bool) → ((a : A) → f a ≡ true → g a ≡ true) → (xs : List A) → filter f (filter g xs) ≡ filter f xs
filter_within f g within [] = refl
filter_within f g within (a ∷ xs) = go (g a) refl (f a) refl (filter_within f g within xs)
  where
    go : (b : Bool) → g a ≡ b → (c : Bool) → f a ≡ c → filter f (filter g xs) ≡ filter f xs → filter f (cond b (a ∷ filter g xs) (filter g xs)) ≡ cond c (a ∷ filter f xs) (filter f xs)
    go true in_g true in_f more = rw in_f (ap (λ rest. a ∷ rest) more)
    go true in_g false out_f more = rw out_f more
    go false out_g false out_f more = more
    go false out_g true in_f more = absurd (true≢false (sym (within a in_f) ∙ out_g))

keep_all : {A : Type 0} (xs : List A) → xs ≡ filter (λ _. true) xs
keep_all [] = refl
keep_all (a ∷ xs) = ap (λ rest. a ∷ rest) (keep_all xs)

pub first_round : (users : Users) → users ≡ nesting users 0
unfolding nests
first_round users = keep_all users

pub next_round : (users : Users) → HasNamesInOrder users → (n : ℕ) → deeper (nesting users n) ≡ nesting users (n + 1)
next_round users sorted n =
    let same : (λ (e : List ℕ × UserType). brings_one_of (nesting users n) e.1) ≡ (λ e. nests users (suc n) e.1) = λ i e. one_more users sorted n e.1 i in
    let next : deeper (nesting users n) ≡ nesting users (suc n) =
    ap (λ test. filter test (nesting users n)) same ∙ filter_within (λ e. nests users (suc n) e.1) (λ e. nests users n e.1) (λ e. nests_less users n e.1) users in
    rw add-one next

-- the first that passes is the first of those that pass
pub first_of_passing : {A : Type 0} (test : A → Bool) (xs : List A) → find test xs ≡ slice_get (filter test xs) 0
first_of_passing test [] = refl
first_of_passing test (a ∷ xs) = go (test a) (first_of_passing test xs)
  where
    go : (b : Bool) → find test xs ≡ slice_get (filter test xs) 0 → cond b (Some a) (find test xs) ≡ slice_get (cond b (a ∷ filter test xs) (filter test xs)) 0
    go true more = refl
    go false more = more

first_listed : {X : Type 0} (listed : X → List ℕ × UserType) (types : List X) → option_map (λ x. (listed x).0) (slice_get types 0) ≡ option_map (λ e. e.0) (slice_get (map listed types) 0)
first_listed listed [] = refl
first_listed listed (x ∷ types) = refl

-- the name of the first of the types that nest too deep
pub first_name : {X : Type 0} (listed : X → List ℕ × UserType) (users : Users) (types : List X) (first : Option X) → first ≡ slice_get types 0 → map listed types ≡ nesting users (suc deepest)
    → option_map (λ x. (listed x).0) first ≡ first_too_deep users
unfolding first_too_deep
first_name listed users types first is h =
    ap (option_map (λ x. (listed x).0)) is ∙ first_listed listed types ∙ ap (λ ts. option_map (λ e. e.0) (slice_get ts 0)) h
    ∙ sym (ap (option_map (λ e. e.0)) (first_of_passing (λ e. nests users (suc deepest) e.1) users))

-- those that nest so deep stand in the order of all
pub nesting_in_order : (users : Users) → HasNamesInOrder users → (n : ℕ) → HasNamesInOrder (nesting users n)
nesting_in_order users sorted n = filtered_in_order (λ e. nests users n e.1) users sorted
