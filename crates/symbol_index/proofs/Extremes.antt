-- The least and the greatest number of a list.
use Rattle.std.proofs.Common.{◌≡◌, ℕ, ◌≤◌, List, [], ◌∷◌, Bool, true, ◌==◌, Option, Some, None, nat_le, refl, sym, ap, subst, ◌∙◌, arith}
use Rattle.std.specs.List.{find, list_all, list_any}
use Rattle.std.proofs.lemmas.Bool.{false≢true, eqb-true, eq-eqb, leb-true, le-leb, cases_Bool, or_cases, or_left, or_right, and_parts, and_from, cond-true, cond-false, both_ways}
use Rattle.std.proofs.lemmas.Option.{none-some, same_Some}
use Rattle.std.proofs.Common.{⊎_elim}
use Rattle.symbol_index.specs.Index.{least, greatest}

-- whether a number is in a list
abbrev pub has : ℕ → List ℕ → Bool
has n ns = list_any (λ m. m == n) ns

-- what is found passes the test, and is in the list
pub found : (p : ℕ → Bool) (ns : List ℕ) (n : ℕ) → find p ns ≡ Some n → (p n ≡ true) × (has n ns ≡ true)
found p [] n e = absurd (none-some n e)
found p (m ∷ ns) n e = ⊎_elim
    (λ passes. let same : m ≡ n = same_Some m n (sym (cond-true (p m) (Some m) (find p ns) passes) ∙ e) in (subst (λ k. p k ≡ true) same passes, or_left (m == n) (has n ns) (eq-eqb m n same)))
    (λ fails. let more = found p ns n (sym (cond-false (p m) (Some m) (find p ns) fails) ∙ e) in (more.0, or_right (m == n) (has n ns) more.1))
    (cases_Bool (p m))

-- where one of a list passes, one is found
pub finds : (p : ℕ → Bool) (ns : List ℕ) (n : ℕ) → has n ns ≡ true → p n ≡ true → find p ns ≡ None → ⊥
finds p [] n here passes none = absurd (false≢true here)
finds p (m ∷ ns) n here passes none = ⊎_elim
    (λ passes_m. none-some m (sym none ∙ cond-true (p m) (Some m) (find p ns) passes_m))
    (λ fails. ⊎_elim
    (λ same. both_ways (p m) fails (subst (λ k. p k ≡ true) (sym (eqb-true m n same)) passes))
    (λ behind. finds p ns n behind passes (sym (cond-false (p m) (Some m) (find p ns) fails) ∙ none))
    (or_cases (m == n) (has n ns) here))
    (cases_Bool (p m))

all_at : (p : ℕ → Bool) (ns : List ℕ) (n : ℕ) → list_all p ns ≡ true → has n ns ≡ true → p n ≡ true
all_at p [] n all here = absurd (false≢true here)
all_at p (m ∷ ns) n all here =
    let parts = and_parts (p m) (list_all p ns) all in
    ⊎_elim (λ same. subst (λ k. p k ≡ true) (eqb-true m n same) parts.0) (λ behind. all_at p ns n parts.1 behind) (or_cases (m == n) (has n ns) here)

all_from : (p : ℕ → Bool) (ns : List ℕ) → ((n : ℕ) → has n ns ≡ true → p n ≡ true) → list_all p ns ≡ true
all_from p [] h = refl
all_from p (m ∷ ns) h = and_from (p m) (list_all p ns) (h m (or_left (m == m) (has m ns) (eq-eqb m m refl))) (all_from p ns (λ n behind. h n (or_right (m == n) (has n ns) behind)))

module _ (le : ℕ → ℕ → Bool) (one : (m n : ℕ) → le m n ≡ true → le n m ≡ true → m ≡ n) where
  abbrev extreme : List ℕ → Option ℕ
  extreme ns = find (λ n. list_all (le n) ns) ns

  -- an element that no other is beyond
  pub extreme_is : (ns : List ℕ) (n : ℕ) → has n ns ≡ true → ((m : ℕ) → has m ns ≡ true → le n m ≡ true) → extreme ns ≡ Some n
  extreme_is ns n here beyond = go (extreme ns) refl
    where
      all : list_all (le n) ns ≡ true
      all = all_from (le n) ns beyond

      go : (o : Option ℕ) → extreme ns ≡ o → o ≡ Some n
      go None e = absurd (finds (λ k. list_all (le k) ns) ns n here all e)
      go (Some m) e =
          let is = found (λ k. list_all (le k) ns) ns m e in
          ap Some (one m n (all_at (le m) ns n is.0 here) (all_at (le n) ns m all is.1))

  -- lists of the same numbers
  pub extreme_same : (ms ns : List ℕ) → ((n : ℕ) → has n ms ≡ has n ns) → extreme ms ≡ extreme ns
  extreme_same ms ns same = go (extreme ms) (extreme ns) refl refl
    where
      beyond : (xs ys : List ℕ) → ((n : ℕ) → has n xs ≡ has n ys) → (x : ℕ) → extreme xs ≡ Some x → extreme ys ≡ Some x
      beyond xs ys alike x e =
          let is = found (λ k. list_all (le k) xs) xs x e in
          extreme_is ys x (sym (alike x) ∙ is.1) (λ m behind. all_at (le x) xs m is.0 (alike m ∙ behind))

      go : (o q : Option ℕ) → extreme ms ≡ o → extreme ns ≡ q → o ≡ q
      go None None e f = refl
      go (Some m) q e f = sym (beyond ms ns same m e) ∙ f
      go None (Some n) e f = sym e ∙ beyond ns ms (λ k. sym (same k)) n f

pub le_one : (m n : ℕ) → nat_le m n ≡ true → nat_le n m ≡ true → m ≡ n
le_one m n a b = omega (arith, leb-true m n a, leb-true n m b)

abbrev pub at_least : ℕ → ℕ → Bool
at_least n m = nat_le m n

pub ge_one : (m n : ℕ) → at_least m n ≡ true → at_least n m ≡ true → m ≡ n
ge_one m n a b = omega (arith, leb-true n m a, leb-true m n b)

pub least_is : (ns : List ℕ) (n : ℕ) → has n ns ≡ true → ((m : ℕ) → has m ns ≡ true → n ≤ m) → least ns ≡ Some n
unfolding least
least_is ns n here below = extreme_is nat_le le_one ns n here (λ m behind. le-leb n m (below m behind))

pub greatest_is : (ns : List ℕ) (n : ℕ) → has n ns ≡ true → ((m : ℕ) → has m ns ≡ true → m ≤ n) → greatest ns ≡ Some n
unfolding greatest
greatest_is ns n here above = extreme_is at_least ge_one ns n here (λ m behind. le-leb m n (above m behind))

pub least_none : (ns : List ℕ) → ns ≡ [] → least ns ≡ None
unfolding least
least_none ns e = rw e refl

pub greatest_none : (ns : List ℕ) → ns ≡ [] → greatest ns ≡ None
unfolding greatest
greatest_none ns e = rw e refl

pub least_same : (ms ns : List ℕ) → ((n : ℕ) → has n ms ≡ has n ns) → least ms ≡ least ns
unfolding least
least_same ms ns same = extreme_same nat_le le_one ms ns same

pub greatest_same : (ms ns : List ℕ) → ((n : ℕ) → has n ms ≡ has n ns) → greatest ms ≡ greatest ns
unfolding greatest
greatest_same ms ns same = extreme_same at_least ge_one ms ns same
