-- A search by name, among elements that stand for entries.
use Rattle.std.proofs.Common.{◌≡◌, ℕ, zero, suc, ◌<◌, ◌≤◌, List, [], ◌∷◌, map, length, true, false, Some, None, option_map, is_some, nat_cmp, is_eq, slice_get, slice_index_or, refl, sym, ap, ◌∙◌, arith, Ordering, Less, Equal, Greater}
use Rattle.std.specs.Cmp.Lexicographic.{slice_cmp}
use Rattle.std.specs.Map.{keys_of}
use Rattle.std.specs.List.{AllByRecursion}
use Rattle.std.specs.List.Sorted.{IsStrictlySortedBy, IsNonDecreasingBy, IsPartitionPoint}
use Rattle.std.specs.Ordering.{ordering_index, ordering_reverse}
use Rattle.std.proofs.Common.{◌⊎◌, inl, inr, ⊎_elim}
use Rattle.std.proofs.lemmas.Bool.{cond-false, cases_lt}
use Rattle.std.proofs.lemmas.Cmp.{nat_list_cmp_total, eq_by_cmp_equiv}
use Rattle.std.proofs.lemmas.Map.Entries.{lookup_from_place}
use Rattle.std.proofs.lemmas.Map.Keys.{IsDistinct-from_sorted}
use Rattle.std.proofs.lemmas.Map.Text.{is_eq-slice_cmp}
use Rattle.std.proofs.lemmas.Slice.Eq.{bytes_eq-Decides}
use Rattle.std.proofs.lemmas.Option.{slice_get-map, slice_get-get_or}
use Rattle.isf_reader.specs.Depth.{entry_named}
use Rattle.isf_reader.specs.Table.{HasNamesInOrder}

abbrev byte_order : List ℕ → List ℕ → Ordering
byte_order = slice_cmp nat_cmp

index_rises : (a b name : List ℕ) → byte_order a b ≡ Less → ordering_index (byte_order a name) ≤ ordering_index (byte_order b name)
index_rises a b name less = go (byte_order b name) refl
  where
    greatest_index : (o : Ordering) → ordering_index o ≤ 2
    greatest_index Less = omega arith
    greatest_index Equal = omega arith
    greatest_index Greater = omega arith

    go : (o : Ordering) → byte_order b name ≡ o → ordering_index (byte_order a name) ≤ ordering_index o
    go Less e = rw (nat_list_cmp_total.trans a b name less e) (omega arith)
    go Equal e =
        let first : byte_order a name ≡ Less = nat_list_cmp_total.antisymm a name ∙ ap ordering_reverse (sym (nat_list_cmp_total.congr b name a e) ∙ nat_list_cmp_total.antisymm b a ∙ ap ordering_reverse less) in
        rw first (omega arith)
    go Greater e = greatest_index (byte_order a name)

is_no_tie : (a name : List ℕ) → (byte_order a name ≡ Less) ⊎ (byte_order a name ≡ Greater) → is_eq (byte_order name a) ≡ false
is_no_tie a name (inl less) = ap is_eq (nat_list_cmp_total.antisymm name a ∙ ap ordering_reverse less)
is_no_tie a name (inr greater) = ap is_eq (nat_list_cmp_total.antisymm name a ∙ ap ordering_reverse greater)

module _ {X E : Type 0} (listed : X → List ℕ × E) where
  -- how an element stands to a name
  abbrev pub stands : List ℕ → X → Ordering
  stands name x = byte_order (listed x).0 name

  behind_at : (first : List ℕ) (xs : List X) (k : ℕ) (d : X) → AllByRecursion (λ y. byte_order first y ≡ Less) (keys_of (map listed xs)) → k < length xs → byte_order first (listed (slice_index_or xs k d)).0 ≡ Less
  behind_at first [] k d h below = absurd (omega arith)
  behind_at first (x ∷ xs) zero d h below = h.0
  behind_at first (x ∷ xs) (suc k) d h below = behind_at first xs k d h.1 (omega arith)

  -- names stand below a name, then at it, then above
  pub name_rises : (name : List ℕ) (xs : List X) → HasNamesInOrder (map listed xs) → IsNonDecreasingBy (λ x. ordering_index (stands name x)) xs
  unfolding IsStrictlySortedBy
  name_rises name [] h i j d below within = absurd (omega arith)
  name_rises name (x ∷ xs) h zero zero d below within = omega arith
  name_rises name (x ∷ xs) h zero (suc j) d below within = index_rises (listed x).0 (listed (slice_index_or xs j d)).0 name (behind_at (listed x).0 xs j d h.0 (omega arith))
  name_rises name (x ∷ xs) h (suc i) zero d below within = absurd (omega arith)
  name_rises name (x ∷ xs) h (suc i) (suc j) d below within = name_rises name xs h.1 i j d (omega arith) (omega arith)

  -- a name that no element has
  pub missed : (name : List ℕ) (xs : List X) → ((k : ℕ) (d : X) → k < length xs → is_eq (byte_order name (listed (slice_index_or xs k d)).0) ≡ false) → entry_named name (map listed xs) ≡ None
  missed name [] h = refl
  missed name (x ∷ xs) h = cond-false _ _ _ (h 0 x (omega arith)) ∙ missed name xs (λ k d below. h (suc k) d (omega arith))

  -- a name that an element has
  pub same_name_at : (name : List ℕ) (x : X) → stands name x ≡ Equal → (listed x).0 ≡ name
  same_name_at name x equal = (bytes_eq-Decides (listed x).0 name).0 (sym (is_eq-slice_cmp (listed x).0 name) ∙ ap is_eq equal)

  pub hit : (name : List ℕ) (xs : List X) (place : ℕ) (d : X) → HasNamesInOrder (map listed xs) → place < length xs → stands name (slice_index_or xs place d) ≡ Equal
      → Some (listed (slice_index_or xs place d)).1 ≡ entry_named name (map listed xs)
  hit name xs place d sorted within equal =
      let x = slice_index_or xs place d in
      let here : slice_get (map listed xs) place ≡ Some (name, (listed x).1) =
      slice_get-map listed xs place ∙ ap (option_map listed) (slice_get-get_or xs place d within) ∙ ap (λ n. Some (n, (listed x).1)) (same_name_at name x equal) in
      sym (lookup_from_place (eq_by_cmp_equiv nat_list_cmp_total) (map listed xs) place name (listed x).1 (IsDistinct-from_sorted byte_order (keys_of (map listed xs)) sorted) here)

  pub there : (name : List ℕ) (xs : List X) (place : ℕ) → HasNamesInOrder (map listed xs) → place < length xs → ((d : X) → stands name (slice_index_or xs place d) ≡ Equal)
      → true ≡ is_some (entry_named name (map listed xs))
  there name [] place sorted within equal = absurd (omega arith)
  there name (x ∷ xs) place sorted within equal = ap is_some (hit name (x ∷ xs) place x sorted within (equal x))

  -- elements below a name and above it
  pub apart : (name : List ℕ) (xs : List X) (place : ℕ) → IsPartitionPoint (λ x. stands name x ≡ Less) (λ x. stands name x ≡ Greater) xs place
      → (k : ℕ) (d : X) → k < length xs → is_eq (byte_order name (listed (slice_index_or xs k d)).0) ≡ false
  apart name xs place point k d within =
      is_no_tie (listed (slice_index_or xs k d)).0 name (⊎_elim (λ before. inl (point.0 k d (omega arith) before)) (λ behind. inr (point.1 k d behind within)) (cases_lt k place))

pub same_entries : {A : Type 0} (xs : List A) → map (λ x. x) xs ≡ xs
same_entries [] = refl
same_entries (x ∷ xs) = ap (λ more. x ∷ more) (same_entries xs)
