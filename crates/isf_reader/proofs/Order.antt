-- What is put in its place stays in order.
use Rattle.std.proofs.Common.{◌≡◌, List, [], ◌∷◌, Ordering, Less, Equal, Greater, refl, sym, ap, subst, ◌∙◌}
use Rattle.std.specs.BTreeMap.{insert_entry}
use Rattle.std.specs.BTreeSet.{insert_key}
use Rattle.std.specs.Cmp.{IsTotalOrder}
use Rattle.std.specs.List.{AllByRecursion}
use Rattle.std.specs.List.Sorted.{IsStrictlySortedBy}
use Rattle.std.specs.Map.{keys_of}
use Rattle.std.specs.Ordering.{match_ordering, ordering_reverse}

all_more : {X : Type 0} (P Q : X → Type 0) → ((x : X) → P x → Q x) → (xs : List X) → AllByRecursion P xs → AllByRecursion Q xs
all_more P Q more [] h = tt
all_more P Q more (x ∷ xs) h = (more x h.0, all_more P Q more xs h.1)

module _ {K X : Type 0} (cmp : K → K → Ordering) where
  keys_by_order : (o : Ordering) (before at behind : List (K × X)) → keys_of (match_ordering o before at behind) ≡ match_ordering o (keys_of before) (keys_of at) (keys_of behind)
  keys_by_order Less before at behind = refl
  keys_by_order Equal before at behind = refl
  keys_by_order Greater before at behind = refl

  -- the keys of a map take a new key as a set does
  pub keys_inserted : (es : List (K × X)) (k : K) (v : X) → keys_of (insert_entry cmp es k v) ≡ insert_key cmp (keys_of es) k
  keys_inserted [] k v = refl
  keys_inserted (e ∷ es) k v = keys_by_order (cmp k e.0) _ _ _ ∙ ap (λ keys. match_ordering (cmp k e.0) (k ∷ e.0 ∷ keys_of es) (e.0 ∷ keys_of es) (e.0 ∷ keys)) (keys_inserted es k v)

  -- a test that each entry passes; where an equal key takes the value, the key that was there passes with it
  module _ (P : K × X → Type 0) (takes : (k l : K) (v w : X) → cmp k l ≡ Equal → P (k, v) → P (l, w) → P (l, v)) where
    pub all_inserted : (es : List (K × X)) (k : K) (v : X) → AllByRecursion P es → P (k, v) → AllByRecursion P (insert_entry cmp es k v)
    all_inserted [] k v h p = (p, tt)
    all_inserted (e ∷ es) k v h p = go (cmp k e.0) refl (all_inserted es k v h.1 p)
      where
        go : (o : Ordering) → cmp k e.0 ≡ o → AllByRecursion P (insert_entry cmp es k v) → AllByRecursion P (match_ordering o ((k, v) ∷ e ∷ es) ((e.0, v) ∷ es) (e ∷ insert_entry cmp es k v))
        go Less below more = (p, h)
        go Equal tied more = (takes k e.0 v e.1 tied p h.0, h.1)
        go Greater above more = (h.0, more)

module _ {K : Type 0} (cmp : K → K → Ordering) (total : IsTotalOrder cmp) where
  below_all : (k l : K) (ks : List K) → cmp k l ≡ Less → AllByRecursion (λ y. cmp l y ≡ Less) ks → AllByRecursion (λ y. cmp k y ≡ Less) ks
  below_all k l ks below h = all_more (λ y. cmp l y ≡ Less) (λ y. cmp k y ≡ Less) (λ y. total.trans k l y below) ks h

  turned : (k l : K) → cmp k l ≡ Greater → cmp l k ≡ Less
  turned k l h = total.antisymm l k ∙ ap ordering_reverse h

  all_keys_inserted : (P : K → Type 0) (ks : List K) (k : K) → AllByRecursion P ks → P k → AllByRecursion P (insert_key cmp ks k)
  all_keys_inserted P [] k h p = (p, tt)
  all_keys_inserted P (x ∷ ks) k h p =
      elim (cmp k x) as (λ o. AllByRecursion P (match_ordering o (k ∷ x ∷ ks) (x ∷ ks) (x ∷ insert_key cmp ks k)))
      [ Less ↦ (p, h) | Equal ↦ h | Greater ↦ (h.0, all_keys_inserted P ks k h.1 p) ]

  -- a key that is put in its place keeps the order
  pub keys_in_order_inserted : (ks : List K) (k : K) → IsStrictlySortedBy cmp ks → IsStrictlySortedBy cmp (insert_key cmp ks k)
  unfolding IsStrictlySortedBy
  keys_in_order_inserted [] k h = (tt, tt)
  keys_in_order_inserted (x ∷ ks) k h = go (cmp k x) refl (keys_in_order_inserted ks k h.1)
    where
      go : (o : Ordering) → cmp k x ≡ o → IsStrictlySortedBy cmp (insert_key cmp ks k) → IsStrictlySortedBy cmp (match_ordering o (k ∷ x ∷ ks) (x ∷ ks) (x ∷ insert_key cmp ks k))
      go Less below more = ((below, below_all k x ks below h.0), h)
      go Equal tied more = h
      go Greater above more = (all_keys_inserted (λ y. cmp x y ≡ Less) ks k h.0 (turned k x above), more)

  -- an entry that is put in its place keeps the order of the keys
  pub in_order_inserted : {X : Type 0} (es : List (K × X)) (k : K) (v : X) → IsStrictlySortedBy cmp (keys_of es) → IsStrictlySortedBy cmp (keys_of (insert_entry cmp es k v))
  in_order_inserted es k v h = subst (IsStrictlySortedBy cmp) (sym (keys_inserted cmp es k v)) (keys_in_order_inserted (keys_of es) k h)
