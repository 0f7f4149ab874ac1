-- Lists of keys and values, and of kept runs.
use Rattle.std.proofs.Common.{◌≡◌, ◌≢◌, suc, Bool, true, false, List, [], ◌∷◌, ◌++◌, map, length, Option, None, Some, IfSome, All, refl, sym, ap, ◌∙◌, subst}
use Rattle.std.specs.Map.{lookup, lookup_entry, remove_entry}
use Rattle.std.proofs.lemmas.List.{map-append}
use Rattle.std.proofs.lemmas.List.Elements.{All-nil, All-cons, All-head, All-tail, All-append}
use Rattle.lru.specs.LruCache.{promoted}
use Rattle.run_cache.specs.Changes.{IsMovedToFront}

module _ {K V : Type 0} (test : K → Bool) (key : K) where
  -- the entry of a key, and what is before and behind it
  record IsCut (value : V) (es : List (K × V)) : Type 0 where
    before : List (K × V)
    behind : List (K × V)
    whole : es ≡ before ++ (key, value) ∷ behind
    entry : lookup_entry test es ≡ Some (key, value)
    others : remove_entry test es ≡ before ++ behind

  cut : ((k : K) → test k ≡ true → k ≡ key) → (value : V) (es : List (K × V)) → lookup test es ≡ Some value → IsCut value es
  cut same value [] found = absurd (cc found)
  cut same value (e ∷ es) found = by (test e.0) refl (cut same value es)
    where
      by : (b : Bool) → test e.0 ≡ b → (lookup test es ≡ Some value → IsCut value es) → IsCut value (e ∷ es)
      by true is later =
          let found_is : Some e.1 ≡ Some value = rw is at found in
          let value_is : e.1 ≡ value = cc found_is in
          let key_is : e.0 ≡ key = same e.0 is in
          let entry_is : e ≡ (key, value) = λ i. (key_is i, value_is i) in
          record { before = []; behind = es; whole = ap (λ x. x ∷ es) entry_is; entry = rw is (ap (λ (x : K × V). Some x) entry_is); others = rw is refl }
      by false is later =
          let rest = later (rw is at found) in
          record { before = e ∷ rest.before; behind = rest.behind; whole = ap (λ (l : List (K × V)). e ∷ l) rest.whole; entry = rw is rest.entry; others = rw is (ap (λ (l : List (K × V)). e ∷ l) rest.others) }

  -- the entry of a value that is found goes to the front
  pub looked : ((k : K) → test k ≡ true → k ≡ key) → (found : Option V) (old new : List (K × V)) → found ≡ lookup test old → new ≡ promoted test old → IfSome found (λ value. IsMovedToFront (key, value) old new)
  looked same None old new is new_is = tt
  looked same (Some value) old new is new_is =
      let at = cut same value old (sym is) in
      record { before = at.before; behind = at.behind; old_is = at.whole; new_is = new_is ∙ (rw (at.entry, at.others) refl) }

  no_entry : (es : List (K × V)) → lookup test es ≡ None → lookup_entry test es ≡ None
  no_entry [] none = refl
  no_entry (e ∷ es) none = by (test e.0) refl (no_entry es)
    where
      by : (b : Bool) → test e.0 ≡ b → (lookup test es ≡ None → lookup_entry test es ≡ None) → lookup_entry test (e ∷ es) ≡ None
      by true is later = absurd (cc (rw is at none))
      by false is later = rw is (later (rw is at none))

  -- where no value is found, nothing goes to the front
  pub promoted-none : (es : List (K × V)) → lookup test es ≡ None → promoted test es ≡ es
  promoted-none es none = rw (no_entry es none) refl

  -- and no entry has the key
  pub none_has_key : test key ≡ true → (es : List (K × V)) → lookup test es ≡ None → All (λ entry. entry.0 ≢ key) es
  none_has_key passes [] none = All-nil (λ entry. entry.0 ≢ key)
  none_has_key passes (e ∷ es) none = by (test e.0) refl (none_has_key passes es)
    where
      by : (b : Bool) → test e.0 ≡ b → (lookup test es ≡ None → All (λ entry. entry.0 ≢ key) es) → All (λ entry. entry.0 ≢ key) (e ∷ es)
      by true is later = absurd (cc (rw is at none))
      by false is later = All-cons (λ entry. entry.0 ≢ key) e es (λ key_is. let fails : test key ≡ false = ap test (sym key_is) ∙ is in absurd (cc (fails, passes))) (later (rw is at none))

  -- a key that no entry has is not found
  pub not_found : ((k : K) → test k ≡ true → k ≡ key) → (es : List (K × V)) → All (λ entry. entry.0 ≢ key) es → lookup_entry test es ≡ None
  not_found same [] apart = refl
  not_found same (e ∷ es) apart = by (test e.0) refl (not_found same es (All-tail (λ entry. entry.0 ≢ key) e es apart))
    where
      by : (b : Bool) → test e.0 ≡ b → lookup_entry test es ≡ None → lookup_entry test (e ∷ es) ≡ None
      by true is later = absurd (All-head (λ entry. entry.0 ≢ key) e es apart (same e.0 is))
      by false is later = rw is later

-- each element of a list, seen through a function
pub moved-map : {X Y : Type 0} (f : X → Y) (x : X) (old new : List X) → IsMovedToFront x old new → IsMovedToFront (f x) (map f old) (map f new)
moved-map f x old new moved = record {
  before = map f moved.before;
  behind = map f moved.behind;
  old_is = ap (map f) moved.old_is ∙ map-append f moved.before (x ∷ moved.behind);
  new_is = ap (map f) moved.new_is ∙ ap (λ l. f x ∷ l) (map-append f moved.before moved.behind);
}

module _ {X : Type 0} (P : X → Type 0) where
  All-left : (xs ys : List X) → All P (xs ++ ys) → All P xs
  All-left [] ys all = All-nil P
  All-left (x ∷ xs) ys all = All-cons P x xs (All-head P x (xs ++ ys) all) (All-left xs ys (All-tail P x (xs ++ ys) all))

  All-right : (xs ys : List X) → All P (xs ++ ys) → All P ys
  All-right [] ys all = all
  All-right (x ∷ xs) ys all = All-right xs ys (All-tail P x (xs ++ ys) all)

  -- what holds of each element holds of each after one went to the front
  pub All-moved : (x : X) (old new : List X) → IsMovedToFront x old new → All P old → All P new
  All-moved x old new moved all =
      let whole = subst (All P) moved.old_is all in
      let right = All-right moved.before (x ∷ moved.behind) whole in
      subst (All P) (sym moved.new_is) (All-cons P x (moved.before ++ moved.behind) (All-head P x moved.behind right) (All-append P moved.before moved.behind (All-left moved.before (x ∷ moved.behind) whole) (All-tail P x moved.behind right)))

  pub All-moved_first : (x : X) (old new : List X) → IsMovedToFront x old new → All P old → P x
  All-moved_first x old new moved all = All-head P x moved.behind (All-right moved.before (x ∷ moved.behind) (subst (All P) moved.old_is all))

-- as many are left
pub length-moved : {X : Type 0} (x : X) (old new : List X) → IsMovedToFront x old new → length new ≡ length old
length-moved x old new moved = rw (moved.old_is, moved.new_is) (behind_one moved.before moved.behind)
  where
    behind_one : (before behind : List _) → suc (length (before ++ behind)) ≡ length (before ++ x ∷ behind)
    behind_one [] behind = refl
    behind_one (b ∷ before) behind = ap suc (behind_one before behind)
