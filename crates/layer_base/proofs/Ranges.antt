-- The laws of look-ups in lists of segments.
use Rattle.std.proofs.Common.{◌≡◌, ℕ, zero, suc, ◌+◌, ◌-◌, ◌^◌, ◌<◌, ◌≤◌, Bool, true, false, cond, List, [], ◌∷◌, length, get_or, Option, None, Some, refl, sym, arith, inl, inr}
use Rattle.std.proofs.Math.Nat.{le_refl, le_antisymm}
use Rattle.std.proofs.lemmas.List.{get_or_default}
use Rattle.std.specs.List.{All, AllWithin, find, slice_get}
use Rattle.std.proofs.lemmas.Option.{get_or_from_slice_get}
use Rattle.std.specs.Option.{IfSome, MatchOption}
use Rattle.std.proofs.lemmas.List.Elements.{All-head, All-tail}
use Rattle.std.proofs.lemmas.Bool.{cases_lt}
use Rattle.std.proofs.lemmas.Bool.Decides.{nat_tests}
use Rattle.std.specs.List.Sorted.{IsNonDecreasingBy}
use Rattle.layer_base.specs.declared.segment.Segment.{Segment}
use Rattle.layer_base.specs.Ranges.{AreRising, segment_at, next_first}
use Rattle.layer_base.specs.View.{holds_address}

found_by : {X : Type 0} (p : X → Bool) (P : X → Type 0) (x : X) (rest : Option X) (b : Bool) → p x ≡ b → P x → IfSome rest (λ y. P y × (p y ≡ true)) → IfSome (cond b (Some x) rest) (λ y. P y × (p y ≡ true))
found_by p P x rest true e here more = (here, e)
found_by p P x rest false e here more = more

-- what is found passes the test, and is an element
pub find-found : {X : Type 0} (p : X → Bool) (P : X → Type 0) (xs : List X) → All P xs → IfSome (find p xs) (λ x. P x × (p x ≡ true))
find-found p P [] all = tt
find-found p P (x ∷ xs) all = found_by p P x (find p xs) (p x) refl (All-head P x xs all) (find-found p P xs (All-tail P x xs all))

-- none passes
pub find-none : {X : Type 0} (p : X → Bool) (xs : List X) → All (λ x. p x ≡ false) xs → find p xs ≡ None
find-none p [] all = refl
find-none p (x ∷ xs) all = rw (All-head (λ x. p x ≡ false) x xs all) (find-none p xs (All-tail (λ x. p x ≡ false) x xs all))

-- the first that passes
pub find-first : {X : Type 0} (p : X → Bool) (xs : List X) (i : ℕ) (d : X) → i < length xs → ((k : ℕ) → k < i → p (get_or xs k d) ≡ false) → p (get_or xs i d) ≡ true → find p xs ≡ Some (get_or xs i d)
find-first p [] i d inside before here = absurd (omega arith)
find-first p (x ∷ xs) zero d inside before here = rw here refl
find-first p (x ∷ xs) (suc i) d inside before here = rw (before 0 (omega arith)) (find-first p xs i d (omega arith) (λ k below. before (suc k) (omega arith)) here)

-- what the first of a wider test says of a narrower one
abbrev pub IsFirstOf : {X : Type 0} (p : X → Bool) → Option X → Option X → Type 0
IsFirstOf p wider narrower = MatchOption wider (narrower ≡ None) (λ x. p x ≡ true → narrower ≡ Some x)

wider_by : {X : Type 0} (p q : X → Bool) (x : X) (wider narrower : Option X) (b c : Bool) → q x ≡ b → p x ≡ c → (p x ≡ true → q x ≡ true) → IsFirstOf p wider narrower → IsFirstOf p (cond b (Some x) wider) (cond c (Some x) narrower)
wider_by p q x wider narrower true true e f here more = λ _. refl
wider_by p q x wider narrower true false e f here more = λ passes. absurd (cc)
wider_by p q x wider narrower false true e f here more = let passes = here f in absurd (cc)
wider_by p q x wider narrower false false e f here more = more

-- where each that passes p passes q, the first that passes q is the first that passes p, or does not pass p
pub find-wider : {X : Type 0} (p q : X → Bool) (xs : List X) → All (λ x. p x ≡ true → q x ≡ true) xs → IsFirstOf p (find q xs) (find p xs)
find-wider p q [] wider = refl
find-wider p q (x ∷ xs) wider =
    wider_by p q x (find q xs) (find p xs) (q x) (p x) refl refl (All-head (λ x. p x ≡ true → q x ≡ true) x xs wider) (find-wider p q xs (All-tail (λ x. p x ≡ true → q x ≡ true) x xs wider))

-- ---- the next segment

pub next_first-most : (segments : List Segment) (a : ℕ) → next_first segments a ≤ 2 ^ 64
next_first-most [] a = le_refl (2 ^ 64)
next_first-most (s ∷ rest) a = let more = next_first-most rest a in grind (arith, nat_tests)

pub next_first-above : (segments : List Segment) (a : ℕ) → a < 2 ^ 64 → a < next_first segments a
next_first-above [] a below = below
next_first-above (s ∷ rest) a below = let more = next_first-above rest a below in grind (arith, nat_tests)

-- no segment that begins above the address begins before it
pub next_first-least : (segments : List Segment) (a k : ℕ) (d : Segment) → k < length segments → a < (get_or segments k d).first → next_first segments a ≤ (get_or segments k d).first
next_first-least [] a k d inside above = absurd (omega arith)
next_first-least (s ∷ rest) a zero d inside above = grind (arith, nat_tests)
next_first-least (s ∷ rest) a (suc k) d inside above = let more = next_first-least rest a k d (omega arith) above in grind (arith, nat_tests)

-- it is the greatest such bound
pub next_first-greatest : (segments : List Segment) (a n : ℕ) → n ≤ 2 ^ 64 → ((k : ℕ) (d : Segment) → k < length segments → a < (get_or segments k d).first → n ≤ (get_or segments k d).first) → n ≤ next_first segments a
next_first-greatest [] a n most least = most
next_first-greatest (s ∷ rest) a n most least =
    let here : a < s.first → n ≤ s.first = λ above. least 0 s (omega arith) above in
    let more = next_first-greatest rest a n most (λ k d inside above. least (suc k) d (omega arith) above) in
    grind (arith, nat_tests)

-- ---- segments that rise

-- they begin in order
pub first-rises : (segments : List Segment) → AreRising segments → IsNonDecreasingBy (λ s. s.first) segments
first-rises segments rise i j d le inside =
    elim (cases_lt i j) [
      | inl lt ↦ omega (arith, rise i j d lt inside)
      | inr ge ↦ let same : i ≡ j = omega arith in rw same (le_refl _)
    ]

-- an address holds where it is at or above the first and below the end
holds-false_before : (s : Segment) (a : ℕ) → s.first + s.length ≤ a → holds_address s a ≡ false
holds-false_before s a past = grind (arith, nat_tests)

holds-false_after : (s : Segment) (a : ℕ) → a < s.first → holds_address s a ≡ false
holds-false_after s a before = grind (arith, nat_tests)

module _ (segments : List Segment) (a begun : ℕ) (rise : AreRising segments) (first : AllWithin (λ s. s.first ≤ a) segments 0 begun) (later : AllWithin (λ s. a < s.first) segments begun (length segments)) where
  pub next_first-begun : (d : Segment) → begun < length segments → (get_or segments begun d).first ≤ 2 ^ 64 → next_first segments a ≡ (get_or segments begun d).first
  next_first-begun d inside most =
      let least : (k : ℕ) (d' : Segment) → k < length segments → a < (get_or segments k d').first → (get_or segments begun d).first ≤ (get_or segments k d').first =
      λ k d' below above. elim (cases_lt k begun) [
        | inl lt ↦ absurd (omega (arith, first k d' (omega arith) lt))
        | inr ge ↦ rw (get_or_default segments begun d d' inside) (first-rises segments rise begun k d' ge below)
      ] in
      le_antisymm (next_first-least segments a begun d inside (later begun d (omega arith) inside)) (next_first-greatest segments a (get_or segments begun d).first most least)

  pub next_first-none : length segments ≤ begun → next_first segments a ≡ 2 ^ 64
  next_first-none past =
      le_antisymm (next_first-most segments a) (next_first-greatest segments a (2 ^ 64) (le_refl _) (λ k d inside above. absurd (omega (arith, first k d (omega arith) (omega arith)))))

  pub segment_at-none : begun ≡ 0 → segment_at segments a ≡ None
  segment_at-none none = find-none (λ s. holds_address s a) segments (λ k d inside. holds-false_after (get_or segments k d) a (later k d (omega arith) inside))

  not_before : (d : Segment) → begun ≤ length segments → 0 < begun → (k : ℕ) → k < begun - 1 → holds_address (get_or segments k d) a ≡ false
  not_before d inside some k below =
      let last = first (begun - 1) d (omega arith) (omega arith) in
      let end = rise k (begun - 1) d below (omega arith) in
      holds-false_before (get_or segments k d) a (omega (arith, last, end))

  pub segment_at-held : (d : Segment) → begun ≤ length segments → 0 < begun → holds_address (get_or segments (begun - 1) d) a ≡ true → segment_at segments a ≡ Some (get_or segments (begun - 1) d)
  segment_at-held d inside some held = find-first (λ s. holds_address s a) segments (begun - 1) d (omega arith) (not_before d inside some) held

  pub segment_at-past : (d : Segment) → begun ≤ length segments → 0 < begun → holds_address (get_or segments (begun - 1) d) a ≡ false → segment_at segments a ≡ None
  segment_at-past d inside some past = find-none (λ s. holds_address s a) segments not_any
    where
      not_any : All (λ s. holds_address s a ≡ false) segments
      not_any k d' below =
          elim (cases_lt k begun) [
            | inl lt ↦ elim (cases_lt k (begun - 1)) [
              | inl lt' ↦ not_before d' inside some k lt'
              | inr ge ↦ let same : k ≡ begun - 1 = omega arith in rw (same, get_or_default segments (begun - 1) d' d (omega arith)) past
            ]
            | inr ge ↦ holds-false_after (get_or segments k d') a (later k d' ge below)
          ]

-- what ends above the last ends above each
pub last-above : (segments : List Segment) (last : Segment) (n : ℕ) → Some last ≡ slice_get segments (length segments - 1) → last.first + last.length ≤ n → AreRising segments → All (λ s. s.first + s.length ≤ n) segments
last-above segments last n is above rise k d inside =
    let is_last : get_or segments (length segments - 1) d ≡ last = get_or_from_slice_get segments (length segments - 1) last d (sym is) in
    elim (cases_lt k (length segments - 1)) [
      | inl lt ↦ let below = rw is_last at (rise k (length segments - 1) d lt (omega arith)) in omega (arith, below)
      | inr ge ↦ let same : k ≡ length segments - 1 = omega arith in rw (same, is_last) above
    ]
