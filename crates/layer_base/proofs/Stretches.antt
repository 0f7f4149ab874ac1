-- What a reading shows of the addresses from one on, and what a read of their bytes gives.
use Rattle.std.proofs.Common.{◌≡◌, ℕ, zero, suc, ◌+◌, ◌-◌, ◌^◌, ◌<◌, ◌≤◌, Bool, true, List, ◌∷◌, ◌++◌, length, map, take, drop, get_or, Option, None, Some, refl, sym, ap, ◌∙◌, arith, inl, inr, length-take, length-drop, drop-cons}
use Rattle.std.specs.List.{All, slice_get}
use Rattle.std.specs.Option.{IfSome, SomeIff, option_and_then}
use Rattle.std.proofs.lemmas.List.{take-append-le}
use Rattle.std.proofs.lemmas.Bool.{cases_lt, lt-ltb, le-ltb}
use Rattle.std.proofs.lemmas.Bool.Decides.{nat_tests}
use Rattle.std.proofs.lemmas.Option.{slice_get_past, slice_get-get_or}
use Rattle.layer_base.specs.AddressSpace.{AddressSpace, bytes_from}
use Rattle.layer_base.specs.declared.segment.Segment.{Segment}
use Rattle.layer_base.specs.Ranges.{IsSegment, segment_at, next_first}
use Rattle.layer_base.specs.Stretch.{byte_behind, IsShownFrom}
use Rattle.layer_base.specs.View.{View, holds_address, physical}
use Rattle.layer_base.specs.View.View.{File, Ranges}
use Rattle.layer_base.proofs.Ranges.{IsFirstOf, find-wider, next_first-least}

-- ---- the byte at an address

pub physical-past : (view : View) (a : ℕ) → 2 ^ 64 ≤ a → physical view a ≡ None
unfolding physical
physical-past (File bytes) a past = rw (le-ltb a (2 ^ 64) past) refl
physical-past (Ranges below segments) a past = rw (le-ltb a (2 ^ 64) past) refl

pub physical-File : (held : List ℕ) (a : ℕ) → length held < 2 ^ 63 → physical (File held) a ≡ slice_get held a
unfolding physical
physical-File held a few =
    elim (cases_lt a (2 ^ 64)) [
      | inl lt ↦ rw (lt-ltb a (2 ^ 64) lt) refl
      | inr ge ↦ rw (le-ltb a (2 ^ 64) ge) (sym (slice_get_past held a (omega arith)))
    ]

pub physical-Ranges : (below : View) (segments : List Segment) (a : ℕ) → a < 2 ^ 64 → physical (Ranges below segments) a ≡ option_and_then (λ segment. physical below (segment.place + (a - segment.first))) (segment_at segments a)
unfolding physical
physical-Ranges below segments a lt = rw (lt-ltb a (2 ^ 64) lt) refl

-- ---- from one address on

module _ (segments : List Segment) (at a : ℕ) (from : at ≤ a) (before : a < next_first segments at) where
  -- no segment begins in between, so what holds the later address holds the first
  holds-earlier : All (λ s. holds_address s a ≡ true → holds_address s at ≡ true) segments
  holds-earlier k d inside held =
      let s = get_or segments k d in
      let least = next_first-least segments at k d inside in
      elim (cases_lt at s.first) [
        | inl lt ↦ let next = least lt in grind (arith, nat_tests)
        | inr ge ↦ grind (arith, nat_tests)
      ]

  pub segment_at-further : IsFirstOf (λ s. holds_address s a) (segment_at segments at) (segment_at segments a)
  segment_at-further = find-wider (λ s. holds_address s a) (λ s. holds_address s at) segments holds-earlier

further-none : (p : Segment → Bool) (here there : Option Segment) → here ≡ None → IsFirstOf p here there → there ≡ None
further-none p None there is first = first
further-none p (Some s) there is first = absurd (cc)

further-some : (p : Segment → Bool) (here there : Option Segment) (s : Segment) → here ≡ Some s → IsFirstOf p here there → p s ≡ true → there ≡ Some s
further-some p None there s is first held = absurd (cc)
further-some p (Some t) there s is first held = let same : t ≡ s = cc in rw (← same) (first (rw same held))

-- a place of 2 ^ 64 or more has no byte
placed-byte : (below : View) (place : Option ℕ) (p n k : ℕ) → n ≡ p + k → SomeIff place (p < 2 ^ 64) p → physical below n ≡ byte_behind (physical below) place k
placed-byte below None p n k is past = physical-past below n (elim (cases_lt p (2 ^ 64)) [ inl lt ↦ absurd (past lt) | inr ge ↦ omega arith ])
placed-byte below (Some q) p n k is placed = let same : n ≡ q + k = omega (arith, placed.1) in ap (physical below) same

module _ (below : View) (segments : List Segment) (at last : ℕ) (small : last < 2 ^ 64) where
  -- where no segment holds the address
  pub shown-hole : segment_at segments at ≡ None → last + 1 ≡ next_first segments at → IsShownFrom (physical (Ranges below segments)) (physical below) at (record { place = None; last = last })
  shown-hole none next k within =
      let further = further-none _ _ _ none (segment_at-further segments at (at + k) (omega arith) (omega arith)) in
      physical-Ranges below segments (at + k) (omega arith) ∙ rw further refl

  -- where one shows it
  pub shown-segment : (s : Segment) (place : Option ℕ) → segment_at segments at ≡ Some s → IsSegment s × (holds_address s at ≡ true) → last < next_first segments at → last < s.first + s.length
      → (let at_place = s.place + (at - s.first) in SomeIff place (at_place < 2 ^ 64) at_place)
      → IsShownFrom (physical (Ranges below segments)) (physical below) at (record { place = place; last = last })
  shown-segment s place some found next inside placed k within =
      let held : holds_address s (at + k) ≡ true = let first = found.1 in grind (arith, nat_tests) in
      let begins : s.first ≤ at = let first = found.1 in grind (arith, nat_tests) in
      let further = further-some _ _ _ s some (segment_at-further segments at (at + k) (omega arith) (omega arith)) held in
      physical-Ranges below segments (at + k) (omega arith) ∙ rw further (placed-byte below place (s.place + (at - s.first)) (s.place + (at + k - s.first)) k (omega arith) placed)

-- ---- what a read of the bytes gives

-- the memory has the bytes that are held from a place on
pub bytes_from-held : (memory : AddressSpace) (held : List ℕ) (at place n : ℕ) → place + n ≤ length held → ((k : ℕ) → k < n → memory (at + k) ≡ slice_get held (place + k)) → bytes_from memory at n ≡ map (λ x. Some x) (take n (drop place held))
unfolding bytes_from
bytes_from-held memory held at place zero inside same = refl
bytes_from-held memory held at place (suc n) inside same =
    let here : memory at ≡ Some (get_or held place 0) =
    let first : memory (at + 0) ≡ slice_get held (place + 0) = same 0 (omega arith) in
    let at_first : at + 0 ≡ at = omega arith in
    let place_first : place + 0 ≡ place = omega arith in
    sym (ap memory at_first) ∙ first ∙ ap (slice_get held) place_first ∙ slice_get-get_or held place 0 (omega arith) in
    let later : (k : ℕ) → k < n → memory (at + 1 + k) ≡ slice_get held (place + 1 + k) = λ k below.
    let further : memory (at + suc k) ≡ slice_get held (place + suc k) = same (suc k) (omega arith) in
    let at_next : at + 1 + k ≡ at + suc k = omega arith in
    let place_next : place + 1 + k ≡ place + suc k = omega arith in
    ap memory at_next ∙ further ∙ ap (slice_get held) (sym place_next) in
    let more = bytes_from-held memory held (at + 1) (place + 1) n (omega arith) later in
    let place_one : suc place ≡ place + 1 = omega arith in
    let split : drop place held ≡ get_or held place 0 ∷ drop (place + 1) held = drop-cons held place 0 (omega arith) ∙ ap (λ p. get_or held place 0 ∷ drop p held) place_one in
    (λ i. here i ∷ more i) ∙ ap (λ (l : List ℕ). map (λ x. Some x) (take (suc n) l)) (sym split)

module _ (memory_of : List ℕ → AddressSpace) (at last : ℕ) (place : Option ℕ) (shown : (held : List ℕ) → IsShownFrom (memory_of held) (physical (File held)) at (record { place = place; last = last })) where
  -- a stretch with no place is a hole
  pub absent-nowhere : place ≡ None → (o : Option (List ℕ)) → IfSome o (λ held. (a : ℕ) → at ≤ a → a ≤ last → memory_of held a ≡ None)
  absent-nowhere nowhere None = tt
  absent-nowhere nowhere (Some held) = λ a from to.
      let k : at + (a - at) ≡ a = omega arith in
      let byte = shown held (a - at) (omega arith) in
      sym (ap (memory_of held) k) ∙ byte ∙ ap (λ (p : Option ℕ). byte_behind (physical (File held)) p (a - at)) nowhere

  -- a stretch whose place is past the end is a hole
  pub absent-past : (p : ℕ) → place ≡ Some p → (o : Option (List ℕ)) → IfSome o (λ held. length held < 2 ^ 63) → IfSome o (λ held. length held ≤ p) → IfSome o (λ held. (a : ℕ) → at ≤ a → a ≤ last → memory_of held a ≡ None)
  absent-past p is None few past = tt
  absent-past p is (Some held) few past = λ a from to.
      let k : at + (a - at) ≡ a = omega arith in
      let byte = shown held (a - at) (omega arith) in
      sym (ap (memory_of held) k) ∙ byte ∙ ap (λ (q : Option ℕ). byte_behind (physical (File held)) q (a - at)) is ∙ physical-File held (p + (a - at)) few ∙ slice_get_past held (p + (a - at)) (omega arith)

  -- the bytes that were read
  pub present : (p n : ℕ) (buf rest : List ℕ) → place ≡ Some p → 0 < n → n ≤ length buf → n ≤ last - at + 1 → at ≤ last → (o : Option (List ℕ)) → IfSome o (λ held. length held < 2 ^ 63) → IfSome o (λ held. take n buf ≡ take n (drop p held)) → IfSome o (λ held. bytes_from (memory_of held) at n ≡ map (λ x. Some x) (take n (buf ++ rest)))
  present p n buf rest is some room short order None few read = tt
  present p n buf rest is some room short order (Some held) few read =
      let inside : n ≤ length (drop p held) = omega (arith, ap length read, length-take n buf, length-take n (drop p held)) in
      let each : (k : ℕ) → k < n → memory_of held (at + k) ≡ slice_get held (p + k) = λ k below.
      shown held k (omega arith) ∙ ap (λ (q : Option ℕ). byte_behind (physical (File held)) q k) is ∙ physical-File held (p + k) few in
      let bytes = bytes_from-held (memory_of held) held at p n (omega (arith, length-drop p held)) each in
      bytes ∙ ap (λ (l : List ℕ). map (λ x. Some x) l) (sym read ∙ sym (take-append-le n buf rest room))
