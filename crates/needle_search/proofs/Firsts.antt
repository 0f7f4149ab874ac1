-- The first hit of one needle more.
use Rattle.std.proofs.Common.{◌≡◌, ℕ, ◌+◌, ◌<◌, ◌≤◌, List, [], length, slice_index_or, Bool, true, false, nat_le, if◌then◌else◌, Option, None, Some, ⊎_elim, refl, subst, arith}
use Rattle.std.proofs.lemmas.Bool.{cases_lt, leb-true, leb-false}
use Rattle.memchr.specs.Find.{OccursAt, FindsNeedle}
use Rattle.needle_search.specs.FirstHit.{NeedleOccurs, IsFirstIn, IsFirstOf, IsFirstFrom, rank, earlier}
use Rattle.needle_search.specs.declared.hit.Hit.{Hit}

-- of no needle none occurs
pub first-none : (needles : List (List ℕ)) (window : List ℕ) (least : ℕ) → IsFirstOf needles window 0 least None
first-none needles window least place number below low occurs = absurd (omega arith)

module _ (needles : List (List ℕ)) (window : List ℕ) (count least from : ℕ) (few : count < 8) (low : (place : ℕ) → least ≤ rank place count → from ≤ place) (high : (place : ℕ) → from ≤ place → least ≤ rank place count) where
  -- no needle occurs at a pair, where neither those before do nor the next one does
  none : (place number : ℕ) → number < count + 1 → least ≤ rank place number → (number < count → ¬ NeedleOccurs needles window number place)
      → (number ≡ count → from ≤ place → place < length window + 1 → ¬ OccursAt window (slice_index_or needles count []) place) → ¬ NeedleOccurs needles window number place
  none place number below above others last occurs =
      ⊎_elim
      (λ early. others early occurs)
      (λ late.
      let same : number ≡ count = omega arith in
      last same (low place (omega arith)) (omega (arith, occurs.fits)) (subst (λ k. NeedleOccurs needles window k place) same occurs))
      (cases_lt number count)

  pub first-more : (first : Option Hit) (found : Option ℕ) → IsFirstOf needles window count least first → FindsNeedle window (slice_index_or needles count []) from found → IsFirstOf needles window (count + 1) least (earlier first found count)
  first-more None None before missed = λ place number below above. none place number below above (λ early. before place number early above) (λ same from inside. missed place from inside)
  first-more (Some hit) None before missed = record {
    number = omega (arith, before.number);
    above = before.above;
    occurs = before.occurs;
    none_before = λ place number below above less. none place number below above (λ early. before.none_before place number early above less) (λ same from inside. missed place from inside);
  }
  first-more None (Some at) before found = record {
    number = omega arith;
    above = high at found.0.low;
    occurs = found.1;
    none_before = λ place number below above less. none place number below above (λ early. before place number early above) (λ same from inside. found.0.before place from (omega arith));
  }
  first-more (Some hit) (Some at) before found = by (nat_le hit.at at) refl
    where
      by : (is_before : Bool) → nat_le hit.at at ≡ is_before → IsFirstOf needles window (count + 1) least (if is_before then Some hit else Some (record { at = at; needle = count }))
      by true is =
          let order : hit.at ≤ at = leb-true hit.at at is in
          let lower : hit.needle < count = before.number in
          record {
            number = omega arith;
            above = before.above;
            occurs = before.occurs;
            none_before = λ place number below above less. none place number below above (λ early. before.none_before place number early above less) (λ same from inside. found.0.before place from (omega arith));
          }
      by false is =
          let order : at < hit.at = leb-false hit.at at is in
          record {
            number = omega arith;
            above = high at found.0.low;
            occurs = found.1;
            none_before = λ place number below above less. none place number below above (λ early. before.none_before place number early above (omega arith)) (λ same from inside. found.0.before place from (omega arith));
          }

-- not below rank 0 is everything
pub first-in : (needles : List (List ℕ)) (window : List ℕ) → length needles ≤ 8 → (answer : Option Hit) → IsFirstFrom needles window 0 answer → IsFirstIn needles window answer
first-in needles window few None none = λ place number below. none place number below (omega arith)
first-in needles window few (Some hit) first =
    let known : hit.needle < length needles = first.number in
    record {
      number = first.number;
      occurs = first.occurs;
      none_before = λ place number before below. first.none_before place number below (omega arith) (omega arith);
      none_lower = λ number lower. first.none_before hit.at number (omega arith) (omega arith) (omega arith);
    }
