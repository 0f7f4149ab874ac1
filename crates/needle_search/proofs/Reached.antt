-- The laws of how far a window was searched.
use Rattle.std.proofs.Common.{◌≡◌, ℕ, ◌+◌, ◌-◌, ◌<◌, ◌≤◌, List, [], length, take, drop, slice_index_or, get_or, Bool, true, false, None, Some, replicate, sym, subst, ap, ◌∙◌, ⊎_elim, arith, length-drop, length-take, get_or-take}
use Rattle.std.proofs.lemmas.Bool.{cases_lt, cases_eq}
use Rattle.std.proofs.lemmas.Bool.Decides.{nat_tests}
use Rattle.std.proofs.lemmas.List.{get_or-set_same, get_or-set_other, get_or-replicate, length-set}
use Rattle.std.proofs.Math.ListN.{set}
use Rattle.memchr.specs.Find.{OccursAt, FindsNeedle}
use Rattle.needle_search.specs.Progress.{IsReached, AreReached, IsPassed, first_place, unsearched}
use Rattle.needle_search.specs.declared.progress.Progress.{Progress}
use Rattle.needle_search.specs.declared.progress.Reach.{Reach}
use Rattle.needle_search.proofs.Places.{occurs-behind, occurs-rest}

-- ---- one needle

-- a place from which a search went on finds the first place from an earlier one on
module _ (window needle : List ℕ) (from start : ℕ) (low : from ≤ start) (known : (place : ℕ) → from ≤ place → place < start → (place + length needle ≤ length window) × ¬ OccursAt window needle place) where
  pub further-found : (place : ℕ) → FindsNeedle window needle start (Some place) → IsReached window needle from (record { place = place; found = true }) × FindsNeedle window needle from (Some place)
  further-found place found =
      let none : (p : ℕ) → from ≤ p → p < place → ¬ OccursAt window needle p = λ p above below occurs. ⊎_elim (λ early. (known p above early).1 occurs) (λ late. found.0.before p late below occurs) (cases_lt p start) in (
        record { none = λ p above below. (omega (arith, found.1.fits), none p above below); found = λ found_here. found.1 },
        (record { low = omega (arith, found.0.low); high = found.0.high; before = none }, found.1),
      )

  pub further-none : (place : ℕ) → FindsNeedle window needle start None → ((p : ℕ) → start ≤ p → p < place → p + length needle ≤ length window) → IsReached window needle from (record { place = place; found = false }) × FindsNeedle window needle from None
  further-none place missed room =
      let none : (p : ℕ) → from ≤ p → p < length window + 1 → ¬ OccursAt window needle p = λ p above below occurs. ⊎_elim (λ early. (known p above early).1 occurs) (λ late. missed p late below occurs) (cases_lt p start) in
      let fits : (p : ℕ) → from ≤ p → p < place → p + length needle ≤ length window = λ p above below. ⊎_elim (λ early. (known p above early).0) (λ late. room p late below) (cases_lt p start) in (
        record { none = λ p above below. (fits p above below, λ occurs. none p above (omega (arith, occurs.fits)) occurs); found = λ found_here. absurd (cc found_here) },
        none,
      )

-- what was found before is the first place still
pub found-before : (window needle : List ℕ) (from : ℕ) (reach : Reach) → IsReached window needle from reach → reach.found ≡ true → from ≤ reach.place → FindsNeedle window needle from (Some reach.place)
found-before window needle from reach reached found_here low =
    let here = reached.found found_here in
    (record { low = low; high = omega (arith, here.fits); before = λ p above below. (reached.none p above below).1 }, here)

-- a needle that is behind so many places
pub passed : (window needle : List ℕ) (count first next place : ℕ) (reach : Reach) (found : Bool) → IsReached window needle first reach → first ≤ count + next → place ≡ reach.place - count → (found ≡ true → (reach.found ≡ true) × (count ≤ reach.place)) → IsReached (drop count window) needle next (record { place = place; found = found })
passed window needle count first next place reach found reached order is kept = record {
  none = λ p above below.
      let known = reached.none (count + p) (omega arith) (omega (arith, is)) in
      (omega (arith, known.0, length-drop count window), λ occurs. known.1 (occurs-behind window needle count (omega (arith, known.0)) p occurs));
  found = λ found_here.
      let parts = kept found_here in
      let here = reached.found parts.0 in
      subst (λ p. OccursAt (drop count window) needle p) (sym is) (occurs-rest window needle count (omega (arith, here.fits, parts.1)) reach.place parts.1 here);
}

-- a window that begins with a shorter one
module _ (longer window needle : List ℕ) (front : take (length window) longer ≡ window) where
  size : length window ≤ length longer
  size = omega (arith, ap length front, length-take (length window) longer)

  same : (k : ℕ) → k < length window → get_or longer k 0 ≡ get_or window k 0
  same k below = sym (get_or-take (length window) longer k 0 below) ∙ ap (λ (bytes : List ℕ). get_or bytes k 0) front

  occurs-longer : (place : ℕ) → OccursAt window needle place → OccursAt longer needle place
  occurs-longer place occurs = record {
    fits = omega (arith, occurs.fits, size);
    reads = λ j below. same (place + j) (omega (arith, occurs.fits)) ∙ occurs.reads j below;
  }

  occurs-shorter : (place : ℕ) → place + length needle ≤ length window → OccursAt longer needle place → OccursAt window needle place
  occurs-shorter place fits occurs = record {
    fits = fits;
    reads = λ j below. sym (same (place + j) (omega arith)) ∙ occurs.reads j below;
  }

  reached-longer : (from : ℕ) (reach : Reach) → IsReached window needle from reach → IsReached longer needle from reach
  reached-longer from reach reached = record {
    none = λ place above below.
        let known = reached.none place above below in
        (omega (arith, known.0, size), λ occurs. known.1 (occurs-shorter place known.0 occurs));
    found = λ found_here. occurs-longer reach.place (reached.found found_here);
  }

-- ---- several needles

-- nothing is known where nothing was searched
pub none-reached : (needles : List (List ℕ)) (window : List ℕ) (least : ℕ) (reaches : List Reach) → reaches ≡ replicate 8 unsearched → length needles ≤ 8 → AreReached needles window least (record { reaches = reaches })
none-reached needles window least reaches is few = record {
  few = few;
  room = ap length is;
  each = λ number inside.
      let here : slice_index_or reaches number unsearched ≡ unsearched = ap (λ (l : List Reach). slice_index_or l number unsearched) is ∙ get_or-replicate 8 number unsearched unsearched (omega arith) in
      subst (λ reach. IsReached window (slice_index_or needles number []) (first_place number least) reach) (sym here) (record { none = λ place above below. absurd (omega arith); found = λ found_here. absurd (cc found_here) });
}

-- one needle was searched further
pub one-further : (needles : List (List ℕ)) (window : List ℕ) (least index : ℕ) (progress : Progress) (reach : Reach) → AreReached needles window least progress → index < 8 → IsReached window (slice_index_or needles index []) (first_place index least) reach → AreReached needles window least (record { reaches = set progress.reaches index reach })
one-further needles window least index progress reach reached inside here = record {
  few = reached.few;
  room = length-set progress.reaches index reach ∙ reached.room;
  each = λ number below. ⊎_elim
      (λ is. subst (λ k. IsReached window (slice_index_or needles k []) (first_place k least) (slice_index_or (set progress.reaches index reach) k unsearched)) (sym is)
      (subst (λ r. IsReached window (slice_index_or needles index []) (first_place index least) r) (sym (get_or-set_same progress.reaches index reach unsearched (omega (arith, reached.room)))) here))
      (λ other. subst (λ r. IsReached window (slice_index_or needles number []) (first_place number least) r) (sym (get_or-set_other progress.reaches index number reach unsearched other)) (reached.each number below))
      (cases_eq number index);
}

-- at the same place a number that is not below the old least number may be below the new one
first_place-on : (number count old new : ℕ) → (count ≡ 0 → old ≤ new) → first_place number old ≤ count + first_place number new
first_place-on number count old new order = ⊎_elim (λ none. let more = order none in grind (arith, nat_tests)) (λ some. let one : 1 ≤ count = omega arith in grind (arith, nat_tests)) (cases_eq count 0)

-- so many places were passed
pub all-passed : (needles : List (List ℕ)) (window : List ℕ) (count old new : ℕ) (before after : Progress) → AreReached needles window old before → (count ≡ 0 → old ≤ new) → length after.reaches ≡ 8
    → ((k : ℕ) → k < 8 → IsPassed count (slice_index_or before.reaches k unsearched) (slice_index_or after.reaches k unsearched)) → AreReached needles (drop count window) new after
all-passed needles window count old new before after reached order room each = record {
  few = reached.few;
  room = room;
  each = λ number inside. each number (omega (arith, reached.few)) window (slice_index_or needles number []) (first_place number old) (first_place number new) (reached.each number inside) (first_place-on number count old new order);
}

-- what was searched of a window was searched of one that begins with it
pub all-longer : (needles : List (List ℕ)) (longer window : List ℕ) (least : ℕ) (progress : Progress) → take (length window) longer ≡ window → AreReached needles window least progress → AreReached needles longer least progress
all-longer needles longer window least progress front reached = record {
  few = reached.few;
  room = reached.room;
  each = λ number inside. reached-longer longer window (slice_index_or needles number []) front (first_place number least) (slice_index_or progress.reaches number unsearched) (reached.each number inside);
}
