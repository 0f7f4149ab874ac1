-- Occurrences in the rest of a window.
use Rattle.std.proofs.Common.{◌≡◌, ℕ, ◌+◌, ◌-◌, ◌≤◌, List, length, drop, get_or, None, Some, sym, ap, ◌∙◌, arith, length-drop, get_or-drop}
use Rattle.memchr.specs.Find.{OccursAt, FindsNeedle}

module _ (window needle : List ℕ) (from : ℕ) (inside : from ≤ length window) where
  -- what occurs in the rest occurs so many places further on in the whole
  pub occurs-behind : (place : ℕ) → OccursAt (drop from window) needle place → OccursAt window needle (from + place)
  occurs-behind place occurs = record {
    fits = omega (arith, occurs.fits, length-drop from window);
    reads = λ j below.
        let same : from + place + j ≡ from + (place + j) = omega arith in
        rw same (sym (get_or-drop from window (place + j) 0) ∙ occurs.reads j below);
  }

  -- and the other way round
  pub occurs-rest : (place : ℕ) → from ≤ place → OccursAt window needle place → OccursAt (drop from window) needle (place - from)
  occurs-rest place above occurs = record {
    fits = omega (arith, occurs.fits, length-drop from window);
    reads = λ j below.
        let same : from + (place - from + j) ≡ place + j = omega arith in
        get_or-drop from window (place - from + j) 0 ∙ ap (λ k. get_or window k 0) same ∙ occurs.reads j below;
  }

  -- a search of the rest is one of the whole from its first place on
  pub finds-none : FindsNeedle (drop from window) needle 0 None → FindsNeedle window needle from None
  finds-none none place low high occurs = none (place - from) (omega arith) (omega (arith, length-drop from window)) (occurs-rest place low occurs)

  pub finds-some : (place : ℕ) → FindsNeedle (drop from window) needle 0 (Some place) → FindsNeedle window needle from (Some (from + place))
  finds-some place found = (
    record {
      low = omega arith;
      high = omega (arith, found.0.high, length-drop from window);
      before = λ k low high occurs. found.0.before (k - from) (omega arith) (omega arith) (occurs-rest k low occurs);
    },
    occurs-behind place found.1,
  )
