-- Climbs that go on by others.
use Rattle.std.proofs.Common.{◌≡◌, ℕ, zero, suc, ◌+◌, min, List, [], ◌∷◌, map, get_or, Option, Some, None, refl, ap, sym, ◌∙◌, arith}
use Rattle.std.specs.Prelude.{option_and_then}
use Rattle.tree_order.specs.Climbs.{ancestor, climb, climb_at, entry, first_of_both, goes_on, goes_on_by}
use Rattle.tree_order.specs.Tops.{first_above, first_of}
use Rattle.tree_order.specs.declared.climb.Climb.{Climb}
use Rattle.tree_order.proofs.Ancestors.{ancestor-add, ancestor-on}

first_of-both : (row : ℕ) (o p : Option ℕ) → first_of row (first_of_both o p) ≡ first_of (first_of row o) p
first_of-both row None p = refl
first_of-both row (Some other) None = refl
first_of-both row (Some other) (Some next) =
    let same : min row (min other next) ≡ min (min row other) next = omega arith in
    same

both_none : (o : Option ℕ) → first_of_both o None ≡ o
both_none None = refl
both_none (Some row) = refl

first_above-add : (f : ℕ → Option ℕ) (a b row : ℕ) → first_above f (a + b) row ≡ first_of_both (first_above f a row) (option_and_then (first_above f b) (ancestor f a row))
unfolding first_above ancestor
first_above-add f zero b row =
    let none : zero + b ≡ b = omega arith in
    ap (λ n. first_above f n row) none
first_above-add f (suc a) b row =
    let more : suc a + b ≡ suc (a + b) = omega arith in
    ap (λ n. first_above f n row) more
    ∙ elim (f row) as (λ o. option_and_then (λ above. Some (first_of above (first_above f (a + b) above))) o ≡ first_of_both (option_and_then (λ above. Some (first_of above (first_above f a above))) o) (option_and_then (first_above f b) (option_and_then (ancestor f a) o))) [
      | None ↦ refl
      | Some above ↦ ap Some (ap (first_of above) (first_above-add f a b above) ∙ first_of-both above (first_above f a above) (option_and_then (first_above f b) (ancestor f a above)))
    ]

climb-on : (f : ℕ → Option ℕ) (a b row : ℕ) → goes_on (climb f b) (climb f a row) ≡ climb f (a + b) row
climb-on f a b row =
    let first = first_above-add f a b row in
    (elim (ancestor f a row) as (λ o. ancestor f a row ≡ o → goes_on_by (climb f b) (climb f a row) o ≡ climb f (a + b) row) [
      | None ↦ λ is.
          let end : ancestor f a row ≡ ancestor f (a + b) row = is ∙ sym (ancestor-add f a b row ∙ ap (option_and_then (ancestor f b)) is) in
          let first : first_above f a row ≡ first_above f (a + b) row = sym (first ∙ ap (λ o. first_of_both (first_above f a row) (option_and_then (first_above f b) o)) is ∙ both_none (first_above f a row)) in
          λ i. record { end = end i; first = first i }
      | Some above ↦ λ is.
          let end : ancestor f b above ≡ ancestor f (a + b) row = sym (ancestor-on f a b row above is) in
          let first : first_of_both (first_above f a row) (first_above f b above) ≡ first_above f (a + b) row = sym (first ∙ ap (λ o. first_of_both (first_above f a row) (option_and_then (first_above f b) o)) is) in
          λ i. record { end = end i; first = first i }
    ]) refl

get_or-map_default : {X Y : Type 0} (g : X → Y) (xs : List X) (i : ℕ) (d : X) → get_or (map g xs) i (g d) ≡ g (get_or xs i d)
get_or-map_default g [] i d = refl
get_or-map_default g (x ∷ xs) zero d = refl
get_or-map_default g (x ∷ xs) (suc i) d = get_or-map_default g xs i d

-- climbs that go on by others climb as many rows as both
pub climbs-joined : (f : ℕ → Option ℕ) (a b : ℕ) (climbs next : List Climb) → ((row : ℕ) → climb_at climbs row ≡ climb f a row) → ((row : ℕ) → climb_at next row ≡ climb f b row)
    → (row : ℕ) → climb_at (map (goes_on (climb_at next)) climbs) row ≡ climb f (a + b) row
climbs-joined f a b climbs next first second row =
    get_or-map_default (goes_on (climb_at next)) climbs row (record { end = None; first = None })
    ∙ ap (goes_on (climb_at next)) (first row)
    ∙ ap (λ (g : ℕ → Climb). goes_on g (climb f a row)) (λ i r. second r i)
    ∙ climb-on f a b row

abbrev pub once_up : Option ℕ → Climb
once_up parent = record { end = parent; first = parent }

climb-one : (f : ℕ → Option ℕ) (row : ℕ) → once_up (f row) ≡ climb f 1 row
unfolding first_above ancestor
climb-one f row = elim (f row) as (λ o. once_up o ≡ record { end = option_and_then (ancestor f 0) o; first = option_and_then (λ above. Some (first_of above (first_above f 0 above))) o }) [ None ↦ refl | Some above ↦ refl ]

pub climbs-once : (up : List (Option ℕ)) (row : ℕ) → climb_at (map once_up up) row ≡ climb (entry up) 1 row
climbs-once up row = get_or-map_default once_up up row None ∙ climb-one (entry up) row
