-- Searches by address.
use Rattle.std.proofs.Common.{◌≡◌, ℕ, zero, suc, ◌-◌, ◌<◌, ◌≤◌, List, [], ◌∷◌, map, filter, length, Bool, true, false, not, ◌==◌, ◌&&◌, ◌||◌, Option, Some, None, option_map, nat_cmp, is_lt, slice_index_or, refl, sym, ap, subst, ◌∙◌, arith}
use Rattle.std.proofs.Common.{◌⊎◌, ⊎_elim}
use Rattle.std.specs.List.{find, list_any}
use Rattle.std.specs.List.Sorted.{IsStableByKey, IsNonDecreasingBy, ties}
use Rattle.std.proofs.lemmas.Bool.{false≢true, eqb-true, eq-eqb, cases_Bool, cases_lt, cases_order, ne_eqb, lt-ltb, le-ltb, cond-true, cond-false, or_cases, or_left, or_right}
use Rattle.std.proofs.lemmas.Option.{none-some, same_Some}
use Rattle.std.proofs.lemmas.Map.Views.{any-filter_same}
use Rattle.symbol_index.proofs.Extremes.{has}
use Rattle.symbol_index.specs.Index.{listed, Named, address_of}
use Rattle.symbol_index.specs.Order.{indexed_address, AreSameByAddress}
use Rattle.symbol_index.specs.declared.indexed.IndexedSymbol.{IndexedSymbol}

pub get_or_any : (symbols : List IndexedSymbol) (i : ℕ) (d e : IndexedSymbol) → i < length symbols → slice_index_or symbols i d ≡ slice_index_or symbols i e
get_or_any [] i d e within = absurd (omega arith)
get_or_any (indexed ∷ symbols) zero d e within = refl
get_or_any (indexed ∷ symbols) (suc i) d e within = get_or_any symbols i d e (omega arith)

-- a search among lists of symbols
module _ (p : IndexedSymbol → Bool) where
  pub find_none : (symbols : List IndexedSymbol) → ((k : ℕ) (d : IndexedSymbol) → k < length symbols → p (slice_index_or symbols k d) ≡ false) → find p symbols ≡ None
  find_none [] h = refl
  find_none (indexed ∷ symbols) h = cond-false _ _ _ (h 0 indexed (omega arith)) ∙ find_none symbols (λ k d below. h (suc k) d (omega arith))

  pub find_first : (symbols : List IndexedSymbol) (i : ℕ) (d : IndexedSymbol) → i < length symbols → ((k : ℕ) (d : IndexedSymbol) → k < i → p (slice_index_or symbols k d) ≡ false) → p (slice_index_or symbols i d) ≡ true → find p symbols ≡ Some (slice_index_or symbols i d)
  find_first [] i d within before here = absurd (omega arith)
  find_first (indexed ∷ symbols) zero d within before here = cond-true _ _ _ here
  find_first (indexed ∷ symbols) (suc i) d within before here = cond-false _ _ _ (before 0 d (omega arith)) ∙ find_first symbols i d (omega arith) (λ k e below. before (suc k) e (omega arith)) here

  found_passes : (symbols : List IndexedSymbol) (indexed : IndexedSymbol) → find p symbols ≡ Some indexed → p indexed ≡ true
  found_passes [] indexed e = absurd (none-some indexed e)
  found_passes (first ∷ symbols) indexed e = ⊎_elim
      (λ passes. subst (λ l. p l ≡ true) (same_Some first indexed (sym (cond-true _ _ _ passes) ∙ e)) passes)
      (λ fails. found_passes symbols indexed (sym (cond-false _ _ _ fails) ∙ e))
      (cases_Bool (p first))

  head : List IndexedSymbol → Option IndexedSymbol
  head [] = None
  head (indexed ∷ symbols) = Some indexed

  some : List IndexedSymbol → Bool
  some [] = false
  some (indexed ∷ symbols) = true

  find_head : (symbols : List IndexedSymbol) → find p symbols ≡ head (filter p symbols)
  unfolding head
  find_head [] = refl
  find_head (indexed ∷ symbols) = ⊎_elim
      (λ passes. cond-true _ _ _ passes ∙ ap head (sym (cond-true _ _ _ passes)))
      (λ fails. cond-false _ _ _ fails ∙ find_head symbols ∙ ap head (sym (cond-false _ _ _ fails)))
      (cases_Bool (p indexed))

  any_some : (symbols : List IndexedSymbol) → list_any p symbols ≡ some (filter p symbols)
  unfolding some
  any_some [] = refl
  any_some (indexed ∷ symbols) = ⊎_elim
      (λ passes. or_left _ _ passes ∙ ap some (sym (cond-true _ _ _ passes)))
      (λ fails. ap (λ b. b || list_any p symbols) fails ∙ any_some symbols ∙ ap some (sym (cond-false _ _ _ fails)))
      (cases_Bool (p indexed))

  pub first_passes : (symbols : List IndexedSymbol) (first : IndexedSymbol) (more : List IndexedSymbol) → filter p symbols ≡ first ∷ more → p first ≡ true
  unfolding head
  first_passes symbols first more e = found_passes symbols first (find_head symbols ∙ ap head e)

  pub find_same : (xs ys : List IndexedSymbol) → filter p ys ≡ filter p xs → find p ys ≡ find p xs
  find_same xs ys e = find_head ys ∙ ap head e ∙ sym (find_head xs)

  pub any_same : (xs ys : List IndexedSymbol) → filter p ys ≡ filter p xs → list_any p ys ≡ list_any p xs
  any_same xs ys e = any_some ys ∙ ap some e ∙ sym (any_some xs)

has_address : (n : ℕ) (symbols : List IndexedSymbol) → has n (map indexed_address symbols) ≡ list_any (λ indexed. indexed_address indexed == n) symbols
has_address n [] = refl
has_address n (indexed ∷ symbols) = ap (λ b. (indexed_address indexed == n) || b) (has_address n symbols)

-- the addresses that pass a test
module _ (q : ℕ → Bool) where
  has_passing : (n : ℕ) (symbols : List IndexedSymbol) → has n (filter q (map indexed_address symbols)) ≡ (q n && list_any (λ indexed. indexed_address indexed == n) symbols)
  has_passing n symbols = any-filter_same (λ m. m == n) q (q n) (λ m same. ap q (eqb-true m n same)) (map indexed_address symbols) ∙ ap (λ b. q n && b) (has_address n symbols)

  pub has_same : (xs ys : List IndexedSymbol) → AreSameByAddress xs ys → (n : ℕ) → has n (filter q (map indexed_address ys)) ≡ has n (filter q (map indexed_address xs))
  has_same xs ys same n = has_passing n ys ∙ ap (λ b. q n && b) (any_same (λ indexed. indexed_address indexed == n) xs ys (same.at n)) ∙ sym (has_passing n xs)

  pub none_passes : (symbols : List IndexedSymbol) → ((k : ℕ) (d : IndexedSymbol) → k < length symbols → q (indexed_address (slice_index_or symbols k d)) ≡ false) → filter q (map indexed_address symbols) ≡ []
  none_passes [] h = refl
  none_passes (indexed ∷ symbols) h = cond-false _ _ _ (h 0 indexed (omega arith)) ∙ none_passes symbols (λ k d below. h (suc k) d (omega arith))

  pub passes_at : (symbols : List IndexedSymbol) (i : ℕ) (d : IndexedSymbol) → i < length symbols → q (indexed_address (slice_index_or symbols i d)) ≡ true → has (indexed_address (slice_index_or symbols i d)) (filter q (map indexed_address symbols)) ≡ true
  passes_at [] i d within here = absurd (omega arith)
  passes_at (indexed ∷ symbols) zero d within here =
      let n = indexed_address indexed in
      ap (has n) (cond-true _ _ _ here) ∙ or_left (n == n) (has n (filter q (map indexed_address symbols))) (eq-eqb n n refl)
  passes_at (indexed ∷ symbols) (suc i) d within here =
      let n = indexed_address (slice_index_or symbols i d) in
      let rest = filter q (map indexed_address symbols) in
      let behind = passes_at symbols i d (omega arith) here in
      ⊎_elim
      (λ passes. ap (has n) (cond-true _ _ _ passes) ∙ or_right (indexed_address indexed == n) (has n rest) behind)
      (λ fails. ap (has n) (cond-false _ _ _ fails) ∙ behind)
      (cases_Bool (q (indexed_address indexed)))

  -- what holds of the address of each indexed that passes
  pub each_passing : (P : ℕ → Type 0) (symbols : List IndexedSymbol) → ((k : ℕ) (d : IndexedSymbol) → k < length symbols → q (indexed_address (slice_index_or symbols k d)) ≡ true → P (indexed_address (slice_index_or symbols k d))) → (n : ℕ) → has n (filter q (map indexed_address symbols)) ≡ true → P n
  each_passing P [] h n here = absurd (false≢true here)
  each_passing P (indexed ∷ symbols) h n here =
      let rest = each_passing P symbols (λ k d below passes. h (suc k) d (omega arith) passes) n in
      ⊎_elim
      (λ passes. ⊎_elim
      (λ same. subst P (eqb-true (indexed_address indexed) n same) (h 0 indexed (omega arith) passes))
      rest
      (or_cases (indexed_address indexed == n) (has n (filter q (map indexed_address symbols))) (ap (has n) (sym (cond-true _ _ _ passes)) ∙ here)))
      (λ fails. rest (ap (has n) (sym (cond-false _ _ _ fails)) ∙ here))
      (cases_Bool (q (indexed_address indexed)))

-- the same among the symbols that the symbols show
pub addresses_listed : (symbols : List IndexedSymbol) → map address_of (map listed symbols) ≡ map indexed_address symbols
addresses_listed [] = refl
addresses_listed (indexed ∷ symbols) = ap (λ ns. indexed_address indexed ∷ ns) (addresses_listed symbols)

pub find_listed : (p : Named → Bool) (symbols : List IndexedSymbol) → find p (map listed symbols) ≡ option_map listed (find (λ indexed. p (listed indexed)) symbols)
find_listed p [] = refl
find_listed p (indexed ∷ symbols) = ⊎_elim
    (λ passes. cond-true _ _ _ passes ∙ ap (option_map listed) (sym (cond-true _ _ _ passes)))
    (λ fails. cond-false _ _ _ fails ∙ find_listed p symbols ∙ ap (option_map listed) (sym (cond-false _ _ _ fails)))
    (cases_Bool (p (listed indexed)))

abbrev at : ℕ → IndexedSymbol → Bool
at address indexed = indexed_address indexed == address

-- what a stable sort by the address leaves
ties_at : (m n : ℕ) → (not (is_lt (nat_cmp m n)) && not (is_lt (nat_cmp n m))) ≡ (n == m)
ties_at m n = ⊎_elim
    (λ (same : m ≡ n). rw (same, eq-eqb n n refl, le-ltb n n (omega arith)) refl)
    (λ (apart : (m < n) ⊎ (n < m)). ⊎_elim
    (λ (less : m < n). let other : n ≡ m → ⊥ = λ e. omega arith in rw (lt-ltb m n less, ne_eqb n m other) refl)
    (λ (more : n < m). let other : n ≡ m → ⊥ = λ e. omega arith in let back : m ≡ n → ⊥ = λ e. omega arith in
    rw (le-ltb m n (omega arith), ne_eqb m n back, lt-ltb n m more, ne_eqb n m other) refl)
    apart)
    (cases_order m n)

pub stable_same : (xs ys : List IndexedSymbol) → IsStableByKey indexed_address nat_cmp xs ys → AreSameByAddress xs ys
stable_same xs ys stable = record { at = λ address. both address (filter (at address) ys) (filter (at address) xs) refl refl }
  where
    tied : (x : IndexedSymbol) → filter (at (indexed_address x)) ys ≡ filter (at (indexed_address x)) xs
    tied x =
        let same : ties (λ a b. is_lt (nat_cmp (indexed_address a) (indexed_address b))) x ≡ (λ y. indexed_address y == indexed_address x) = λ i y. ties_at (indexed_address x) (indexed_address y) i in
        subst (λ test. filter test ys ≡ filter test xs) same (stable x)

    by_one : (address : ℕ) (x : IndexedSymbol) → at address x ≡ true → filter (at address) ys ≡ filter (at address) xs
    by_one address x here = subst (λ n. filter (at n) ys ≡ filter (at n) xs) (eqb-true (indexed_address x) address here) (tied x)

    both : (address : ℕ) (us vs : List IndexedSymbol) → filter (at address) ys ≡ us → filter (at address) xs ≡ vs → filter (at address) ys ≡ filter (at address) xs
    both address [] [] e f = e ∙ sym f
    both address (u ∷ us) vs e f = by_one address u (first_passes (at address) ys u us e)
    both address [] (v ∷ vs) e f = by_one address v (first_passes (at address) xs v vs f)

-- an address below which all symbols stand
pub never_below : (symbols : List IndexedSymbol) (address : ℕ) → ((k : ℕ) (d : IndexedSymbol) → k < length symbols → indexed_address (slice_index_or symbols k d) < address) → find (λ indexed. indexed_address indexed == address) symbols ≡ None
never_below symbols address h = find_none (λ indexed. indexed_address indexed == address) symbols (λ k d within. ne_eqb _ _ (λ e. omega (arith, h k d within, e)))

-- an address that stands between the symbols before a place and the others
pub never_at : (symbols : List IndexedSymbol) (address place : ℕ) (d : IndexedSymbol) → IsNonDecreasingBy indexed_address symbols
    → ((k : ℕ) (d : IndexedSymbol) → k < place → indexed_address (slice_index_or symbols k d) < address)
    → address < indexed_address (slice_index_or symbols place d)
    → find (λ indexed. indexed_address indexed == address) symbols ≡ None
never_at symbols address place d rises before above = find_none (λ indexed. indexed_address indexed == address) symbols (λ k e within. ne_eqb _ _ (never k e within))
  where
    never : (k : ℕ) (e : IndexedSymbol) → k < length symbols → indexed_address (slice_index_or symbols k e) ≡ address → ⊥
    never k e within same = ⊎_elim
        (λ (early : k < place). let below = before k e early in omega arith)
        (λ (late : place ≤ k).
        let up = rises place k d late within in
        let alike = ap indexed_address (get_or_any symbols k e d within) in
        omega arith)
        (cases_lt k place)

-- from the first indexed above an address on, addresses rise
pub rises_from : (symbols : List IndexedSymbol) (address place k : ℕ) (d e : IndexedSymbol) → IsNonDecreasingBy indexed_address symbols
    → ((k : ℕ) (d : IndexedSymbol) → k < place → indexed_address (slice_index_or symbols k d) ≤ address)
    → address < indexed_address (slice_index_or symbols k e) → k < length symbols
    → indexed_address (slice_index_or symbols place d) ≤ indexed_address (slice_index_or symbols k e)
rises_from symbols address place k d e rises within above inside = ⊎_elim
    (λ early. absurd (omega (arith, within k e early, above)))
    (λ late. subst (λ l. indexed_address l ≤ indexed_address (slice_index_or symbols k e)) (get_or_any symbols place e d (omega (arith, late, inside))) (rises place k e late inside))
    (cases_lt k place)

-- up to the last indexed that is not above an address, addresses rise
pub rises_to : (symbols : List IndexedSymbol) (address count k : ℕ) (d e : IndexedSymbol) → IsNonDecreasingBy indexed_address symbols
    → ((k : ℕ) (d : IndexedSymbol) → count ≤ k → k < length symbols → address < indexed_address (slice_index_or symbols k d))
    → indexed_address (slice_index_or symbols k e) ≤ address → k < length symbols → count ≤ length symbols
    → indexed_address (slice_index_or symbols k e) ≤ indexed_address (slice_index_or symbols (count - 1) d)
rises_to symbols address count k d e rises above within inside bound = ⊎_elim
    (λ early. subst (λ l. indexed_address (slice_index_or symbols k e) ≤ indexed_address l) (get_or_any symbols (count - 1) e d (omega (arith, early, bound))) (rises k (count - 1) e (omega (arith, early)) (omega (arith, early, bound))))
    (λ late. absurd (omega (arith, above k e late inside, within)))
    (cases_lt k count)

pub lt_apart : (m n : ℕ) → m ≤ n → (n ≡ m → ⊥) → m < n
lt_apart m n le apart = ⊎_elim (λ (less : m < n). less) (λ (back : n ≤ m). let same : n ≡ m = omega arith in absurd (apart same)) (cases_lt m n)
