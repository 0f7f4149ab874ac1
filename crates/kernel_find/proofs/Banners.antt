-- The laws of banners.
use Rattle.std.proofs.Common.{◌≡◌, ℕ, ◌+◌, ◌<◌, ◌≤◌, List, [], ◌∷◌, length, take, drop, get_or, true, cond, Option, None, Some, Ok, nat_cmp, refl, sym, ap, ◌∙◌, ⊎_elim, arith, add-one, drop-cons, take_all}
use Rattle.std.specs.Prelude.{slice_index, is_some, min}
use Rattle.std.specs.BTreeMap.{is_at}
use Rattle.std.specs.Cmp.Lexicographic.{slice_cmp}
use Rattle.std.specs.List.{before_first, position_or_len}
use Rattle.std.proofs.lemmas.Bool.{cases_lt, false_from_ne_true}
use Rattle.std.proofs.lemmas.List.Sums.{position_or_len_is}
use Rattle.layer_base.specs.AddressSpace.{AddressSpace}
use Rattle.isf_reader.specs.Depth.{entry_named}
use Rattle.isf_reader.specs.declared.symbol.Symbol.{Symbol}
use Rattle.needle_search.specs.declared.hit.Hit.{Hit}
use Rattle.chunk_scanner.specs.State.{GivesFirst}
use Rattle.kernel_find.specs.Banner.{all_hits, banner_occurs, is_some_hit, is_zero}

-- the first zero byte
pub before_zero-at : (bytes : List ℕ) (k : ℕ) → k < length bytes → ((j : ℕ) → j < k → is_zero (slice_index bytes j) ≡ true → ⊥) → is_zero (slice_index bytes k) ≡ true → take k bytes ≡ before_first is_zero bytes
before_zero-at bytes k inside none found =
    ap (λ (n : ℕ). take n bytes) (sym (position_or_len_is is_zero bytes k 0 (omega arith) (λ j below. false_from_ne_true (is_zero (slice_index bytes j)) (none j below)) (λ _. found)))

-- no byte is zero
pub before_zero-none : (bytes : List ℕ) → ((j : ℕ) → j < length bytes → is_zero (slice_index bytes j) ≡ true → ⊥) → bytes ≡ before_first is_zero bytes
before_zero-none bytes none =
    let all : position_or_len is_zero bytes ≡ length bytes = position_or_len_is is_zero bytes (length bytes) 0 (omega arith) (λ j below. false_from_ne_true (is_zero (slice_index bytes j)) (none j below)) (λ inside. absurd (omega arith)) in
    sym (ap (λ (n : ℕ). take n bytes) all ∙ take_all (length bytes) bytes (omega arith))

-- the front of so many bytes, or all
pub take-min : (most n : ℕ) (bytes all : List ℕ) → bytes ≡ all → n ≡ min (length bytes) most → take n bytes ≡ take most all
take-min most n bytes all same front =
    ⊎_elim
    (λ few. let whole : n ≡ length bytes = omega (arith, front, few) in ap (λ (k : ℕ). take k bytes) whole ∙ take_all (length bytes) bytes (omega arith) ∙ same ∙ sym (take_all most all (omega (arith, few, ap length same))))
    (λ many. let cut : n ≡ most = omega (arith, front, many) in ap (λ (k : ℕ). take k bytes) cut ∙ ap (take most) same)
    (cases_lt (length bytes) most)

-- the symbols from a place on
pub named-from : (name : List ℕ) (symbols : List (List ℕ × Symbol)) (i : ℕ) (d : List ℕ × Symbol) → i < length symbols
    → entry_named name (drop i symbols) ≡ cond (is_at (slice_cmp nat_cmp name) (get_or symbols i d).0) (Some (get_or symbols i d).1) (entry_named name (drop (i + 1) symbols))
named-from name symbols i d inside = rw (add-one, drop-cons symbols i d) refl

-- a banner with bytes is looked for
pub occurs-some : (memory : AddressSpace) (bytes : List ℕ) → 1 ≤ length bytes → banner_occurs memory bytes ≡ is_some_hit (all_hits memory (bytes ∷ []))
occurs-some memory [] some = absurd (omega arith)
occurs-some memory (byte ∷ bytes) some = refl

-- a scanner gives a hit where one is left
pub gives-some : (old new : List Hit) (found : Option Hit) → GivesFirst old new (Ok found) → is_some found ≡ is_some_hit old
gives-some old new (Some hit) gives = ap is_some_hit (sym gives)
gives-some old new None gives = ap is_some_hit (sym gives.0)
