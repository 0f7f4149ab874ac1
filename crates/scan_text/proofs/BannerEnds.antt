-- The laws of banners.
use Rattle.std.proofs.Common.{◌≡◌, ℕ, zero, suc, ◌<◌, List, [], ◌∷◌, length, take, true, false, Bool, refl, sym, ap, ◌∙◌, arith}
use Rattle.std.specs.Prelude.{slice_index}
use Rattle.std.proofs.lemmas.Bool.{cond-true, cond-false}
use Rattle.layer_base.specs.AddressSpace.{AddressSpace}
use Rattle.layer_base.specs.Present.{present_from}
use Rattle.scan_text.specs.Banners.{is_end, before_end, banner}

is-false : (b : Bool) → (b ≡ true → ⊥) → b ≡ false
is-false true never = absurd (never refl)
is-false false never = refl

-- the first byte that ends a banner
pub before_end-first : (bytes : List ℕ) (k : ℕ) → k < length bytes → ((j : ℕ) → j < k → is_end (slice_index bytes j) ≡ true → ⊥) → is_end (slice_index bytes k) ≡ true → take k bytes ≡ before_end bytes
unfolding before_end
before_end-first [] k inside none found = absurd (omega arith)
before_end-first (byte ∷ bytes) zero inside none found = sym (cond-true (is_end byte) [] (byte ∷ before_end bytes) found)
before_end-first (byte ∷ bytes) (suc k) inside none found =
    ap (λ (l : List ℕ). byte ∷ l) (before_end-first bytes k (omega arith) (λ j below. none (suc j) (omega arith)) found)
    ∙ sym (cond-false (is_end byte) [] (byte ∷ before_end bytes) (is-false (is_end byte) (none 0 (omega arith))))

-- no byte ends it
pub before_end-none : (bytes : List ℕ) → ((j : ℕ) → j < length bytes → is_end (slice_index bytes j) ≡ true → ⊥) → bytes ≡ before_end bytes
unfolding before_end
before_end-none [] none = refl
before_end-none (byte ∷ bytes) none =
    ap (λ (l : List ℕ). byte ∷ l) (before_end-none bytes (λ j below. none (suc j) (omega arith)))
    ∙ sym (cond-false (is_end byte) [] (byte ∷ before_end bytes) (is-false (is_end byte) (none 0 (omega arith))))

-- a banner is what stands before its end in the bytes that are present
pub banner-before : (memory : AddressSpace) (at : ℕ) (bytes : List ℕ) → bytes ≡ present_from memory at 512 → before_end bytes ≡ banner memory at
unfolding banner
banner-before memory at bytes read = ap before_end read
