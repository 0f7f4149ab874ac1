-- The laws of where a needle occurs.
use Rattle.std.proofs.Common.{◌≡◌, ℕ, zero, suc, ◌+◌, ◌<◌, ◌≤◌, List, [], ◌∷◌, length, get_or, true, nat_le, Option, None, Some, refl, ap, arith}
use Rattle.std.proofs.lemmas.Bool.{false≢true, eqb-true, eq-eqb, and_parts, and_from, le-leb, lt-leb, cond-true, cond-false}
use Rattle.layer_base.specs.AddressSpace.{AddressSpace}
use Rattle.chunk_scanner.specs.Hits.{is_byte, occurs, up_to}

is_byte-true : (byte : ℕ) (found : Option ℕ) → is_byte byte found ≡ true → found ≡ Some byte
is_byte-true byte None is = absurd (false≢true is)
is_byte-true byte (Some other) is = ap (λ (b : ℕ). Some b) (eqb-true other byte is)

is_byte-same : (byte : ℕ) (found : Option ℕ) → found ≡ Some byte → is_byte byte found ≡ true
is_byte-same byte found is = rw is (eq-eqb byte byte refl)

-- each byte of a needle that occurs is there
pub occurs-byte : (memory : AddressSpace) (at : ℕ) (needle : List ℕ) → occurs memory at needle ≡ true → (k : ℕ) → k < length needle → memory (at + k) ≡ Some (get_or needle k 0)
unfolding occurs
occurs-byte memory at [] is k below = absurd (omega arith)
occurs-byte memory at (byte ∷ bytes) is zero below =
    let here : at + 0 ≡ at = omega arith in
    rw here (is_byte-true byte (memory at) (and_parts (is_byte byte (memory at)) (occurs memory (at + 1) bytes) is).0)
occurs-byte memory at (byte ∷ bytes) is (suc k) below =
    let next : at + 1 + k ≡ at + suc k = omega arith in
    rw next at (occurs-byte memory (at + 1) bytes (and_parts (is_byte byte (memory at)) (occurs memory (at + 1) bytes) is).1 k (omega arith))

-- a needle occurs where all its bytes are
pub occurs-all : (memory : AddressSpace) (at : ℕ) (needle : List ℕ) → ((k : ℕ) → k < length needle → memory (at + k) ≡ Some (get_or needle k 0)) → occurs memory at needle ≡ true
unfolding occurs
occurs-all memory at [] all = refl
occurs-all memory at (byte ∷ bytes) all =
    let here : at + 0 ≡ at = omega arith in
    let first : memory at ≡ Some byte = rw here at (all 0 (omega arith)) in
    let rest : (k : ℕ) → k < length bytes → memory (at + 1 + k) ≡ Some (get_or bytes k 0) = λ k below.
    let next : at + 1 + k ≡ at + suc k = omega arith in
    rw next (all (suc k) (omega arith)) in
    and_from (is_byte byte (memory at)) (occurs memory (at + 1) bytes) (is_byte-same byte (memory at) first) (occurs-all memory (at + 1) bytes rest)

-- up to the last address a memory is as it was, and behind it nothing is
pub up_to-within : (last : ℕ) (memory : AddressSpace) (a : ℕ) → a ≤ last → up_to last memory a ≡ memory a
unfolding up_to
up_to-within last memory a within = cond-true (nat_le a last) (memory a) None (le-leb a last within)

pub up_to-behind : (last : ℕ) (memory : AddressSpace) (a : ℕ) → last < a → up_to last memory a ≡ None
unfolding up_to
up_to-behind last memory a behind = cond-false (nat_le a last) (memory a) None (lt-leb a last behind)
