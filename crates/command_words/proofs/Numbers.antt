-- The value of digits, one digit after another.
use Rattle.std.proofs.Common.{◌≡◌, ℕ, ◌+◌, ◌*◌, ◌^◌, ◌<◌, ◌≤◌, Bool, true, false, ◌&&◌, nat_lt, if◌then◌else◌, List, [], ◌∷◌, None, Some, Result, Ok, Err, refl, sym, ◌∙◌, ap, length, get_or, drop, arith, le-mul_of_pos_right}
use Rattle.std.proofs.lemmas.Bool.Decides.{nat_tests}
use Rattle.std.proofs.lemmas.List.{at_drop_more, at_drop_all}
use Rattle.std.specs.Char.{digit_value, is_digit}
use Rattle.std.specs.List.{list_all}
use Rattle.std.specs.Str.Parse.{digits_value_after}
use Rattle.command_words.specs.Number.{is_word, digits_of, with_digit}
use Rattle.command_words.specs.declared.fault.LineFault.{LineFault}
use Rattle.command_words.specs.declared.fault.LineFault.TheVariants.{Number}

-- a value, where the bytes behind it are digits and it fits 64 bits
abbrev pub fitting : Bool → ℕ → Result ℕ LineFault
fitting are value = if are && is_word value then Ok value else Err Number

-- the value of digits behind those that had a value
abbrev pub digits_after : ℕ → ℕ → List ℕ → Result ℕ LineFault
digits_after base value bytes = fitting (list_all (λ byte. is_digit byte base) bytes) (digits_value_after base value bytes)

not-fitting : (are : Bool) (value : ℕ) → 2 ^ 64 ≤ value → fitting are value ≡ Err Number
not-fitting true value large = grind (arith, nat_tests)
not-fitting false value large = refl

below-after : (base value : ℕ) (bytes : List ℕ) → 1 ≤ base → value ≤ digits_value_after base value bytes
below-after base value [] some = omega arith
below-after base value (byte ∷ bytes) some =
    omega (arith, below-after base (value * base + digit_value byte) bytes some, le-mul_of_pos_right value some)

-- the next value, where it is chosen
chosen : (are fits all : Bool) (n next : ℕ) (f : ℕ → ℕ) → (if are && fits then Some n else None) ≡ Some next → fitting (are && all) (f n) ≡ fitting all (f next)
chosen true true all n next f is = let same : n ≡ next = cc in ap (λ k. fitting all (f k)) same
chosen true false all n next f is = cc
chosen false fits all n next f is = cc

unchosen : (are all : Bool) (n value : ℕ) → n ≤ value → (if are && is_word n then Some n else None) ≡ None → fitting (are && all) value ≡ Err Number
unchosen true all n value below is = not-fitting all value (omega (arith, too_large n is))
  where
    too_large : (n : ℕ) → (if is_word n then Some n else None) ≡ None → 2 ^ 64 ≤ n
    too_large n is = grind (arith, nat_tests)
unchosen false all n value below is = refl

next-some : (base value byte next : ℕ) (bytes : List ℕ) → with_digit base value byte ≡ Some next → digits_after base value (byte ∷ bytes) ≡ digits_after base next bytes
next-some base value byte next bytes is =
    chosen (is_digit byte base) (is_word (value * base + digit_value byte)) (list_all (λ byte. is_digit byte base) bytes) _ next (λ k. digits_value_after base k bytes) is

next-none : (base value byte : ℕ) (bytes : List ℕ) → 1 ≤ base → with_digit base value byte ≡ None → digits_after base value (byte ∷ bytes) ≡ Err Number
next-none base value byte bytes some is =
    unchosen (is_digit byte base) (list_all (λ byte. is_digit byte base) bytes) (value * base + digit_value byte) _ (below-after base _ bytes some) is

some-bytes : (word : List ℕ) → 0 < length word → nat_lt 0 (length word) ≡ true
some-bytes word some = grind (arith, nat_tests)

pub digits_of-some : (base : ℕ) (word : List ℕ) → 0 < length word → digits_after base 0 word ≡ digits_of base word
digits_of-some base word some =
    ap (λ is. fitting (is && list_all (λ byte. is_digit byte base) word) (digits_value_after base 0 word)) (sym (some-bytes word some))

module _ (base value i : ℕ) (word : List ℕ) (so_far : digits_after base value (drop i word) ≡ digits_of base word) where
  -- one digit more
  pub digits_of-next : (next : ℕ) → i < length word → with_digit base value (get_or word i 0) ≡ Some next → digits_after base next (drop (i + 1) word) ≡ digits_of base word
  digits_of-next next within is =
      sym (next-some base value (get_or word i 0) next (drop (i + 1) word) is) ∙ sym (at_drop_more (digits_after base value) word i 0 within) ∙ so_far

  -- no digit, or one too many
  pub digits_of-none : i < length word → 1 ≤ base → with_digit base value (get_or word i 0) ≡ None → digits_of base word ≡ Err Number
  digits_of-none within some is =
      sym so_far ∙ at_drop_more (digits_after base value) word i 0 within ∙ next-none base value (get_or word i 0) (drop (i + 1) word) some is

  -- all digits are gone through
  pub digits_of-all : length word ≤ i → value < 2 ^ 64 → digits_of base word ≡ Ok value
  digits_of-all all small = sym so_far ∙ at_drop_all (digits_after base value) word i all ∙ fits value small
    where
      fits : (v : ℕ) → v < 2 ^ 64 → fitting true v ≡ Ok v
      fits v small = grind (arith, nat_tests)
