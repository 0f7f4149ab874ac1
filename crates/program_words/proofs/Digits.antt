-- What parsing makes of decimal digits.
use Rattle.std.proofs.Common.{◌≡◌, ℕ, ◌<◌, ◌^◌, true, ◌&&◌, nat_le, if◌then◌else◌, List, length, Option, Some, None, Result, Ok, Err, refl, arith}
use Rattle.std.specs.Char.{is_ascii_digit}
use Rattle.std.specs.List.{list_all}
use Rattle.std.specs.Prelude.{option_and_then}
use Rattle.std.specs.Result.{OkIff, result_ok}
use Rattle.std.specs.Str.Parse.{ParsesUnsigned}
use Rattle.std.proofs.lemmas.Bool.Decides.{nat_tests}
use Rattle.std.proofs.lemmas.Str.Parse.{IsDigitsTest, numerals_by_value, parse_digits}
use Rattle.program_words.specs.Number.{are_digits, decimal_value, number_within}

-- the test of the definition tells decimal digits
tells_digits : IsDigitsTest (λ text. list_all is_ascii_digit text ≡ true)
tells_digits = record {
  empty = refl;
  parts = λ c cs all. grind (arith, nat_tests);
  more = λ c cs digit all. grind (arith, nat_tests);
}

-- a number, where it is in the range
abbrev pub within : ℕ → ℕ → ℕ → Option ℕ
within least most n = if nat_le least n && nat_le n most then Some n else None

-- the number of decimal digits is what they parse to, where that is in the range
pub parsed_number : {E : Type 0} (least most : ℕ) (text : List ℕ) (r : Result ℕ E) → ParsesUnsigned 64 10 text r → are_digits text ≡ true
    → most < 2 ^ 64 → number_within least most text ≡ option_and_then (within least most) (result_ok r)
parsed_number {E} least most text r parses digits fits = go r (parse_digits (numerals_by_value _ tells_digits) 64 text r parses (grind (arith, nat_tests)))
  where
    go : (r : Result ℕ E) → OkIff r ((0 < length text) × (decimal_value text < 2 ^ 64)) (decimal_value text)
        → number_within least most text ≡ option_and_then (within least most) (result_ok r)
    go (Ok n) (holds, is) = rw (digits, is) refl
    go (Err e) none = grind (arith, nat_tests)
