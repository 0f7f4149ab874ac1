-- The laws of words one behind the other.
use Rattle.std.proofs.Common.{◌≡◌, ℕ, zero, suc, ◌+◌, ◌*◌, List, [], ◌∷◌, ◌++◌, length, Option, refl, ap, ◌∙◌, arith}
use Rattle.intel_paging.specs.Word.{word}
use Rattle.layer_base.specs.AddressSpace.{AddressSpace}
use Rattle.word_table.specs.Words.{words_from}

pub words_from-none : (memory : AddressSpace) (at : ℕ) → words_from memory at 0 ≡ []
unfolding words_from
words_from-none memory at = refl

pub length-words_from : (memory : AddressSpace) (at n : ℕ) → length (words_from memory at n) ≡ n
unfolding words_from
length-words_from memory at zero = refl
length-words_from memory at (suc n) = ap suc (length-words_from memory (at + 8) n)

pub words_from-add : (memory : AddressSpace) (at n k : ℕ) → words_from memory at (n + k) ≡ words_from memory at n ++ words_from memory (at + 8 * n) k
unfolding words_from
words_from-add memory at zero k = ap (λ (m : ℕ). words_from memory at m) (omega arith) ∙ ap (λ a. words_from memory a k) (omega arith)
words_from-add memory at (suc n) k =
    let more : suc n + k ≡ suc (n + k) = omega arith in
    let place : at + 8 + 8 * n ≡ at + 8 * suc n = omega arith in
    ap (words_from memory at) more
    ∙ ap (λ (l : List (Option ℕ)). word memory at ∷ l) (words_from-add memory (at + 8) n k ∙ ap (λ a. words_from memory (at + 8) n ++ words_from memory a k) place)

-- one word more
pub words_from-more : (memory : AddressSpace) (at n : ℕ) → words_from memory at (n + 1) ≡ words_from memory at n ++ word memory (at + 8 * n) ∷ []
unfolding words_from
words_from-more memory at n = words_from-add memory at n 1
