-- The words in bytes that were read.
use Rattle.std.proofs.Common.{◌≡◌, ℕ, zero, suc, ◌+◌, ◌-◌, ◌*◌, ◌/◌, ◌<◌, ◌≤◌, List, [], ◌∷◌, ◌++◌, length, map, take, drop, Option, None, Some, refl, sym, ap, ◌∙◌, arith, length-take, length-drop}
use Rattle.std.proofs.lemmas.List.{take-map, drop-map, take-take, take_more_set}
use Rattle.std.proofs.Math.ListN.{set}
use Rattle.std.proofs.Math.Seq.{take-append_seam, drop-append_seam}
use Rattle.byteorder.specs.Endian.{little_number}
use Rattle.layer_base.specs.AddressSpace.{AddressSpace, bytes_from}
use Rattle.layer_base.specs.Present.{present_from}
use Rattle.layer_base.proofs.BytesFrom.{bytes_from-add, length-bytes_from}
use Rattle.layer_base.proofs.Present.{present_from-bytes}
use Rattle.intel_paging.specs.Word.{word}
use Rattle.intel_paging.proofs.Words.{word-none, word-some}
use Rattle.space_memory.specs.Hole.{IsGot, absent_or, hole}
use Rattle.space_memory.specs.declared.memory.Got.TheVariants.{Hole}
use Rattle.space_memory.proofs.Holes.{hole-behind, present_from-fewer}
use Rattle.word_table.specs.Words.{words_from}
use Rattle.word_table.proofs.WordLists.{words_from-more}

-- a part of bytes that were read
bytes_from-part : (memory : AddressSpace) (at n i k : ℕ) (bytes : List ℕ) → bytes_from memory at n ≡ map Some bytes → i + k ≤ n → bytes_from memory (at + i) k ≡ map Some (take k (drop i bytes))
bytes_from-part memory at n i k bytes read fits =
    let front : List (Option ℕ) = bytes_from memory at i in
    let part : List (Option ℕ) = bytes_from memory (at + i) k in
    let back : List (Option ℕ) = bytes_from memory (at + i + k) (n - (i + k)) in
    let whole : i + (k + (n - (i + k))) ≡ n = omega arith in
    let split : bytes_from memory at n ≡ front ++ (part ++ back) =
    ap (bytes_from memory at) (sym whole) ∙ bytes_from-add memory at i (k + (n - (i + k))) ∙ ap (λ (l : List (Option ℕ)). front ++ l) (bytes_from-add memory (at + i) k (n - (i + k))) in
    let dropped : drop i (front ++ (part ++ back)) ≡ part ++ back = ap (λ m. drop m (front ++ (part ++ back))) (sym (length-bytes_from memory at i)) ∙ drop-append_seam front (part ++ back) in
    let taken : take k (part ++ back) ≡ part = ap (λ m. take m (part ++ back)) (sym (length-bytes_from memory (at + i) k)) ∙ take-append_seam part back in
    sym taken ∙ ap (take k) (sym dropped ∙ ap (drop i) (sym split ∙ read) ∙ drop-map Some i bytes) ∙ take-map Some k (drop i bytes)

-- the word of an index, in bytes that are all present
word-decoded : (memory : AddressSpace) (at index : ℕ) (bytes : List ℕ) → bytes_from memory at (length bytes) ≡ map Some bytes → 8 * index + 8 ≤ length bytes → (n : ℕ) → n ≡ little_number 8 (take 8 (drop (8 * index) bytes)) → word memory (at + 8 * index) ≡ Some n
word-decoded memory at index bytes read fits n is =
    let eight : length (take 8 (drop (8 * index) bytes)) ≡ 8 = omega (arith, length-take 8 (drop (8 * index) bytes), length-drop (8 * index) bytes) in
    let part : bytes_from memory (at + 8 * index) 8 ≡ map Some (take 8 (drop (8 * index) bytes)) = bytes_from-part memory at (length bytes) (8 * index) 8 bytes read fits in
    sym (ap (λ number. Some number) is ∙ word-some memory (at + 8 * index) (take 8 (drop (8 * index) bytes)) (sym (present_from-bytes memory (at + 8 * index) 8 (take 8 (drop (8 * index) bytes)) part)) eight)

-- one word more is decoded
pub decoded-more : (memory : AddressSpace) (at index count n : ℕ) (bytes : List ℕ) (buf : List (Option ℕ)) → length bytes ≡ 8 * length buf → index < length buf → words_from memory at index ≡ take index buf → count ≡ 8 → n ≡ little_number 8 (take count (drop (8 * index) bytes))
    → bytes_from memory at (length bytes) ≡ map Some bytes → words_from memory at (index + 1) ≡ take (index + 1) (set buf index (Some n))
decoded-more memory at index count n bytes buf whole within so_far eight is read =
    let here : word memory (at + 8 * index) ≡ Some n = word-decoded memory at index bytes read (omega arith) n (is ∙ ap (λ k. little_number 8 (take k (drop (8 * index) bytes))) eight) in
    words_from-more memory at index ∙ (λ i. so_far i ++ here i ∷ []) ∙ sym (take_more_set buf index (Some n) within)

-- a front of bytes that were read
bytes_from-front : (memory : AddressSpace) (at n k : ℕ) (bytes : List ℕ) → bytes_from memory at n ≡ map Some (take n bytes) → k ≤ n → bytes_from memory at k ≡ map Some (take k bytes)
bytes_from-front memory at n k bytes read fits =
    let here : at + 0 ≡ at = omega arith in
    let part : bytes_from memory (at + 0) k ≡ map Some (take k (take n bytes)) = bytes_from-part memory at n 0 k (take n bytes) read (omega arith) in
    ap (λ a. bytes_from memory a k) (sym here) ∙ part ∙ ap (λ (l : List ℕ). map Some l) (take-take k n bytes fits)

-- the first absent address is not before that from which it is sought
hole-from : (memory : AddressSpace) (at n a : ℕ) → hole memory at n ≡ Some a → at ≤ a
unfolding hole
hole-from memory at zero a is = absurd (cc is)
hole-from memory at (suc n) a is = by (memory at) refl (hole-from memory (at + 1) n a)
  where
    by : (byte : Option ℕ) → memory at ≡ byte → (hole memory (at + 1) n ≡ Some a → at + 1 ≤ a) → at ≤ a
    by None absent behind = let same : at ≡ a = cc (rw absent at is) in omega arith
    by (Some byte) present behind = omega (arith, behind (rw present at is))

-- it is the first among fewer bytes too, as far as it is one of them
hole-fewer : (memory : AddressSpace) (at n k a : ℕ) → hole memory at n ≡ Some a → a < at + k → hole memory at k ≡ Some a
unfolding hole
hole-fewer memory at zero k a is below = absurd (cc is)
hole-fewer memory at (suc n) zero a is below = absurd (omega (arith, hole-from memory at (suc n) a is))
hole-fewer memory at (suc n) (suc k) a is below = by (memory at) refl (λ rest. hole-fewer memory (at + 1) n k a rest (omega arith))
  where
    by : (byte : Option ℕ) → memory at ≡ byte → (hole memory (at + 1) n ≡ Some a → hole memory (at + 1) k ≡ Some a) → absent_or (memory at) at (hole memory (at + 1) k) ≡ Some a
    by None absent behind = rw absent (rw absent at is)
    by (Some byte) present behind = rw present (behind (rw present at is))

-- a word with an absent byte, behind bytes that are present
word-absent : (memory : AddressSpace) (at n k a : ℕ) (front : List ℕ) → bytes_from memory at n ≡ map Some front → hole memory at (n + k) ≡ Some a → a < at + n + 8 → word memory (at + n) ≡ None
word-absent memory at n k a front read is below =
    let here : hole memory (at + n) k ≡ Some a = sym (hole-behind memory at n k front read) ∙ is in
    sym (word-none memory (at + n) (present_from memory (at + n) 8) refl (present_from-fewer memory (at + n) 8 a (hole-fewer memory (at + n) k 8 a here below)))

-- the words before a hole, and the absent one in which it is
pub decoded-hole : (memory : AddressSpace) (at a count index n : ℕ) (bytes front : List ℕ) (decoded rest : List (Option ℕ)) → (bytes_from memory at (length front) ≡ map Some front → words_from memory at n ≡ decoded) → IsGot memory at bytes (Hole a)
    → length bytes ≡ 8 * count → a < at + length bytes → index ≡ (a - at) / 8 → front ≡ take (8 * index) bytes → n ≡ index → length decoded ≡ index → index < length (decoded ++ rest)
    → take (index + 1) (set (decoded ++ rest) index None) ≡ words_from memory at (index + 1)
decoded-hole memory at a count index n bytes front decoded rest words got whole below first is all size within =
    let from : at ≤ a = hole-from memory at (length bytes) a got.0 in
    let near : a < at + 8 * index + 8 = omega arith in
    let fits : 8 * index ≤ a - at = omega arith in
    let read : bytes_from memory at (8 * index) ≡ map Some (take (8 * index) bytes) = bytes_from-front memory at (a - at) (8 * index) bytes got.1 fits in
    let length-front : length front ≡ 8 * index = ap length is ∙ omega (arith, length-take (8 * index) bytes) in
    let front-read : bytes_from memory at (length front) ≡ map Some front = ap (bytes_from memory at) length-front ∙ read ∙ ap (λ (l : List ℕ). map Some l) (sym is) in
    let sum : 8 * index + (length bytes - 8 * index) ≡ length bytes = omega arith in
    let absent : word memory (at + 8 * index) ≡ None = word-absent memory at (8 * index) (length bytes - 8 * index) a (take (8 * index) bytes) read (ap (hole memory at) sum ∙ got.0) near in
    let before : take index (decoded ++ rest) ≡ decoded = ap (λ m. take m (decoded ++ rest)) (sym size) ∙ take-append_seam decoded rest in
    let present : words_from memory at index ≡ decoded = ap (words_from memory at) (sym all) ∙ words front-read in
    take_more_set (decoded ++ rest) index None within ∙ ap (λ (l : List (Option ℕ)). l ++ None ∷ []) before
    ∙ sym (words_from-more memory at index ∙ (λ i. present i ++ absent i ∷ []))
