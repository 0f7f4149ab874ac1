-- The laws of the rows of a dump.
use Rattle.std.proofs.Common.{◌≡◌, ℕ, zero, suc, ◌+◌, ◌-◌, ◌*◌, ◌/◌, ◌%◌, ◌^◌, ◌<◌, ◌≤◌, List, [], ◌∷◌, ◌++◌, length, take, drop, Option, refl, sym, ◌∙◌, ap, arith, append_assoc, length-append, length-drop, length-take, min, ◌⊎◌, inl, inr, ⊎_elim}
use Rattle.std.specs.Prelude.{codes}
use Rattle.std.proofs.lemmas.List.{take_all, take-append-le, drop-append-le, append-nil, nil_from_length}
use Rattle.std.proofs.Math.Seq.{take-add}
use Rattle.std.proofs.lemmas.Bool.{cases_lt}
use Rattle.std.specs.Io.{StartsWith}
use Rattle.layer_base.specs.AddressSpace.{AddressSpace, bytes_from}
use Rattle.layer_base.proofs.Appending.{StartsWith-from, StartsWith-same}
use Rattle.layer_base.proofs.BytesFrom.{bytes_from-add, length-bytes_from}
use Rattle.hex_text.specs.DumpRow.{hex_digit, hex_digits, dump_row, dump_rows, dump_text}

pub hex_digits-next : (digits done value : ℕ) → done < digits → hex_digits (digits - done) value ≡ hex_digit (value / 2 ^ (4 * (digits - 1 - done)) % 16) ∷ hex_digits (digits - (done + 1)) value
hex_digits-next digits done value left =
    let more : digits - done ≡ suc (digits - 1 - done) = omega arith in
    let fewer : digits - (done + 1) ≡ digits - 1 - done = omega arith in
    ap (λ k. hex_digits k value) more ∙ ap (λ k. hex_digit (value / 2 ^ (4 * (digits - 1 - done)) % 16) ∷ hex_digits k value) (sym fewer)

-- whole rows, and then others
dump_rows-add : (rows more at : ℕ) (xs ys : List (Option ℕ)) → length xs ≡ 16 * rows → dump_rows (rows + more) at (xs ++ ys) ≡ dump_rows rows at xs ++ dump_rows more (at + 16 * rows) ys
dump_rows-add zero more at xs ys whole =
    let none : xs ≡ [] = nil_from_length xs (omega arith) in
    let count : zero + more ≡ more = omega arith in
    let place : at ≡ at + 16 * 0 = omega arith in
    ap (λ k. dump_rows k at (xs ++ ys)) count ∙ ap (λ l. dump_rows more at (l ++ ys)) none ∙ ap (λ a. dump_rows more a ys) place
dump_rows-add (suc rows) more at xs ys whole =
    let count : suc rows + more ≡ suc (rows + more) = omega arith in
    let first : take 16 (xs ++ ys) ≡ take 16 xs = take-append-le 16 xs ys (omega arith) in
    let others : drop 16 (xs ++ ys) ≡ drop 16 xs ++ ys = drop-append-le 16 xs ys (omega arith) in
    let fewer : length (drop 16 xs) ≡ 16 * rows = omega (arith, length-drop 16 xs) in
    let place : at + 16 + 16 * rows ≡ at + 16 * suc rows = omega arith in
    let row = dump_row at (take 16 xs) ++ codes "\n" in
    ap (λ k. dump_rows k at (xs ++ ys)) count
    ∙ ap (λ l. dump_row at l ++ codes "\n" ++ dump_rows (rows + more) (at + 16) (drop 16 (xs ++ ys))) first
    ∙ ap (λ l. row ++ dump_rows (rows + more) (at + 16) l) others
    ∙ ap (λ l. row ++ l) (dump_rows-add rows more (at + 16) (drop 16 xs) ys fewer ∙ ap (λ a. dump_rows rows (at + 16) (drop 16 xs) ++ dump_rows more a ys) place)
    ∙ sym (append_assoc row (dump_rows rows (at + 16) (drop 16 xs)) (dump_rows more (at + 16 * suc rows) ys))

pub dump_text-append : (rows at : ℕ) (xs ys : List (Option ℕ)) → length xs ≡ 16 * rows → dump_text at (xs ++ ys) ≡ dump_text at xs ++ dump_text (at + length xs) ys
unfolding dump_text
dump_text-append rows at xs ys whole =
    let all : (length (xs ++ ys) + 15) / 16 ≡ rows + (length ys + 15) / 16 = omega (arith, length-append xs ys) in
    let front : (length xs + 15) / 16 ≡ rows = omega arith in
    let more = (length ys + 15) / 16 in
    ap (λ k. dump_rows k at (xs ++ ys)) all ∙ dump_rows-add rows more at xs ys whole
    ∙ ap (λ k. dump_rows k at xs ++ dump_rows more (at + 16 * rows) ys) (sym front)
    ∙ ap (λ n. dump_rows ((length xs + 15) / 16) at xs ++ dump_rows more (at + n) ys) (sym whole)

pub dump_text-row : (at : ℕ) (cells : List (Option ℕ)) → 1 ≤ length cells → length cells ≤ 16 → dump_text at cells ≡ dump_row at cells ++ codes "\n"
unfolding dump_text
dump_text-row at cells some few =
    let one : (length cells + 15) / 16 ≡ 1 = omega arith in
    ap (λ k. dump_rows k at cells) one ∙ append-nil (dump_row at (take 16 cells) ++ codes "\n") ∙ ap (λ l. dump_row at l ++ codes "\n") (take_all 16 cells few)

pub dump_text-none : (at : ℕ) → dump_text at [] ≡ []
unfolding dump_text
dump_text-none at = refl

-- a place that is behind whole rows, or at the end
pub whole-rows : (start len : ℕ) → ((rows : ℕ) × (start ≡ 16 * rows)) ⊎ (start ≡ len) → start < len → (rows : ℕ) × (start ≡ 16 * rows)
whole-rows start len (inl rows) before = rows
whole-rows start len (inr all) before = absurd (omega arith)

pub whole-rows-next : (rows start end len : ℕ) → start ≡ 16 * rows → end ≡ min len (start + 16) → ((more : ℕ) × (end ≡ 16 * more)) ⊎ (end ≡ len)
whole-rows-next rows start end len whole next = ⊎_elim (λ short. inr (omega (arith, short))) (λ fits. inl (rows + 1, omega (arith, fits))) (cases_lt len (start + 16))

-- one row behind whole rows
pub dump_text-more : (rows start end at : ℕ) (cells : List (Option ℕ)) → start ≡ 16 * rows → start < length cells → end ≡ min (length cells) (start + 16)
    → dump_text at (take start cells) ++ (dump_row (at + start) (take (end - start) (drop start cells)) ++ codes "\n") ≡ dump_text at (take end cells)
dump_text-more rows start end at cells whole before next =
    let front : length (take start cells) ≡ start = omega (arith, length-take start cells) in
    let row = take (end - start) (drop start cells) in
    let row_length : length row ≡ end - start = omega (arith, length-take (end - start) (drop start cells), length-drop start cells) in
    let place : at + length (take start cells) ≡ at + start = omega arith in
    let all : end ≡ start + (end - start) = omega arith in
    sym (
    ap (λ n. dump_text at (take n cells)) all ∙ ap (dump_text at) (take-add start (end - start) cells)
    ∙ dump_text-append rows at (take start cells) row (omega arith)
    ∙ ap (λ a. dump_text at (take start cells) ++ dump_text a row) place
    ∙ ap (λ l. dump_text at (take start cells) ++ l) (dump_text-row (at + start) row (omega arith) (omega arith))
    )

-- the rows of a memory
module _ (memory : AddressSpace) (at : ℕ) where
  pub dump_text-next : (rows done n : ℕ) → done ≡ 16 * rows → dump_text at (bytes_from memory at (done + n)) ≡ dump_text at (bytes_from memory at done) ++ dump_text (at + done) (bytes_from memory (at + done) n)
  dump_text-next rows done n whole =
      let count = length-bytes_from memory at done in
      ap (dump_text at) (bytes_from-add memory at done n)
      ∙ dump_text-append rows at (bytes_from memory at done) (bytes_from memory (at + done) n) (count ∙ whole)
      ∙ ap (λ k. dump_text at (bytes_from memory at done) ++ dump_text (at + k) (bytes_from memory (at + done) n)) count

  -- whole rows stand in front of all
  pub dump_text-front : (done len : ℕ) → ((rows : ℕ) × (done ≡ 16 * rows)) ⊎ (done ≡ len) → done ≤ len → StartsWith (dump_text at (bytes_from memory at len)) (dump_text at (bytes_from memory at done))
  dump_text-front done len (inl rows) within =
      let all : len ≡ done + (len - done) = omega arith in
      StartsWith-from _ _ (dump_text (at + done) (bytes_from memory (at + done) (len - done))) (ap (λ k. dump_text at (bytes_from memory at k)) all ∙ dump_text-next rows.0 done (len - done) rows.1)
  dump_text-front done len (inr all) within = rw all (StartsWith-same (dump_text at (bytes_from memory at len)))

-- a piece behind whole pieces, or at the end
pub whole-pieces : (rows done n len most : ℕ) → done ≡ 16 * rows → n ≡ min (len - done) (16 * most) → done < len → ((more : ℕ) × (done + n ≡ 16 * more)) ⊎ (done + n ≡ len)
whole-pieces rows done n len most whole next before = ⊎_elim (λ short. inr (omega (arith, short))) (λ fits. inl (rows + most, omega (arith, fits))) (cases_lt len (done + 16 * most))
