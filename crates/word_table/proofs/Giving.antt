-- How the words of a table are given one by one.
use Rattle.std.proofs.Common.{◌≡◌, ℕ, ◌+◌, ◌-◌, ◌*◌, ◌≤◌, List, [], ◌∷◌, ◌++◌, length, Option, Result, Ok, Err, sym, ap, ◌∙◌, arith}
use Rattle.std.specs.Prelude.{OnOk}
use Rattle.layer_base.specs.AddressSpace.{AddressSpace}
use Rattle.word_table.specs.Kept.{left_from}
use Rattle.word_table.specs.Table.{slot_address, listed, words_of}
use Rattle.word_table.specs.Words.{words_from}
use Rattle.word_table.specs.declared.table.WordTable.{WordTable}
use Rattle.word_table.proofs.WordLists.{words_from-none, words_from-add}

module _ (memory : AddressSpace) (table : WordTable) where
  -- before the first is given
  pub left-all : (kept : List (Option ℕ)) → kept ≡ [] → left_from memory table 0 kept ≡ words_of memory table
  unfolding left_from words_of
  left-all kept none =
      let start : slot_address table (0 + length kept) ≡ table.base = omega (arith, ap length none) in
      let count : listed table - (0 + length kept) ≡ listed table = omega (arith, ap length none) in
      λ i. none i ++ words_from memory (start i) (count i)

  -- words that were read stand in front of the others
  pub left-filled : (index : ℕ) (old new : List (Option ℕ)) → old ≡ [] → length new ≤ listed table - index → new ≡ words_from memory (slot_address table index) (length new) → left_from memory table index new ≡ left_from memory table index old
  unfolding left_from
  left-filled index old new none fits read =
      let start : slot_address table (index + length old) ≡ slot_address table index = omega (arith, ap length none) in
      let count : listed table - (index + length old) ≡ length new + (listed table - (index + length new)) = omega (arith, ap length none) in
      let next : slot_address table index + 8 * length new ≡ slot_address table (index + length new) = omega arith in
      let all : words_from memory (slot_address table index) (length new + (listed table - (index + length new))) ≡ new ++ words_from memory (slot_address table (index + length new)) (listed table - (index + length new)) =
      words_from-add memory (slot_address table index) (length new) (listed table - (index + length new)) ∙ (λ i. sym read i ++ words_from memory (next i) (listed table - (index + length new))) in
      sym all ∙ sym (λ i. none i ++ words_from memory (start i) (count i))

  -- the first is given
  pub left-given : (index : ℕ) (word : Option ℕ) (old new : List (Option ℕ)) → old ≡ word ∷ new → left_from memory table index old ≡ word ∷ left_from memory table (index + 1) new
  unfolding left_from
  left-given index word old new first =
      let one : length old ≡ length new + 1 = ap length first ∙ omega arith in
      let read : index + length old ≡ index + 1 + length new = omega arith in
      λ i. first i ++ words_from memory (slot_address table (read i)) (listed table - read i)

  -- none is left
  pub left-none : (index : ℕ) (kept : List (Option ℕ)) → kept ≡ [] → listed table ≤ index → left_from memory table index kept ≡ []
  unfolding left_from
  left-none index kept none full =
      let count : listed table - (index + length kept) ≡ 0 = omega arith in
      (λ i. none i ++ words_from memory (slot_address table (index + length kept)) (count i)) ∙ words_from-none memory (slot_address table (index + length kept))

  -- words were read where none was kept, unless the call failed
  pub left-refilled : {E : Type 0} (result : Result (Unit {0}) E) (index most : ℕ) (old new : List (Option ℕ)) → old ≡ [] → most ≤ listed table - index → OnOk result (length new ≤ most) → OnOk result (new ≡ words_from memory (slot_address table index) (length new))
      → OnOk result (left_from memory table index new ≡ left_from memory table index old)
  left-refilled (Ok done) index most old new none fits few read = left-filled index old new none (omega arith) read
  left-refilled (Err fault) index most old new none fits few read = tt

  -- none was kept after the filling
  pub gives-none : (index : ℕ) (old filled taken : List (Option ℕ)) → left_from memory table index filled ≡ left_from memory table index old → filled ≡ [] → taken ≡ [] → listed table ≤ index → (left_from memory table index old ≡ []) × (left_from memory table index taken ≡ [])
  gives-none index old filled taken same none rest full = (sym same ∙ left-none index filled none full, left-none index taken rest full)

  -- the first of those that were kept after the filling was taken
  pub gives-first : (index : ℕ) (word : Option ℕ) (old filled taken : List (Option ℕ)) → left_from memory table index filled ≡ left_from memory table index old → filled ≡ word ∷ taken → left_from memory table index old ≡ word ∷ left_from memory table (index + 1) taken
  gives-first index word old filled taken same first = sym same ∙ left-given index word filled taken first
