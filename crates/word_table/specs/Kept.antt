-- Words that are given one by one.
use Rattle.std.specs.Prelude.{◌≡◌, ◌≢◌, ℕ, ◌+◌, ◌-◌, ◌≤◌, List, [], ◌∷◌, ◌++◌, length, take, drop, Option, None, Some}
use Rattle.layer_base.specs.AddressSpace.{AddressSpace}
use Rattle.layer_base.specs.declared.space.Space.{Space}
use Rattle.word_table.specs.Table.{slot_address, listed}
use Rattle.word_table.specs.Words.{words_from}
use Rattle.word_table.specs.declared.kept.Kept.{Kept}
use Rattle.word_table.specs.declared.slots.Slot.{Slot}
use Rattle.word_table.specs.declared.table.WordTable.{WordTable}

-- the words that were read and weren't given yet
abbrev pub kept_words : Kept → List (Option ℕ)
kept_words kept = drop kept.start (take kept.end kept.words)

-- they stand in a buffer of 512
pub record IsKept (kept : Kept) : Type 0 where
  pub order : kept.start ≤ kept.end
  pub within : kept.end ≤ 512
  pub room : length kept.words ≡ 512

-- a table in a space, the index of the word that is given next, and the words that were read and weren't given yet
pub record SlotsState : Type 0 where
  pub space : Space
  pub table : WordTable
  pub index : ℕ
  pub kept : List (Option ℕ)

-- Words of a table that were read, the first of which has this index, and behind them those that weren't read yet, over
-- the memory of their space.
unfoldable pub left_from : AddressSpace → WordTable → ℕ → List (Option ℕ) → List (Option ℕ)
left_from memory table index kept = kept ++ words_from memory (slot_address table (index + length kept)) (listed table - (index + length kept))

-- the words that are left to give
abbrev pub words_left : AddressSpace → SlotsState → List (Option ℕ)
words_left memory slots = left_from memory slots.table slots.index slots.kept

-- how many they are
abbrev pub count_left : SlotsState → ℕ
count_left slots = listed slots.table - slots.index

-- the first of the words that were left is given and the others stay, or none was left
abbrev pub GivesWord : List (Option ℕ) → List (Option ℕ) → Option Slot → Type 0
GivesWord old new (Some slot) = old ≡ slot.word ∷ new
GivesWord old new None = (old ≡ []) × (new ≡ [])

-- a word is given with its index and its address, and the next one has the next index
pub record GivesSlot (old new : SlotsState) (slot : Slot) : Type 0 where
  pub index : slot.index ≡ old.index
  pub at : slot.at ≡ slot_address old.table old.index
  pub next : new.index ≡ old.index + 1
  pub fewer : count_left old ≡ count_left new + 1

abbrev pub GivesIndex : SlotsState → SlotsState → Option Slot → Type 0
GivesIndex old new (Some slot) = GivesSlot old new slot
GivesIndex old new None = Unit {0}

-- the first of the words that are kept is taken, or none was kept
abbrev pub TakesFirst : List (Option ℕ) → List (Option ℕ) → Option (Option ℕ) → Type 0
TakesFirst old new (Some word) = old ≡ word ∷ new
TakesFirst old new None = (old ≡ []) × (new ≡ [])

-- the first of the words that are kept is another one, or none is kept
abbrev pub IsNotNext : ℕ → List (Option ℕ) → Type 0
IsNotNext word [] = Unit {0}
IsNotNext word (first ∷ rest) = first ≢ Some word

-- no more words were read than are listed
pub record IsSlots (table : WordTable) (index : ℕ) (kept : Kept) : Type 0 where
  pub buffer : IsKept kept
  pub within : index + length (kept_words kept) ≤ listed table
