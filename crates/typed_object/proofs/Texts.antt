-- The text of characters, as it comes together from one run of a memory after another.
use Rattle.std.proofs.Common.{◌≡◌, ◌≢◌, ℕ, zero, suc, ◌+◌, ◌-◌, ◌^◌, ◌<◌, ◌≤◌, Bool, true, false, cond, eqb, List, [], ◌∷◌, ◌++◌, length, map, take, None, Some, Result, Ok, Err, refl, sym, ap, ◌∙◌, append_assoc, arith, length-take}
use Rattle.std.specs.Prelude.{slice_index, nat_lt}
use Rattle.std.proofs.lemmas.Bool.Decides.{nat_tests}
use Rattle.std.proofs.lemmas.List.{append-nil, take-append-le}
use Rattle.layer_base.specs.AddressSpace.{AddressSpace, bytes_from}
use Rattle.layer_base.specs.declared.space.Space.{Space}
use Rattle.space_memory.specs.InSpace.{in_space}
use Rattle.type_layout.specs.declared.fault.TypeFault.TheVariants.{PastEnd}
use Rattle.typed_object.specs.Text.{put_before, text_from, StopsAt, TakesBeforeZero, AddsText}
use Rattle.typed_object.specs.declared.fault.ObjectFault.{ObjectFault}
use Rattle.typed_object.specs.declared.fault.ObjectFault.TheVariants.{Fault, Hole}

put_before-nothing : (text : Result (List ℕ) ObjectFault) → put_before [] text ≡ text
put_before-nothing (Ok bytes) = refl
put_before-nothing (Err fault) = refl

put_before-twice : (front more : List ℕ) (text : Result (List ℕ) ObjectFault) → put_before front (put_before more text) ≡ put_before (front ++ more) text
put_before-twice front more (Ok bytes) = ap (λ (l : List ℕ). Ok l) (sym (append_assoc front more bytes))
put_before-twice front more (Err fault) = refl

-- a byte of those that were read
byte_at : (memory : AddressSpace) (at k : ℕ) (bytes : List ℕ) → bytes_from memory at (length bytes) ≡ map Some bytes → k < length bytes → memory (at + k) ≡ Some (slice_index bytes k)
unfolding bytes_from
byte_at memory at k [] read within = absurd (omega arith)
byte_at memory at zero (byte ∷ bytes) read within =
    let here : at + 0 ≡ at = omega arith in
    rw here (cc read)
byte_at memory at (suc k) (byte ∷ bytes) read within =
    let place : at + suc k ≡ at + 1 + k = omega arith in
    rw place (byte_at memory (at + 1) k bytes (cc read) (omega arith))

-- bytes that were read and are not zero stand in front of what comes behind them
text_from-front : (memory : AddressSpace) (at n c : ℕ) (bytes : List ℕ) → bytes_from memory at (length bytes) ≡ map Some bytes → c ≤ length bytes → ((k : ℕ) → k < c → slice_index bytes k ≢ 0) → c ≤ n
    → text_from memory at n ≡ put_before (take c bytes) (text_from memory (at + c) (n - c))
unfolding text_from bytes_from
text_from-front memory at n zero bytes read within apart fits =
    let here : at + 0 ≡ at = omega arith in
    let all : n - 0 ≡ n = omega arith in
    rw (here, all) (sym (put_before-nothing (text_from memory at n)))
text_from-front memory at n (suc c) [] read within apart fits = absurd (omega arith)
text_from-front memory at zero (suc c) (byte ∷ bytes) read within apart fits = absurd (omega arith)
text_from-front memory at (suc n) (suc c) (byte ∷ bytes) read within apart fits =
    let here : memory at ≡ Some byte = cc read in
    let not_zero : eqb byte 0 ≡ false = let first = apart 0 (omega arith) in grind (arith, nat_tests) in
    let behind = text_from-front memory (at + 1) n c bytes (cc read) (omega arith) (λ k below. apart (suc k) (omega arith)) (omega arith) in
    let place : at + 1 + c ≡ at + suc c = omega arith in
    let left : n - c ≡ suc n - suc c = omega arith in
    rw (here, not_zero) (ap (put_before (byte ∷ [])) behind ∙ put_before-twice (byte ∷ []) (take c bytes) (text_from memory (at + 1 + c) (n - c)) ∙ (λ i. put_before (byte ∷ take c bytes) (text_from memory (place i) (left i))))

text_from-zero : (memory : AddressSpace) (at n : ℕ) → memory at ≡ Some 0 → 0 < n → text_from memory at n ≡ Ok []
unfolding text_from
text_from-zero memory at zero is some = absurd (omega arith)
text_from-zero memory at (suc n) is some = rw is refl

-- an absent byte that a text needs
pub text_from-absent : (memory : AddressSpace) (at n : ℕ) → memory at ≡ None → at < 2 ^ 64 → 0 < n → text_from memory at n ≡ Err (Hole at)
unfolding text_from
text_from-absent memory at zero absent low some = absurd (omega arith)
text_from-absent memory at (suc n) absent low some = let below : nat_lt at (2 ^ 64) ≡ true = grind (arith, nat_tests) in rw (absent, below) refl

-- a byte behind the last address
pub text_from-past : (memory : AddressSpace) (space : Space) (at n : ℕ) → 2 ^ 64 ≤ at → 0 < n → text_from (in_space memory space) at n ≡ Err (Fault PastEnd)
unfolding text_from in_space
text_from-past memory space at zero past some = absurd (omega arith)
text_from-past memory space at (suc n) past some = let above : nat_lt at (2 ^ 64) ≡ false = grind (arith, nat_tests) in rw (above, above) refl

-- bytes that end a text, or a front of it
module _ (memory : AddressSpace) (at missing : ℕ) (bytes : List ℕ) (read : bytes_from memory at (length bytes) ≡ map Some bytes) (fits : length bytes ≤ missing) (count : ℕ) (within : count ≤ length bytes) where
  stops : (ended : Bool) → text_from memory at missing ≡ put_before (take count bytes) (text_from memory (at + count) (missing - count)) → StopsAt bytes count ended
      → text_from memory at missing ≡ cond ended (Ok (take count bytes)) (put_before (take count bytes) (text_from memory (at + length (take count bytes)) (missing - length (take count bytes))))
  stops true front stop =
      let zero_there : memory (at + count) ≡ Some 0 = byte_at memory at count bytes read stop.0 ∙ ap (λ (n : ℕ). Some n) stop.1 in
      let ends : text_from memory (at + count) (missing - count) ≡ Ok [] = let last = stop.0 in text_from-zero memory (at + count) (missing - count) zero_there (omega arith) in
      front ∙ ap (put_before (take count bytes)) ends ∙ ap (λ (l : List ℕ). Ok l) (append-nil (take count bytes))
  stops false front stop =
      let size : count ≡ length (take count bytes) = omega (arith, length-take count bytes) in
      front ∙ (λ i. put_before (take count bytes) (text_from memory (at + size i) (missing - size i)))

-- one run's bytes are added
adds : (memory : AddressSpace) (at missing : ℕ) (old new bytes : List ℕ) (ended : Bool) → bytes_from memory at (length bytes) ≡ map Some bytes → length bytes ≤ missing → TakesBeforeZero old new bytes ended → AddsText memory at missing old new ended
adds memory at missing old new bytes ended read fits taken =
    let within = taken.within in
    let front = text_from-front memory at missing taken.count bytes read within taken.not_zero (omega arith) in
    (take taken.count bytes, taken.put, stops memory at missing bytes read fits taken.count within ended front taken.stops)

pub run-adds : (memory : AddressSpace) (at missing count : ℕ) (old new buf rest : List ℕ) (ended : Bool) → count ≤ length buf → count ≤ missing → bytes_from memory at count ≡ map Some (take count buf) → TakesBeforeZero old new (take count (buf ++ rest)) ended
    → AddsText memory at missing old new ended
run-adds memory at missing count old new buf rest ended within fits read taken =
    let front : take count (buf ++ rest) ≡ take count buf = take-append-le count buf rest within in
    let size : length (take count buf) ≡ count = omega (arith, length-take count buf) in
    adds memory at missing old new (take count buf) ended (ap (bytes_from memory at) size ∙ read) (omega arith) (rw front at taken)

-- ---- one run after another

-- bytes are the front of a text, and what is left of it begins behind them
abbrev pub IsText : AddressSpace → ℕ → ℕ → List ℕ → Type 0
IsText memory at count front = text_from memory at count ≡ put_before front (text_from memory (at + length front) (count - length front))

module _ (memory : AddressSpace) (at count : ℕ) (front : List ℕ) (so_far : IsText memory at count front) where
  -- the text is whole where nothing is left
  pub text_from-whole : count ≤ length front → text_from memory at count ≡ Ok front
  unfolding text_from
  text_from-whole full =
      let none : count - length front ≡ 0 = omega arith in
      let left : text_from memory (at + length front) (count - length front) ≡ Ok [] = ap (text_from memory (at + length front)) none in
      so_far ∙ ap (put_before front) left ∙ ap (λ (l : List ℕ). Ok l) (append-nil front)

  -- a fault of what is left is the text's
  pub text_from-fault : (fault : ObjectFault) → text_from memory (at + length front) (count - length front) ≡ Err fault → text_from memory at count ≡ Err fault
  text_from-fault fault is = so_far ∙ ap (put_before front) is
