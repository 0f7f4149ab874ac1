-- How much of a symbol file was taken.
use Rattle.std.proofs.Common.{◌≡◌, ℕ, ◌+◌, ◌-◌, ◌≤◌, List, [], ◌++◌, length, take, Option, None, Some, refl, sym, subst, Result, Ok, ◌∙◌, ap, arith, length-append, length-take}
use Rattle.std.proofs.KnownBytes.{Consumes-all, Consumes-trans}
use Rattle.std.proofs.Math.Seq.{take-append-add}
use Rattle.std.proofs.lemmas.List.{take_all, take_at, take-append-le, take-take}
use Rattle.std.specs.Prelude.{IfSome}
use Rattle.std.specs.Io.KnownBytes.{Consumes, IsAtEnd}
use Rattle.layer_base.proofs.Appending.{StartsWith-from}
use Rattle.layer_base.proofs.Buffers.{front-more}
use Rattle.session.specs.Headline.{GaveAtMost, GavePrefix}
use Rattle.session.specs.SymbolFile.{TakesPiece, symbols_taken}
use Rattle.session.specs.declared.symbols.SymbolsFault.{SymbolsFault}
use Rattle.session.proofs.AtMost.{Consumes-front}

-- at most so many bytes are a front of what is taken
pub taken-front : (old new : Option (List ℕ)) (bytes : List ℕ) → length bytes ≤ 134217729 → Consumes old new bytes → IfSome old (λ held. GavePrefix old new (symbols_taken held))
unfolding symbols_taken
taken-front None new bytes few given = tt
taken-front (Some held) new bytes few given =
    let front = Consumes-front held new bytes given in
    let n = 134217729 - length bytes in
    let all : 134217729 ≡ length bytes + n = omega arith in
    (bytes, given, StartsWith-from (take 134217729 held) bytes (take n front.0) (ap (take 134217729) front.1 ∙ ap (λ k. take k (bytes ++ front.0)) all ∙ take-append-add bytes front.0 n))

-- so many bytes are all that is taken
pub taken-most : (old new : Option (List ℕ)) (bytes : List ℕ) → length bytes ≡ 134217729 → Consumes old new bytes → IfSome old (λ held. bytes ≡ symbols_taken held)
unfolding symbols_taken
taken-most None new bytes most given = tt
taken-most (Some held) new bytes most given =
    let front = Consumes-front held new bytes given in
    sym (ap (take 134217729) front.1 ∙ take_at bytes front.0 134217729 most)

-- and so are all bytes there are
pub taken-whole : (old new : Option (List ℕ)) (bytes : List ℕ) → length bytes ≤ 134217729 → Consumes old new bytes → IsAtEnd new → IfSome old (λ held. bytes ≡ symbols_taken held)
unfolding symbols_taken
taken-whole None new bytes few given end = tt
taken-whole (Some held) new bytes few given end =
    let all : bytes ≡ held = Consumes-all (Some held) new bytes [] bytes given end refl in
    all ∙ sym (take_all 134217729 held (omega (arith, ap length all)))

-- what was given is what is taken
pub taken-exactly : (old new : Option (List ℕ)) (bytes : List ℕ) → IfSome old (λ held. bytes ≡ symbols_taken held) → Consumes old new bytes → IfSome old (λ held. Consumes old new (symbols_taken held))
taken-exactly None new bytes same given = tt
taken-exactly (Some held) new bytes same given = subst (Consumes (Some held) new) same given

-- so many bytes were given, and stand at the front of the room for them
pub record HasTaken (old new : Option (List ℕ)) (bytes : List ℕ) (taken : ℕ) : Type 0 where
  pub given : Consumes old new (take taken bytes)
  pub within : taken ≤ length bytes
  pub few : length bytes ≤ 134217729

-- what was given so far
pub gave-so_far : (old new : Option (List ℕ)) (bytes : List ℕ) (taken : ℕ) → HasTaken old new bytes taken → GaveAtMost 134217729 old new
gave-so_far old new bytes taken so_far = record { given = take taken bytes; consumed = so_far.given; few = omega (arith, length-take taken bytes, so_far.few) }

-- with one call more, in room that may have grown
pub gave-piece : (old mid new : Option (List ℕ)) (bytes room room' : List ℕ) (taken : ℕ) (result : Result ℕ SymbolsFault)
    → HasTaken old mid bytes taken → take taken room ≡ take taken bytes → length room ≤ 134217729 → TakesPiece mid new taken room room' result → GaveAtMost 134217729 old new
gave-piece old mid new bytes room room' taken result so_far grown few piece =
    record {
      given = take taken bytes ++ piece.given;
      consumed = Consumes-trans old mid new (take taken bytes) piece.given so_far.given piece.consumed;
      few = omega (arith, length-append (take taken bytes) piece.given, length-take taken bytes, piece.few, few);
    }

-- that is a front of what is taken
pub gave-front : (old new : Option (List ℕ)) → GaveAtMost 134217729 old new → IfSome old (λ held. GavePrefix old new (symbols_taken held))
gave-front old new gave = taken-front old new gave.given gave.few gave.consumed

-- and where the source was at its end, what was taken before is all
pub taken-at_end : (old mid new : Option (List ℕ)) (bytes room room' : List ℕ) (taken count : ℕ) → HasTaken old mid bytes taken → take taken room ≡ take taken bytes → TakesPiece mid new taken room room' (Ok count) → count ≡ 0
    → IfSome old (λ held. take taken room' ≡ symbols_taken held) × IfSome old (λ held. Consumes old new (symbols_taken held))
taken-at_end old mid new bytes room room' taken count so_far grown piece none =
    let same : take taken room' ≡ take taken bytes ++ piece.given = ap (λ n. take n room') (omega (arith, none)) ∙ piece.kept ∙ ap (λ l. l ++ piece.given) grown in
    let given : Consumes old new (take taken room') = rw same (Consumes-trans old mid new (take taken bytes) piece.given so_far.given piece.consumed) in
    let few : length (take taken room') ≤ 134217729 = omega (arith, ap length same, length-append (take taken bytes) piece.given, length-take taken bytes, so_far.few, piece.counted, none) in
    let all = taken-whole old new (take taken room') few given (piece.end none) in
    (all, taken-exactly old new (take taken room') all given)

-- what a call puts behind a front in the room of a vector, of which the vector keeps so many bytes
module _ (taken count len : ℕ) (bytes buf rest tail : List ℕ) (inside : taken ≤ length bytes) (whole : taken + length buf ≡ length bytes) (kept : len ≡ length bytes) (few : count ≤ length buf) where
  pub length-piece : length (take len ((take taken bytes ++ (buf ++ rest)) ++ tail)) ≡ length bytes
  length-piece =
      let all : List ℕ = (take taken bytes ++ (buf ++ rest)) ++ tail in
      omega (arith, length-take len all, length-append (take taken bytes ++ (buf ++ rest)) tail, length-append (take taken bytes) (buf ++ rest), length-append buf rest, length-take taken bytes)

  pub take-piece : take (taken + count) (take len ((take taken bytes ++ (buf ++ rest)) ++ tail)) ≡ take taken bytes ++ take count buf
  take-piece =
      let front : List ℕ = take taken bytes ++ (buf ++ rest) in
      take-take (taken + count) len (front ++ tail) (omega arith)
      ∙ take-append-le (taken + count) front tail (omega (arith, length-append (take taken bytes) (buf ++ rest), length-append buf rest, length-take taken bytes))
      ∙ front-more taken bytes inside count buf rest few
