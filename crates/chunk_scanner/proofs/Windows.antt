-- The bytes that were read tell where needles occur.
use Rattle.std.proofs.Common.{◌≡◌, ◌≢◌, ℕ, zero, suc, ◌+◌, ◌-◌, ◌<◌, ◌≤◌, ◌⊎◌, inl, inr, List, [], ◌∷◌, length, map, take, get_or, slice_index_or, Bool, true, false, if◌then◌else◌, Option, None, Some, drop, refl, sym, subst, ap, ◌∙◌, ⊎_elim, arith, length-take, length-drop, get_or-take, get_or-drop}
use Rattle.std.specs.Prelude.{IfSome, MatchOption}
use Rattle.std.proofs.lemmas.Bool.{cases_lt, cases_eq}
use Rattle.std.proofs.lemmas.List.{drop_all, drop-take, drop-drop}
use Rattle.std.proofs.lemmas.Option.{none-some, same_Some}
use Rattle.memchr.specs.Find.{OccursAt}
use Rattle.layer_base.specs.AddressSpace.{AddressSpace, bytes_from}
use Rattle.chunk_scanner.specs.Filled.{IsReadWithin}
use Rattle.chunk_scanner.specs.Hits.{occurs, up_to}
use Rattle.chunk_scanner.specs.Window.{AreBytesFrom}
use Rattle.chunk_scanner.specs.Position.{addresses_left, IsWanted}
use Rattle.chunk_scanner.specs.Search.{IsEnough, IsKnownUntil, Tells}
use Rattle.chunk_scanner.specs.declared.filled.Filled.{Filled}
use Rattle.chunk_scanner.specs.declared.position.Position.{Position}
use Rattle.chunk_scanner.specs.declared.wanted.Wanted.{Wanted}
use Rattle.chunk_scanner.proofs.Occurs.{occurs-byte, occurs-all, up_to-within, up_to-behind}

-- each of the bytes from an address on
byte-from : (memory : AddressSpace) (at n : ℕ) (bytes : List ℕ) → bytes_from memory at n ≡ map Some bytes → (k : ℕ) → k < n → memory (at + k) ≡ Some (get_or bytes k 0)
unfolding bytes_from
byte-from memory at zero bytes read k below = absurd (omega arith)
byte-from memory at (suc n) [] read k below = absurd (cc read)
byte-from memory at (suc n) (byte ∷ bytes) read zero below =
    let here : at + 0 ≡ at = omega arith in
    let front : memory at ≡ Some byte = cc read in
    rw here front
byte-from memory at (suc n) (byte ∷ bytes) read (suc k) below =
    let next : at + 1 + k ≡ at + suc k = omega arith in
    let rest : bytes_from memory (at + 1) n ≡ map Some bytes = cc read in
    rw next at (byte-from memory (at + 1) n bytes rest k (omega arith))

module _ (memory : AddressSpace) (wanted : Wanted) (at : ℕ) (window : List ℕ) (filled : Filled) (until : ℕ) (sound : IsWanted wanted) (bytes : AreBytesFrom memory at window) (length-window : length window ≡ filled.count)
    (behind : IfSome filled.hole (λ last. (a : ℕ) → at + filled.count ≤ a → a ≤ last → memory a ≡ None)) (known : IsKnownUntil wanted at filled until) (most : until ≤ wanted.last) (inside : at + filled.count ≤ wanted.last + 1) where
  abbrev part : AddressSpace
  part = up_to wanted.last memory

  -- a byte of the window
  byte-at : (place k : ℕ) → place + k < filled.count → part (at + place + k) ≡ Some (get_or window (place + k) 0)
  byte-at place k below =
      let same : at + place + k ≡ at + (place + k) = omega arith in
      rw same (up_to-within wanted.last memory (at + (place + k)) (omega arith) ∙ bytes (place + k) (omega arith))

  -- a needle that occurs does not pass the window
  module _ (place : ℕ) (needle : List ℕ) (within : at + place ≤ until) (some : 1 ≤ length needle) (short : length needle ≤ wanted.longest) (found : occurs part (at + place) needle ≡ true) where
    present : (k : ℕ) → k < length needle → part (at + place + k) ≡ None → ⊥
    present k below absent = none-some (get_or needle k 0) (sym absent ∙ occurs-byte part (at + place) needle found k below)

    ends : place + length needle ≤ filled.count
    ends =
        ⊎_elim
        (λ past. absurd (by filled.hole past known behind))
        (λ fine. fine)
        (cases_lt filled.count (place + length needle))
      where
        by : (hole : Option ℕ) → filled.count < place + length needle
            → MatchOption hole (((until ≡ wanted.last) × (at + filled.count ≡ wanted.last + 1)) ⊎ (until + wanted.longest ≤ at + filled.count)) (λ last. (until ≤ last) × (at + filled.count ≤ until))
            → IfSome hole (λ last. (a : ℕ) → at + filled.count ≤ a → a ≤ last → memory a ≡ None) → ⊥
        by None past (inl end) hole = present (filled.count - place) (omega (arith, end.0, end.1)) (up_to-behind wanted.last memory (at + place + (filled.count - place)) (omega (arith, end.0, end.1)))
        by None past (inr room) hole = omega (arith, room)
        by (Some last) past reach hole =
            let there = at + place + (filled.count - place) in
            present (filled.count - place) (omega arith) (up_to-within wanted.last memory there (omega (arith, reach.0, reach.1)) ∙ hole there (omega (arith, reach.1)) (omega (arith, reach.0, reach.1)))

    stands : OccursAt window needle place
    stands = record {
      fits = omega (arith, ends, length-window);
      reads = λ j below. same_Some _ _ (sym (byte-at place j (omega (arith, ends))) ∙ occurs-byte part (at + place) needle found j below);
    }

  occurs-there : (place : ℕ) (needle : List ℕ) → OccursAt window needle place → occurs part (at + place) needle ≡ true
  occurs-there place needle stands =
      let end : place + length needle ≤ filled.count = omega (arith, stands.fits, length-window) in
      occurs-all part (at + place) needle (λ k below. byte-at place k (omega arith) ∙ ap (λ (byte : ℕ). Some byte) (stands.reads k below))

  pub tells-filled : Tells part wanted.needles at window until
  tells-filled = record {
    there = λ place number within inside stands. occurs-there place (slice_index_or wanted.needles number []) stands;
    only = λ place number within inside found. stands place (slice_index_or wanted.needles number []) within (sound.needles.each number [] inside).some (sound.each number [] inside) found;
  }

-- bytes that are kept in the front of a buffer, and those that were read behind them
pub joined-bytes : (memory : AddressSpace) (at kept n m : ℕ) (buf old : List ℕ) → take kept buf ≡ old → length old ≡ kept → kept + n ≤ length buf → m ≡ kept + n → AreBytesFrom memory at old → bytes_from memory (at + kept) n ≡ map Some (take n (drop kept buf)) → AreBytesFrom memory at (take m buf)
joined-bytes memory at kept n m buf old front size room sum before read k below =
    let within : k < m = omega (arith, length-take m buf) in
    let here : get_or (take m buf) k 0 ≡ get_or buf k 0 = get_or-take m buf k 0 within in
    ⊎_elim
    (λ early.
    let byte : get_or buf k 0 ≡ get_or old k 0 = sym (get_or-take kept buf k 0 early) ∙ ap (λ (bytes : List ℕ). get_or bytes k 0) front in
    before k (omega arith) ∙ ap (λ (b : ℕ). Some b) (sym (here ∙ byte)))
    (λ late.
    let there : at + kept + (k - kept) ≡ at + k = omega arith in
    let index : kept + (k - kept) ≡ k = omega arith in
    let inside : k - kept < n = omega arith in
    let byte : get_or (take n (drop kept buf)) (k - kept) 0 ≡ get_or buf k 0 = get_or-take n (drop kept buf) (k - kept) 0 inside ∙ get_or-drop kept buf (k - kept) 0 ∙ ap (λ i. get_or buf i 0) index in
    rw there at (byte-from memory (at + kept) n (take n (drop kept buf)) read (k - kept) inside) ∙ ap (λ (b : ℕ). Some b) (byte ∙ sym here))
    (cases_lt k kept)

-- the same as a window of the buffer
pub joined-window : (memory : AddressSpace) (at kept n start end : ℕ) (items buf old : List ℕ) → items ≡ buf → start ≡ 0 → end ≡ kept + n → take kept buf ≡ old → length old ≡ kept → kept + n ≤ length buf → AreBytesFrom memory at old → bytes_from memory (at + kept) n ≡ map Some (take n (drop kept buf)) → AreBytesFrom memory at (take (end - start) (drop start items))
joined-window memory at kept n start end items buf old same none sum front size room before read =
    let whole : end - 0 ≡ end = omega arith in
    let window : take (end - start) (drop start items) ≡ take end buf = ap (λ s. take (end - s) (drop s items)) none ∙ ap (λ m. take m items) whole ∙ ap (take end) same in
    subst (AreBytesFrom memory at) (sym window) (joined-bytes memory at kept n end buf old front size room sum before read)

-- what was read behind the bytes that were kept, as what is kept now
pub read-behind : (at kept more behind : ℕ) (filled : Filled) → kept ≤ more → behind ≤ more - kept → (behind ≢ more - kept → 4095 ≤ behind) → IsReadWithin (at + kept) behind filled → IsReadWithin at more (record { count = kept + filled.count; hole = filled.hole })
read-behind at kept more behind filled fits few enough read = by filled.hole read
  where
    by : (hole : Option ℕ) → MatchOption hole ((1 ≤ filled.count) × (filled.count ≤ behind + 1) × (filled.count ≢ behind + 1 → 4096 ≤ filled.count)) (λ last. (at + kept + filled.count ≤ last) × (filled.count ≤ behind))
        → MatchOption hole ((1 ≤ kept + filled.count) × (kept + filled.count ≤ more + 1) × (kept + filled.count ≢ more + 1 → 4096 ≤ kept + filled.count)) (λ last. (at + (kept + filled.count) ≤ last) × (kept + filled.count ≤ more))
    by None some = (
      omega (arith, some.0),
      omega (arith, some.1),
      λ short. ⊎_elim (λ all. let less : behind ≢ more - kept = λ same. short (omega arith) in let room = enough less in omega arith) (λ part. let room = some.2 part in omega arith) (cases_eq filled.count (behind + 1)),
    )
    by (Some last) some = (omega (arith, some.0), omega (arith, some.1))

-- a window that passed so many of its bytes, or all of them
pub passed-kept : (items : List ℕ) (start end count passed : ℕ) → start ≤ end → passed ≤ count → passed ≤ end - start → (passed ≢ count → passed ≡ end - start) → take (end - (start + passed)) (drop (start + passed) items) ≡ drop count (take (end - start) (drop start items))
passed-kept items start end count passed order few fits whole =
    ⊎_elim
    (λ same.
    let sum : count + (end - (start + passed)) ≡ end - start = omega arith in
    let there : start + count ≡ start + passed = omega arith in
    sym (ap (λ n. drop count (take n (drop start items))) (sym sum)
    ∙ drop-take count (end - (start + passed)) (drop start items)
    ∙ ap (take (end - (start + passed))) (drop-drop count start items ∙ ap (λ n. drop n items) there)))
    (λ other.
    let all : passed ≡ end - start = whole other in
    let none : end - (start + passed) ≡ 0 = omega arith in
    ap (λ n. take n (drop (start + passed) items)) none ∙ take-none (drop (start + passed) items) ∙ sym (drop_all count (take (end - start) (drop start items)) (omega (arith, length-take (end - start) (drop start items)))))
    (cases_eq passed count)
  where
    take-none : (l : List ℕ) → take 0 l ≡ []
    take-none l = refl

-- and what is left behind so many
pub passed-bytes : (memory : AddressSpace) (at n : ℕ) (bytes : List ℕ) → AreBytesFrom memory at bytes → AreBytesFrom memory (at + n) (drop n bytes)
passed-bytes memory at n bytes all k below =
    let there : at + n + k ≡ at + (n + k) = omega arith in
    rw there (all (n + k) (omega (arith, length-drop n bytes)) ∙ ap (λ (byte : ℕ). Some byte) (sym (get_or-drop n bytes k 0)))

-- the bytes that are kept once the scan has gone on to an address, or to its end
pub followed-bytes : (memory : AddressSpace) (from at : ℕ) (done : Bool) (old new : List ℕ) → from ≤ at → (done ≡ true → new ≡ []) → (done ≡ false → new ≡ drop (at - from) old) → AreBytesFrom memory from old → AreBytesFrom memory at new
followed-bytes memory from at true old new order cleared passed all k below = absurd (omega (arith, ap length (cleared refl)))
followed-bytes memory from at false old new order cleared passed all k below =
    let there : from + (at - from) ≡ at = omega arith in
    let rest : AreBytesFrom memory at (drop (at - from) old) = rw there at (passed-bytes memory from (at - from) old all) in
    rw (passed refl) (rest k (omega (arith, ap length (passed refl))))

-- no byte behind the last address is kept then either
pub followed-length : (last from : ℕ) (old new : List ℕ) (position : Position) → from + length old ≤ last + 1 → from ≤ position.at → (position.done ≡ true → new ≡ []) → (position.done ≡ false → new ≡ drop (position.at - from) old) → length new ≤ addresses_left last position
followed-length last from old new position inside order cleared passed = by position.done cleared passed
  where
    by : (done : Bool) → (done ≡ true → new ≡ []) → (done ≡ false → new ≡ drop (position.at - from) old) → length new ≤ (if done then 0 else last + 1 - position.at)
    by true none rest = omega (arith, ap length (none refl))
    by false none rest = omega (arith, ap length (rest refl), length-drop (position.at - from) old)

-- it reaches no address behind the last
pub enough-inside : (wanted : Wanted) (at : ℕ) (filled : Filled) → IsEnough wanted at filled → at + filled.count ≤ wanted.last + 1
enough-inside wanted at filled enough = by filled.hole enough
  where
    by : (hole : Option ℕ) → MatchOption hole ((1 ≤ filled.count) × (at + filled.count ≤ wanted.last + 1) × (at + filled.count ≢ wanted.last + 1 → wanted.longest ≤ filled.count)) (λ last. (at + filled.count ≤ last) × (at + filled.count ≤ wanted.last)) → at + filled.count ≤ wanted.last + 1
    by None some = some.1
    by (Some last) some = omega (arith, some.1)

-- what is read where too little was kept is enough
pub read-enough : (wanted : Wanted) (at : ℕ) (filled : Filled) → wanted.longest ≤ 4096 → at ≤ wanted.last → IsReadWithin at (wanted.last - at) filled → IsEnough wanted at filled
read-enough wanted at filled few low read = by filled.hole read
  where
    by : (hole : Option ℕ) → MatchOption hole ((1 ≤ filled.count) × (filled.count ≤ wanted.last - at + 1) × (filled.count ≢ wanted.last - at + 1 → 4096 ≤ filled.count)) (λ last. (at + filled.count ≤ last) × (filled.count ≤ wanted.last - at))
        → MatchOption hole ((1 ≤ filled.count) × (at + filled.count ≤ wanted.last + 1) × (at + filled.count ≢ wanted.last + 1 → wanted.longest ≤ filled.count)) (λ last. (at + filled.count ≤ last) × (at + filled.count ≤ wanted.last))
    by None some = (some.0, omega (arith, some.1), λ short. let part : filled.count ≢ wanted.last - at + 1 = λ all. short (omega arith) in let room = some.2 part in omega arith)
    by (Some last) some = (some.0, omega (arith, some.1))
