-- How the bytes of a read come together from one run after another.
use Rattle.std.proofs.Common.{Option, ◌≡◌, ℕ, ◌+◌, ◌-◌, ◌*◌, ◌<◌, ◌≤◌, List, ◌++◌, length, map, take, None, Some, sym, ap, ◌∙◌, arith, length-append}
use Rattle.std.specs.Prelude.{IfSome}
use Rattle.std.proofs.Math.Nat.{mul-le-mul_right}
use Rattle.std.proofs.lemmas.List.{map-append, take_all}
use Rattle.std.proofs.lemmas.Option.{IfSome_then}
use Rattle.layer_base.specs.AddressSpace.{AddressSpace, bytes_from}
use Rattle.layer_base.proofs.Buffers.{length-front, front-kept, front-more}
use Rattle.layer_base.proofs.BytesFrom.{bytes_from-add}
use Rattle.layer_base.specs.Run.{IsTrueOf}
use Rattle.layer_base.specs.View.{View, physical}
use Rattle.layer_base.specs.declared.layer.Run.TheVariants.{Present, Absent}
use Rattle.layer_base.specs.declared.space.Space.{Space}
use Rattle.space_memory.specs.Hole.{IsGot}
use Rattle.space_memory.specs.InSpace.{in_space}
use Rattle.space_memory.specs.declared.memory.Got.TheVariants.{All, Hole}
use Rattle.space_memory.proofs.Holes.{hole-none, hole-first}
use Rattle.layer_base.proofs.Told.{IfSome-both}

-- a run of one byte at least pays for the steps that it took
pub enough : (done n cost start before now : ℕ) → 1 ≤ n → before ≤ start + done * cost → now ≤ before + cost → now ≤ start + (done + n) * cost
enough done n cost start before now some so_far took = let paid : 1 * cost ≤ n * cost = mul-le-mul_right cost some in omega (arith, paid)

module _ (memory : AddressSpace) (at done : ℕ) (buf : List ℕ) (inside : done ≤ length buf) (so_far : bytes_from memory at done ≡ map Some (take done buf)) where
  -- one run more
  more : (n : ℕ) (new rest : List ℕ) → n ≤ length new → bytes_from memory (at + done) n ≡ map Some (take n new) → bytes_from memory at (done + n) ≡ map Some (take (done + n) (take done buf ++ (new ++ rest)))
  more n new rest fits read =
      bytes_from-add memory at done n ∙ (λ i. so_far i ++ read i) ∙ sym (ap (λ (l : List ℕ). map Some l) (front-more done buf inside n new rest fits) ∙ map-append Some (take done buf) (take n new))

  -- a hole behind them
  stopped : (new rest : List ℕ) → 0 < length new → memory (at + done) ≡ None → IsGot memory at (take done buf ++ (new ++ rest)) (Hole (at + done))
  stopped new rest some absent =
      let far : at + done - at ≡ done = omega arith in
      let within : done < length (take done buf ++ (new ++ rest)) = omega (arith, length-front done buf inside, length-append {A = ℕ}) in
      (hole-first memory at done (length (take done buf ++ (new ++ rest))) (take done buf) so_far absent within, rw far (so_far ∙ ap (λ (l : List ℕ). map Some l) (sym (front-kept done buf inside (new ++ rest)))))

  -- all of them
  whole : length buf ≤ done → IsGot memory at buf All
  whole full =
      let all : done ≡ length buf = omega arith in
      let same : take done buf ≡ buf = take_all done buf full in
      let read : bytes_from memory at (length buf) ≡ map Some buf = ap (bytes_from memory at) (sym all) ∙ so_far ∙ ap (λ (l : List ℕ). map Some l) same in
      (hole-none memory at (length buf) buf read, read)

-- where the view is told, the bytes so far stand in front of the buffer
abbrev pub AreRead : Option View → Space → ℕ → ℕ → List ℕ → Type 0
AreRead told space at done buf = IfSome told (λ view. bytes_from (in_space (physical view) space) at done ≡ map Some (take done buf))

module _ (told : Option View) (space : Space) (at done : ℕ) (buf : List ℕ) (inside : done ≤ length buf) (so_far : AreRead told space at done buf) where
  pub read-present : (n : ℕ) (new rest : List ℕ) → n ≤ length new → IfSome told (λ view. IsTrueOf (in_space (physical view) space) (at + done) new (Present n)) → AreRead told space at (done + n) (take done buf ++ (new ++ rest))
  read-present n new rest fits read = IfSome-both told so_far read (λ view before run. more (in_space (physical view) space) at done buf inside before n new rest fits run)

  pub read-absent : (last : ℕ) (new rest : List ℕ) → 0 < length new → at + done ≤ last → IfSome told (λ view. IsTrueOf (in_space (physical view) space) (at + done) new (Absent last))
      → IfSome told (λ view. IsGot (in_space (physical view) space) at (take done buf ++ (new ++ rest)) (Hole (at + done)))
  read-absent last new rest some within read = IfSome-both told so_far read (λ view before hole. stopped (in_space (physical view) space) at done buf inside before new rest some (hole (at + done) (omega arith) within))

  pub read-all : length buf ≤ done → IfSome told (λ view. IsGot (in_space (physical view) space) at buf All)
  read-all full = IfSome_then told so_far (λ view before. whole (in_space (physical view) space) at done buf inside before full)
