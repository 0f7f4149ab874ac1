-- The first of a list that passes a test.
use Rattle.std.proofs.Common.{◌≡◌, Bool, true, false, List, [], ◌∷◌, map, cond, Option, Some, option_map, find, refl, ap}

module _ {A B : Type 0} (make : A → B) (tells : B → A) (test : B → Bool) (told : (a : A) → tells (make a) ≡ a) where
  first-or : (x : A) (passes : Bool) (made : Option B) (rest : Option A) → option_map tells made ≡ rest → option_map tells (cond passes (Some (make x)) made) ≡ cond passes (Some x) rest
  first-or x true made rest same = ap Some (told x)
  first-or x false made rest same = same

  -- what is told of the first of some values, each of which tells what it was made of
  pub find-made : (xs : List A) → option_map tells (find test (map make xs)) ≡ find (λ a. test (make a)) xs
  find-made [] = refl
  find-made (x ∷ xs) = first-or x (test (make x)) (find test (map make xs)) (find (λ a. test (make a)) xs) (find-made xs)
