-- A text of pieces, one for each element of a list.
use Rattle.std.proofs.Common.{◌≡◌, ℕ, ◌+◌, ◌<◌, List, [], ◌∷◌, ◌++◌, length, get_or, take, drop, refl, sym, ◌∙◌, ap, take-append-drop, arith}
use Rattle.std.specs.List.{flat_map}
use Rattle.std.specs.Io.{StartsWith}
use Rattle.std.proofs.lemmas.Grind.{common_steps, flat_map-append}
use Rattle.layer_base.proofs.Appending.{StartsWith-from}

module _ {X : Type 0} (piece : X → List ℕ) (xs : List X) (i : ℕ) (x : X) (within : i < length xs) (here : x ≡ get_or xs i x) where
  -- one piece more
  pub flat_map-more : flat_map piece (take (i + 1) xs) ≡ flat_map piece (take i xs) ++ piece x
  flat_map-more = grind (arith, common_steps)

  -- the pieces up to one are a front of all
  pub flat_map-front : StartsWith (flat_map piece xs) (flat_map piece (take i xs) ++ piece x)
  flat_map-front =
      StartsWith-from _ _ (flat_map piece (drop (i + 1) xs)) (
      ap (flat_map piece) (sym (take-append-drop (i + 1) xs)) ∙ flat_map-append piece (take (i + 1) xs) (drop (i + 1) xs) ∙ ap (λ (l : List ℕ). l ++ flat_map piece (drop (i + 1) xs)) flat_map-more
      )
