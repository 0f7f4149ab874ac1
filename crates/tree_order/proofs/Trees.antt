-- The rows over one another that are found in a list of keys are those of its tree.
use Rattle.std.proofs.Common.{◌≡◌, ℕ, List, length, map, Option, sym, ap, ◌∙◌, subst₂}
use Rattle.std.proofs.lemmas.List.{length-map}
use Rattle.tree_order.specs.Climbs.{entry}
use Rattle.tree_order.specs.Forest.{IsForest}
use Rattle.tree_order.specs.Parents.{parent, parent_by}
use Rattle.tree_order.specs.Tops.{over}
use Rattle.tree_order.specs.Tree.{branches, path_under, tree}
use Rattle.tree_order.specs.declared.key.Key.{Key}
use Rattle.tree_order.proofs.Ending.{over-forest}
use Rattle.tree_order.proofs.Keys.{entry-parents, parent-of_row, parent-within}

module _ (keys : List Key) (up above : List (Option ℕ)) (parents : up ≡ map (λ key. parent_by keys key.ppid) keys) (each : (row : ℕ) → entry above row ≡ over (entry up) (length up) row) (count : length above ≡ length up) where
  size : length up ≡ length keys
  size = ap length parents ∙ length-map keys (λ key. parent_by keys key.ppid)

  same_parents : entry up ≡ parent keys
  same_parents = λ i row. (ap (λ rows. entry rows row) parents ∙ entry-parents keys row) i

  same_over : entry above ≡ over (parent keys) (length keys)
  same_over = (λ i row. each row i) ∙ (λ i. over (same_parents i) (size i))

  pub rows-forest : IsForest (entry above) (length above)
  rows-forest = subst₂ IsForest (sym same_over) (sym (count ∙ size)) (over-forest (parent keys) (length keys) (λ row other is. (parent-of_row keys row other is, parent-within keys row other is)))

  pub rows-branches : branches (path_under (entry above) (length above)) (length above) ≡ tree keys
  rows-branches = λ i. branches (path_under (same_over i) ((count ∙ size) i)) ((count ∙ size) i)
