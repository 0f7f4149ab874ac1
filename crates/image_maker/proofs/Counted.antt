-- Large pages and tasks that are written one by one.
use Rattle.std.proofs.Common.{◌≡◌, ℕ, suc, ◌+◌, List, [], ◌∷◌, add-one, sym, ap, ◌∙◌}
use Rattle.image_maker.specs.PageTables.{large_page, large_pages}
use Rattle.image_maker.specs.Task.{task, tasks}
use Rattle.image_maker.specs.Written.{written}
use Rattle.image_maker.proofs.Writing.{written-nothing, behind}

module _ (number : ℕ) (bytes : List ℕ) where
  -- a large page more
  pub page-next : (index : ℕ) (old new : List ℕ) → old ≡ written (large_pages number index) bytes → new ≡ written (large_page number index ∷ []) old → new ≡ written (large_pages number (index + 1)) bytes
  page-next index old new before after =
      behind (large_pages number index) (large_page number index ∷ []) bytes old new before after
      ∙ ap (λ count. written (large_pages number count) bytes) (sym (add-one index))

  -- no task yet
  pub tasks-none : bytes ≡ written (tasks number 0) bytes
  unfolding tasks
  tasks-none = written-nothing bytes

  -- a task more
  pub tasks-next : (done : ℕ) (old new : List ℕ) → old ≡ written (tasks number done) bytes → new ≡ written (task number (done + 1)) old → new ≡ written (tasks number (done + 1)) bytes
  unfolding tasks
  tasks-next done old new before after =
      behind (tasks number done) (task number (suc done)) bytes old new before (after ∙ ap (λ index. written (task number index) old) (add-one done))
      ∙ ap (λ count. written (tasks number count) bytes) (sym (add-one done))
