-- The laws of the first accepted hit.
use Rattle.std.proofs.Common.{◌≡◌, ℕ, List, [], ◌∷◌, true, false, Option, None, Some, Ok, refl, sym, ap, ◌∙◌}
use Rattle.std.specs.Prelude.{is_some}
use Rattle.std.specs.Option.{option_or}
use Rattle.chunk_scanner.specs.State.{GivesFirst}
use Rattle.needle_search.specs.declared.hit.Hit.{Hit}
use Rattle.kernel_records.specs.declared.kernel.Kernel.{Kernel}
use Rattle.kernel_find.specs.Candidate.{first_accepted}

or-some : (first second : Option Kernel) → is_some first ≡ true → option_or first second ≡ first
or-some None second is = absurd (cc)
or-some (Some kernel) second is = refl

or-none : (first second : Option Kernel) → is_some first ≡ false → option_or first second ≡ second
or-none None second is = refl
or-none (Some kernel) second is = absurd (cc)

module _ (kernel_from : ℕ → Option Kernel) (old new : List Hit) (hit : Hit) (passed : first_accepted kernel_from old ≡ first_accepted kernel_from (hit ∷ new)) where
  first : first_accepted kernel_from old ≡ option_or (kernel_from hit.at) (first_accepted kernel_from new)
  unfolding first_accepted
  first = passed

  -- the next hit is accepted
  pub accepted-now : (kernel : Option Kernel) → kernel ≡ kernel_from hit.at → is_some kernel ≡ true → kernel ≡ first_accepted kernel_from old
  accepted-now kernel same some = same ∙ sym (first ∙ or-some (kernel_from hit.at) (first_accepted kernel_from new) (ap is_some (sym same) ∙ some))

  -- the next hit is not accepted
  pub accepted-later : (kernel : Option Kernel) → kernel ≡ kernel_from hit.at → is_some kernel ≡ false → first_accepted kernel_from old ≡ first_accepted kernel_from new
  accepted-later kernel same none = first ∙ or-none (kernel_from hit.at) (first_accepted kernel_from new) (ap is_some (sym same) ∙ none)

-- no hit is left
pub accepted-never : (kernel_from : ℕ → Option Kernel) (old left : List Hit) → first_accepted kernel_from old ≡ first_accepted kernel_from left → left ≡ [] → None ≡ first_accepted kernel_from old
unfolding first_accepted
accepted-never kernel_from old left passed none = sym (passed ∙ ap (first_accepted kernel_from) none)

-- a scanner that gives no hit has none left
pub gives-none : (old new : List Hit) (found : Option Hit) → ((hit : Hit) → found ≡ Some hit → ⊥) → GivesFirst old new (Ok found) → old ≡ []
gives-none old new (Some hit) never gives = absurd (never hit refl)
gives-none old new None never gives = gives.0
