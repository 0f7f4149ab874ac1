-- How a kept run is stored as numbers and lists.
use Rattle.std.specs.Prelude.{◌≡◌, ℕ, Bool, true, false, Option, None, Some, refl}
use Rattle.std.specs.Coded.{Coded, code_by, coded×, coded_ℕ, coded_bool, coded_option}
use Rattle.layer_base.specs.Mapped.{KeptRun}
use Rattle.layer_base.specs.declared.space.Levels.{Levels}
use Rattle.layer_base.specs.declared.space.Levels.TheVariants.{Four, Five}
use Rattle.layer_base.specs.declared.space.Mapped.{Mapped}
use Rattle.layer_base.specs.declared.space.Space.{Space}
use Rattle.layer_base.specs.declared.space.Space.TheVariants.{Phys, Paged}

abbrev are_four : Levels → Bool
are_four Four = true
are_four Five = false

abbrev levels_from : Bool → Levels
levels_from true = Four
levels_from false = Five

pub levels_again : (levels : Levels) → levels_from (are_four levels) ≡ levels
levels_again Four = refl
levels_again Five = refl

abbrev levels_code : Coded Levels
levels_code = code_by Bool coded_bool are_four levels_from levels_again

abbrev tables_of : Space → Option (ℕ × Levels)
tables_of Phys = None
tables_of (Paged root levels) = Some (root, levels)

abbrev space_over : Option (ℕ × Levels) → Space
space_over None = Phys
space_over (Some tables) = Paged tables.0 tables.1

pub space_again : (space : Space) → space_over (tables_of space) ≡ space
space_again Phys = refl
space_again (Paged root levels) = refl

abbrev space_code : Coded Space
space_code = code_by (Option (ℕ × Levels)) (coded_option (coded× coded_ℕ levels_code)) tables_of space_over space_again

abbrev run_code : Coded Mapped
run_code =
    code_by (ℕ × (ℕ × Option ℕ)) (coded× coded_ℕ (coded× coded_ℕ (coded_option coded_ℕ))) (λ r. (r.first, (r.last, r.to))) (λ p. record { first = p.0; last = p.1.0; to = p.1.1 }) (λ _. refl)

abbrev pub kept_code : Coded KeptRun
kept_code = code_by (Space × Mapped) (coded× space_code run_code) (λ k. (k.space, k.run)) (λ p. record { space = p.0; run = p.1 }) (λ _. refl)
