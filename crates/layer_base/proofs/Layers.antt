-- A layer that stays the same over several calls.
use Rattle.std.proofs.Common.{ℕ, Option, refl, ◌∙◌, arith}
use Rattle.layer_base.specs.SameLayer.{IsSameLayer}
use Rattle.layer_base.specs.View.{View}
use Rattle.layer_base.specs.declared.layer.Kind.{Kind}

module _ {Y : Type 0} (view : Y → Option View) (kind : Y → Kind) (faults calls : Y → ℕ) where
  pub IsSameLayer-refl : (layer : Y) → IsSameLayer view kind faults calls layer layer
  IsSameLayer-refl layer = record { same_view = refl; same_kind = refl; no_less_faults = omega arith; no_less_calls = omega arith }

  pub IsSameLayer-trans : (first second third : Y) → IsSameLayer view kind faults calls first second → IsSameLayer view kind faults calls second third → IsSameLayer view kind faults calls first third
  IsSameLayer-trans first second third before after = record {
    same_view = after.same_view ∙ before.same_view;
    same_kind = after.same_kind ∙ before.same_kind;
    no_less_faults = omega (arith, before.no_less_faults, after.no_less_faults);
    no_less_calls = omega (arith, before.no_less_calls, after.no_less_calls);
  }
