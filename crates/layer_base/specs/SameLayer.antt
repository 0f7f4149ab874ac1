-- What every call leaves of a layer.
use Rattle.std.specs.Prelude.{◌≡◌, ℕ, ◌≤◌, Option}
use Rattle.layer_base.specs.View.{View}
use Rattle.layer_base.specs.declared.layer.Kind.{Kind}

-- it shows the same, under the same kind, and its counts didn't fall
pub record IsSameLayer {Y : Type 0} (view : Y → Option View) (kind : Y → Kind) (faults calls : Y → ℕ) (old new : Y) : Type 0 where
  pub same_view : view new ≡ view old
  pub same_kind : kind new ≡ kind old
  pub no_less_faults : faults old ≤ faults new
  pub no_less_calls : calls old ≤ calls new
