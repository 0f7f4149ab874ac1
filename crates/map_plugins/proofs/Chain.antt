-- The text of the areas of a memory descriptor, by the walk along their chain.
use Rattle.std.proofs.Common.{◌≡◌, ℕ, List, ◌++◌, Result, Ok, Err, sym, ap, ◌∙◌}
use Rattle.std.specs.List.{flat_map}
use Rattle.std.proofs.lemmas.List.Folds.{flat_map-map}
use Rattle.layer_base.specs.AddressSpace.{AddressSpace}
use Rattle.isf_reader.specs.Table.{IsfTable}
use Rattle.kernel_records.specs.declared.kernel.Kernel.{Kernel}
use Rattle.kernel_records.specs.declared.stop.Stop.{Stop}
use Rattle.list_walk.specs.Objects.{objects, stop_of}
use Rattle.list_walk.specs.State.{WalkState}
use Rattle.typed_object.specs.Ground.{kernel_memory}
use Rattle.vma_walk.specs.Area.{area_members, area_at}
use Rattle.vma_walk.specs.Areas.{area_walk, areas_of, stop_for, areas, area_stop}
use Rattle.walk_text.specs.Added.{end_line}
use Rattle.walk_text.specs.WalkText.{walk_text}
use Rattle.map_plugins.specs.Maps.{head, rows_text, areas_text}
use Rattle.map_plugins.specs.Row.{area_row}

module _ (physical : AddressSpace) (table : IsfTable) (kernel : Kernel) (mm : ℕ) where
  -- the text of what a walk gives
  abbrev text-by : Result WalkState Stop → List ℕ
  text-by walk = head ++ rows_text physical table kernel (areas_of (kernel_memory physical kernel) table walk) (stop_for (kernel_memory physical kernel) walk)

  -- it is that of the areas
  text-of-areas : (walk : Result WalkState Stop) → walk ≡ area_walk table kernel mm → text-by walk ≡ areas_text physical table kernel mm
  unfolding areas area_stop
  text-of-areas walk is = ap text-by is

  -- the rows of a walk's objects are those of the areas
  pub walk-areas : (walk : WalkState) → Ok walk ≡ area_walk table kernel mm
      → head ++ walk_text (λ at. area_row (kernel_memory physical kernel) table kernel (area_at (kernel_memory physical kernel) table (area_members table) at)) (kernel_memory physical kernel) walk ≡ areas_text physical table kernel mm
  walk-areas walk is =
      ap (λ rows. head ++ (rows ++ end_line (stop_of (kernel_memory physical kernel) walk)))
      (sym (flat_map-map (area_row (kernel_memory physical kernel) table kernel) (area_at (kernel_memory physical kernel) table (area_members table)) (objects (kernel_memory physical kernel) walk)))
      ∙ text-of-areas (Ok walk) is

  -- without a walk there are none
  pub no-areas : (stop : Stop) → Err stop ≡ area_walk table kernel mm → head ++ end_line stop ≡ areas_text physical table kernel mm
  no-areas stop is = text-of-areas (Err stop) is
