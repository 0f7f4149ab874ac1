-- How a text and the lines behind it are written one after another.
use Rattle.std.proofs.Common.{◌≡◌, ℕ, List, ◌++◌, Option, Result, refl, subst}
use Rattle.std.specs.Prelude.{IsErr}
use Rattle.layer_base.specs.Known.{AppendsPrefix, Writes}
use Rattle.layer_base.proofs.Appending.{StartsWith-from, Writes-refused}
use Rattle.kernel_records.specs.declared.fault.PluginFault.{PluginFault}
use Rattle.kernel_records.specs.declared.fault.PluginFault.TheVariants as faults
use Rattle.walk_text.specs.Front.{WritesFront}
use Rattle.walk_text.specs.Passed.{CutShort}
use Rattle.walk_text.proofs.Fronts.{Prefix-behind}

-- a writer that was cut short wrote a front
cut-prefix : (written written' : Option (List ℕ)) (text rest : List ℕ) (fault : PluginFault) → CutShort written written' text rest fault → AppendsPrefix written written' (text ++ rest)
cut-prefix written written' text rest faults.Device appends = (text, appends, StartsWith-from (text ++ rest) text rest refl)
cut-prefix written written' text rest faults.Out prefix = prefix
cut-prefix written written' text rest faults.Memory prefix = prefix

module _ {E : Type 0} (written mid written' : Option (List ℕ)) (whole : List ℕ) (result : Result Unit E) (refused : IsErr result) where
  -- a front of the whole text was written, and the writer was cut short behind it
  pub whole-cut : (text rest : List ℕ) (fault : PluginFault) → WritesFront written mid whole (text ++ rest) → CutShort mid written' text rest fault → Writes written written' result whole
  whole-cut text rest fault front cut =
      Writes-refused written written' result whole refused (Prefix-behind written mid written' whole (text ++ rest) front (cut-prefix mid written' text rest fault cut))

  -- a front of the whole text was written, and the sink refused the rest
  pub whole-refused : (rest piece : List ℕ) → WritesFront written mid whole rest → piece ≡ rest → AppendsPrefix mid written' piece → Writes written written' result whole
  whole-refused rest piece front same prefix =
      Writes-refused written written' result whole refused (Prefix-behind written mid written' whole rest front (subst (AppendsPrefix mid written') same prefix))
