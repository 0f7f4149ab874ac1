-- What was written of the lines of hits, and what is left to write.
use Rattle.std.specs.Prelude.{◌≡◌, ℕ, ◌+◌, ◌≤◌, min, List, [], ◌∷◌, ◌++◌, length, true, false, Bool, Option, Result, Ok, Err}
use Rattle.layer_base.specs.AddressSpace.{AddressSpace}
use Rattle.layer_base.specs.Known.{AppendsPrefix}
use Rattle.needle_search.specs.declared.hit.Hit.{Hit}
use Rattle.kernel_records.specs.declared.fault.PluginFault.{PluginFault}
use Rattle.kernel_records.specs.declared.fault.PluginFault.TheVariants as faults
use Rattle.kernel_records.specs.declared.fault.WalkFault.{WalkFault}
use Rattle.walk_text.specs.Front.{WritesFront}
use Rattle.scan_text.specs.Rows.{most_count, row_of, rows_of}
use Rattle.scan_text.specs.declared.listing.Listing.{Listing}

-- at most one hit was taken from the front
abbrev pub TakesOne : List Hit → List Hit → Type 0
TakesOne old new = (taken : List Hit) × (length taken ≤ 1) × (old ≡ taken ++ new)

-- the line of the first hit was added, or there was none; after a failure at most that hit was taken
abbrev pub AddsRow : Listing → AddressSpace → List Hit → List Hit → List ℕ → List ℕ → Result Bool WalkFault → Type 0
AddsRow listing memory old new text text' (Ok true) = (hit : Hit) × (old ≡ hit ∷ new) × (text' ≡ text ++ row_of listing memory hit.at)
AddsRow listing memory old new text text' (Ok false) = (old ≡ []) × (new ≡ []) × (text' ≡ text)
AddsRow listing memory old new text text' (Err fault) = TakesOne old new

-- all was written but the lines of the hits that are left, and of at most one before them, whose bytes were not read
abbrev pub WritesFound : Listing → AddressSpace → Option (List ℕ) → Option (List ℕ) → List ℕ → List Hit → Type 0
WritesFound listing memory old new text left = (unread : List Hit) × (length unread ≤ 1) × WritesFront old new text (rows_of listing memory (unread ++ left))

-- A writer that was cut short wrote a front of the text. Before a fault of the image was answered, the line of each hit
-- that was found was written.
abbrev pub CutShort : Listing → AddressSpace → Option (List ℕ) → Option (List ℕ) → List ℕ → List Hit → PluginFault → Type 0
CutShort listing memory old new text left faults.Device = WritesFound listing memory old new text left
CutShort listing memory old new text left faults.Out = AppendsPrefix old new text
CutShort listing memory old new text left faults.Memory = AppendsPrefix old new text

-- One hit was passed: of what is kept to be written and the lines that are left, a front was written. Or none was left.
abbrev pub Turns : Listing → AddressSpace → Option (List ℕ) → Option (List ℕ) → List Hit → List Hit → List ℕ → List ℕ → Result Bool PluginFault → Type 0
Turns listing memory written written' old new text text' (Ok true) =
    WritesFront written written' (text ++ rows_of listing memory old) (text' ++ rows_of listing memory new) × (length old ≡ 1 + length new)
Turns listing memory written written' old new text text' (Ok false) = WritesFront written written' text text' × (old ≡ []) × (new ≡ [])
Turns listing memory written written' old new text text' (Err fault) = CutShort listing memory written written' (text ++ rows_of listing memory old) new fault

-- all lines were written or are kept to be written, and counted as far as a count goes
abbrev pub WritesRows : Listing → AddressSpace → Option (List ℕ) → Option (List ℕ) → List Hit → List Hit → List ℕ → List ℕ → Result ℕ PluginFault → Type 0
WritesRows listing memory written written' old new text text' (Ok count) =
    WritesFront written written' (text ++ rows_of listing memory old) text' × (count ≡ min (length old) most_count)
WritesRows listing memory written written' old new text text' (Err fault) = CutShort listing memory written written' (text ++ rows_of listing memory old) new fault
