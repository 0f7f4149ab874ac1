-- The laws of what was written of the lines of hits.
use Rattle.std.proofs.Common.{ℕ, List, ◌++◌, Option}
use Rattle.layer_base.specs.AddressSpace.{AddressSpace}
use Rattle.layer_base.specs.Known.{AppendsPrefix}
use Rattle.layer_base.specs.declared.sink.SinkFault.{SinkFault}
use Rattle.layer_base.specs.declared.sink.SinkFault.TheVariants as sinks
use Rattle.needle_search.specs.declared.hit.Hit.{Hit}
use Rattle.kernel_records.specs.Fault.{plugin_fault_of_sink}
use Rattle.kernel_records.specs.declared.fault.PluginFault.{PluginFault}
use Rattle.kernel_records.specs.declared.fault.PluginFault.TheVariants as faults
use Rattle.scan_text.specs.Rows.{rows_of}
use Rattle.walk_text.proofs.Fronts.{Prefix-behind, WritesFront-prefix, WritesFront-trans}
use Rattle.walk_text.specs.Front.{WritesFront}
use Rattle.scan_text.specs.Written.{WritesFound, CutShort}
use Rattle.scan_text.specs.declared.listing.Listing.{Listing}

module _ (listing : Listing) (memory : AddressSpace) where
  -- where all that was found was written, any fault may be answered
  pub CutShort-found : (old new : Option (List ℕ)) (text : List ℕ) (left : List Hit) (fault : PluginFault) → WritesFound listing memory old new text left → CutShort listing memory old new text left fault
  CutShort-found old new text left faults.Device found = found
  CutShort-found old new text left faults.Out found = WritesFront-prefix old new text (rows_of listing memory (found.0 ++ left)) found.2
  CutShort-found old new text left faults.Memory found = WritesFront-prefix old new text (rows_of listing memory (found.0 ++ left)) found.2

  pub CutShort-refused : (old new : Option (List ℕ)) (text : List ℕ) (left : List Hit) (fault : SinkFault) → AppendsPrefix old new text → CutShort listing memory old new text left (plugin_fault_of_sink fault)
  CutShort-refused old new text left sinks.Failed prefix = prefix
  CutShort-refused old new text left sinks.Memory prefix = prefix

  pub CutShort-behind : (old mid new : Option (List ℕ)) (text rest : List ℕ) (left : List Hit) (fault : PluginFault) → WritesFront old mid text rest → CutShort listing memory mid new rest left fault → CutShort listing memory old new text left fault
  CutShort-behind old mid new text rest left faults.Device front cut = (cut.0, cut.1, WritesFront-trans old mid new text rest (rows_of listing memory (cut.0 ++ left)) front cut.2)
  CutShort-behind old mid new text rest left faults.Out front cut = Prefix-behind old mid new text rest front cut
  CutShort-behind old mid new text rest left faults.Memory front cut = Prefix-behind old mid new text rest front cut

  pub CutShort-prefix : (old new : Option (List ℕ)) (text : List ℕ) (left : List Hit) (fault : PluginFault) → CutShort listing memory old new text left fault → AppendsPrefix old new text
  CutShort-prefix old new text left faults.Device cut = WritesFront-prefix old new text (rows_of listing memory (cut.0 ++ left)) cut.2
  CutShort-prefix old new text left faults.Out cut = cut
  CutShort-prefix old new text left faults.Memory cut = cut
