-- How the lines of hits are written one after another.
use Rattle.std.proofs.Common.{◌≡◌, ℕ, suc, ◌+◌, ◌≤◌, List, ◌++◌, length, true, false, Bool, Option, Result, Ok, Err, refl, sym, ◌∙◌, ap, append_assoc, arith}
use Rattle.std.proofs.lemmas.List.{append-nil}
use Rattle.std.specs.Prelude.{min, IsErr, IsErrAnd}
use Rattle.std.specs.Io.KnownBytes.{Appends}
use Rattle.layer_base.specs.AddressSpace.{AddressSpace}
use Rattle.layer_base.specs.Known.{AppendsPrefix, Writes}
use Rattle.layer_base.specs.declared.sink.SinkFault.{SinkFault}
use Rattle.layer_base.proofs.Appending.{Writes-refused}
use Rattle.needle_search.specs.declared.hit.Hit.{Hit}
use Rattle.kernel_records.specs.Fault.{plugin_fault_of_sink}
use Rattle.kernel_records.specs.declared.fault.PluginFault.{PluginFault}
use Rattle.scan_text.specs.Rows.{end_of, listing_text, most_count, row_of, rows_of}
use Rattle.walk_text.specs.Front.{WritesFront}
use Rattle.scan_text.specs.Written.{AddsRow, CutShort, Turns, WritesRows}
use Rattle.scan_text.specs.declared.listing.Listing.{Listing}
use Rattle.scan_text.proofs.Written.{CutShort-behind, CutShort-prefix, CutShort-refused}
use Rattle.walk_text.proofs.Fronts.{Appends-behind, Prefix-behind, Prefix-front, WritesFront-more, WritesFront-prefix, WritesFront-trans}

-- one hit more is counted, as far as a count goes
pub counted-more : (count now left fewer whole : ℕ) → now ≡ min (count + 1) most_count → left ≡ 1 + fewer → min (count + left) most_count ≡ whole → min (now + fewer) most_count ≡ whole
counted-more count now left fewer whole more passed counted = omega (arith, more, passed, counted)

module _ (listing : Listing) (memory : AddressSpace) where
  -- a line was added
  adds-row : (old new : List Hit) (text mid : List ℕ) → AddsRow listing memory old new text mid (Ok true) → text ++ rows_of listing memory old ≡ mid ++ rows_of listing memory new
  adds-row old new text mid added =
      ap (λ (found : List Hit). text ++ rows_of listing memory found) added.1
      ∙ sym (append_assoc text (row_of listing memory added.0.at) (rows_of listing memory new))
      ∙ ap (λ (l : List ℕ). l ++ rows_of listing memory new) (sym added.2)

  -- what was kept stands in front of all that is to be written
  adds-front : (old new : List Hit) (text mid : List ℕ) (found : Bool) → AddsRow listing memory old new text mid (Ok found) → (rest : List ℕ) × (text ++ rows_of listing memory old ≡ mid ++ rest)
  adds-front old new text mid true added = (rows_of listing memory new, adds-row old new text mid added)
  adds-front old new text mid false none = (rows_of listing memory old, ap (λ (l : List ℕ). l ++ rows_of listing memory old) (sym none.2))

  pub turn-passed : (written written' : Option (List ℕ)) (old new : List Hit) (text mid text' : List ℕ) (found : Bool) → AddsRow listing memory old new text mid (Ok found) → WritesFront written written' mid text'
      → Turns listing memory written written' old new text text' (Ok found)
  turn-passed written written' old new text mid text' true added front =
      let more = WritesFront-more written written' mid text' (rows_of listing memory new) front in
      let one : length old ≡ suc (length new) = ap length added.1 in
      ((more.0, more.1, adds-row old new text mid added ∙ more.2), omega (arith, one))
  turn-passed written written' old new text mid text' false none front = ((front.0, front.1, sym none.2 ∙ front.2), none.0, none.1)

  pub turn-refused : (written written' : Option (List ℕ)) (old new : List Hit) (text mid text' : List ℕ) (found : Bool) (fault : SinkFault) (result : Result Bool PluginFault) → AddsRow listing memory old new text mid (Ok found)
      → AppendsPrefix written written' mid → IsErrAnd result (λ error. error ≡ plugin_fault_of_sink fault) → Turns listing memory written written' old new text text' result
  turn-refused written written' old new text mid text' found fault (Ok value) added prefix refused = absurd refused
  turn-refused written written' old new text mid text' found fault (Err error) added prefix same =
      let front = adds-front old new text mid found added in
      rw same (CutShort-refused listing memory written written' (text ++ rows_of listing memory old) new fault (Prefix-front written written' mid (text ++ rows_of listing memory old) front.0 front.1 prefix))

  -- no hit is left
  pub rows-end : (written mid written' : Option (List ℕ)) (old now new : List Hit) (text kept text' : List ℕ) (count : ℕ) → count ≤ most_count → WritesFront written mid (text ++ rows_of listing memory old) (kept ++ rows_of listing memory now)
      → min (count + length now) most_count ≡ min (length old) most_count → Turns listing memory mid written' now new kept text' (Ok false) → WritesRows listing memory written written' old new text text' (Ok count)
  rows-end written mid written' old now new text kept text' count fits front counted turned =
      let none : length now ≡ 0 = ap length turned.1 in
      let all : kept ++ rows_of listing memory now ≡ kept = ap (λ (found : List Hit). kept ++ rows_of listing memory found) turned.1 ∙ append-nil kept in
      (WritesFront-trans written mid written' (text ++ rows_of listing memory old) kept text' (front.0, front.1, front.2 ∙ ap (λ (l : List ℕ). front.0 ++ l) all) turned.0, omega (arith, fits, none, counted))

  pub rows-cut : (written mid written' : Option (List ℕ)) (old now new : List Hit) (text kept text' : List ℕ) (fault : PluginFault) (result : Result ℕ PluginFault) → WritesFront written mid (text ++ rows_of listing memory old) (kept ++ rows_of listing memory now)
      → CutShort listing memory mid written' (kept ++ rows_of listing memory now) new fault → IsErrAnd result (λ error. error ≡ fault) → WritesRows listing memory written written' old new text text' result
  rows-cut written mid written' old now new text kept text' fault (Ok value) front cut refused = absurd refused
  rows-cut written mid written' old now new text kept text' fault (Err error) front cut same =
      rw same (CutShort-behind listing memory written mid written' (text ++ rows_of listing memory old) (kept ++ rows_of listing memory now) new fault front cut)

  -- ---- the end behind the lines

  pub listing-cut : {E : Type 0} (written written' : Option (List ℕ)) (old new : List Hit) (text : List ℕ) (fault : PluginFault) (result : Result Unit E) → CutShort listing memory written written' (text ++ rows_of listing memory old) new fault → IsErr result
      → Writes written written' result (listing_text listing memory text old)
  listing-cut written written' old new text fault result cut refused =
      Writes-refused written written' result (listing_text listing memory text old) refused
      (Prefix-front written written' (text ++ rows_of listing memory old) (listing_text listing memory text old) (end_of listing (min (length old) most_count)) refl (CutShort-prefix listing memory written written' (text ++ rows_of listing memory old) new fault cut))

  -- the lines of all hits were written or are kept
  pub listing-front : {E : Type 0} (written mid : Option (List ℕ)) (old : List Hit) (text kept : List ℕ) (result : Result Unit E) → WritesFront written mid (text ++ rows_of listing memory old) kept → IsErr result → Writes written mid result (listing_text listing memory text old)
  listing-front written mid old text kept result front refused =
      Writes-refused written mid result (listing_text listing memory text old) refused
      (Prefix-front written mid (text ++ rows_of listing memory old) (listing_text listing memory text old) (end_of listing (min (length old) most_count)) refl (WritesFront-prefix written mid (text ++ rows_of listing memory old) kept front))

  module _ (written mid written' : Option (List ℕ)) (old : List Hit) (text kept whole : List ℕ) (count : ℕ) (rows : WritesFront written mid (text ++ rows_of listing memory old) kept × (count ≡ min (length old) most_count)) where
    with-end : whole ≡ kept ++ end_of listing count → WritesFront written mid (listing_text listing memory text old) whole
    with-end ended =
        let more = WritesFront-more written mid (text ++ rows_of listing memory old) kept (end_of listing (min (length old) most_count)) rows.0 in
        (more.0, more.1, more.2 ∙ ap (λ (l : List ℕ). more.0 ++ l) (ap (λ n. kept ++ end_of listing n) (sym rows.1) ∙ sym ended))

    pub listing-refused : {E : Type 0} (result : Result Unit E) → whole ≡ kept ++ end_of listing count → IsErr result → AppendsPrefix mid written' whole → Writes written written' result (listing_text listing memory text old)
    listing-refused result ended refused prefix =
        Writes-refused written written' result (listing_text listing memory text old) refused
        (Prefix-behind written mid written' (listing_text listing memory text old) whole (with-end ended) prefix)

    pub listing-all : whole ≡ kept ++ end_of listing count → Appends mid written' whole → Appends written written' (listing_text listing memory text old)
    listing-all ended appends = Appends-behind written mid written' (listing_text listing memory text old) whole (with-end ended) appends
