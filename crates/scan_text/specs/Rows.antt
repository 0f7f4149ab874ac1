-- The lines of hits.
use Rattle.std.specs.Prelude.{ℕ, ◌^◌, ◌-◌, min, List, [], ◌++◌, length}
use Rattle.std.specs.List.{flat_map}
use Rattle.layer_base.specs.AddressSpace.{AddressSpace}
use Rattle.layer_base.specs.declared.space.Space.TheVariants as spaces
use Rattle.needle_search.specs.declared.hit.Hit.{Hit}
use Rattle.chunk_scanner.specs.State.{ScannerState, hits_left}
use Rattle.space_memory.specs.InSpace.{in_space}
use Rattle.scan_text.specs.Banners.{banner_row}
use Rattle.scan_text.specs.Scan.{address_row, count_row}
use Rattle.scan_text.specs.declared.listing.Listing.{Listing}
use Rattle.scan_text.specs.declared.listing.Listing.TheVariants as listings

-- the line of a hit at an address, over a physical memory
abbrev pub row_of : Listing → AddressSpace → ℕ → List ℕ
row_of listings.Addresses memory at = address_row at
row_of listings.Banners memory at = banner_row (in_space memory spaces.Phys) at

abbrev pub rows_of : Listing → AddressSpace → List Hit → List ℕ
rows_of listing memory found = flat_map (λ hit. row_of listing memory hit.at) found

-- the lines of the hits that a scanner has left to give
abbrev pub rows_left : Listing → AddressSpace → ScannerState → List ℕ
rows_left listing memory scanner = rows_of listing memory (hits_left memory scanner)

-- what follows the lines of so many hits
abbrev pub end_of : Listing → ℕ → List ℕ
end_of listings.Addresses count = count_row count
end_of listings.Banners count = []

-- the greatest count
abbrev pub most_count : ℕ
most_count = 2 ^ 64 - 1

-- a head, the lines of hits, and what follows them
abbrev pub listing_text : Listing → AddressSpace → List ℕ → List Hit → List ℕ
listing_text listing memory head found = (head ++ rows_of listing memory found) ++ end_of listing (min (length found) most_count)
