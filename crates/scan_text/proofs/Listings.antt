-- What the two commands print, as a head, the lines of hits and an end.
use Rattle.std.proofs.Common.{◌≡◌, ℕ, ◌+◌, ◌-◌, ◌^◌, ◌<◌, ◌≤◌, List, [], ◌∷◌, ◌++◌, length, refl, ◌∙◌, ap, arith}
use Rattle.std.proofs.lemmas.List.{append-nil}
use Rattle.std.specs.Prelude.{min, codes}
use Rattle.layer_base.specs.AddressSpace.{AddressSpace}
use Rattle.layer_base.specs.declared.space.Space.{Space}
use Rattle.layer_base.specs.declared.space.Space.TheVariants.{Phys}
use Rattle.needle_search.specs.declared.hit.Hit.{Hit}
use Rattle.chunk_scanner.specs.Hits.{hits}
use Rattle.space_memory.specs.InSpace.{in_space}
use Rattle.scan_text.specs.Banners.{banner_head, banners_text}
use Rattle.scan_text.specs.Rows.{listing_text, most_count, rows_of}
use Rattle.scan_text.specs.Scan.{scan_text}
use Rattle.scan_text.specs.declared.listing.Listing.TheVariants.{Addresses, Banners}
use Rattle.scan_text.proofs.Counts.{length-hits}

-- a range of 64 bits has no more hits of a needle than are counted
pub listing-scan : (memory : AddressSpace) (space : Space) (at len : ℕ) (needle text : List ℕ) (found : List Hit) → 1 ≤ len → len < 2 ^ 64 → text ≡ [] → found ≡ hits (in_space memory space) at (at + (len - 1)) (needle ∷ [])
    → listing_text Addresses memory text found ≡ scan_text (in_space memory space) at len needle
unfolding scan_text
listing-scan memory space at len needle text found some few none all =
    let last : at + (len - 1) ≡ at + len - 1 = omega arith in
    let same : found ≡ hits (in_space memory space) at (at + len - 1) (needle ∷ []) = all ∙ ap (λ a. hits (in_space memory space) at a (needle ∷ [])) last in
    let fit : length (hits (in_space memory space) at (at + len - 1) (needle ∷ [])) ≤ at + len - 1 + 1 - at = length-hits (in_space memory space) at (at + len - 1) needle in
    let count : min (length (hits (in_space memory space) at (at + len - 1) (needle ∷ []))) most_count ≡ length (hits (in_space memory space) at (at + len - 1) (needle ∷ [])) = omega (arith, fit) in
    rw (none, same, count) refl

pub listing-banners : (memory : AddressSpace) (text : List ℕ) (found : List Hit) → text ≡ codes "OFFSET\tBANNER\n" → found ≡ hits (in_space memory Phys) 0 (2 ^ 64 - 1) (banner_head ∷ [])
    → listing_text Banners memory text found ≡ banners_text (in_space memory Phys)
unfolding banners_text
listing-banners memory text found head all = append-nil (text ++ rows_of Banners memory found) ∙ ap (λ (l : List ℕ). l ++ rows_of Banners memory found) head ∙ ap (λ (l : List Hit). codes "OFFSET\tBANNER\n" ++ rows_of Banners memory l) all
