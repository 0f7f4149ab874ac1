-- What a scanner is to its callers.
use Rattle.std.specs.Prelude.{◌≡◌, ℕ, ◌-◌, ◌*◌, ◌<◌, ◌≤◌, List, [], ◌∷◌, length, Option, None, Some, Result, Ok, Err}
use Rattle.layer_base.specs.AddressSpace.{AddressSpace}
use Rattle.layer_base.specs.declared.layer.DeviceFailed.{DeviceFailed}
use Rattle.layer_base.specs.declared.space.Space.{Space}
use Rattle.space_memory.specs.InSpace.{in_space}
use Rattle.needle_search.specs.declared.hit.Hit.{Hit}
use Rattle.chunk_scanner.specs.Hits.{up_to, hits_from}
use Rattle.chunk_scanner.specs.Window.{AreBytesFrom}

-- The space that is searched up to a last address, and the needles. The scanner stands at an address and there at a
-- needle number, and so many addresses are left. Some bytes from where it stands may be kept.
pub record ScannerState : Type 0 where
  pub space : Space
  pub last : ℕ
  pub needles : List (List ℕ)
  pub at : ℕ
  pub number : ℕ
  pub left : ℕ
  pub kept : List ℕ

-- the hits that are left to give over a physical memory: those that are not before the pair at which the scanner stands
abbrev pub hits_left : AddressSpace → ScannerState → List Hit
hits_left memory scanner = hits_from (up_to scanner.last (in_space memory scanner.space)) scanner.needles scanner.at scanner.number scanner.left

-- each byte that is kept is that of the physical memory
abbrev pub KeepsTrue : AddressSpace → ScannerState → Type 0
KeepsTrue memory scanner = AreBytesFrom (in_space memory scanner.space) scanner.at scanner.kept

-- what falls with each hit that is given: there are at most 8 needles
abbrev pub pairs_left : ScannerState → ℕ
pairs_left scanner = 9 * scanner.left - scanner.number

-- the first of the hits that were left is given and the others stay, or none was left; a fault leaves them all
abbrev pub GivesFirst : List Hit → List Hit → Result (Option Hit) DeviceFailed → Type 0
GivesFirst old new (Ok (Some hit)) = old ≡ hit ∷ new
GivesFirst old new (Ok None) = (old ≡ []) × (new ≡ [])
GivesFirst old new (Err fault) = new ≡ old

-- a hit is not behind the last address, and its needle is one of those
pub record IsHitWithin (last : ℕ) (needles : List (List ℕ)) (hit : Hit) : Type 0 where
  pub address : hit.at ≤ last
  pub number : hit.needle < length needles
