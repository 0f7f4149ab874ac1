-- Zero bytes.
use Rattle.std.proofs.Common.{◌≡◌, ℕ, length}
use Rattle.std.proofs.lemmas.List.{length-replicate}
use Rattle.image_maker.specs.Written.{zeros}

pub length-zeros : (size : ℕ) → length (zeros size) ≡ size
unfolding zeros
length-zeros size = length-replicate size 0
