-- What stood in a text stays in front when more is appended, and when memory runs out.
use Rattle.std.proofs.Common.{◌≡◌, ℕ, List, ◌++◌, Result, Ok, Err, OnErr}
use Rattle.std.proofs.Transfers.{starts_with_of_append, starts_with_trans}
use Rattle.std.specs.Io.{StartsWith}

pub front-behind : (old rest mid new : List ℕ) → mid ≡ old ++ rest → StartsWith new mid → StartsWith new old
front-behind old rest mid new appended front = starts_with_trans new mid old front (starts_with_of_append mid old rest appended)

pub front-more : (old mid rest new : List ℕ) → StartsWith mid old → new ≡ mid ++ rest → StartsWith new old
front-more old mid rest new front appended = starts_with_trans new mid old (starts_with_of_append new mid rest appended) front

-- a call that may fail, behind what was appended
pub OnErr-behind : {T E : Type 0} (result : Result T E) (old rest mid new : List ℕ) → mid ≡ old ++ rest → OnErr result (StartsWith new mid) → OnErr result (StartsWith new old)
OnErr-behind (Ok value) old rest mid new appended front = tt
OnErr-behind (Err error) old rest mid new appended front = front-behind old rest mid new appended front

pub OnErr-front : {T E : Type 0} (result : Result T E) (old new : List ℕ) → StartsWith new old → OnErr result (StartsWith new old)
OnErr-front (Ok value) old new front = tt
OnErr-front (Err error) old new front = front
