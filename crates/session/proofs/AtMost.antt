-- What a source gave: a front of what it held, and at most so many bytes.
use Rattle.std.proofs.Common.{◌≡◌, ℕ, ◌+◌, ◌≤◌, List, [], ◌++◌, Option, None, Some, arith, length-append}
use Rattle.std.proofs.KnownBytes.{Consumes-nil, Consumes-trans, Consumes-kept}
use Rattle.std.specs.Io.KnownBytes.{Consumes, Keeps}
use Rattle.session.specs.Headline.{GaveAtMost}

-- what was given is a front of what was there
pub Consumes-front : (held : List ℕ) (left : Option (List ℕ)) (given : List ℕ) → Consumes (Some held) left given → (more : List ℕ) × (held ≡ given ++ more)
Consumes-front held None given taken = absurd taken
Consumes-front held (Some more) given taken = (more, taken)

-- one that was not called gave none
pub gave_none : (most : ℕ) (left : Option (List ℕ)) → GaveAtMost most left left
gave_none most left = record { given = []; consumed = Consumes-nil left; few = omega arith }

pub gave_kept : (most : ℕ) (old mid new : Option (List ℕ)) → GaveAtMost most old mid → Keeps mid new → GaveAtMost most old new
gave_kept most old mid new first kept = record { given = first.given; consumed = Consumes-kept old mid new first.given first.consumed kept; few = first.few }

-- it gave more
pub gave_more : (m n most : ℕ) (old mid new : Option (List ℕ)) → GaveAtMost m old mid → GaveAtMost n mid new → m + n ≤ most → GaveAtMost most old new
gave_more m n most old mid new first second within =
    record {
      given = first.given ++ second.given;
      consumed = Consumes-trans old mid new first.given second.given first.consumed second.consumed;
      few = omega (arith, length-append first.given second.given, first.few, second.few, within);
    }
