use Rattle.std.proofs.Common.{[], ◌∷◌, arith}
use Rattle.std.proofs.lemmas.Option.{IfSome_then}
use Rattle.scan_text.proofs.rows.append_next.Goals as goal

-- the hit was taken, and its line was not added
pub returns-in-Err-clause-rows : goal.returns-in-Err-clause-rows
returns-in-Err-clause-rows g c =
    IfSome_then c.args.memory.now.view (rw c.in-Some.is at c.in_ok-hit.ensures.hits) (λ view first. (c.in-Some.hit ∷ [], omega arith, first))
