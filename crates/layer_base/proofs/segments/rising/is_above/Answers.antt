use Rattle.std.proofs.lemmas.Bool.{leb-true}
use Rattle.layer_base.proofs.Ranges.{last-above}
use Rattle.layer_base.proofs.segments.rising.is_above.Goals as goal

pub returns-in-Some : goal.returns-in-Some
returns-in-Some c = λ test rise. last-above c.args.segments.now c.in-Some.last.now c.args.segment.now.first c.in-Some.ensures.value (leb-true _ _ test) rise
