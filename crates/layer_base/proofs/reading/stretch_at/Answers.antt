use Rattle.std.proofs.Common.{refl}
use Rattle.layer_base.proofs.reading.stretch_at.Goals as goal

pub returns-in-Raw-clause-shown : goal.returns-in-Raw-clause-shown
returns-in-Raw-clause-shown c = λ below k within. rw c.in-Raw.is refl
