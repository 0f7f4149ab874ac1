use Rattle.std.proofs.Common.{take, sym}
use Rattle.std.specs.Option.{IfSome}
use Rattle.std.proofs.lemmas.Option.{IfSome_then}
use Rattle.layer_base.specs.Run.{IsTrueOf}
use Rattle.layer_base.specs.View.{physical}
use Rattle.layer_base.specs.declared.layer.Run.TheVariants.{Present}
use Rattle.layer_base.proofs.Filling.{nothing}
use Rattle.layer_base.proofs.Present.{present_from-bytes}
use Rattle.intel_paging.proofs.word.present_at.Goals as goal

pub returns-in-Present-clause-bytes : goal.returns-in-Present-clause-bytes
returns-in-Present-clause-bytes g c =
    let told : IfSome (g.Y.Layer.view c.args.phys.now) (λ view. IsTrueOf (physical view) c.args.at c.run_at.new.buf (Present c.in-Present.count)) = rw c.in-Present.is at c.in_ok-count.ensures.run in
    IfSome_then (g.Y.Layer.view c.args.phys.now) told (λ view run. sym (present_from-bytes (physical view) c.args.at c.in-Present.count (take c.in-Present.count c.run_at.new.buf) run))

pub returns-in-Absent-clause-bytes : goal.returns-in-Absent-clause-bytes
returns-in-Absent-clause-bytes g c = nothing physical c.args.at (g.Y.Layer.view c.args.phys.now)
