use Rattle.std.proofs.Common.{ℕ, ◌+◌, ◌≤◌, sym, ◌∙◌, length-take, arith}
use Rattle.std.specs.Prelude.{IfSome}
use Rattle.std.proofs.lemmas.Option.{IfSome_then}
use Rattle.layer_base.specs.View.{physical}
use Rattle.layer_base.specs.Run.{IsTrueOf}
use Rattle.layer_base.specs.declared.layer.Run.TheVariants.{Present, Absent}
use Rattle.layer_base.proofs.Told.{IfSome-always}
use Rattle.space_memory.proofs.Spaces.{unmapped, present, absent}
use Rattle.space_memory.proofs.through.run_in.Goals as goal

pub returns-in_default-clause-run : goal.returns-in_default-clause-run
returns-in_default-clause-run g c =
    IfSome-always (g.Y.Layer.view c.args.phys.now) (λ view space block.
    unmapped (physical view) space c.args.run.now c.args.at block c.requires.holds c.requires.fits.last (sym c.place_in.ensures ∙ c.in_default.is))

pub returns-in-Present-clause-run : goal.returns-in-Present-clause-run
returns-in-Present-clause-run g c =
    let told : IfSome (g.Y.Layer.view c.args.phys.now) (λ view. IsTrueOf (physical view) c.in-Some.place c.run_at.new.buf (Present c.in-Present.count)) = rw c.in-Present.is at c.in_ok-count.ensures.run in
    let within = rw c.in-Present.is at c.in_ok-count.ensures.within in
    IfSome_then (g.Y.Layer.view c.args.phys.now) told (λ view run space block.
    present (physical view) space c.args.run.now c.args.at block c.requires.holds c.requires.fits.last c.in-Some.place c.in-Present.count c.run_at.new.buf _ (sym c.place_in.ensures ∙ c.in-Some.is) (omega (arith, within.1, length-take {A = ℕ})) (omega (arith, within.1, c.run_at.auto.buf)) run)

pub returns-in-Absent-clause-run : goal.returns-in-Absent-clause-run
returns-in-Absent-clause-run g c =
    let told : IfSome (g.Y.Layer.view c.args.phys.now) (λ view. IsTrueOf (physical view) c.in-Some.place c.run_at.new.buf (Absent c.in-Absent.last)) = rw c.in-Absent.is at c.in_ok-count.ensures.run in
    let within : c.in-Some.place ≤ c.in-Absent.last = rw c.in-Absent.is at c.in_ok-count.ensures.within in
    IfSome_then (g.Y.Layer.view c.args.phys.now) told (λ view run space block.
    absent (physical view) space c.args.run.now c.args.at block c.requires.holds c.requires.fits.last c.in-Some.place c.in-Absent.last (c.args.at + c.min.result) (sym c.place_in.ensures ∙ c.in-Some.is) (omega arith) within (omega arith) run)
