use Rattle.std.proofs.Common.{ℕ, ◌≤◌, le_refl, length-take, arith}
use Rattle.std.specs.Prelude.{IfSome}
use Rattle.std.proofs.lemmas.Option.{IfSome_then}
use Rattle.layer_base.specs.Run.{IsTrueOf}
use Rattle.layer_base.specs.View.{physical}
use Rattle.layer_base.specs.declared.layer.Run.TheVariants.{Present, Absent}
use Rattle.space_memory.specs.InSpace.{in_space}
use Rattle.typed_object.proofs.Texts.{run-adds, text_from-absent}
use Rattle.typed_object.proofs.text.append_run.Goals as goal

pub returns-in_ok-append_before_zero-in-Present-clause-adds : goal.returns-in_ok-append_before_zero-in-Present-clause-adds
returns-in_ok-append_before_zero-in-Present-clause-adds g c =
    let run : IfSome c.args.memory.now.view (λ told. IsTrueOf (in_space (physical told) c.args.space) c.args.at c.run_at.new.buf (Present c.in-Present.count)) = rw c.in-Present.is at c.in_ok-count.ensures.run in
    let within = rw c.in-Present.is at c.in_ok-count.ensures.within in
    IfSome_then c.args.memory.now.view run (λ told read.
    run-adds (in_space (physical told) c.args.space) c.args.at c.args.missing c.in-Present.count c.args.text.now.items c.append_before_zero.new.text.items c.run_at.new.buf _ _
    (omega (arith, within.1, c.run_at.auto.buf)) (omega (arith, within.1, c.room_within-room.ensures, length-take {A = ℕ})) read c.in_ok-append_before_zero-in-Present.ensures)

pub returns-in-Absent-clause-fault : goal.returns-in-Absent-clause-fault
returns-in-Absent-clause-fault g c =
    let run : IfSome c.args.memory.now.view (λ told. IsTrueOf (in_space (physical told) c.args.space) c.args.at c.run_at.new.buf (Absent c.in-Absent.last)) = rw c.in-Absent.is at c.in_ok-count.ensures.run in
    let within : c.args.at ≤ c.in-Absent.last = rw c.in-Absent.is at c.in_ok-count.ensures.within in
    IfSome_then c.args.memory.now.view run (λ told hole.
    text_from-absent (in_space (physical told) c.args.space) c.args.at c.args.missing (hole c.args.at (le_refl _) within) (omega arith) c.requires)
