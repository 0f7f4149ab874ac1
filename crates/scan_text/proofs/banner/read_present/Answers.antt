use Rattle.std.proofs.Common.{◌≡◌, ℕ, length, arith}
use Rattle.std.specs.Prelude.{IfSome}
use Rattle.std.proofs.lemmas.List.{length-take}
use Rattle.std.proofs.lemmas.Option.{IfSome_then}
use Rattle.layer_base.specs.View.{physical}
use Rattle.layer_base.specs.declared.space.Space.TheVariants.{Phys}
use Rattle.space_memory.specs.Hole.{IsGot}
use Rattle.space_memory.specs.InSpace.{in_space}
use Rattle.space_memory.specs.declared.memory.Got.TheVariants.{All, Hole}
use Rattle.scan_text.proofs.Reading.{read-all, read-hole}
use Rattle.scan_text.proofs.banner.read_present.Goals as goal

pub returns-in-All-clause-present : goal.returns-in-All-clause-present
returns-in-All-clause-present g c =
    let read : IfSome c.args.memory.now.view (λ view. IsGot (in_space (physical view) Phys) c.args.at c.read.new.buf All) = rw c.in-All.is at c.in_ok-read.ensures.got in
    let whole : length c.read.new.buf ≡ c.room_within-room.result = omega (arith, c.read.auto.buf, length-take {A = ℕ}) in
    IfSome_then c.args.memory.now.view read (λ view got.
    read-all (physical view) Phys c.args.at (length c.args.buf.now) c.room_within-room.result c.read.new.buf _ c.ranges.at.fits c.room_within-room.ensures whole got)

pub returns-in-Hole-clause-present : goal.returns-in-Hole-clause-present
returns-in-Hole-clause-present g c =
    let read : IfSome c.args.memory.now.view (λ view. IsGot (in_space (physical view) Phys) c.args.at c.read.new.buf (Hole c.in-Hole.hole)) = rw c.in-Hole.is at c.in_ok-read.ensures.got in
    let within = rw c.in-Hole.is at c.in_ok-read.ensures.within in
    let whole : length c.read.new.buf ≡ c.room_within-room.result = omega (arith, c.read.auto.buf, length-take {A = ℕ}) in
    IfSome_then c.args.memory.now.view read (λ view got.
    read-hole (physical view) Phys c.args.at (length c.args.buf.now) c.room_within-room.result c.read.new.buf _ c.in-Hole.hole (omega arith) whole (omega (arith, within)) (omega (arith, within, length-take {A = ℕ})) got)
