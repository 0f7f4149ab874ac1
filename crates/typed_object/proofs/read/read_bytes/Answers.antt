use Rattle.std.proofs.Common.{◌≡◌, ◌+◌, ◌^◌, true, false, length, rules}
use Rattle.std.specs.Prelude.{IfSome, nat_le}
use Rattle.std.proofs.lemmas.Option.{IfSome_then}
use Rattle.layer_base.specs.View.{physical}
use Rattle.layer_base.proofs.Told.{IfSome-always}
use Rattle.space_memory.specs.Hole.{IsGot}
use Rattle.space_memory.specs.InSpace.{in_space}
use Rattle.space_memory.specs.declared.memory.Got.TheVariants.{All, Hole}
use Rattle.typed_object.proofs.Reading.{bytes_of-past, bytes_of-all, bytes_of-hole}
use Rattle.typed_object.proofs.read.read_bytes.Goals as goal

pub returns-then-not-fits-clause-bytes : goal.returns-then-not-fits-clause-bytes
returns-then-not-fits-clause-bytes g c =
    let past : nat_le (c.args.at + length c.args.buf.now) (2 ^ 64) ≡ false = search rules in
    IfSome-always c.args.memory.now.view (λ view. bytes_of-past (in_space (physical view) c.args.space) c.args.at c.args.buf.now (length c.args.buf.now) past)

pub returns-in-All-clause-bytes : goal.returns-in-All-clause-bytes
returns-in-All-clause-bytes g c =
    let fits : nat_le (c.args.at + length c.args.buf.now) (2 ^ 64) ≡ true = search rules in
    let read : IfSome c.args.memory.now.view (λ view. IsGot (in_space (physical view) c.args.space) c.args.at c.read.new.buf All) = rw c.in-All.is at c.in_ok-read.ensures.got in
    IfSome_then c.args.memory.now.view read (λ view got. bytes_of-all (in_space (physical view) c.args.space) c.args.at c.read.new.buf (length c.args.buf.now) fits c.read.auto.buf got)

pub returns-in-Hole-clause-bytes : goal.returns-in-Hole-clause-bytes
returns-in-Hole-clause-bytes g c =
    let fits : nat_le (c.args.at + length c.args.buf.now) (2 ^ 64) ≡ true = search rules in
    let read : IfSome c.args.memory.now.view (λ view. IsGot (in_space (physical view) c.args.space) c.args.at c.read.new.buf (Hole c.in-Hole.at)) = rw c.in-Hole.is at c.in_ok-read.ensures.got in
    IfSome_then c.args.memory.now.view read (λ view got. bytes_of-hole (in_space (physical view) c.args.space) c.args.at c.read.new.buf (length c.args.buf.now) c.in-Hole.at fits c.read.auto.buf got)
