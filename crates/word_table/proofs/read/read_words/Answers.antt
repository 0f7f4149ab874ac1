use Rattle.std.proofs.Common.{◌≡◌, ℕ, ◌+◌, ◌-◌, ◌*◌, ◌/◌, ◌<◌, ◌++◌, length, take, drop, Option, refl, arith, length-take, length-drop, length-append}
use Rattle.std.proofs.lemmas.Option.{IfSome_then}
use Rattle.layer_base.specs.View.{physical}
use Rattle.space_memory.specs.InSpace.{in_space}
use Rattle.word_table.proofs.Decoding.{decoded-hole}
use Rattle.word_table.proofs.read.read_words.Goals as goal

-- the words before a hole, and the absent one in which it is
pub returns-in-Hole-clause-words : goal.returns-in-Hole-clause-words
returns-in-Hole-clause-words g c =
    let got = rw c.in-Hole.is at c.in_ok-read.ensures.got in
    let within = rw c.in-Hole.is at c.in_ok-read.ensures.within in
    let whole : length c.read.new.buf ≡ 8 * length c.args.buf.now = omega (arith, c.read.auto.buf, length-take {A = ℕ}) in
    let below : c.in-Hole.hole < c.args.at + length c.read.new.buf = omega (arith, within.1, c.read.auto.buf) in
    let index : ℕ = (c.in-Hole.hole - c.args.at) / 8 in
    let small : index < length c.args.buf.now = omega (arith, within.0) in
    let front : length (take index c.args.buf.now) ≡ index = omega (arith, length-take {A = Option ℕ}) in
    let size : length c.decode-in-Hole.new.buf ≡ index = omega (arith, c.decode-in-Hole.auto.buf) in
    let some : index < length (c.decode-in-Hole.new.buf ++ drop index c.args.buf.now) = omega (arith, length-append {A = Option ℕ}, length-drop {A = Option ℕ}) in
    IfSome_then c.args.memory.now.view got (λ view hole.
    decoded-hole (in_space (physical view) c.args.space) c.args.at c.in-Hole.hole (length c.args.buf.now) index _ c.read.new.buf _ c.decode-in-Hole.new.buf _ (c.decode-in-Hole.ensures (in_space (physical view) c.args.space) c.args.at) hole
    whole below refl refl front size some)
