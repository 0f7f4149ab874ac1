use Rattle.std.proofs.Common.{◌≡◌, take, ◌∙◌, ap, length-take, arith}
use Rattle.std.specs.Prelude.{Some}
use Rattle.std.proofs.lemmas.List.{take_all}
use Rattle.std.proofs.lemmas.Option.{IfSome_then}
use Rattle.layer_base.specs.View.{physical}
use Rattle.intel_paging.proofs.Words.{word-none, word-some}
use Rattle.intel_paging.proofs.word.word_at.Goals as goal

pub returns-then-count-lt8-clause-word : goal.returns-then-count-lt8-clause-word
returns-then-count-lt8-clause-word g c =
    let n = c.in_ok-count.count in
    IfSome_then (g.Y.Layer.view c.args.phys.now) c.in_ok-count.ensures.bytes (λ view front. word-none (physical view) c.args.at (take n c.fill.new.buf) front (omega (arith, length-take n c.fill.new.buf, c.if-count-lt8.true)))

pub returns-clause-word : goal.returns-clause-word
returns-clause-word g c =
    let n = c.in_ok-count.count in
    let all : take n c.fill.new.buf ≡ c.fill.new.buf = take_all n c.fill.new.buf (omega arith) in
    IfSome_then (g.Y.Layer.view c.args.phys.now) c.in_ok-count.ensures.bytes (λ view front. ap (λ number. Some number) c.read_u64.ensures ∙ word-some (physical view) c.args.at c.fill.new.buf (rw all at front) (omega arith))
