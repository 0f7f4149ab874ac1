use Rattle.std.proofs.Common.{◌≡◌, ◌≤◌, length, take, slice_index_or, sym, subst, ap, ◌∙◌, arith}
use Rattle.std.specs.Prelude.{All}
use Rattle.std.proofs.lemmas.List.{take_all}
use Rattle.std.proofs.lemmas.List.Elements.{All-more, All-weaker}
use Rattle.needle_search.proofs.needles.Needles.longest.Goals as goal

pub loop-needle-preserved : goal.loop-needle-preserved
loop-needle-preserved c =
    let items = c.deref-needle-items.result.now in
    let i = c.loop-needle.needle-index in
    let here : length c.needle-item.result ≤ c.max-longest.result = omega (arith, ap length c.needle.ensures) in
    let inside : length (slice_index_or items i c.needle-item.result) ≤ 4096 =
    subst (λ needles. length (slice_index_or needles i c.needle-item.result) ≤ 4096) (sym c.deref-needle-items.ensures.value) (c.self.invariant.each i c.needle-item.result (omega (arith, ap length c.deref-needle-items.ensures.value))).few in
    let few : length c.needle-item.result ≤ 4096 = subst (λ needle. length needle ≤ 4096) (sym c.needle-item.is) inside in
    let before : All (λ needle. length needle ≤ c.max-longest.result) (take i items) =
    All-weaker (λ needle. length needle ≤ c.loop-needle.longest) (λ needle. length needle ≤ c.max-longest.result) (λ needle le. omega arith) (take i items) c.loop-needle.invariant.each in
    record {
      some = omega arith;
      few = omega (arith, ap length c.needle.ensures, c.loop-needle.invariant.few);
      each = All-more (λ needle. length needle ≤ c.max-longest.result) items i c.needle-item.result c.loop-needle-test.true before (subst (λ needle. length needle ≤ c.max-longest.result) c.needle-item.is here);
    }

pub returns-clause-each : goal.returns-clause-each
returns-clause-each c =
    let items = c.deref-needle-items.result.now in
    let all : take c.loop-needle.needle-index items ≡ c.args.self.now = take_all c.loop-needle.needle-index items c.loop-needle-test.false ∙ c.deref-needle-items.ensures.value ∙ c.self.view_is in
    subst (λ needles. All (λ needle. length needle ≤ c.loop-needle.longest) needles) all c.loop-needle.invariant.each
