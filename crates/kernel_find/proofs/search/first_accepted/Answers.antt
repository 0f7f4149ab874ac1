use Rattle.std.proofs.Common.{◌∙◌, ap, sym, subst}
use Rattle.std.specs.Prelude.{IfSome}
use Rattle.layer_base.specs.View.{physical}
use Rattle.layer_base.proofs.Told.{IfSome-after}
use Rattle.space_memory.proofs.Memories.{IsSameMemory-trans}
use Rattle.chunk_scanner.specs.State.{hits_left, KeepsTrue}
use Rattle.kernel_find.specs.Candidate.{first_accepted, kernel_named_at}
use Rattle.kernel_find.specs.Layout.{table_of}
use Rattle.kernel_find.proofs.Accepted.{accepted-later, accepted-never, accepted-now, gives-none}
use Rattle.kernel_find.proofs.search.first_accepted.Goals as goal

pub returns-then-is_some-clause-kernel : goal.returns-then-is_some-clause-kernel
returns-then-is_some-clause-kernel g c =
    let told = c.args.memory.now.view in
    let here = c.loop-hit.invariant.memory.same_view in
    let there = c.next_hit.ensures.memory.same_view ∙ here in
    let gives = IfSome-after told c.loop-hit.memory.view here c.loop-hit.invariant.kernel (rw c.in-Some.is at c.in_ok-hit.ensures.hits) (λ view passed split. passed ∙ ap (first_accepted (kernel_named_at (physical view) (table_of c.args.layout.now))) split) in
    IfSome-after told c.next_hit.new.memory.view there gives c.in_ok-kernel.ensures.kernel (λ view found same.
    accepted-now (kernel_named_at (physical view) (table_of c.args.layout.now)) (hits_left (physical view) c.args.scanner.now) (hits_left (physical view) c.next_hit.new.self) c.in-Some.hit found c.in_ok-kernel.kernel same (sym c.is_some.ensures ∙ c.if-is_some.true))

pub loop-hit-preserved : goal.loop-hit-preserved
loop-hit-preserved g c =
    let told = c.args.memory.now.view in
    let here = c.loop-hit.invariant.memory.same_view in
    let there = c.next_hit.ensures.memory.same_view ∙ here in
    let gives = IfSome-after told c.loop-hit.memory.view here c.loop-hit.invariant.kernel (rw c.in-Some.is at c.in_ok-hit.ensures.hits) (λ view passed split. passed ∙ ap (first_accepted (kernel_named_at (physical view) (table_of c.args.layout.now))) split) in
    record {
      kernel = IfSome-after told c.next_hit.new.memory.view there gives c.in_ok-kernel.ensures.kernel (λ view found same.
          accepted-later (kernel_named_at (physical view) (table_of c.args.layout.now)) (hits_left (physical view) c.args.scanner.now) (hits_left (physical view) c.next_hit.new.self) c.in-Some.hit found c.in_ok-kernel.kernel same (sym c.is_some.ensures ∙ c.if-is_some.false));
      kept = subst (λ told. IfSome told (λ view. KeepsTrue (physical view) c.next_hit.new.self)) (sym (c.kernel_named_at.ensures.memory.same_view ∙ c.next_hit.ensures.memory.same_view)) c.next_hit.ensures.kept;
      memory = IsSameMemory-trans _ _ _ c.loop-hit.invariant.memory (IsSameMemory-trans _ _ _ c.next_hit.ensures.memory c.kernel_named_at.ensures.memory);
    }

pub returns-clause-kernel : goal.returns-clause-kernel
returns-clause-kernel g c =
    let told = c.args.memory.now.view in
    let here = c.loop-hit.invariant.memory.same_view in
    IfSome-after told c.loop-hit.memory.view here c.loop-hit.invariant.kernel c.in_ok-hit.ensures.hits (λ view passed gives.
    accepted-never (kernel_named_at (physical view) (table_of c.args.layout.now)) (hits_left (physical view) c.args.scanner.now) (hits_left (physical view) c.loop-hit.scanner) passed (gives-none _ _ _ c.in_default.not-Some gives))
