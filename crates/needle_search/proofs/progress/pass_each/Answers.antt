use Rattle.std.proofs.Common.{◌≡◌, ◌≢◌, ℕ, ◌+◌, ◌<◌, List, length, slice_index_or, sym, subst, ◌∙◌, arith, below_more}
use Rattle.std.proofs.lemmas.List.{get_or-set_same, get_or-set_other}
use Rattle.std.proofs.Math.ListN.{set}
use Rattle.needle_search.specs.Progress.{IsPassed, unsearched}
use Rattle.needle_search.specs.declared.progress.Reach.{Reach}
use Rattle.needle_search.proofs.progress.pass_each.Goals as goal

-- one more is so many places further on
one-passed : (count i : ℕ) (old reaches : List Reach) (reach : Reach) → i < length reaches → slice_index_or reaches i unsearched ≡ slice_index_or old i unsearched → IsPassed count (slice_index_or reaches i unsearched) reach
    → ((k : ℕ) → k < i → IsPassed count (slice_index_or old k unsearched) (slice_index_or reaches k unsearched)) → (k : ℕ) → k < i + 1 → IsPassed count (slice_index_or old k unsearched) (slice_index_or (set reaches i reach) k unsearched)
one-passed count i old reaches reach inside same passed before = below_more _ _
    (λ k below. let other : k ≢ i = omega arith in subst (IsPassed count (slice_index_or old k unsearched)) (sym (get_or-set_other reaches i k reach unsearched other)) (before k below))
    (subst (IsPassed count (slice_index_or old i unsearched)) (sym (get_or-set_same reaches i reach unsearched inside)) (subst (λ r. IsPassed count r reach) same passed))

pub loop-reach-preserved : goal.loop-reach-preserved
loop-reach-preserved c =
    let i = c.loop-reach.reach-index in
    let reaches = c.loop-reach.reaches in
    record {
      before = one-passed c.args.count i c.args.reaches.now reaches c.behind.result (omega arith) (c.loop-reach.invariant.after i (omega arith)) c.behind.ensures c.loop-reach.invariant.before;
      after = λ k above. let other : k ≢ i = omega arith in get_or-set_other reaches i k c.behind.result unsearched other ∙ c.loop-reach.invariant.after k (omega arith);
    }

pub returns : goal.returns
returns c = λ k inside. c.loop-reach.invariant.before k (omega arith)
