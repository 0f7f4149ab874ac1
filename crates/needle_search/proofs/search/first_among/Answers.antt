use Rattle.std.proofs.Common.{◌≡◌, ℕ, ◌≤◌, [], length, slice_index_or, Bool, true, false, nat_lt, refl, if◌then◌else◌, ◌∙◌, arith}
use mir.Val.{bool_byte}
use Rattle.std.proofs.lemmas.Bool.Decides.{nat_tests}
use Rattle.std.proofs.lemmas.List.{get_or_read}
use Rattle.needle_search.specs.FirstHit.{rank}
use Rattle.needle_search.specs.Progress.{place_found}
use Rattle.needle_search.proofs.Firsts.{first-more}
use Rattle.needle_search.proofs.Reached.{one-further}
use Rattle.needle_search.proofs.search.first_among.Goals as goal

one_if : (test : Bool) → bool_byte test ≡ (if test then 1 else 0)
one_if true = refl
one_if false = refl

-- the first place to be searched for a needle is the first that is not below the rank
low : (number least from : ℕ) → from ≡ (if nat_lt number least then 1 else 0) → (place : ℕ) → least ≤ rank place number → from ≤ place
low number least from is place above = grind (arith, nat_tests)

high : (number least from : ℕ) → least ≤ 8 → from ≡ (if nat_lt number least then 1 else 0) → (place : ℕ) → from ≤ place → least ≤ rank place number
high number least from bound is place inside = grind (arith, nat_tests)

pub loop-index-preserved : goal.loop-index-preserved
loop-index-preserved c =
    let i = c.loop-index.index in
    let needles = c.args.needles.now in
    let needle : c.index-needles-index.result ≡ slice_index_or needles i [] = get_or_read needles i c.index-needles-index.result c.loop-index-test.true c.index-needles-index.is [] in
    let from : c.from-from.result ≡ (if nat_lt i c.args.least then 1 else 0) = c.from-from.ensures ∙ one_if (nat_lt i c.args.least) in
    let found = rw needle at c.further-reach.ensures.first in
    let reached = rw (needle, from) at c.further-reach.ensures.reached in
    record {
      first = rw c.earlier-first.ensures (first-more needles c.args.window.now i c.args.least c.from-from.result (omega (arith, c.requires.needles.few)) (low i c.args.least c.from-from.result from) (high i c.args.least c.from-from.result c.requires.least from) c.loop-index.first (place_found c.further-reach.result) c.loop-index.invariant.first found);
      reached = one-further needles c.args.window.now c.args.least i c.loop-index.progress c.further-reach.result c.loop-index.invariant.reached (omega (arith, c.requires.needles.few)) reached;
    }

pub returns-clause-first : goal.returns-clause-first
returns-clause-first c =
    let all : c.loop-index.index ≡ length c.args.needles.now = omega (arith, c.loop-index.auto) in
    rw all at c.loop-index.invariant.first
