use Rattle.std.proofs.Common.{inl, refl, sym, subst, arith}
use Rattle.run_cache.proofs.Callers.{found_holds}
use Rattle.space_memory.specs.Kept.{IsTrueCache}
use Rattle.space_memory.proofs.Fitting.{fits-aligned, fits-walked}
use Rattle.space_memory.proofs.Kept.{found-aligned, found-block, found-cache, found-hole, found-runs, kept-cache, kept-runs, missed-runs, unasked-runs}
use Rattle.space_memory.proofs.around.run_around.Goals as goal

pub returns-then-not-asks_tables-clause-fits : goal.returns-then-not-asks_tables-clause-fits
returns-then-not-asks_tables-clause-fits g c = fits-walked c.args.space c.args.at c.walk.result (omega arith) c.walk.ensures.holds c.walk.ensures.aligned c.walk.ensures.without_tables

pub returns-then-not-asks_tables-clause-runs : goal.returns-then-not-asks_tables-clause-runs
returns-then-not-asks_tables-clause-runs g c = unasked-runs c.args.space c.args.at c.args.cache.now c.args.cache.now (cc (c.if-not-asks_tables.true, c.asks_tables.ensures)) refl

pub returns-in_err-run-clause-runs : goal.returns-in_err-run-clause-runs
returns-in_err-run-clause-runs g c =
    let none = c.in_default.ensures.none refl in
    missed-runs c.args.space c.args.at c.args.cache.now c.look.new.self (cc (c.if-not-asks_tables.false, c.asks_tables.ensures)) none.1 (inl none.0)

pub returns-in-Some-clause-fits : goal.returns-in-Some-clause-fits
returns-in-Some-clause-fits g c =
    fits-aligned c.in-Some.run' c.args.at (omega arith) c.in-Some.ensures.holds (found-aligned (g.Y.Layer.view c.args.phys.now) c.args.space c.in-Some.run' c.args.cache.now c.look.new.self c.in-Some.ensures.found c.requires)

pub returns-in-Some-clause-block : goal.returns-in-Some-clause-block
returns-in-Some-clause-block g c = found-block (g.Y.Layer.view c.args.phys.now) c.args.space c.in-Some.run' c.args.cache.now c.look.new.self c.in-Some.ensures.found c.requires

pub returns-in-Some-clause-cache : goal.returns-in-Some-clause-cache
returns-in-Some-clause-cache g c = found-cache (g.Y.Layer.view c.args.phys.now) c.args.space c.in-Some.run' c.args.cache.now c.look.new.self c.in-Some.ensures.found c.look.ensures.cache c.requires

pub returns-in-Some-clause-kept : goal.returns-in-Some-clause-kept
returns-in-Some-clause-kept g c = λ _ _. found_holds c.args.space c.args.at c.in-Some.run' c.in-Some.ensures.holds c.args.cache.now c.look.new.self c.in-Some.ensures.found

pub returns-in-Some-clause-hole : goal.returns-in-Some-clause-hole
returns-in-Some-clause-hole g c = λ _. found-hole (g.Y.Layer.view c.args.phys.now) c.args.space c.in-Some.run' c.args.cache.now c.look.new.self c.in-Some.ensures.found c.args.at c.in-Some.ensures.holds

pub returns-in-Some-clause-runs : goal.returns-in-Some-clause-runs
returns-in-Some-clause-runs g c = found-runs c.args.space c.args.at c.args.cache.now c.look.new.self (cc (c.if-not-asks_tables.false, c.asks_tables.ensures)) c.in-Some.run' c.in-Some.ensures.holds c.in-Some.ensures.found (rw c.in-Some.is at c.look.ensures.last)

pub returns-clause-cache : goal.returns-clause-cache
returns-clause-cache g c =
    let same = (c.in_default.ensures.none refl).0 in
    let before = subst (IsTrueCache (g.Y.Layer.view c.args.phys.now)) (sym same) c.requires in
    kept-cache (g.Y.Layer.view c.args.phys.now) c.args.space c.in_ok-run.run' c.keep.result c.look.new.self c.keep.new.self c.keep.ensures.off c.keep.ensures.nothing c.keep.ensures.front c.keep.ensures.memory c.keep.ensures.cache c.in_ok-run.ensures.block before

pub returns-clause-runs : goal.returns-clause-runs
returns-clause-runs g c =
    let none = c.in_default.ensures.none refl in
    missed-runs c.args.space c.args.at c.args.cache.now c.keep.new.self (cc (c.if-not-asks_tables.false, c.asks_tables.ensures)) none.1
    (rw none.0 at (kept-runs c.args.space c.args.at c.in_ok-run.run' c.keep.result c.look.new.self c.keep.new.self c.keep.ensures.off c.keep.ensures.nothing c.keep.ensures.front c.keep.ensures.memory c.in_ok-run.ensures.holds))
