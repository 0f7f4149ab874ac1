use Rattle.needle_search.proofs.Firsts.{first-in}
use Rattle.needle_search.proofs.search.first_in.Goals as goal

pub first_among-requires-clause-reached : goal.first_among-requires-clause-reached
first_among-requires-clause-reached c = c.new-progress.ensures c.items.result.now c.args.window.now 0 (rw c.items.ensures.value c.items.ensures.fit.few)

pub returns : goal.returns
returns c = first-in c.args.needles.now c.args.window.now c.items.ensures.fit.few c.first_among.result (rw c.items.ensures.value at c.first_among.ensures.first)
