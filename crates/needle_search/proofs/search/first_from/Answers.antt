use Rattle.needle_search.proofs.search.first_from.Goals as goal

pub returns-clause-first : goal.returns-clause-first
returns-clause-first c = rw c.items.ensures.value at c.first_among.ensures.first
