use Rattle.std.proofs.Common.{◌≡◌}
use Rattle.image_maker.specs.PageTables.{large_pages}
use Rattle.image_maker.specs.Written.{written}
use Rattle.image_maker.proofs.page_tables.write_large_pages.Given as goal

-- the entries so far are written
abbrev pub invariant-loop-index : goal.invariant-loop-index
invariant-loop-index l = l.bytes ≡ written (large_pages l.number l.index) l.fn.bytes
