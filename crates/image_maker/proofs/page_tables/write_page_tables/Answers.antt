use Rattle.image_maker.specs.PageTables.{page_tables}
use Rattle.image_maker.proofs.Writing.{behind}
use Rattle.image_maker.proofs.page_tables.write_page_tables.Goals as goal

pub returns : goal.returns
unfolding page_tables
returns c =
    behind _ _ _ _ _ (behind _ _ _ _ _ c.write_upper_tables.ensures c.write_fifth_level.ensures) (rw c.large_page_count.ensures.count at c.write_large_pages.ensures)
