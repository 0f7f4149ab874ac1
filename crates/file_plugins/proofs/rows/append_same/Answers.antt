use Rattle.std.proofs.Common.{◌++◌, sym, ◌∙◌, arith}
use Rattle.std.specs.Prelude.{decimal}
use Rattle.hex_text.proofs.Fronts.{front-more}
use Rattle.word_table.specs.Kept.{words_left}
use Rattle.file_plugins.proofs.Adding.{lines-next}
use Rattle.file_plugins.proofs.rows.append_same.Goals as goal

pub same-preserved : goal.same-preserved
same-preserved c = record {
  lines = λ cells_of memory same.
      lines-next cells_of c.same.slots.table c.next_same.new.self.table c.same.slots.index c.next_same.new.self.index c.args.file (words_left memory c.same.slots) (words_left memory c.next_same.new.self) c.same.text.items c.append_row.new.text.items c.requires c.next_same.ensures.table c.in-Some.ensures.index.next (c.in-Some.ensures.words memory)
      (c.in_ok-append_row-in-Some.ensures.ok ∙ (λ i. c.same.text.items ++ (decimal (c.in-Some.ensures.index.index i) ++ sym same i)))
      ∙ c.same.invariant.lines cells_of memory same;
  front = front-more _ _ _ _ c.same.invariant.front c.in_ok-append_row-in-Some.ensures.ok;
  left = omega (arith, c.in-Some.ensures.index.fewer, c.same.invariant.left);
  space = c.next_same.ensures.space ∙ c.same.invariant.space;
  table = c.next_same.ensures.table ∙ c.same.invariant.table;
}
