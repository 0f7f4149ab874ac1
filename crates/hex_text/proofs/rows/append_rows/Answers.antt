use Rattle.std.proofs.Common.{inl, ◌++◌, length, refl, sym, ◌∙◌, ap, arith, append_assoc}
use Rattle.std.proofs.lemmas.List.{append-nil}
use Rattle.hex_text.proofs.DumpRows.{dump_text-none, dump_text-more, whole-rows, whole-rows-next}
use Rattle.hex_text.proofs.Fronts.{OnErr-front, front-behind}
use Rattle.hex_text.proofs.rows.append_rows.Goals as goal

pub loop-start-init : goal.loop-start-init
loop-start-init c = record {
  appended = sym (ap (λ l. c.args.text.now.items ++ l) (dump_text-none c.args.at) ∙ append-nil c.args.text.now.items);
  whole = inl (0, refl);
  within = omega arith;
}

pub loop-start-preserved : goal.loop-start-preserved
loop-start-preserved c =
    let start = c.loop-start.start in
    let end = c.min-end.result in
    let rows = whole-rows start (length c.args.cells.now) c.loop-start.invariant.whole c.loop-start-test.true in
    record {
      appended =
          rw (c.in_ok-push.ensures.items, c.in_ok-append_row.ensures.ok, c.loop-start.invariant.appended, append_assoc, append_assoc)
          (ap (λ l. c.args.text.now.items ++ l) (dump_text-more rows.0 start end c.args.at c.args.cells.now rows.1 c.loop-start-test.true c.min-end.ensures));
      whole = whole-rows-next rows.0 start end (length c.args.cells.now) rows.1 c.min-end.ensures;
      within = omega arith;
    }

pub returns-in_err-append_row-clause-err : goal.returns-in_err-append_row-clause-err
returns-in_err-append_row-clause-err c =
    OnErr-front c.from_residual.result _ _ (front-behind _ _ _ _ c.loop-start.invariant.appended c.in_err-append_row.ensures.err)
