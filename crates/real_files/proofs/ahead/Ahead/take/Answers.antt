use Rattle.std.proofs.Common.{◌≡◌, ◌+◌, ◌-◌, ◌++◌, take, drop, slice_range, sym, ap, ◌∙◌, arith, take_at, length-take-le}
use Rattle.real_files.proofs.ReadAhead.{slice_range-split}
use Rattle.real_files.proofs.ahead.Ahead.take.Goals as goal

pub returns-clause-rest : goal.returns-clause-rest
returns-clause-rest c =
    let a = c.args.self.now in
    let n = c.min-n.result in
    let copied = c.copy_from_slice.new.self in
    let given : take n (copied ++ drop n c.args.buf.now) ≡ copied = take_at copied _ n (omega (arith, c.copy_from_slice.ensures.len, length-take-le n c.args.buf.now (omega arith))) in
    let span : (a.start + n) - a.start ≡ n = omega arith in
    let front : copied ≡ take n (drop a.start a.bytes) = c.copy_from_slice.ensures.after ∙ ap (λ k. take k (drop a.start a.bytes)) span in
    slice_range-split a.bytes a.start a.end n (omega arith) ∙ ap (λ l. l ++ slice_range a.bytes (a.start + n) a.end) (sym (given ∙ front))
