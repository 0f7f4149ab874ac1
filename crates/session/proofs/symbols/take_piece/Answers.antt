use Rattle.std.proofs.Common.{◌≡◌, ℕ, ◌+◌, ◌<◌, ◌≤◌, length, take, List, ◌++◌, sym, ◌∙◌, ap, arith, length-take, length-drop}
use Rattle.session.proofs.Taking.{length-piece, take-piece}
use Rattle.session.proofs.symbols.take_piece.Goals as goal

pub returns-clause-taken : goal.returns-clause-taken
returns-clause-taken g c =
    let taken = c.args.taken in
    let count = c.in_ok-read.field-0 in
    let all = c.deref_mut.result.now in
    let buf = c.read.new.buf in
    let same : all ≡ c.args.bytes.now.items = c.deref_mut.ensures.value in
    let same_length : length all ≡ length c.args.bytes.now.items = ap length same in
    let inside : taken < length all = omega (arith, c.requires) in
    let whole : taken + length buf ≡ length all = omega (arith, c.read.auto.buf, length-drop {A = ℕ}, length-take {A = ℕ}) in
    let kept : c.args.bytes.now.len ≡ length all = sym c.deref_mut.ensures.len in
    let few : count ≤ length buf = omega (arith, c.in_ok-read.ensures.within) in
    record {
      given = take count buf;
      consumed = c.in_ok-read.ensures.bytes.0;
      few = omega (arith, length-take count buf);
      same_room = length-piece taken count c.args.bytes.now.len all buf _ _ (omega arith) whole kept few ∙ same_length;
      counted = omega (arith, length-take count buf);
      kept = take-piece taken count c.args.bytes.now.len all buf _ _ (omega arith) whole kept few ∙ ap (λ (l : List ℕ). take taken l ++ take count buf) same;
      end = λ none. c.in_ok-read.ensures.bytes.1 none (omega arith);
    }
