use Rattle.std.proofs.Common.{◌≡◌, ◌++◌, [], ◌∷◌, length, take, sym, ◌∙◌, ap, arith, length-take}
use Rattle.std.proofs.lemmas.List.{take_more_set, take_all, take_at, length_push}
use Rattle.session.specs.Limits.{line_room}
use Rattle.session.proofs.line_buffer.LineBuffer.add.Goals as goal

pub returns-then-self-lt-LINE_ROOM : goal.returns-then-self-lt-LINE_ROOM
returns-then-self-lt-LINE_ROOM c =
    let fields = c.self.inside in
    let line = c.args.self.now in
    let is : take fields.len fields.bytes ≡ line = c.self.view_is in
    let short : length line ≡ fields.len = omega (arith, ap length is, length-take fields.len fields.bytes) in
    take_more_set fields.bytes fields.len c.args.byte (omega arith) ∙ ap (λ l. l ++ c.args.byte ∷ []) is
    ∙ sym (take_all line_room (line ++ c.args.byte ∷ []) (omega (arith, length_push line c.args.byte)))

pub returns-else-self-lt-LINE_ROOM : goal.returns-else-self-lt-LINE_ROOM
returns-else-self-lt-LINE_ROOM c =
    let fields = c.self.inside in
    let line = c.args.self.now in
    let is : take fields.len fields.bytes ≡ line = c.self.view_is in
    sym (take_at line (c.args.byte ∷ []) line_room (omega (arith, ap length is, length-take fields.len fields.bytes)))
