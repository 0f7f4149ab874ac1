use Rattle.std.proofs.Common.{◌≡◌, refl, inr, Bool, true, false, cond, Option, None, IsTrue, subst, sym, true≢false}
use Rattle.std.proofs.lemmas.Str.{IsUtf8-from_is_utf8, is_utf8-from_IsUtf8}
use Rattle.std.specs.Str.{is_utf8}
use Rattle.serde_json.specs.Data.{Data}
use Rattle.serde_json.specs.Read.{read}
use Rattle.isf_reader.proofs.file.tree_of.Goals as goal

pub returns-in-Ok-clause-ok : goal.returns-in-Ok-clause-ok
returns-in-Ok-clause-ok c = rw (is_utf8-from_IsUtf8 c.args.json.now c.in-Ok.ensures.ok.0) c.in-Ok.ensures.ok.1

unread : (text : Bool) (found : Option Data) → (text ≡ true → found ≡ None) → cond text found None ≡ None
unread true found h = h refl
unread false found h = refl

pub returns-else-is_memory-clause-err : goal.returns-else-is_memory-clause-err
returns-else-is_memory-clause-err c =
    let none = c.in-Err.ensures.err (λ memory. true≢false (sym (subst IsTrue c.if-is_memory.false (c.is_memory.ensures.1 memory)))) in
    inr (refl, unread (is_utf8 c.args.json.now) (read c.args.json.now) (λ text. none (IsUtf8-from_is_utf8 c.args.json.now text)))
