use Rattle.std.proofs.Common.{ℕ, List, ◌++◌, ◌∙◌, ap, append_assoc}
use Rattle.std.specs.Prelude.{codes}
use Rattle.symbol_texts.specs.Refusal.{name_word}
use Rattle.symbol_texts.proofs.refusal.append_words.Goals as goal

pub returns-in_ok-append_name-in-AnonDepth : goal.returns-in_ok-append_name-in-AnonDepth
returns-in_ok-append_name-in-AnonDepth c =
    rw c.in-AnonDepth.is (c.in_ok-append_name-in-AnonDepth.ensures ∙ ap (λ (n : List ℕ). c.extend_from_slice-in-AnonDepth.new.self.items ++ name_word n) c.items-in-AnonDepth.ensures ∙ ap (λ (l : List ℕ). l ++ name_word c.in-AnonDepth.name) c.in_ok-extend_from_slice-in-AnonDepth.ensures.items ∙ append_assoc c.args.text.now.items (codes "anonymous depth ") (name_word c.in-AnonDepth.name))
