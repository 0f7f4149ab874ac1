use Rattle.std.proofs.Common.{◌∙◌, ap₂}
use Rattle.std.proofs.lemmas.Result.{IfOk-weaker}
use Rattle.clap.specs.Words.{with_rule}
use Rattle.program_words.specs.CommandLine.{command_line}
use Rattle.program_words.proofs.parse.command_line.Goals as goal

-- each argument adds its rule
pub returns : goal.returns
unfolding command_line
returns c =
    let image = c.in_ok-arg.ensures.shape c.required_word.ensures.local ∙ ap₂ with_rule c.bare_command.ensures c.required_word.ensures.rule in
    let symbols = c.in_ok-arg-2.ensures.shape c.required_word-2.ensures.local ∙ ap₂ with_rule image c.required_word-2.ensures.rule in
    let dump = c.in_ok-arg-3.ensures.shape c.optional_word.ensures.local ∙ ap₂ with_rule symbols c.optional_word.ensures.rule in
    let cache = c.in_ok-arg-4.ensures.shape c.text_option.ensures.local ∙ ap₂ with_rule dump c.text_option.ensures.rule in
    IfOk-weaker c.arg-5.result _ _ (λ command added. added.shape c.text_option-2.ensures.local ∙ ap₂ with_rule cache c.text_option-2.ensures.rule) c.arg-5.ensures
