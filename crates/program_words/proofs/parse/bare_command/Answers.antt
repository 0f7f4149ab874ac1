use Rattle.std.proofs.Common.{◌∙◌, ap, true}
use Rattle.clap.specs.Simple.{app_of_fields, on_top}
use Rattle.program_words.proofs.parse.bare_command.Goals as goal

pub returns : goal.returns
returns c =
    let without_name = ap app_of_fields c.no_binary_name.ensures ∙ ap (on_top (λ top. record top { no_binary_name = true })) c.new.ensures.app in
    let without_help = ap app_of_fields c.disable_help_flag.ensures ∙ ap (on_top (λ top. record top { disable_help_flag = true })) without_name in
    ap app_of_fields c.disable_version_flag.ensures ∙ ap (on_top (λ top. record top { disable_version_flag = true })) without_help
