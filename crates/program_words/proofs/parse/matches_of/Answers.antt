use Rattle.std.proofs.Common.{◌∙◌, rules, subst, map}
use Rattle.std.specs.Prelude.{string_bytes}
use Rattle.clap.specs.Words.{app_of}
use Rattle.program_words.proofs.CommandLine.{TellsFit, tells_fit, texts}
use Rattle.program_words.proofs.parse.matches_of.Goals as goal

pub returns-in-Ok-clause-fits : goal.returns-in-Ok-clause-fits
returns-in-Ok-clause-fits c =
    let parse = c.try_get_matches_from in
    let words = map string_bytes c.args.words.now in
    subst (TellsFit words) c.in-Ok.is (tells_fit (app_of c.in_ok-command.command) words parse.result c.in_ok-command.ensures parse.ensures.kinds)

pub returns-in-Ok-clause-texts : goal.returns-in-Ok-clause-texts
returns-in-Ok-clause-texts c =
    texts (app_of c.in_ok-command.command) (map string_bytes c.args.words.now) c.in-Ok.matches c.in_ok-command.ensures c.in-Ok.ensures.matches

pub returns-in-Err-clause-usage : goal.returns-in-Err-clause-usage
returns-in-Err-clause-usage c refused =
    let parse = c.try_get_matches_from in
    let words = map string_bytes c.args.words.now in
    let tells = subst (TellsFit words) c.in-Err.is (tells_fit (app_of c.in_ok-command.command) words parse.result c.in_ok-command.ensures parse.ensures.kinds) in
    tells (λ memory. c.words_fault.ensures (search rules) (c.kind.ensures ∙ memory))
