use Rattle.std.proofs.Common.{◌++◌, ap, ◌∙◌, codes}
use Rattle.std.specs.Prelude.{option_map}
use Rattle.std.specs.Option.{option_copied}
use Rattle.layer_base.specs.declared.number.Number.TheVariants.{Unsigned}
use Rattle.hex_text.specs.DumpRow.{address_cell}
use Rattle.cell_text.specs.OptionalCell.{optional_number_cell, optional_text_cell}
use Rattle.hex_text.proofs.Fronts.{OnErr-front, front-behind}
use Rattle.module_plugins.proofs.Joined.{six-joined}
use Rattle.module_plugins.proofs.modules.append_module.Goals as goal

pub returns-in_err-append_optional_text-clause-err : goal.returns-in_err-append_optional_text-clause-err
returns-in_err-append_optional_text-clause-err c =
    OnErr-front c.from_residual-in_err-append_optional_text.result _ _ (front-behind _ _ _ _ c.in_ok-append_address.ensures.ok (front-behind _ _ _ _ c.in_ok-push.ensures.items c.in_err-append_optional_text.ensures.err))

pub returns-in_err-append_optional_number-clause-err : goal.returns-in_err-append_optional_number-clause-err
returns-in_err-append_optional_number-clause-err c =
    OnErr-front c.from_residual-in_err-append_optional_number.result _ _ (front-behind _ _ _ _ c.in_ok-append_address.ensures.ok (front-behind _ _ _ _ c.in_ok-push.ensures.items (front-behind _ _ _ _ c.in_ok-append_optional_text.ensures.ok (front-behind _ _ _ _ c.in_ok-push-2.ensures.items c.in_err-append_optional_number.ensures.err))))

pub returns-clause-ok : goal.returns-clause-ok
returns-clause-ok c =
    six-joined c.args.text.now.items _ _ _ _ _ _ (address_cell c.args.at) (codes "\t") (optional_text_cell (option_copied c.args.name)) (codes "\t") (optional_number_cell (option_map Unsigned c.args.size)) (codes "\n")
    c.in_ok-append_address.ensures.ok c.in_ok-push.ensures.items c.in_ok-append_optional_text.ensures.ok c.in_ok-push-2.ensures.items (c.in_ok-append_optional_number.ensures.ok ∙ ap (λ number. c.push-2.new.self.items ++ optional_number_cell number) c.unsigned.ensures) c.in_ok-push-3.ensures.items
