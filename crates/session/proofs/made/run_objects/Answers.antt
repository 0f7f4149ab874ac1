use Rattle.std.proofs.Common.{ap, map, rules, ◌∙◌}
use Rattle.std.specs.Prelude.{string_bytes}
use Rattle.session.proofs.OverMade.{came-from, came-made}
use Rattle.session.proofs.made.run_objects.Goals as goal

pub returns : goal.returns
returns g c = record {
  ran = λ answer number of_image of_symbols of_script.
      let words = map string_bytes c.deref.result.now in
      let status = c.run_over-status.result.0 in
      let text = c.run_over-status.new.out.bytes in
      let dumped = c.run_over-status.new.dump.bytes in
      came-made text dumped status answer number words _ c.new-2.result.bytes c.new-symbols.result.bytes c.new-script.result.bytes
      (search rules) c.new-image.ensures.view (search rules) (search rules) (search rules)
      (came-from text dumped status answer _ _ _ _ _ _ c.run_over-status.ensures.ran (ap (λ s. s.bytes) c.new-text.ensures) (ap (λ s. s.bytes) c.new-dumped.ensures));
}
