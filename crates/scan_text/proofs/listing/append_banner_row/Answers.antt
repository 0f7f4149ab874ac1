use Rattle.std.proofs.Common.{◌∙◌, ◌++◌, ℕ, List, ap}
use Rattle.std.proofs.lemmas.Option.{IfSome_then}
use Rattle.layer_base.specs.View.{physical}
use Rattle.layer_base.specs.declared.space.Space.TheVariants.{Phys}
use Rattle.space_memory.specs.InSpace.{in_space}
use Rattle.scan_text.specs.Banners.{banner_line}
use Rattle.scan_text.proofs.BannerEnds.{banner-before}
use Rattle.scan_text.proofs.listing.append_banner_row.Goals as goal

pub returns-clause-ok : goal.returns-clause-ok
returns-clause-ok g c =
    IfSome_then c.args.memory.now.view c.in_ok-count.ensures.present (λ view present.
    c.in_ok-append_banner.ensures.ok ∙ ap (λ (l : List ℕ). c.args.text.now.items ++ banner_line c.args.at l) (banner-before (in_space (physical view) Phys) c.args.at _ present))
